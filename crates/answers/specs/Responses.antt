-- The text of a response: the weight of each time that is not nought, and the late weight.
use Rattle.std.specs.Prelude.{ℕ, List, ◌++◌, codes, decimal}
use Rattle.texts.specs.Texts.{in_turn, unless_nought}

-- a time and its weight with a blank after them, unless the weight is nought
abbrev pub time_text : {K : Type 0} → (K → ℕ) → (K → List ℕ) → ℕ → K → List ℕ
time_text size text time cell = unless_nought (size cell) (decimal time ++ (codes ":" ++ (text cell ++ codes " ")))

-- the times 0 to 255
abbrev pub times_text : {K : Type 0} → (K → ℕ) → (K → List ℕ) → (ℕ → K) → List ℕ
times_text size text f = in_turn (λ time. time_text size text time (f time)) 256

-- the text of the late weight, which ends the line
abbrev pub late_text : List ℕ → List ℕ
late_text weight = codes "late " ++ (weight ++ codes "\n")

-- the times 0 to 255, and the late weight
abbrev pub response_text : {K : Type 0} → (K → ℕ) → (K → List ℕ) → (ℕ → K) → List ℕ
response_text size text f = times_text size text f ++ late_text (text (f 256))
