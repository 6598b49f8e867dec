-- The text of a chart: a bar for each time whose cell is not nought, and one for the late cell.
use Rattle.std.specs.Prelude.{ℕ, zero, suc, ◌-◌, ◌*◌, max, List, ◌++◌, length, replicate, codes, decimal}
use Rattle.theory.specs.Rounded.{up}
use Rattle.texts.specs.Texts.{in_turn, unless_nought}

-- the largest size of the first n cells
unfoldable pub largest : {K : Type 0} → (K → ℕ) → (ℕ → K) → ℕ → ℕ
largest size f zero = 0
largest size f (suc n) = max (largest size f n) (size (f n))

-- a time, with blanks before it to a width of four
abbrev pub padded : ℕ → List ℕ
padded time = replicate (4 - length (decimal time)) 32 ++ decimal time

-- 50 times the size over the largest size, rounded up
abbrev pub bar_length : ℕ → ℕ → ℕ
bar_length most size = up (50 * size) most

-- the bar of a size, which ends the line
abbrev pub bar : ℕ → ℕ → List ℕ
bar most size = codes " |" ++ (replicate (bar_length most size) 35 ++ codes "\n")

-- the line of a time, unless its cell is nought
abbrev pub time_bar : {K : Type 0} → (K → ℕ) → ℕ → ℕ → K → List ℕ
time_bar size most time cell = unless_nought (size cell) (padded time ++ bar most (size cell))

-- the lines of the times 0 to 255
abbrev pub time_bars : {K : Type 0} → (K → ℕ) → ℕ → (ℕ → K) → List ℕ
time_bars size most f = in_turn (λ time. time_bar size most time (f time)) 256

-- the lines of the times, and that of the late cell
abbrev pub bars : {K : Type 0} → (K → ℕ) → ℕ → (ℕ → K) → List ℕ
bars size most f = time_bars size most f ++ (codes "late" ++ bar most (size (f 256)))

-- a chart is drawn to the largest of its cells
abbrev pub chart_text : {K : Type 0} → (K → ℕ) → (ℕ → K) → List ℕ
chart_text size f = bars size (largest size f 257) f
