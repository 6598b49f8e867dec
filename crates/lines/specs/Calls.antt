-- The calls of a line, each by the fields after its first word.
use Rattle.std.specs.Prelude.{ℕ, cond, List, [], ◌∷◌, Some, None, codes, Option}
use Rattle.std.specs.Option.{option_map}
use Rattle.std.specs.Str.{bytes_eq}
use Rattle.lines.specs.declared.calls.Call.{Call}
use Rattle.lines.specs.declared.calls.Call.TheVariants.{Enter, Withdraw, Opening, Rounds, Issue, Reopen, Response, Rounded, Task, Show}
use Rattle.lines.specs.Numbers.{byte, word, long}
use Rattle.lines.specs.Readings.{next}
use Rattle.lines.specs.Tables.{pairs, kept}
use Rattle.lines.specs.Rules.{kind, rule}

-- a call, where no field is left
abbrev pub complete : List (List ℕ) → Call → Option Call
complete [] call = Some call
complete (f ∷ fs) call = None

-- enter PLACE PERIOD PHASE DEADLINE TIME:WEIGHT ..
abbrev pub enter : List (List ℕ) → Option Call
enter fs =
    next byte fs (λ place fs₁.
    next word fs₁ (λ period fs₂.
    next word fs₂ (λ phase fs₃.
    next byte fs₃ (λ deadline fs₄.
    option_map (λ ps. Enter place period phase deadline (kept ps)) (pairs fs₄)))))

-- withdraw PLACE
abbrev pub withdraw : List (List ℕ) → Option Call
withdraw fs = next byte fs (λ place rest. complete rest (Withdraw place))

-- opening TIME:WEIGHT ..
abbrev pub opening : List (List ℕ) → Option Call
opening fs = option_map (λ ps. Opening (kept ps)) (pairs fs)

-- rounds N
abbrev pub rounds : List (List ℕ) → Option Call
rounds fs = next byte fs (λ n rest. complete rest (Rounds n))

-- response KIND RULE PLACE INDEX
abbrev pub response : List (List ℕ) → Option Call
response fs =
    next kind fs (λ k fs₁.
    next rule fs₁ (λ r fs₂.
    next byte fs₂ (λ place fs₃.
    next long fs₃ (λ index rest. complete rest (Response k r place index)))))

-- rounded RULE PLACE INDEX
abbrev pub rounded : List (List ℕ) → Option Call
rounded fs =
    next rule fs (λ r fs₁.
    next byte fs₁ (λ place fs₂.
    next long fs₂ (λ index rest. complete rest (Rounded r place index))))

-- task RULE PLACE ROUND
abbrev pub task : List (List ℕ) → Option Call
task fs =
    next rule fs (λ r fs₁.
    next byte fs₁ (λ place fs₂.
    next long fs₂ (λ round rest. complete rest (Task r place round))))

-- the call of a first word and the fields after it
abbrev pub call : List ℕ → List (List ℕ) → Option Call
call w fs =
    cond (bytes_eq w (codes "enter")) (enter fs)
    (cond (bytes_eq w (codes "withdraw")) (withdraw fs)
    (cond (bytes_eq w (codes "opening")) (opening fs)
    (cond (bytes_eq w (codes "rounds")) (rounds fs)
    (cond (bytes_eq w (codes "issue")) (complete fs Issue)
    (cond (bytes_eq w (codes "reopen")) (complete fs Reopen)
    (cond (bytes_eq w (codes "response")) (response fs)
    (cond (bytes_eq w (codes "rounded")) (rounded fs)
    (cond (bytes_eq w (codes "task")) (task fs)
    (cond (bytes_eq w (codes "show")) (complete fs Show)
    None)))))))))
