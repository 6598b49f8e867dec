-- The kinds and the rules that a line names.
use Rattle.std.specs.Prelude.{ℕ, zero, suc, cond, List, [], ◌∷◌, Some, None, codes, Option}
use Rattle.std.specs.Option.{option_map}
use Rattle.std.specs.Str.{bytes_eq}
use Rattle.lines.specs.declared.rules.Kind.{Kind}
use Rattle.lines.specs.declared.rules.Kind.TheVariants.{Counts, Possible, Heaviest}
use Rattle.lines.specs.declared.rules.Rule.{Rule}
use Rattle.lines.specs.declared.rules.Rule.TheVariants.{Period, Deadline, Table}
use Rattle.lines.specs.Numbers.{whole}
use Rattle.lines.specs.Readings.{then, cut}

-- counts, possible or heaviest
abbrev pub kind : List ℕ → Option Kind
kind field =
    cond (bytes_eq field (codes "counts")) (Some Counts)
    (cond (bytes_eq field (codes "possible")) (Some Possible)
    (cond (bytes_eq field (codes "heaviest")) (Some Heaviest)
    None))

-- numbers of 64 bits: as many as are asked, each with a comma after it, and one more
unfoldable pub ranks : ℕ → List ℕ → Option (List ℕ)
ranks zero bs = option_map (λ r. r ∷ []) (whole bs)
ranks (suc n) bs =
    then (cut 44 bs) (λ c. then (whole c.0) (λ r. option_map (λ rs. r ∷ rs) (ranks n c.1)))

-- table: and sixteen ranks
abbrev pub table : List ℕ → Option Rule
table field =
    then (cut 58 field) (λ c. cond (bytes_eq c.0 (codes "table")) (option_map (λ rs. Table (record { ranks = rs })) (ranks 15 c.1)) None)

-- period, deadline, or a table of ranks
abbrev pub rule : List ℕ → Option Rule
rule field =
    cond (bytes_eq field (codes "period")) (Some Period)
    (cond (bytes_eq field (codes "deadline")) (Some Deadline)
    (table field))
