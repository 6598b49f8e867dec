use Rattle.std.proofs.Common.{◌≡◌, List, ◌++◌}
use Rattle.std.specs.Option.{option_map}
use Rattle.analysis.specs.declared.pair.Pair.{Pair}
use Rattle.lines.specs.Fields.{left}
use Rattle.lines.specs.Tables.{pairs, kept}
use Rattle.lines.proofs.tables.pairs.Given as goal

-- the pairs so far are held, and those of the fields that are left follow them
abbrev pub invariant-loop-field : goal.invariant-loop-field
invariant-loop-field l =
    (ps : List Pair)
    × (l.list ≡ kept ps)
    × (pairs (left l.fn.fields) ≡ option_map (λ qs. ps ++ qs) (pairs (left l.field-iterator)))
