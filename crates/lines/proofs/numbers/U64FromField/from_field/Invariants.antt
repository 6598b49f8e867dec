use Rattle.std.proofs.Common.{◌≡◌, ◌≤◌, drop}
use Rattle.lines.specs.Numbers.{all_digits, value_after}
use Rattle.lines.proofs.numbers.U64FromField.from_field.Given as goal

-- what is left of the field decides the same as the whole, and the value so far has 64 bits
abbrev pub invariant-loop-byte : goal.invariant-loop-byte
invariant-loop-byte l =
    (all_digits (drop l.byte-index l.field) ≡ all_digits l.field)
    × (value_after l.value (drop l.byte-index l.field) ≡ value_after 0 l.field)
    × (l.value ≤ 18446744073709551615)
