use Rattle.std.proofs.Common.{◌∙◌, length, Some, sym, ap, arith, true-eqb, false-eqb}
use Rattle.lines.proofs.Numbered.{no_digit, its_value, past_limit, at_other_byte, one_further, all_read}
use Rattle.lines.proofs.numbers.U64FromField.from_field.Goals as goal

pub returns-then-is_empty : goal.returns-then-is_empty
returns-then-is_empty c = sym (no_digit _ _ (true-eqb _ 0 c.if-is_empty.ensures))

pub returns-in_err-checked_mul : goal.returns-in_err-checked_mul
returns-in_err-checked_mul c =
    let over = c.in_err-checked_mul.ensures in
    c.from_residual.ensures ∙ sym (past_limit _ c.loop-byte.value _ c.loop-byte.byte-index (omega arith) c.loop-byte.invariant.1 (omega (arith, over)))

pub returns-in_err-digit : goal.returns-in_err-digit
returns-in_err-digit c =
    c.from_residual-in_err-digit.ensures ∙ sym (at_other_byte _ _ c.loop-byte.byte-index (omega arith) c.loop-byte.invariant.0 c.in_err-digit.ensures)

pub returns-in_err-value : goal.returns-in_err-value
returns-in_err-value c =
    let over = c.in_err-value.ensures in
    let product = c.in_ok-checked_mul.ensures in
    let d = c.in_ok-digit.ensures in
    c.from_residual-in_err-value.ensures ∙ sym (past_limit _ c.loop-byte.value _ c.loop-byte.byte-index (omega arith) c.loop-byte.invariant.1 (omega (arith, over)))

pub loop-byte-preserved : goal.loop-byte-preserved
loop-byte-preserved c =
    let product = c.in_ok-checked_mul.ensures in
    let d = c.in_ok-digit.ensures in
    let sum = c.in_ok-value.ensures in
    let further = one_further c.loop-byte.value c.in_ok-digit.field-0 c.in_ok-value.value _ c.loop-byte.byte-index (omega arith) c.loop-byte.invariant.0 c.loop-byte.invariant.1 d.0 d.1 (omega arith) in (further.0, further.1, omega arith)

pub returns : goal.returns
returns c =
    let field = c.args.field.now in
    let some = false-eqb (length field) 0 c.if-is_empty.ensures in
    let read = all_read c.loop-byte.value field c.loop-byte.byte-index c.loop-byte-test.false c.loop-byte.invariant.0 c.loop-byte.invariant.1 in
    sym (its_value _ field (omega arith) read.0 (omega (arith, read.1, c.loop-byte.invariant.2)) ∙ ap Some read.1)
