-- Texts on a page.
use Rattle.std.proofs.Common.{◌≡◌, ℕ, ◌+◌, ◌-◌, ◌^◌, ◌<◌, ◌≤◌, List, ◌++◌, length, drop, replicate, decimal, ap, ◌∙◌, arith}
use Rattle.std.proofs.lemmas.List.{drop-replicate, length_push, length-append, append_assoc}
use Rattle.std.proofs.lemmas.Fmt.{length-decimal-le}
use Rattle.planfile.specs.Pages.{padded}
use Rattle.planfile.specs.Reports.{field}

-- a text that was copied to the front of a page of noughts
pub padded_is : (t s bytes : List ℕ) → s ≡ bytes → bytes ≡ t → s ++ drop (length bytes) (replicate 512 0) ≡ padded t
padded_is t s bytes e is =
    ap (λ a. a ++ drop (length bytes) (replicate 512 0)) (e ∙ is)
    ∙ (ap (λ r. t ++ r) (drop-replicate (length bytes) 512 0) ∙ ap (λ x. t ++ replicate (512 - length x) 0) is)

pub decimal_short : (n : ℕ) → n < 2 ^ 64 → length (decimal n) ≤ 20
decimal_short n fits = length-decimal-le 20 n (omega arith) (omega arith) fits

-- a field has a byte more than its digits
pub length_field : (k n end : ℕ) → 0 < k → n < 10 ^ k → n < 2 ^ 64 → length (field n end) ≤ k + 1
length_field k n end pos small fits =
    let l = length_push (decimal n) end in
    let d = length-decimal-le k n pos small fits in
    omega arith

pub field_short : (n end : ℕ) → n < 2 ^ 64 → length (field n end) ≤ 21
field_short n end fits = length_field 20 n end (omega arith) (omega arith) fits

-- the room that is left after a text
pub after : (t u s : List ℕ) (k m : ℕ) → t ≡ u ++ s → length u ≤ k → length s ≤ m → length t ≤ k + m
after t u s k m e h l = let a : length t ≡ length u + length s = ap length e ∙ length-append u s in omega arith

-- three texts one after the other
pub joined_three : (t a b c d x y : List ℕ) → d ≡ y ++ c → y ≡ x ++ b → x ≡ t ++ a → d ≡ t ++ (a ++ (b ++ c))
joined_three t a b c d x y p q r = p ∙ (ap (λ s. s ++ c) (q ∙ ap (λ s. s ++ b) r) ∙ simp append_assoc)
