-- Texts written one after the other.
use Rattle.std.proofs.Common.{◌≡◌, ℕ, suc, ◌+◌, List, [], ◌++◌, sym, refl, ap, ◌∙◌, add-one}
use Rattle.std.proofs.lemmas.List.{append_assoc, append-nil}
use Rattle.texts.specs.Texts.{in_turn}

pub two : (t a b x y : List ℕ) → x ≡ t ++ a → y ≡ x ++ b → y ≡ t ++ (a ++ b)
two t a b x y p q = q ∙ (ap (λ s. s ++ b) p ∙ append_assoc t a b)

pub three : (t a b c x y z : List ℕ) → x ≡ t ++ a → y ≡ x ++ b → z ≡ y ++ c → z ≡ t ++ (a ++ (b ++ c))
three t a b c x y z p q r = two t a (b ++ c) x z p (two x b c y z q r)

pub four : (t a b c d x y z w : List ℕ) → x ≡ t ++ a → y ≡ x ++ b → z ≡ y ++ c → w ≡ z ++ d → w ≡ t ++ (a ++ (b ++ (c ++ d)))
four t a b c d x y z w p q r s = two t a (b ++ (c ++ d)) x w p (three x b c d y z w q r s)

none_in_turn : (text : ℕ → List ℕ) → in_turn text 0 ≡ []
unfolding in_turn
none_in_turn text = refl

suc_in_turn : (text : ℕ → List ℕ) (n : ℕ) → in_turn text (suc n) ≡ in_turn text n ++ text n
unfolding in_turn
suc_in_turn text n = refl

-- before the first text
pub start_in_turn : (text : ℕ → List ℕ) (t : List ℕ) → t ≡ t ++ in_turn text 0
start_in_turn text t = sym (ap (λ s. t ++ s) (none_in_turn text) ∙ append-nil t)

-- one more text
pub more_in_turn : (text : ℕ → List ℕ) (n : ℕ) (a t x y : List ℕ) → a ≡ text n → x ≡ t ++ in_turn text n → y ≡ x ++ a → y ≡ t ++ in_turn text (n + 1)
more_in_turn text n a t x y h p q =
    let e : n + 1 ≡ suc n = add-one n in
    two t (in_turn text n) a x y p q
    ∙ (ap (λ s. t ++ (in_turn text n ++ s)) h
    ∙ ap (λ s. t ++ s) (sym (ap (in_turn text) e ∙ suc_in_turn text n)))
