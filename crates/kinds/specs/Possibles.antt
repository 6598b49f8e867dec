-- Possibility as a weight: the sum is "or", the product is "and", and every table weight is possible. Assumes nothing.
use Rattle.std.specs.Prelude.{◌≡◌, false, refl}
use Rattle.theory.specs.Semiring.{Ops, Laws}
use Rattle.kinds.specs.declared.possible.Possible.{Possible}
use Rattle.kinds.specs.declared.possible.Possible.TheVariants.{No, Yes}

abbrev pub or : Possible → Possible → Possible
or No y = y
or Yes y = Yes

abbrev pub and : Possible → Possible → Possible
and No y = No
and Yes y = y

abbrev pub possible_ops : Ops Possible
possible_ops = record {
  nought = No;
  unit = Yes;
  sum = or;
  product = and;
  read = λ _. Yes;
  top = λ _. false;
}

-- yes is at least no
abbrev pub possible_least : Possible → Possible → Type 0
possible_least x No = Unit {0}
possible_least No Yes = ⊥
possible_least Yes Yes = Unit {0}

or_assoc : (x y z : Possible) → or (or x y) z ≡ or x (or y z)
or_assoc No y z = refl
or_assoc Yes y z = refl

or_comm : (x y : Possible) → or x y ≡ or y x
or_comm No No = refl
or_comm No Yes = refl
or_comm Yes No = refl
or_comm Yes Yes = refl

and_assoc : (x y z : Possible) → and (and x y) z ≡ and x (and y z)
and_assoc No y z = refl
and_assoc Yes y z = refl

and_comm : (x y : Possible) → and x y ≡ and y x
and_comm No No = refl
and_comm No Yes = refl
and_comm Yes No = refl
and_comm Yes Yes = refl

and_or : (x y z : Possible) → and x (or y z) ≡ or (and x y) (and x z)
and_or No y z = refl
and_or Yes y z = refl

least_refl : (x : Possible) → possible_least x x
least_refl No = tt
least_refl Yes = tt

least_trans : (x y z : Possible) → possible_least x y → possible_least y z → possible_least x z
least_trans No y No h k = tt
least_trans Yes y No h k = tt
least_trans No No Yes h k = k
least_trans No Yes Yes h k = h
least_trans Yes y Yes h k = tt

least_or : (x y v w : Possible) → possible_least x y → possible_least v w → possible_least (or x v) (or y w)
least_or Yes No v No h k = tt
least_or Yes No v Yes h k = tt
least_or Yes Yes v w h k = tt
least_or No No v w h k = k
least_or No Yes v w h k = absurd h

least_and : (x y v w : Possible) → possible_least x y → possible_least v w → possible_least (and x v) (and y w)
least_and No No v w h k = tt
least_and Yes No v w h k = tt
least_and No Yes v w h k = absurd h
least_and Yes Yes v w h k = k

pub possible_laws : Laws possible_ops possible_least
possible_laws = record {
  sum_assoc = or_assoc;
  sum_comm = or_comm;
  sum_nought = λ x. refl;
  product_assoc = and_assoc;
  product_comm = and_comm;
  product_unit = λ x. refl;
  product_nought = λ x. refl;
  distributive = and_or;
  least_refl = least_refl;
  least_trans = least_trans;
  least_sum = least_or;
  least_product = least_and;
}
