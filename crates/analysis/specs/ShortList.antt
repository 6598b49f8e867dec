-- What a contract sees of a list of at most N items.
use Rattle.std.specs.Prelude.{◌≡◌, ℕ, ◌≤◌, List, [], ◌∷◌, ◌++◌, drop, replicate}
use Rattle.std.proofs.Common.{arith}

-- the items, in order, and what fills the places that are not used
pub record ShortList (T : Type 0) : Type 0 where
  pub items : List T
  pub spare : List T

-- a length that is not above n is not above that of n places
pub within_places : (len n m : ℕ) → len ≤ n → m ≡ n → len ≤ m
within_places len n m h e = omega (arith, h, e)

module _ {T : Type 0} where
  -- a list of no item, whose n places hold x
  abbrev pub no_items : ℕ → T → ShortList T
  no_items n x = record { items = []; spare = replicate n x }

  -- one more item, in the next place
  abbrev pub with_item : ShortList T → T → ShortList T
  with_item s x = record { items = s.items ++ x ∷ []; spare = drop 1 s.spare }

  -- no item any more; what the places held stays in them
  abbrev pub emptied : ShortList T → ShortList T
  emptied s = record { items = []; spare = s.items ++ s.spare }
