-- What a lawful book says of its window.
use Rattle.std.proofs.Common.{◌≡◌, ℕ, ◌*◌, ◌≤◌, true, leb, List, Option, mul-le-mul}
use Rattle.std.proofs.lemmas.Bool.{and_parts, leb-true}
use Rattle.board.specs.Model.{Entry, all_lawful, bounded, book_lawful, hyperperiod, jobs}

pub record Limits (ps : List (Option Entry)) (rounds : ℕ) : Type 0 where
  pub entries_lawful : all_lawful ps ≡ true
  pub hyper_high : hyperperiod ps ≤ 4096
  pub jobs_high : jobs ps (hyperperiod ps) ≤ 64
  pub rounds_low : 1 ≤ rounds
  pub rounds_high : rounds ≤ 8

pub limits : (ps : List (Option Entry)) (rounds : ℕ) → book_lawful ps rounds ≡ true → Limits ps rounds
limits ps rounds ok =
    let a = and_parts (all_lawful ps) _ ok in
    let b = and_parts (bounded ps) _ a.1 in
    let c = and_parts (leb (hyperperiod ps) 4096) _ b.0 in
    let d = and_parts (leb 1 rounds) _ b.1 in
    record {
      entries_lawful = a.0;
      hyper_high = leb-true _ _ c.0;
      jobs_high = leb-true _ _ c.1;
      rounds_low = leb-true _ _ d.0;
      rounds_high = leb-true _ _ d.1;
    }

pub window_high : (ps : List (Option Entry)) (rounds : ℕ) → book_lawful ps rounds ≡ true → rounds * hyperperiod ps ≤ 32768
window_high ps rounds ok = let l = limits ps rounds ok in mul-le-mul {n₁ = rounds} {m₁ = hyperperiod ps} {n₂ = 8} {m₂ = 4096} l.rounds_high l.hyper_high
