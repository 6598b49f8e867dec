-- A question about one job, its scenarios, the outcome of each on the processor, and the answer sheet.
use Rattle.std.specs.Prelude.{ℕ, zero, suc, ◌+◌, Bool, false, cond, ◌||◌, List, [], ◌∷◌, ◌++◌, map, take, ◌==◌, nat_eq, nat_le, nat_lt}
use Rattle.theory.specs.Semiring.{Ops}
use Rattle.std.specs.List.{filter}
use Rattle.theory.specs.Sums.{over}
use Rattle.theory.specs.Walk.{Table, draws, weight}
use Rattle.analysis.specs.declared.pair.Pair.{Pair}
use Rattle.scenarios.specs.Processor.{Item, State, state_at, total, total_of}

-- a counted job, with the time table that its running time is drawn from
pub record Counted : Type 0 where
  pub release : ℕ
  pub rank : ℕ
  pub place : ℕ
  pub pairs : List Pair

-- a job with its deadline, the opening table, and the counted jobs: those up to the job in their order, and the later ones
pub record Question : Type 0 where
  pub deadline : ℕ
  pub opening : List Pair
  pub before : List Counted
  pub job : Counted
  pub later : List Counted

-- the counted jobs in their order
abbrev pub counted : Question → List Counted
counted q = q.before ++ (q.job ∷ q.later)

-- the counted jobs up to and with the job
abbrev pub upto : Question → List Counted
upto q = q.before ++ (q.job ∷ [])

abbrev pub drawn_from : List Pair → Table
drawn_from pairs = map (λ p. (p.time, p.weight)) pairs

-- the counted tables: the opening table, and one for each counted job
abbrev pub tables : Question → List Table
tables q = drawn_from q.opening ∷ map (λ k. drawn_from k.pairs) (counted q)

-- a scenario draws one pair from each counted table
abbrev pub scenarios : Question → List Table
scenarios q = draws (tables q)

-- the counted jobs with their drawn times
abbrev pub items : List Counted → Table → List Item
items [] d = []
items (k ∷ ks) [] = []
items (k ∷ ks) (x ∷ d) = record { release = k.release; rank = k.rank; place = k.place; left = x.0 } ∷ items ks d

-- the processor before tick 0: the drawn opening time is work that is present, and each counted job has its drawn time to run
abbrev pub start : Question → Table → State
start q [] = record { opening = 0; jobs = [] }
start q (x ∷ d) = record { opening = x.0; jobs = items (counted q) d }

-- at tick n: the unserved work of the opening and of the first k counted jobs
abbrev pub unserved_first : State → ℕ → ℕ → ℕ
unserved_first s k n = (state_at s n).opening + total (take k (state_at s n).jobs)

-- right after the release of one of these jobs, the first of which is the k-th counted one, 256 ticks or more are unserved
abbrev pub overlong_from : State → ℕ → List Counted → Bool
overlong_from s k [] = false
overlong_from s k (x ∷ xs) = nat_le 256 (unserved_first s (suc k) x.release) || overlong_from s (suc k) xs

-- released at or before a, or before a + v
abbrev pub counts : ℕ → ℕ → Item → Bool
counts a v x = nat_le x.release a || nat_lt x.release (a + v)

-- at tick a + v: the unserved work of the opening and of the counted jobs that are released by then
abbrev pub unserved : State → ℕ → ℕ → ℕ
unserved s a v = (state_at s (a + v)).opening + total_of (counts a v) (state_at s (a + v)).jobs

-- the least of v, v + 1, .., v + n at which all that counts is served, and 256 where there is none
abbrev pub least_served : State → ℕ → ℕ → ℕ → ℕ
least_served s a zero v = cond (unserved s a v == 0) v 256
least_served s a (suc n) v = cond (unserved s a v == 0) v (least_served s a n (suc v))

-- the response of a scenario that is not overlong, up to the deadline; 256 for every other scenario
unfoldable pub outcome : Question → Table → ℕ
outcome q d = cond (overlong_from (start q d) 0 (upto q)) 256 (least_served (start q d) q.job.release q.deadline 0)

-- the sum of the weights of the scenarios with that outcome
unfoldable pub weight_of : {K : Type 0} → Ops K → Question → ℕ → K
weight_of ops q v = over ops (filter (λ d. nat_eq (outcome q d) v) (scenarios q)) (weight ops)

-- the answer sheet: up to the deadline the weight of each response, then nought up to 255, and the weight of all other scenarios in cell 256; cells after stay
unfoldable pub answer : {K : Type 0} → Ops K → Question → (ℕ → K) → ℕ → K
answer ops q f k = cond (nat_le k q.deadline) (weight_of ops q k) (cond (nat_lt k 256) ops.nought (cond (k == 256) (weight_of ops q 256) (f k)))

-- the product of the totals of the counted tables
abbrev pub product_of : {K : Type 0} → Ops K → List Table → K
product_of ops [] = ops.unit
product_of ops (t ∷ ts) = ops.product (over ops t (λ x. ops.read x.1)) (product_of ops ts)

abbrev pub weight_of_all : {K : Type 0} → Ops K → Question → K
weight_of_all ops q = product_of ops (tables q)
