-- The texts of a sheet's times, whose cells are read from the front.
use Rattle.std.proofs.Common.{◌≡◌, ℕ, zero, suc, ◌+◌, ◌<◌, ◌≤◌, List, [], ◌∷◌, ◌++◌, length, get_or, take, sym, ap, ◌∙◌, ⊎_elim, append-nil, Bor, arith}
use Rattle.std.specs.List.{enumerate_from}
use Rattle.std.proofs.lemmas.Bool.{cases_lt}
use Rattle.std.proofs.lemmas.List.{get_or_past, get_or-take, get_or_default, length-take, length_push}
use Rattle.std.proofs.lemmas.List.FromFn.{get_or-enumerate_from, length-enumerate_from}
use Rattle.theory.specs.Semiring.{Ops}
use Rattle.analysis.specs.Cells.{cells}
use Rattle.texts.specs.Texts.{in_turn}
use Rattle.texts.proofs.Joined.{more_in_turn}

-- texts that are empty add nothing
in_turn_past : (text : ℕ → List ℕ) (m n : ℕ) → m ≤ n → ((k : ℕ) → m ≤ k → k < n → text k ≡ []) → in_turn text m ≡ in_turn text n
unfolding in_turn
in_turn_past text m zero h none = let e : m ≡ 0 = omega arith in ap (in_turn text) e
in_turn_past text m (suc n) h none =
    ⊎_elim
    (λ more.
    in_turn_past text m n (omega arith) (λ k low high. none k low (omega arith))
    ∙ (sym (append-nil (in_turn text n)) ∙ ap (λ t. in_turn text n ++ t) (sym (none n (omega arith) (omega arith)))))
    (λ all. let e : m ≡ suc n = omega arith in ap (in_turn text) e)
    (cases_lt m (suc n))

-- the first 256 cells with their times
abbrev pub timed : {K : Type 0} → List K → List (ℕ × K)
timed xs = enumerate_from 0 (take 256 xs)

-- the time and the cell that are read after n others
read_next : {K : Type 0} (ops : Ops K) (xs : List K) (n time : ℕ) (cell : K) → n < length (timed xs) → (time, cell) ≡ get_or (timed xs) n (time, cell) → (time ≡ n) × (cell ≡ cells ops xs n)
read_next ops xs n time cell more e =
    let few = length-enumerate_from 0 (take 256 xs) in
    let short = length-take 256 xs in
    let inside : n < length (take 256 xs) = omega (arith, few) in
    let p = e ∙ get_or-enumerate_from 0 (take 256 xs) n (time, cell) inside in
    let first : time ≡ 0 + n = ap (λ q. q.0) p in
    (omega (arith, first), ap (λ q. q.1) p ∙ (get_or-take 256 xs n cell (omega (arith, short)) ∙ get_or_default xs n cell ops.nought (omega (arith, short))))

-- one more cell is read, and its text is written after the others
pub more_read : {K : Type 0} (ops : Ops K) (line : ℕ → K → List ℕ) (xs : List K) (read : List (ℕ × Bor K)) (time : ℕ) (cell : Bor K) (before x y : List ℕ)
    → (length read < length (timed xs)) × ((time, cell.now) ≡ get_or (timed xs) (length read) (time, cell.now))
    → x ≡ before ++ in_turn (λ t. line t (cells ops xs t)) (length read) → y ≡ x ++ line time cell.now
    → y ≡ before ++ in_turn (λ t. line t (cells ops xs t)) (length (read ++ (time, cell) ∷ []))
more_read ops line xs read time cell before x y turn p q =
    let n = length read in
    let next = read_next ops xs n time cell.now turn.0 turn.1 in
    more_in_turn (λ t. line t (cells ops xs t)) n (line time cell.now) before x y (ap (λ t. line t cell.now) next.0 ∙ ap (line n) next.1) p q
    ∙ ap (λ k. before ++ in_turn (λ t. line t (cells ops xs t)) k) (sym (length_push read (time, cell)))

-- the cells past a sheet's end have no text
pub all_read : {K : Type 0} (ops : Ops K) (text : ℕ → K → List ℕ) (xs : List K) (n : ℕ) → ((k : ℕ) → text k ops.nought ≡ []) → n ≡ length (timed xs) → in_turn (λ time. text time (cells ops xs time)) n ≡ in_turn (λ time. text time (cells ops xs time)) 256
all_read ops text xs n blank e =
    let few = length-enumerate_from 0 (take 256 xs) in
    let short = length-take 256 xs in
    in_turn_past (λ time. text time (cells ops xs time)) n 256 (omega (arith, few, short)) (λ k low high. ap (text k) (get_or_past xs k ops.nought (omega (arith, few, short))) ∙ blank k)
