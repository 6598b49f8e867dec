-- What the edits of a simulated book answer and leave.
use Rattle.std.specs.Prelude.{◌≡◌, ℕ, cond, List, replicate, is_some, Some, None, nat_le, nat_lt, slice_index_or, slice_set}
use Rattle.simulator.specs.declared.book.SimBook.{SimBook}
use Rattle.simulator.specs.declared.book.SimTask.{SimTask}
use Rattle.simulator.specs.declared.tables.SimPair.{SimPair}
use Rattle.simulator.specs.Tables.{lawful, no_work, Holds}

-- the empty book: no task, no work at tick 0, one round
abbrev pub empty : SimBook
empty = record { tasks = replicate 16 None; opening = no_work; rounds = 1 }

-- 0 for pairs that make a time table, else 5
abbrev pub table_number : List SimPair → ℕ
table_number pairs = cond (lawful pairs) 0 5

-- the first refusal of a task's parts: 2 period, 3 phase, 4 deadline, 5 table; 0 for none
abbrev pub task_number : ℕ → ℕ → ℕ → List SimPair → ℕ
task_number period phase deadline pairs = cond
    (nat_lt period 1)
    2
    (cond
    (nat_lt 4096 period)
    2
    (cond
    (nat_le period phase)
    3
    (cond (nat_lt deadline 1) 4 (cond (nat_lt 254 deadline) 4 (table_number pairs)))))

-- the first refusal of a call of enter before the hyperperiod: 1 for a place above 15, else that of the parts
abbrev pub early_number : ℕ → ℕ → ℕ → ℕ → List SimPair → ℕ
early_number place period phase deadline pairs = cond (nat_lt 15 place) 1 (task_number period phase deadline pairs)

-- the task has these parts, and its table holds these pairs
abbrev pub Made : ℕ → ℕ → ℕ → List SimPair → SimTask → Type 0
Made period phase deadline pairs task =
    (task.period ≡ period)
    × (task.phase ≡ phase)
    × (task.deadline ≡ deadline)
    × Holds task.table pairs

-- after is before with a task at the place, of which the fact holds, and nothing else differs
abbrev pub Entered : ℕ → (SimTask → Type 0) → SimBook → SimBook → Type 0
Entered place Fact before after =
    ((task : SimTask) × Fact task × (after.tasks ≡ slice_set before.tasks place (Some task)))
    × (after.opening ≡ before.opening)
    × (after.rounds ≡ before.rounds)

-- 1 for a place above 15, 8 for an empty one, else 0
abbrev pub withdraw_number : SimBook → ℕ → ℕ
withdraw_number book place =
    cond (nat_lt 15 place) 1 (cond (is_some (slice_index_or book.tasks place None)) 0 8)

-- the book with the place emptied, or as it was where the call is refused
abbrev pub withdrawn : SimBook → ℕ → SimBook
withdrawn book place = cond
    (nat_lt 15 place)
    book
    (cond
    (is_some (slice_index_or book.tasks place None))
    (record { tasks = slice_set book.tasks place None; opening = book.opening; rounds = book.rounds })
    book)

-- 0 for 1 to 8 rounds, else 9
abbrev pub rounds_number : ℕ → ℕ
rounds_number n = cond (nat_lt n 1) 9 (cond (nat_lt 8 n) 9 0)

-- the book with these rounds, or as it was where they are not 1 to 8
abbrev pub with_rounds : SimBook → ℕ → SimBook
with_rounds book n = cond
    (nat_lt n 1)
    book
    (cond (nat_lt 8 n) book (record { tasks = book.tasks; opening = book.opening; rounds = n }))
