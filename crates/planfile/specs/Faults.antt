-- The layer, the number and the offset by which a fault is told.
use Rattle.std.specs.Prelude.{ℕ, Some, None, Ok, Err, Option, Result}
use Rattle.book.specs.Refusals.{number}
use Rattle.planfile.specs.declared.faults.FileFault.{FileFault}
use Rattle.planfile.specs.declared.faults.FileFault.TheVariants.{Contents, Entry, Length, Trailing}
use Rattle.planfile.specs.declared.faults.Cause.{Cause}
use Rattle.planfile.specs.declared.faults.Cause.TheVariants.{File, Book}
use Rattle.planfile.specs.declared.faults.Fault.{Fault}

-- how a fault is told
pub record Told : Type 0 where
  pub layer : ℕ
  pub number : ℕ
  pub offset : ℕ

abbrev pub file_number : FileFault → ℕ
file_number Contents = 20
file_number Entry = 21
file_number Length = 22
file_number Trailing = 23

-- the file is layer 1, the book is layer 2
abbrev pub cause_layer : Cause → ℕ
cause_layer (File _) = 1
cause_layer (Book _) = 2

abbrev pub cause_number : Cause → ℕ
cause_number (File f) = file_number f
cause_number (Book r) = number r

abbrev pub told : Fault → Told
told f = record { layer = cause_layer f.cause; number = cause_number f.cause; offset = f.offset }

-- a fault of the file, by its number
abbrev pub file_fault : ℕ → ℕ → Told
file_fault n at = record { layer = 1; number = n; offset = at }

-- a refusal of the book, by its number
abbrev pub book_fault : ℕ → ℕ → Told
book_fault n at = record { layer = 2; number = n; offset = at }

-- what a call came to: the value after it where it succeeded, or its fault
abbrev pub outcome : {X Y : Type 0} → Result X Fault → Y → Result Y Told
outcome (Ok _) y = Ok y
outcome (Err e) y = Err (told e)

-- the fault of an answer, where it has one
abbrev pub fault_in : {X : Type 0} → Result X Fault → Option Told
fault_in (Ok _) = None
fault_in (Err e) = Some (told e)
