-- The question that a job of a book puts: its deadline, the opening table, and its counted jobs with their ranks and tables.
use Rattle.std.specs.Prelude.{List, map, Option}
use Rattle.analysis.specs.declared.pair.Pair.{Pair}
use Rattle.scenarios.specs.Questions.{Counted, Question}
use Rattle.board.specs.Model.{Entry, Book}
use Rattle.board.specs.Jobs.{Rule, Job, rank, counted_before, counted_later}

abbrev pub as_counted : Rule → Job → Counted
as_counted rule k = record { release = k.release; rank = rank rule k; place = k.place; pairs = k.entry.pairs }

abbrev pub question_over : Rule → List (Option Entry) → List Pair → Job → Question
question_over rule ps opening j =
    record {
      deadline = j.entry.deadline;
      opening = opening;
      before = map (as_counted rule) (counted_before rule ps j);
      job = as_counted rule j;
      later = map (as_counted rule) (counted_later rule ps j);
    }

abbrev pub question_of : Rule → Book → Job → Question
question_of rule b j = question_over rule b.places b.opening j
