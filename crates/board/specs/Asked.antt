-- The question that a job puts that is asked about.
use Rattle.scenarios.specs.Questions.{Question}
use Rattle.board.specs.declared.jobs.asked.Asked.{Asked}
use Rattle.board.specs.Tables.{table_pairs}
use Rattle.board.specs.Places.{places}
use Rattle.board.specs.Jobs.{Rule}
use Rattle.board.specs.Found.{job_of}
use Rattle.board.specs.Questions.{question_over}

abbrev pub question_asked : Rule → Asked → Question
question_asked rule a = question_over rule (places a.entries) (table_pairs a.opening) (job_of a.job)
