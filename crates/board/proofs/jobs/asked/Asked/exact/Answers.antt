use Rattle.std.proofs.Common.{◌≡◌, ◌<◌, ◌≤◌, length, sym, ap, ◌∙◌, ⊎_elim, arith, rules}
use Rattle.std.proofs.lemmas.Bool.{cases_lt}
use Rattle.analysis.specs.Cells.{cells}
use Rattle.analysis.proofs.Steps.{same_cells}
use Rattle.scenarios.specs.Walks.{unsettled}
use Rattle.board.specs.Places.{places, entry_of}
use Rattle.board.specs.Tables.{table_pairs}
use Rattle.board.specs.Found.{job_of}
use Rattle.board.specs.Walk.{walked_sheet, gathered_late}
use Rattle.board.specs.Asked.{question_asked}
use Rattle.board.proofs.Answered.{exact_answer, answer_past}
use Rattle.board.proofs.At.{ranges}
use Rattle.board.proofs.Records.{entries_lawful}
use Rattle.board.proofs.Sheets.{part_below, part_above}
use Rattle.board.proofs.Standing.{asked_stands}
use Rattle.board.proofs.jobs.asked.Asked.exact.Goals as goal

pub returns : goal.returns
returns g c =
    let o = g.W.Weight.ops in
    let a = c.args.self.now in
    let ps = places a.entries in
    let opening = table_pairs a.opening in
    let j = job_of a.job in
    let rule = g.R.Ranking.ranks c.args.rule.now in
    let old = c.args.sheet.now in
    let new = c.gather_late.new.sheet in
    let long : length new ≡ 257 = search rules in
    let small = (ranges (entry_of a.job.task) a.job.task.lawful).deadline_high in
    let is = c.gather_late.ensures ∙ ap (gathered_late o j.entry.deadline) (c.in_ok-walk.ensures ∙ ap (λ v. walked_sheet o unsettled v rule ps opening j) c.unit.ensures) in (
      omega arith,
      same_cells (λ k.
          ⊎_elim
          (λ (h : k < 257). part_below o old new long k h ∙ ap (λ f. f k) is ∙ exact_answer g.W.Weight.laws rule ps opening j (cells o old) (entries_lawful a.entries) a.opening.sound (asked_stands a) k h)
          (λ (h : 257 ≤ k). part_above o old new long k h ∙ sym (answer_past o (question_asked rule a) (cells o old) k small h))
          (cases_lt k 257)),
    )
