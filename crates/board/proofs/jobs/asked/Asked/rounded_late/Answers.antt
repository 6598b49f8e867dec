use Rattle.std.proofs.Common.{◌≡◌, ℕ, ◌+◌, ◌<◌, ◌≤◌, length, sym, ap, ◌∙◌, subst, arith, rules}
use Rattle.std.proofs.lemmas.List.{get_or_read}
use Rattle.analysis.specs.Cells.{cells, tail}
use Rattle.kinds.specs.Counts.{count_ops, counted as count_of}
use Rattle.scenarios.specs.Walks.{settled}
use Rattle.board.specs.Places.{places, entry_of}
use Rattle.board.specs.Tables.{table_pairs}
use Rattle.board.specs.Found.{job_of}
use Rattle.board.specs.Walk.{walked_sheet}
use Rattle.board.proofs.At.{ranges}
use Rattle.board.proofs.Bound.{late_bound}
use Rattle.board.proofs.Sheets.{cleared_nought, tailed_at, swept_part}
use Rattle.board.proofs.Walked.{late_same}
use Rattle.board.proofs.jobs.asked.Asked.rounded_late.Goals as goal

pub returns-clause-is : goal.returns-clause-is
returns-clause-is g c =
    let a = c.args.self.now in
    let rule = g.R.Ranking.ranks c.args.rule.now in
    let ps = places a.entries in
    let opening = table_pairs a.opening in
    let j = job_of a.job in
    let small = (ranges (entry_of a.job.task) a.job.task.lawful).deadline_high in
    let i = a.job.task.deadline + 1 in
    let xs = c.tails.new.sheet in
    let long : length xs ≡ 257 = search rules in
    let low : i < 257 = omega arith in
    let whole = c.new.ensures.one (count_of 1048576) (omega arith) in
    let walked = c.in_ok-walk.ensures ∙ ap (λ v. walked_sheet count_ops settled v rule ps opening j) whole in
    let read = get_or_read xs i c.index-cells-self.result (omega arith) c.index-cells-self.is (count_of 0) in
    let at = ap (λ f. f i) c.in_ok-tails.ensures.1 ∙ tailed_at count_ops (cells count_ops c.walk.new.sheet) i low in
    let was = c.value-late.ensures ∙ ap (λ x. x.value) (read ∙ at ∙ ap (λ f. tail count_ops f i) walked) in
    let P : ℕ → Type 0 = λ n. n ≤ 1048576 in
    (was ∙ late_same rule ps opening j, subst P (sym was) (late_bound rule ps opening j))

pub returns-clause-leaves : goal.returns-clause-leaves
returns-clause-leaves g c =
    let xs = c.tails.new.sheet in
    let long : length xs ≡ 257 = search rules in
    let left : length c.clear.new.sheet ≡ 257 = search rules in
    (omega arith, swept_part count_ops c.args.sheet.now c.clear.new.sheet left (λ k. ap (λ f. f k) c.in_ok-clear.ensures.1 ∙ cleared_nought count_ops xs k long))
