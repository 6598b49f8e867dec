use Rattle.std.proofs.Common.{◌≡◌, ◌+◌, ◌*◌, ◌≤◌, ◌++◌, length}
use Rattle.book.specs.Drafts.{plan_book}
use Rattle.planfile.specs.Pages.{text}
use Rattle.planfile.specs.Reports.{header, place_lines}
use Rattle.planfile.proofs.reports.plan_page.Given as goal

abbrev pub invariant-loop-place : goal.invariant-loop-place
invariant-loop-place l = (text l.page ≡ header ++ place_lines (plan_book l.plan) l.place) × (length (text l.page) ≤ 16 + 15 * l.place)
