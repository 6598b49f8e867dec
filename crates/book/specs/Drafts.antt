-- The book that a draft and a plan stand for.
use Rattle.book.specs.declared.drafts.Draft.{Draft}
use Rattle.book.specs.declared.drafts.plans.Plan.{Plan}
use Rattle.board.specs.Places.{places}
use Rattle.board.specs.Tables.{table_pairs}
use Rattle.board.specs.Model.{Book}

abbrev pub draft_book : Draft → Book
draft_book d = record { places = places d.entries; opening = table_pairs d.opening; rounds = d.rounds }

abbrev pub plan_book : Plan → Book
plan_book p = draft_book p.draft
