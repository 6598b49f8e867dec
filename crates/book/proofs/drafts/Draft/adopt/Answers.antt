use Rattle.board.specs.Places.{places}
use Rattle.book.proofs.Clears.{bounds_lawful}
use Rattle.board.proofs.Records.{entries_lawful}
use Rattle.book.proofs.drafts.Draft.adopt.Goals as goal

pub invariant_of-self : goal.invariant_of-self
invariant_of-self c =
    record { sound = bounds_lawful (places c.args.self.now.entries) (places c.args.next) c.args.self.now.rounds c.in-Some.hyper c.jobs.result c.args.self.now.sound (entries_lawful c.args.next) c.in-Some.ensures.0 c.in-Some.ensures.1 c.jobs.ensures c.if-jobs-gt64.false }
