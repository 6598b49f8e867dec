use Rattle.book.proofs.Plans.{batch_covers}
use Rattle.book.proofs.drafts.plans.Plan.task.Goals as goal

pub returns-clause-covers : goal.returns-clause-covers
returns-clause-covers g c = batch_covers c.args.self.now c.args.place c.args.round c.in_ok-batch.batch c.in_ok-batch.ensures
