use Rattle.planfile.specs.Pages.{text}
use Rattle.planfile.proofs.Written.{padded_is}
use Rattle.planfile.proofs.page.Page.copy_to.Goals as goal

pub returns-clause-writes : goal.returns-clause-writes
returns-clause-writes c = padded_is (text c.args.self.now) c.copy_from_slice.new.self c.as_slice-bytes.result.now c.copy_from_slice.ensures.after c.as_slice-bytes.ensures.value
