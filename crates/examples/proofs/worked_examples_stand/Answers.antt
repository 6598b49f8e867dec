-- The numbers of the worked examples, by computation.
use Rattle.std.proofs.Common.{refl}
use Rattle.scenarios.specs.Processor.{state_at}
use Rattle.scenarios.specs.Questions.{outcome, weight_of, answer}
use Rattle.board.specs.Model.{hyperperiod, first_divided}
use Rattle.board.specs.Jobs.{ahead_in}
use Rattle.examples.proofs.Thirds.{third}
use Rattle.examples.proofs.worked_examples_stand.Goals as goal

pub returns : goal.returns
unfolding hyperperiod first_divided ahead_in answer weight_of outcome state_at
returns c = record {
  one = refl;
  second_job = refl;
  opening_work = refl;
  delayed = refl;
  not_delayed = refl;
  equal_ranks_earlier = refl;
  equal_ranks_later = refl;
  third = third;
  longest_met = refl;
  longest_missed = refl;
}
