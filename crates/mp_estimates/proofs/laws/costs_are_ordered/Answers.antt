use Rattle.mp_estimates.specs.Laws.Order.{AtMost-refl, AtMost-antisym, AtMost-trans}
use Rattle.mp_estimates.proofs.laws.costs_are_ordered.Goals as goal

pub returns : goal.returns
returns c = record {
  itself = AtMost-refl;
  equal = AtMost-antisym;
  onward = AtMost-trans;
}
