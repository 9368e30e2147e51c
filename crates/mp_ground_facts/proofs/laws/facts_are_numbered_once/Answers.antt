use Rattle.mp_ground_facts.proofs.FactsOf.{facts_are_counted, facts_rise, facts_stand, one_place}
use Rattle.mp_ground_facts.proofs.laws.facts_are_numbered_once.Goals as goal

pub returns : goal.returns
returns c = record {
  in_order = facts_rise;
  once = λ factor instances f i j. one_place _ (facts_rise factor instances) i j f;
  counted = facts_are_counted;
  numbered = facts_stand;
}
