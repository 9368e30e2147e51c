use Rattle.mp_ground_facts.proofs.FactsOf.{sorted_is}
use Rattle.mp_ground_facts.proofs.touched.sorted_facts.Goals as goal

pub returns : goal.returns
returns c =
    let sorted = c.in_ok-sort_unstable.ensures in
    sorted_is c.args.factor.now c.args.instances.now c.in_ok-facts.facts.keys c.sort_unstable.new.self.keys c.in_ok-facts.ensures sorted.sorted sorted.unique sorted.reordered.2
