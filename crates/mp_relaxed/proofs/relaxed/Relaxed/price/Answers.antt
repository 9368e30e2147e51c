use Rattle.std.proofs.Common.{◌≡◌, length, ap, ◌∙◌, arith}
use Rattle.std.proofs.lemmas.List.{with_items_is}
use Rattle.mp_relaxed.specs.Relaxed.{RelaxedProblem, priced, zipped}
use Rattle.mp_relaxed.proofs.ZippedLemmas.{length-zipped, zipped_priced}
use Rattle.mp_relaxed.proofs.relaxed.Relaxed.price.Goals as goal

pub copy_from_slice-requires : goal.copy_from_slice-requires
copy_from_slice-requires c =
    let long = ap (λ (p : RelaxedProblem). length p.operators) c.self.view_is in
    let slice = ap length c.as_mut_slice.ensures.value in
    omega (arith, c.self.invariant.cost_each, length-zipped c.self.inside.pres c.self.inside.adds c.self.inside.costs.items c.self.invariant.adds_each c.self.invariant.cost_each)

pub returns : goal.returns
returns c =
    let long = ap (λ (p : RelaxedProblem). length p.operators) c.self.view_is in
    let slice = ap length c.as_mut_slice.ensures.value in
    let as_many : length c.copy_from_slice.new.self ≡ c.self.inside.costs.len = omega (arith, c.as_mut_slice.ensures.len, c.copy_from_slice.ensures.len) in
    (λ i. record {
      publics = c.self.inside.publics;
      facts = c.self.inside.facts;
      operators = (ap (λ l. zipped c.self.inside.pres c.self.inside.adds l) (with_items_is c.self.inside.costs c.copy_from_slice.new.self as_many ∙ c.copy_from_slice.ensures.after)
          ∙ zipped_priced c.self.inside.pres c.self.inside.adds c.self.inside.costs.items c.args.costs.now c.self.invariant.adds_each c.self.invariant.cost_each (omega (arith, length-zipped c.self.inside.pres c.self.inside.adds c.self.inside.costs.items c.self.invariant.adds_each c.self.invariant.cost_each))) i;
      goals = c.self.inside.goals.items;
    })
    ∙ ap (λ (p : RelaxedProblem). record p { operators = priced c.args.costs.now p.operators }) c.self.view_is
