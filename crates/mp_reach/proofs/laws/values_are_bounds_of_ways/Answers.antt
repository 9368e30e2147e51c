use Rattle.std.proofs.Common.{◌≤◌, subst, IfSome, arith}
use Rattle.std.proofs.lemmas.List.Elements.{All-contains}
use Rattle.mp_runs.specs.Simulation.{StandsForAll}
use Rattle.mp_task.specs.Limits.{IsWithinLimits}
use Rattle.mp_task.specs.Plan.{private_of, task_cost}
use Rattle.mp_task.specs.Seen.{seen_system, seen_state, IsSeenAs}
use Rattle.mp_task.proofs.Estimates.{value_at_most}
use Rattle.mp_task.proofs.SeenPlan.{seen_plan}
use Rattle.mp_reach.proofs.WaysArePlans.{way_plan}
use Rattle.mp_reach.proofs.laws.values_are_bounds_of_ways.Goals as goal

pub returns : goal.returns
returns g c = record {
  bounds = λ tasks t k h are here joint is cost last way ends.
      let p = way_plan tasks k last cost way ends in
      let within = All-contains IsWithinLimits tasks t are.within here in
      let most =
      value_at_most (seen_system t) (StandsForAll (IsSeenAs tasks t) p.0) (seen_state t k.state) (task_cost tasks p.0) (seen_plan tasks are t here k.state p.0 joint p.1) _
      (g.met.H.Heuristic.admissible t k.state.publics (private_of k.state t.me) within) in
      let bound = subst (λ o. IfSome o (λ x. x ≤ task_cost tasks p.0)) is most in
      let same = p.2 in
      omega arith;
  hopeless = λ tasks t k are here joint none cost last way ends.
      let p = way_plan tasks k last cost way ends in
      let within = All-contains IsWithinLimits tasks t are.within here in
      let seen = seen_plan tasks are t here k.state p.0 joint p.1 in
      g.met.H.Heuristic.dead t k.state.publics (private_of k.state t.me) within none seen.plan seen.plans;
}
