use Rattle.std.proofs.Common.{◌≡◌, ◌<◌, length, All, ap, subst, arith}
use Rattle.mp_relaxed.specs.Relaxed.{RelaxedProblem, HasAdders}
use Rattle.mp_relaxed.proofs.ZippedLemmas.{length-zipped, zipped_adders}
use Rattle.std.proofs.Common.{get_or, []}
use Rattle.mp_relaxed.proofs.relaxed.Relaxed.adders.Goals as goal

pub returns-clause-all : goal.returns-clause-all
returns-clause-all c = λ x.
    subst (λ (p : RelaxedProblem). HasAdders p.operators x (get_or c.in_ok-users_of.field-0.items x [])) c.self.view_is
    (zipped_adders c.self.inside.pres c.self.inside.adds c.self.inside.costs.items c.self.invariant.adds_each c.self.invariant.cost_each c.self.inside.facts x c.in_ok-users_of.field-0.items c.in_ok-users_of.ensures)

pub returns-clause-below : goal.returns-clause-below
returns-clause-below c =
    let long = ap (λ (p : RelaxedProblem). length p.operators) c.self.view_is in
    let as_many : length c.self.inside.adds ≡ length c.args.self.now.operators = omega (arith, length-zipped c.self.inside.pres c.self.inside.adds c.self.inside.costs.items c.self.invariant.adds_each c.self.invariant.cost_each, c.self.invariant.adds_each) in
    subst (λ n. All (All (λ k. k < n)) c.in_ok-users_of.field-0.items) as_many c.in_ok-users_of.ensures.rows_alone
