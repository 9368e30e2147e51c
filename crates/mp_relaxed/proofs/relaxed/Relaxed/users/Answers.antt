use Rattle.std.proofs.Common.{◌≡◌, ◌<◌, [], length, get_or, All, ap, subst, sym, ◌∙◌, arith}
use Rattle.std.proofs.lemmas.List.{get_or_default}
use Rattle.std.proofs.lemmas.List.Elements.{All-get_or}
use Rattle.mp_relaxed.specs.Relaxed.{RelaxedProblem, HasUsers, zipped}
use Rattle.mp_relaxed.proofs.ZippedLemmas.{zipped_users, zipped_below}
use Rattle.mp_relaxed.proofs.relaxed.Relaxed.users.Goals as goal

pub returns-clause-all : goal.returns-clause-all
returns-clause-all c =
    let same = ap (λ (p : RelaxedProblem). p.facts) c.self.view_is in
    let inside : c.args.x < length c.self.inside.users.items = omega (arith, c.self.invariant.users_right.sized) in
    let slice : c.as_slice.result.now ≡ get_or c.self.inside.users.items c.args.x [] = c.as_slice.ensures ∙ c.index.ensures ∙ get_or_default c.self.inside.users.items c.args.x c.index.result.now [] inside in
    subst (λ (p : RelaxedProblem). HasUsers p.operators c.args.x c.as_slice.result.now) c.self.view_is
    (subst (λ l. HasUsers (zipped c.self.inside.pres c.self.inside.adds c.self.inside.costs.items) c.args.x l) (sym slice)
    (zipped_users c.self.inside.pres c.self.inside.adds c.self.inside.costs.items c.self.invariant.adds_each c.self.invariant.cost_each c.self.inside.facts c.args.x c.self.inside.users.items c.self.invariant.users_right))

pub returns-clause-below : goal.returns-clause-below
returns-clause-below c =
    let same = ap (λ (p : RelaxedProblem). p.facts) c.self.view_is in
    let inside : c.args.x < length c.self.inside.users.items = omega (arith, c.self.invariant.users_right.sized) in
    let slice : c.as_slice.result.now ≡ get_or c.self.inside.users.items c.args.x [] = c.as_slice.ensures ∙ c.index.ensures ∙ get_or_default c.self.inside.users.items c.args.x c.index.result.now [] inside in
    subst (λ (p : RelaxedProblem). All (λ k. k < length p.operators) c.as_slice.result.now) c.self.view_is
    (subst (λ l. All (λ k. k < length (zipped c.self.inside.pres c.self.inside.adds c.self.inside.costs.items)) l) (sym slice)
    (zipped_below c.self.inside.pres c.self.inside.adds c.self.inside.costs.items c.self.invariant.adds_each c.self.invariant.cost_each _
    (All-get_or (All (λ k. k < length c.self.inside.pres)) c.self.inside.users.items c.args.x _ inside c.self.invariant.users_right.rows_alone)))
