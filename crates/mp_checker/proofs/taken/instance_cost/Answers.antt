use Rattle.std.proofs.Common.{◌≡◌, ◌≤◌, ℕ, List, ◌++◌, map, Option, sym, ap, subst, ◌∙◌}
use Rattle.std.specs.Option.{option_map}
use Rattle.std.specs.Prelude.{IfSome, IsSome}
use Rattle.mp_forms.specs.Limits.{ProblemFits}
use Rattle.mp_forms.specs.declared.factor.Factor.{Factor}
use Rattle.mp_joint.specs.FactorContribution.{instance_of_schema}
use Rattle.mp_joint.specs.Instance.{Instance}
use Rattle.mp_checker.specs.declared.numbered.NumberedAction.{NumberedAction}
use Rattle.mp_checker.specs.declared.numbered.ObjectNumber.{ObjectNumber}
use Rattle.mp_checker.specs.AgentView.{AgentView, names_of, agent_of, factor_of}
use Rattle.mp_checker.specs.Costs.{cost_at}
use Rattle.mp_checker.specs.Numbering.{member_flags}
use Rattle.mp_checker.specs.Standing.{are_flagged, numbers_at}
use Rattle.mp_checker.specs.Taken.{IsBound}
use Rattle.mp_checker.proofs.TakenLemmas.{has_numbers, stands, no_instance, bound_by, instance_costs, instance_small, if_ok, if_some}
use Rattle.mp_checker.proofs.taken.instance_cost.Goals as goal

pub returns-then-not-branch-clause-cost : goal.returns-then-not-branch-clause-cost
returns-then-not-branch-clause-cost c =
    let v = c.args.factor.now in
    let f = c.factor.inside in
    let schema = c.args.schema.now in
    let objects = c.args.objects.now in
    let n = has_numbers f v c.factor.view_is c.factor.invariant in
    let members : c.as_slice-members.result.now ≡ map (member_flags (factor_of v)) schema.params =
    c.as_slice-members.ensures ∙ ap (λ (a : NumberedAction). a.members) c.requires.action in
    let standing = stands v f schema objects c.as_slice-members.result.now c.in_ok-add_standing.field-0 n members
    (c.in_ok-add_standing.ensures.standing ∙ ap (are_flagged f.objects c.as_slice-members.result.now) c.as_slice.ensures) in
    no_instance v schema objects c.in_ok-add_standing.field-0 standing c.if-not-branch.true

pub returns-clause-cost : goal.returns-clause-cost
returns-clause-cost c =
    let v = c.args.factor.now in
    let f = c.factor.inside in
    let schema = c.args.schema.now in
    let objects = c.args.objects.now in
    let n = has_numbers f v c.factor.view_is c.factor.invariant in
    let members : c.as_slice-members.result.now ≡ map (member_flags (factor_of v)) schema.params =
    c.as_slice-members.ensures ∙ ap (λ (a : NumberedAction). a.members) c.requires.action in
    let flagged = c.in_ok-add_standing.ensures.standing ∙ ap (are_flagged f.objects c.as_slice-members.result.now) c.as_slice.ensures in
    let standing = stands v f schema objects c.as_slice-members.result.now c.in_ok-add_standing.field-0 n members flagged in
    let given : c.as_slice-args.result.now ≡ numbers_at f.objects f.numbers objects =
    c.as_slice-args.ensures.value ∙ c.in_ok-add_standing.ensures.added c.if-not-branch.false
    ∙ ap (λ (xs : List ObjectNumber). xs ++ numbers_at f.objects c.as_slice-numbers.result.now c.as_slice.result.now) c.clear.ensures.items
    ∙ (λ i. numbers_at f.objects (c.as_slice-numbers.ensures i) (c.as_slice.ensures i)) in
    let bound = bound_by v f schema objects c.as_slice-members.result.now c.as_slice-args.result.now n members (sym flagged ∙ c.if-not-branch.false) given in
    if_ok (λ (cost : Option ℕ). cost ≡ cost_at f.values.entries c.as_slice-args.result.now c.as_slice-2.result.now)
    (λ (cost : Option ℕ). cost ≡ option_map (λ (i : Instance). i.cost) (instance_of_schema (agent_of v) (factor_of v) objects schema)) c.cost_at.result
    (λ cost h. instance_costs v f schema objects c.args.action.now c.as_slice-args.result.now c.in_ok-add_standing.field-0 cost n c.requires.action standing c.if-not-branch.false bound
    (h ∙ ap (cost_at f.values.entries c.as_slice-args.result.now) c.as_slice-2.ensures)) c.cost_at.ensures

pub returns-clause-small : goal.returns-clause-small
returns-clause-small c =
    let v = c.args.factor.now in
    let f = c.factor.inside in
    let schema = c.args.schema.now in
    let objects = c.args.objects.now in
    let n = has_numbers f v c.factor.view_is c.factor.invariant in
    let members : c.as_slice-members.result.now ≡ map (member_flags (factor_of v)) schema.params =
    c.as_slice-members.ensures ∙ ap (λ (a : NumberedAction). a.members) c.requires.action in
    let flagged = c.in_ok-add_standing.ensures.standing ∙ ap (are_flagged f.objects c.as_slice-members.result.now) c.as_slice.ensures in
    let standing = stands v f schema objects c.as_slice-members.result.now c.in_ok-add_standing.field-0 n members flagged in
    let given : c.as_slice-args.result.now ≡ numbers_at f.objects f.numbers objects =
    c.as_slice-args.ensures.value ∙ c.in_ok-add_standing.ensures.added c.if-not-branch.false
    ∙ ap (λ (xs : List ObjectNumber). xs ++ numbers_at f.objects c.as_slice-numbers.result.now c.as_slice.result.now) c.clear.ensures.items
    ∙ (λ i. numbers_at f.objects (c.as_slice-numbers.ensures i) (c.as_slice.ensures i)) in
    let bound = bound_by v f schema objects c.as_slice-members.result.now c.as_slice-args.result.now n members (sym flagged ∙ c.if-not-branch.false) given in
    let checked : c.factor-2.result.now ≡ factor_of v = c.factor-2.ensures.same ∙ ap (λ (w : AgentView). factor_of w) c.factor.view_is in
    let fits = subst (λ (w : Factor). ProblemFits w.problem) checked c.comes_from_a_file.ensures.limits in
    if_ok (λ (cost : Option ℕ). cost ≡ cost_at f.values.entries c.as_slice-args.result.now c.as_slice-2.result.now)
    (λ (cost : Option ℕ). IfSome cost (λ m. m ≤ 16000000)) c.cost_at.result
    (λ cost h. if_some (λ m. m ≤ 16000000) cost
    (λ m some. instance_small v schema objects cost m fits c.requires.fits
    (instance_costs v f schema objects c.args.action.now c.as_slice-args.result.now c.in_ok-add_standing.field-0 cost n c.requires.action standing c.if-not-branch.false bound
    (h ∙ ap (cost_at f.values.entries c.as_slice-args.result.now) c.as_slice-2.ensures)) some)) c.cost_at.ensures

pub returns-clause-bound : goal.returns-clause-bound
returns-clause-bound c =
    let v = c.args.factor.now in
    let f = c.factor.inside in
    let schema = c.args.schema.now in
    let objects = c.args.objects.now in
    let n = has_numbers f v c.factor.view_is c.factor.invariant in
    let members : c.as_slice-members.result.now ≡ map (member_flags (factor_of v)) schema.params =
    c.as_slice-members.ensures ∙ ap (λ (a : NumberedAction). a.members) c.requires.action in
    let flagged = c.in_ok-add_standing.ensures.standing ∙ ap (are_flagged f.objects c.as_slice-members.result.now) c.as_slice.ensures in
    let given : c.add_standing.new.out.items ≡ numbers_at f.objects f.numbers objects =
    c.in_ok-add_standing.ensures.added c.if-not-branch.false
    ∙ ap (λ (xs : List ObjectNumber). xs ++ numbers_at f.objects c.as_slice-numbers.result.now c.as_slice.result.now) c.clear.ensures.items
    ∙ (λ i. numbers_at f.objects (c.as_slice-numbers.ensures i) (c.as_slice.ensures i)) in
    let bound = bound_by v f schema objects c.as_slice-members.result.now c.add_standing.new.out.items n members (sym flagged ∙ c.if-not-branch.false) given in
    if_ok (λ (cost : Option ℕ). cost ≡ cost_at f.values.entries c.as_slice-args.result.now c.as_slice-2.result.now)
    (λ (cost : Option ℕ). IsSome cost → IsBound (names_of v) (factor_of v) schema.params objects c.add_standing.new.out.items) c.cost_at.result
    (λ cost h some. bound) c.cost_at.ensures
