use Rattle.mp_grounder.proofs.Basics.{◌≡◌, ◌≤◌, List, length, sym, ap, ◌∙◌, subst, length-map, Factor, LiftedFactor, OpenView, lifted_factor, HasSmallCosts, instances, GroundFact, facts_of, small_costs, IsGrounded}
use Rattle.mp_grounder.proofs.Basics.{KeepsLimits, fact_names, ground_at, IsRefusedAt}
use Rattle.mp_joint.specs.Fact.{is_listed}
use Rattle.mp_joint.specs.FactorContribution.{privates_of}
use Rattle.mp_instances.specs.Counts.{tries}
use Rattle.mp_ground_facts.specs.Ground.{GroundFactor, ground_factor}
use Rattle.mp_grounder.proofs.Refused.{refused_on}
use Rattle.mp_grounder.proofs.Standing.{is_grounded, keeps_limits, refused_by_names, within_by_names}
use Rattle.mp_grounder.proofs.grounding.ground.Goals as goal

pub numbered-requires : goal.numbered-requires
numbered-requires c =
    subst HasSmallCosts (sym (c.in_ok-start.ensures ∙ c.in_ok-lifted.ensures))
    (small_costs c.args.factor.now c.args.known.now c.checked_factor_is_checked.ensures)

-- as many objects have a name of their own as have a mark
as_many : (factor : Factor) (view : OpenView) → length (lifted_factor factor view).private_objects ≡ length (fact_names factor).objects
as_many factor view = length-map (fact_names factor).objects (λ o. is_listed o (privates_of factor).objects)

pub name_facts-requires : goal.name_facts-requires
name_facts-requires c =
    c.len.ensures ∙ ap (λ (l : LiftedFactor). length l.private_objects) c.in_ok-lifted.ensures ∙ as_many c.args.factor.now c.args.known.now
    ∙ ap (λ (f : Factor). length (fact_names f).objects) (sym c.factor.ensures.same)

pub returns-in_err-in_numbers-clause-refused : goal.returns-in_err-in_numbers-clause-refused
returns-in_err-in_numbers-clause-refused c =
    let e = c.in_err-in_numbers.field-0.0 in
    refused_on _ e _ c.from_residual-in_err-in_numbers.ensures.1
    (refused_by_names c.args.me c.args.factor.now c.args.known.now c.checked_factor_is_checked.ensures e
    (subst (λ l. IsRefusedAt c.args.me (tries l) (length (instances l)) (length (facts_of l (instances l))) e)
    (c.in_ok-start.ensures ∙ c.in_ok-lifted.ensures) c.in_err-in_numbers.ensures.refused))

pub returns : goal.returns
returns c =
    let me = c.args.me in
    let factor = c.args.factor.now in
    let view = c.args.known.now in
    let checked = c.checked_factor_is_checked.ensures in
    let lifted = c.in_ok-start.ensures ∙ c.in_ok-lifted.ensures in
    let numbered = c.in_ok-in_numbers.ensures in
    let names = c.in_ok-names.ensures ∙ ap fact_names c.factor.ensures.same in
    let grounded = numbered.given ∙ ap (λ (l : LiftedFactor). ground_factor l (instances l)) lifted in
    let is = c.in_ok-turned.ensures ∙ (λ i. ground_at me (names i) (grounded i)) in
    let few_tries = subst (λ (l : LiftedFactor). tries l ≤ 50000000) lifted numbered.few_tries in
    let few_actions = subst (λ (l : LiftedFactor). length (instances l) ≤ 200000) lifted numbered.few_actions in
    let few_facts = subst (λ (fs : List GroundFact). length fs ≤ 65535) (ap (λ (g : GroundFactor). g.facts) grounded) numbered.few_facts in
    record {
      given = subst (IsGrounded _) (sym is) (is_grounded me factor view checked);
      limits = subst KeepsLimits (sym is) (keeps_limits me factor view checked few_actions few_facts);
      within = within_by_names me factor view checked few_tries few_actions few_facts;
      refused = tt;
    }
