use Rattle.std.proofs.Common.{◌≡◌, ◌≤◌, ◌||◌, ◌&&◌, not, ℕ, List, Option, map, sym, ap, subst, ◌∙◌}
use Rattle.std.specs.Option.{is_some}
use Rattle.std.specs.Prelude.{IfSome}
use Rattle.mp_checker.specs.declared.numbered.ObjectNumber.{ObjectNumber}
use Rattle.mp_checker.specs.AgentView.{AgentView, names_of, agent_of, factor_of}
use Rattle.mp_checker.specs.At.{fact_at, is_one_of, named_state}
use Rattle.mp_checker.specs.Found.{IsActionOf}
use Rattle.mp_checker.specs.Marked.{true_facts}
use Rattle.mp_checker.specs.Places.{AreAsked}
use Rattle.mp_checker.specs.Stepped.{step_in}
use Rattle.mp_checker.specs.Taken.{IsBound}
use Rattle.mp_checker.proofs.PlaceLemmas.{grown_again}
use Rattle.mp_checker.proofs.StepLemmas.{a_step, facts_there}
use Rattle.mp_checker.proofs.TakenLemmas.{step_fails, step_done}
use Rattle.mp_checker.proofs.taken.take_action.Goals as goal

pub returns-in-Some-2-clause-taken : goal.returns-in-Some-2-clause-taken
returns-in-Some-2-clause-taken c =
    let v = c.args.factor.now in
    step_fails (agent_of v) (factor_of v) (named_state (names_of v) (true_facts c.args.facts.now)) c.args.schema.now c.args.step.now c.in-Some.cost c.in_ok-first.field-0 c.in-Some-2.first
    c.requires.found (sym c.in-Some.is ∙ c.in_ok-cost.ensures.cost) c.in_ok-first.ensures.failing c.in-Some-2.is

pub returns-clause-taken : goal.returns-clause-taken
returns-clause-taken c =
    let v = c.args.factor.now in
    let own = c.factor.inside.agent in
    let args = c.failing.new.room.args.items in
    let set = map (fact_at own args) c.args.action.now.add in
    let cleared = map (fact_at own args) c.args.action.now.del in
    let small = subst (λ (o : Option ℕ). IfSome o (λ m. m ≤ 16000000)) c.in-Some.is c.in_ok-cost.ensures.small in
    let bound = subst (λ (xs : List ObjectNumber). IsBound (names_of v) (factor_of v) c.args.schema.now.params c.args.step.now.args xs) (sym c.in_ok-first.ensures.args)
    (c.in_ok-cost.ensures.bound (ap is_some c.in-Some.is)) in
    step_done (names_of v) (agent_of v) own (factor_of v) c.args.schema.now c.args.step.now c.in-Some.cost c.in_ok-first.field-0 args
    c.args.action.now (true_facts c.args.facts.now) (true_facts c.change.new.facts)
    c.requires.found (sym c.in-Some.is ∙ c.in_ok-cost.ensures.cost) small c.in_ok-first.ensures.failing c.in_default-2.is c.requires.covers bound c.requires.action
    (ap (λ (w : AgentView). agent_of w) c.factor.view_is)
    (λ f. c.in_ok-change.ensures.changed f ∙ ap (λ b. is_one_of set f || (b && not (is_one_of cleared f))) (c.in_ok-first.ensures.stays f))

pub returns-clause-grows : goal.returns-clause-grows
returns-clause-grows c =
    grown_again c.args.facts.now.known.keys c.failing.new.facts.known.keys c.change.new.facts.known.keys c.in_ok-first.ensures.grows c.in_ok-change.ensures.grows

pub returns-clause-step : goal.returns-clause-step
returns-clause-step c =
    let v = c.args.factor.now in
    let own = c.factor.inside.agent in
    let same : own ≡ agent_of v = ap (λ (w : AgentView). agent_of w) c.factor.view_is in
    let args = c.failing.new.room.args.items in
    let before = c.failing.new.facts.known.keys in
    let keys = c.change.new.facts.known.keys in
    let needs = c.failing.new.room.places.needs.items in
    let against = c.failing.new.room.places.against.items in
    let places = c.change.new.room.places in
    let action = c.args.action.now in
    let kept = c.in_ok-first.ensures.args in
    let bound = subst (λ (xs : List ObjectNumber). IsBound (names_of v) (factor_of v) c.args.schema.now.params c.args.step.now.args xs) (sym kept)
    (c.in_ok-cost.ensures.bound (ap is_some c.in-Some.is)) in
    let asked = subst (λ (xs : List ObjectNumber). AreAsked before (agent_of v) xs action.pre needs against) (sym kept) (c.in_ok-first.ensures.noted c.in_default-2.is) in
    let found : IsActionOf v c.args.step.now.action c.args.schema.now action =
    record { first = c.requires.found; numbered = c.requires.action; fits = c.requires.fits; covers = c.requires.covers } in
    a_step v own c.args.schema.now action c.args.step.now args c.in-Some.cost keys (step_in (agent_of v) places) found same bound
    (sym c.in-Some.is ∙ c.in_ok-cost.ensures.cost)
    (facts_there before keys (agent_of v) own args action places needs against (sym same) c.in_ok-change.ensures.grows asked
    c.in_ok-change.ensures.needs c.in_ok-change.ensures.against c.in_ok-change.ensures.adds c.in_ok-change.ensures.dels)
