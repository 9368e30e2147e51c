use Rattle.std.proofs.Common.{◌≡◌, Some, None, sym, ap, subst, ◌∙◌}
use Rattle.std.proofs.lemmas.Option.{none-some}
use Rattle.std.specs.Option.{option_copied}
use Rattle.mp_joint.specs.FactorContribution.{privates_of}
use Rattle.mp_joint.specs.Grounding.{fact_of as fact_of_atom}
use Rattle.mp_checker.specs.AgentView.{AgentView, names_of, agent_of, factor_of}
use Rattle.mp_checker.specs.At.{named_state}
use Rattle.mp_checker.specs.Marked.{true_facts}
use Rattle.mp_checker.specs.Places.{AreAsked}
use Rattle.mp_checker.proofs.FailingLemmas.{place_of, none_fails, one_fails, that_fails, not_past}
use Rattle.mp_checker.proofs.TakenLemmas.{has_numbers}
use Rattle.mp_checker.proofs.taken.failing.Goals as goal

pub returns-in_default-clause-failing : goal.returns-in_default-clause-failing
returns-in_default-clause-failing c =
    let v = c.args.factor.now in
    let asked = c.args.asked in
    let kept = true_facts c.args.facts.now in
    let agent : c.factor.inside.agent ≡ agent_of v = ap (λ (w : AgentView). agent_of w) c.factor.view_is in
    let args = c.as_slice-args.ensures.value in
    let literals = c.as_slice-literals.ensures in
    let place : place_of kept (agent_of v) c.args.room.now.args.items asked.literals.now ≡ None =
    (λ i. place_of kept (sym agent i) (sym args i) (sym literals i)) ∙ sym c.in_ok-place.ensures.place ∙ c.in_default.is in
    sym (none_fails (names_of v) (agent_of v) (factor_of v) asked.params.now asked.objects.now c.args.room.now.args.items kept asked.literals.now asked.written.now
    c.requires.bound c.requires.numbered place)

pub returns-in_default-get-clause-failing : goal.returns-in_default-get-clause-failing
returns-in_default-get-clause-failing c =
    let v = c.args.factor.now in
    let asked = c.args.asked in
    let kept = true_facts c.args.facts.now in
    let agent : c.factor.inside.agent ≡ agent_of v = ap (λ (w : AgentView). agent_of w) c.factor.view_is in
    let args = c.as_slice-args.ensures.value in
    let literals = c.as_slice-literals.ensures in
    let place : place_of kept (agent_of v) c.args.room.now.args.items asked.literals.now ≡ Some c.in-Some.place =
    (λ i. place_of kept (sym agent i) (sym args i) (sym literals i)) ∙ sym c.in_ok-place.ensures.place ∙ c.in-Some.is in
    let found = one_fails (names_of v) (agent_of v) (factor_of v) asked.params.now asked.objects.now c.args.room.now.args.items kept asked.literals.now asked.written.now
    c.in-Some.place c.requires.bound c.requires.numbered place in
    absurd (not_past (names_of v) (agent_of v) (factor_of v) asked.params.now asked.objects.now (named_state (names_of v) kept) asked.written.now c.in-Some.place found
    (sym c.get.ensures ∙ ap option_copied c.in_default-get.is))

pub returns-clause-failing : goal.returns-clause-failing
returns-clause-failing c =
    let v = c.args.factor.now in
    let asked = c.args.asked in
    let kept = true_facts c.args.facts.now in
    let l = c.in-Some-get.literal.now in
    let n = has_numbers c.factor.inside v c.factor.view_is c.factor.invariant in
    let agent : c.factor.inside.agent ≡ agent_of v = ap (λ (w : AgentView). agent_of w) c.factor.view_is in
    let args = c.as_slice-args.ensures.value in
    let literals = c.as_slice-literals.ensures in
    let place : place_of kept (agent_of v) c.args.room.now.args.items asked.literals.now ≡ Some c.in-Some.place =
    (λ i. place_of kept (sym agent i) (sym args i) (sym literals i)) ∙ sym c.in_ok-place.ensures.place ∙ c.in-Some.is in
    let found = one_fails (names_of v) (agent_of v) (factor_of v) asked.params.now asked.objects.now c.args.room.now.args.items kept asked.literals.now asked.written.now
    c.in-Some.place c.requires.bound c.requires.numbered place in
    let made : c.in_ok-signed_fact.field-0 ≡ record { positive = l.positive; fact = fact_of_atom (agent_of v) (privates_of (factor_of v)) asked.params.now asked.objects.now l.atom } =
    c.in_ok-signed_fact.ensures
    ∙ (λ i. record { positive = l.positive; fact = fact_of_atom (agent i) (n.privates i) asked.params.now asked.objects.now l.atom }) in
    ap Some made
    ∙ that_fails (names_of v) (agent_of v) (factor_of v) asked.params.now asked.objects.now (named_state (names_of v) kept) asked.written.now c.in-Some.place l found
    (sym c.get.ensures ∙ ap option_copied c.in-Some-get.is)

pub returns-in_default-clause-noted : goal.returns-in_default-clause-noted
returns-in_default-clause-noted c = λ none.
    let v = c.args.factor.now in
    let agent : c.factor.inside.agent ≡ agent_of v = ap (λ (w : AgentView). agent_of w) c.factor.view_is in
    let args = c.as_slice-args.ensures.value in
    let literals = c.as_slice-literals.ensures in
    let new = c.first_failing.new in
    subst (λ t. t)
    (λ i. AreAsked new.facts.known.keys (agent i) (args i) (literals i) new.places.needs.items new.places.against.items)
    (c.in_ok-place.ensures.noted c.in_default.is)

pub returns-in_default-get-clause-noted : goal.returns-in_default-get-clause-noted
returns-in_default-get-clause-noted c = λ none.
    let v = c.args.factor.now in
    let asked = c.args.asked in
    let kept = true_facts c.args.facts.now in
    let agent : c.factor.inside.agent ≡ agent_of v = ap (λ (w : AgentView). agent_of w) c.factor.view_is in
    let args = c.as_slice-args.ensures.value in
    let literals = c.as_slice-literals.ensures in
    let place : place_of kept (agent_of v) c.args.room.now.args.items asked.literals.now ≡ Some c.in-Some.place =
    (λ i. place_of kept (sym agent i) (sym args i) (sym literals i)) ∙ sym c.in_ok-place.ensures.place ∙ c.in-Some.is in
    let found = one_fails (names_of v) (agent_of v) (factor_of v) asked.params.now asked.objects.now c.args.room.now.args.items kept asked.literals.now asked.written.now
    c.in-Some.place c.requires.bound c.requires.numbered place in
    absurd (not_past (names_of v) (agent_of v) (factor_of v) asked.params.now asked.objects.now (named_state (names_of v) kept) asked.written.now c.in-Some.place found
    (sym c.get.ensures ∙ ap option_copied c.in_default-get.is))

pub returns-clause-noted : goal.returns-clause-noted
returns-clause-noted c = λ none. absurd (none-some c.in_ok-signed_fact.field-0 (sym none))
