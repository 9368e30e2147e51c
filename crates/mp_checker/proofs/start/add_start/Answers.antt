use Rattle.std.proofs.Common.{◌≡◌, ◌<◌, ◌≤◌, true, List, [], length, get_or, sym, ap, subst, ◌∙◌, if◌then◌else◌}
use Rattle.mp_forms.specs.declared.atom_values.Atom.{Atom}
use Rattle.mp_forms.specs.declared.factor.Factor.{Factor}
use Rattle.mp_checker.specs.declared.fact.FactNumbers.{FactNumbers}
use Rattle.mp_checker.specs.AgentView.{AgentView, names_of, agent_of, factor_of}
use Rattle.mp_checker.specs.At.{fact_at, is_true, numbers_of}
use Rattle.mp_checker.specs.Keys.{same_numbers}
use Rattle.mp_checker.specs.Marked.{true_facts}
use Rattle.mp_checker.specs.Numbering.{numbered_atom}
use Rattle.mp_checker.proofs.StartLemmas.{init_covered, start_more, start_all}
use Rattle.mp_checker.proofs.TakenLemmas.{has_numbers}
use Rattle.mp_checker.proofs.start.add_start.Goals as goal

pub loop-atom-preserved : goal.loop-atom-preserved
loop-atom-preserved c = λ f.
    let v = c.args.factor.now in
    let l = c.loop-atom in
    let a = c.atom-item.result in
    let n = has_numbers c.factor.inside v c.factor.view_is c.factor.invariant in
    let names : c.factor.inside.names.now ≡ names_of v = ap (λ (w : AgentView). names_of w) c.factor.view_is in
    let agent : c.factor.inside.agent ≡ agent_of v = ap (λ (w : AgentView). agent_of w) c.factor.view_is in
    let checked : c.factor-2.result.now ≡ factor_of v = c.factor-2.ensures.same ∙ ap (λ (w : AgentView). factor_of w) c.factor.view_is in
    let init : c.as_slice-atom-items.result.now ≡ (factor_of v).problem.init = c.as_slice-atom-items.ensures
    ∙ ap (λ (w : Factor). w.problem.init) c.behind-factor.view_is ∙ ap (λ (w : Factor). w.problem.init) checked in
    let lt = subst (λ (xs : List Atom). l.atom-index < length xs) init c.loop-atom-test.true in
    let is = subst (λ (xs : List Atom). a ≡ get_or xs l.atom-index a) init c.atom-item.is in
    let made = c.in_ok-numbered.ensures ∙ (λ i. numbered_atom (names i) (n.privates i) (c.new-params.ensures i) a) in
    let changed = subst (λ m. (g : FactNumbers) → is_true (true_facts c.set.new.facts) g
    ≡ (if same_numbers (fact_at m [] c.in_ok-numbered.numbered) g then true else is_true (true_facts l.facts) g)) agent c.in_ok-set.ensures in
    start_more (names_of v) (agent_of v) (factor_of v) (factor_of v).problem.init l.atom-index a c.in_ok-numbered.numbered (true_facts l.facts) (true_facts c.set.new.facts) f
    lt is (init_covered (names_of v) (factor_of v) n.covers) made changed
    ∙ l.invariant f

pub returns : goal.returns
returns c = λ f.
    let v = c.args.factor.now in
    let l = c.loop-atom in
    let checked : c.factor-2.result.now ≡ factor_of v = c.factor-2.ensures.same ∙ ap (λ (w : AgentView). factor_of w) c.factor.view_is in
    let init : c.as_slice-atom-items.result.now ≡ (factor_of v).problem.init = c.as_slice-atom-items.ensures
    ∙ ap (λ (w : Factor). w.problem.init) c.behind-factor.view_is ∙ ap (λ (w : Factor). w.problem.init) checked in
    let past = subst (λ (xs : List Atom). length xs ≤ l.atom-index) init c.loop-atom-test.false in
    sym (start_all (agent_of v) (factor_of v) (factor_of v).problem.init l.atom-index f (is_true (true_facts l.facts) (numbers_of (names_of v) f)) past) ∙ l.invariant f
