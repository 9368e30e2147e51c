use Rattle.std.proofs.Common.{◌≡◌, ◌<◌, ℕ, Option, length, sym, ap, subst, ◌∙◌}
use Rattle.std.specs.Prelude.{slice_get, IsSomeAnd}
use Rattle.std.proofs.lemmas.Result.{IfOk-weaker}
use Rattle.mp_store.specs.declared.entry.Entry.{Entry}
use Rattle.mp_search.specs.AgentState.{AgentState}
use Rattle.mp_search.specs.Expansion.{Parent, with_actions}
use Rattle.mp_search.specs.Steps.{parent_of}
use Rattle.mp_search.proofs.KeyedStates.{entry_told}
use Rattle.mp_search.proofs.expansion.expand_entry.Goals as goal

pub add_actions-requires-clause-parent : goal.add_actions-requires-clause-parent
add_actions-requires-clause-parent g c =
    let n = c.args.number in
    let entries = c.args.progress.now.states.kept.entries in
    let told =
    entry_told (λ (e : Entry AgentState). parent_of c.set_parent.new.parent ≡ record { number = n; state = e.key; g = e.g })
    (slice_get entries n) c.in_ok-set_parent.ensures.entry
    in
    record {
      inside = subst (λ (m : ℕ). m < length entries) (sym (ap (λ (x : Parent). x.number) told.2)) c.requires.inside;
      bounded = c.in_ok-set_parent.ensures.bounded;
      sizes = record {
        publics_size = c.in_ok-set_parent.ensures.sizes.publics_size ∙ c.requires.states.publics;
        privates_size = c.in_ok-set_parent.ensures.sizes.privates_size ∙ c.requires.states.privates;
      };
    }

pub returns-clause-sent : goal.returns-clause-sent
returns-clause-sent g c =
    let t = c.args.context.now.task in
    let value = g.H.Heuristic.value t in
    let n = c.args.number in
    let r = c.args.progress.now.states.kept in
    let told =
    entry_told (λ (e : Entry AgentState). parent_of c.set_parent.new.parent ≡ record { number = n; state = e.key; g = e.g })
    (slice_get r.entries n) c.in_ok-set_parent.ensures.entry
    in
    IfOk-weaker c.add_actions.result _ _
    (λ out done. subst (λ (o : Option (Entry AgentState)). IsSomeAnd o (λ e.
    (out, c.add_actions.new.progress.states.kept) ≡ with_actions t value (record { number = n; state = e.key; g = e.g }) 0 t.acts r))
    (sym told.1) (done ∙ (λ j. with_actions t value (told.2 j) 0 t.acts r)))
    c.add_actions.ensures.sent
