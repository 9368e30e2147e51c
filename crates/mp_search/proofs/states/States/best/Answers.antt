use Rattle.std.proofs.Common.{◌≡◌, ◌<◌, true, false, length, None, sym, ap, subst, ◌∙◌}
use Rattle.std.proofs.lemmas.List.Elements.{All-weaker}
use Rattle.mp_store.specs.declared.key.Key.{Key}
use Rattle.mp_store.specs.Keys.{same_key}
use Rattle.mp_store.specs.Minima.{best}
use Rattle.mp_store.specs.Record.{Record}
use Rattle.mp_store.proofs.Naming.{best-named}
use Rattle.mp_search.specs.AgentState.{AgentState, same_state}
use Rattle.mp_search.specs.StateKeys.{IsKeyOf, KeptStates, reached_state, state_of_key}
use Rattle.mp_search.proofs.KeyedStates.{all_inside, apart, no_best}
use Rattle.mp_search.proofs.states.States.best.Goals as goal

pub returns-in_default-clause-best : goal.returns-in_default-clause-best
returns-in_default-clause-best c =
    let s = c.self.inside in
    let there = c.in_default.ensures.found.1 in
    sym (subst (λ (k : Record AgentState). best same_state (reached_state c.args.state.now) k ≡ None) (ap (λ (x : KeptStates). x.kept) c.self.view_is)
    (no_best s.tokens.sets (reached_state c.args.state.now) s.store
    (All-weaker (λ e. IsKeyOf s.publics (length s.tokens.sets) e.key) (λ e. e.key.mine < length s.tokens.sets) (λ e h. h.index) s.store.entries c.self.invariant.keyed)
    (λ has. let impossible : false ≡ true = there has in absurd cc)))

pub returns-clause-best : goal.returns-clause-best
returns-clause-best c =
    let s = c.self.inside in
    let sets = s.tokens.sets in
    let found = c.in-Some.ensures.there in
    let key : Key = record { publics = c.args.state.now.key.publics; mine = c.in-Some.index; tags = c.args.state.now.key.tags } in
    let of_key : IsKeyOf s.publics (length sets) key = record { size = c.requires.publics_size ∙ sym (ap (λ (x : KeptStates). x.publics) c.self.view_is); index = found.0 } in
    c.best.ensures
    ∙ sym (best-named (state_of_key sets) same_key same_state (IsKeyOf s.publics (length sets)) (apart s.publics sets c.self.invariant.different) key of_key s.store c.self.invariant.keyed)
    ∙ (λ j. best same_state (record { publics = key.publics.members; mine = found.1 j; tags = key.tags }) (c.self.view_is j).kept)

pub returns-clause-inside : goal.returns-clause-inside
returns-clause-inside c = all_inside (reached_state c.args.state.now) c.args.self.now.kept c.best.result (returns-clause-best c)
