use Rattle.mp_store.specs.Keys.{same_key}
use Rattle.mp_store.specs.Minima.{best}
use Rattle.mp_store.proofs.Naming.{best-named}
use Rattle.mp_search.specs.AgentState.{same_state}
use Rattle.mp_search.proofs.KeyedStates.{apart}
use Rattle.mp_store.specs.Named.{named, named_entry}
use Rattle.std.proofs.lemmas.List.{length-map}
use Rattle.mp_search.proofs.SentSets.{SentInside, offer_sets}
use Rattle.std.proofs.Common.{ℕ, All, ◌<◌, subst, ◌≡◌, length, sym, ap, ◌∙◌}
use Rattle.mp_tokens.specs.Table.{TokenTable}
use Rattle.mp_sets.specs.Numbers.{SizedSet}
use Rattle.mp_search.specs.StateKeys.{IsKeyOf, KeptStates, entry_of, reached_state, state_of_key}
use Rattle.mp_search.proofs.OfferedStates.{different_grown, keyed_grown, keyed_offered, named_grown, seen_offered}
use Rattle.mp_search.proofs.states.States.offer_new.Goals as goal

pub invariant_of-self-2 : goal.invariant_of-self-2
invariant_of-self-2 c =
    let s = c.self.inside in
    let grown = ap (λ (t : TokenTable). t.sets) c.in_ok-give_index.ensures.ok in
    let key = c.give_index.new.state.key in
    let of_key : IsKeyOf s.publics (length c.give_index.new.tokens.sets) key = record {
      size = ap (λ (x : SizedSet). x.size) c.in_ok-give_index.ensures.publics ∙ c.requires.sizes.publics_size ∙ sym (ap (λ (x : KeptStates). x.publics) c.self.view_is);
      index = c.in_ok-give_index.ensures.index.0;
    } in
    record {
      different = different_grown s.publics s.tokens.sets c.give_index.new.tokens.sets c.args.state.now.mine.members c.self.invariant.different grown s.store c.self.invariant.keyed;
      keyed = keyed_offered s.publics c.give_index.new.tokens.sets
          (different_grown s.publics s.tokens.sets c.give_index.new.tokens.sets c.args.state.now.mine.members c.self.invariant.different grown s.store c.self.invariant.keyed)
          s.store (keyed_grown s.publics s.tokens.sets c.give_index.new.tokens.sets c.args.state.now.mine.members c.self.invariant.different grown s.store c.self.invariant.keyed)
          key of_key c.args.arrival.g c.args.arrival.h c.args.arrival.origin c.args.goal c.keep_new.result c.keep_new.new.self c.keep_new.ensures.offered c.keep_new.ensures.err;
    }

pub keep_new-requires-clause-new : goal.keep_new-requires-clause-new
keep_new-requires-clause-new c =
    let s = c.self.inside in
    let grown = ap (λ (t : TokenTable). t.sets) c.in_ok-give_index.ensures.ok in
    let sets = c.give_index.new.tokens.sets in
    let key = c.give_index.new.state.key in
    let of_key : IsKeyOf s.publics (length sets) key = record {
      size = ap (λ (x : SizedSet). x.size) c.in_ok-give_index.ensures.publics ∙ c.requires.sizes.publics_size ∙ sym (ap (λ (x : KeptStates). x.publics) c.self.view_is);
      index = c.in_ok-give_index.ensures.index.0;
    } in
    let state : state_of_key sets key ≡ reached_state c.args.state.now = λ j. record {
      publics = (c.in_ok-give_index.ensures.publics j).members;
      mine = c.in_ok-give_index.ensures.index.1 j;
      tags = c.in_ok-give_index.ensures.tags j;
    } in
    let seen : named (state_of_key sets) s.store ≡ c.args.self.now.kept =
    named_grown s.publics s.tokens.sets c.give_index.new.tokens.sets c.args.state.now.mine.members c.self.invariant.different grown s.store c.self.invariant.keyed
    ∙ ap (λ (x : KeptStates). x.kept) c.self.view_is
    in
    sym (best-named (state_of_key sets) same_key same_state (IsKeyOf s.publics (length sets))
    (apart s.publics sets (different_grown s.publics s.tokens.sets c.give_index.new.tokens.sets c.args.state.now.mine.members c.self.invariant.different grown s.store c.self.invariant.keyed))
    key of_key s.store (keyed_grown s.publics s.tokens.sets c.give_index.new.tokens.sets c.args.state.now.mine.members c.self.invariant.different grown s.store c.self.invariant.keyed))
    ∙ (λ j. best same_state (state j) (seen j))
    ∙ c.requires.new

pub returns-clause-offered : goal.returns-clause-offered
returns-clause-offered c =
    let s = c.self.inside in
    let grown = ap (λ (t : TokenTable). t.sets) c.in_ok-give_index.ensures.ok in
    let key = c.give_index.new.state.key in
    let of_key : IsKeyOf s.publics (length c.give_index.new.tokens.sets) key = record {
      size = ap (λ (x : SizedSet). x.size) c.in_ok-give_index.ensures.publics ∙ c.requires.sizes.publics_size ∙ sym (ap (λ (x : KeptStates). x.publics) c.self.view_is);
      index = c.in_ok-give_index.ensures.index.0;
    } in
    let state : state_of_key c.give_index.new.tokens.sets key ≡ reached_state c.args.state.now = λ j. record {
      publics = (c.in_ok-give_index.ensures.publics j).members;
      mine = c.in_ok-give_index.ensures.index.1 j;
      tags = c.in_ok-give_index.ensures.tags j;
    } in
    seen_offered s.publics c.give_index.new.tokens.sets
    (different_grown s.publics s.tokens.sets c.give_index.new.tokens.sets c.args.state.now.mine.members c.self.invariant.different grown s.store c.self.invariant.keyed)
    s.store (keyed_grown s.publics s.tokens.sets c.give_index.new.tokens.sets c.args.state.now.mine.members c.self.invariant.different grown s.store c.self.invariant.keyed)
    key of_key c.args.arrival.g c.args.arrival.h c.args.arrival.origin c.args.goal c.keep_new.result c.keep_new.new.self
    (reached_state c.args.state.now) state c.args.self.now.kept
    (named_grown s.publics s.tokens.sets c.give_index.new.tokens.sets c.args.state.now.mine.members c.self.invariant.different grown s.store c.self.invariant.keyed ∙ ap (λ (x : KeptStates). x.kept) c.self.view_is)
    c.keep_new.ensures.offered

pub returns-clause-sets : goal.returns-clause-sets
returns-clause-sets c =
    let s = c.self.inside in
    let inside : SentInside (named (state_of_key s.tokens.sets) s.store) =
    subst (λ (m : ℕ). All (λ n. n < m) s.store.sent) (sym (length-map s.store.entries (named_entry (state_of_key s.tokens.sets)))) c.count.ensures.sound.sent
    in
    offer_sets c.keep_new.result (entry_of (reached_state c.args.state.now) c.args.arrival c.args.goal) _ c.args.self.now.kept
    (subst (λ (x : KeptStates). SentInside x.kept) c.self.view_is inside) (returns-clause-offered c)
