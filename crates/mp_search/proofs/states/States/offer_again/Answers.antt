use Rattle.std.proofs.Common.{◌≡◌, ℕ, All, ◌<◌, length, sym, ap, subst}
use Rattle.std.specs.Prelude.{IfOk, slice_get}
use Rattle.std.proofs.lemmas.List.{length-map}
use Rattle.mp_store.specs.declared.entry.Entry.{Entry}
use Rattle.mp_store.specs.declared.key.Key.{Key}
use Rattle.mp_store.specs.Keys.{same_key}
use Rattle.mp_store.specs.Named.{named, named_entry}
use Rattle.mp_store.specs.Record.{new_entry, offered}
use Rattle.mp_search.specs.StateKeys.{IsKeyOf, KeptStates, entry_of, reached_state, state_of_key}
use Rattle.mp_search.proofs.KeyedStates.{all_get, best_has, best_inside, entry_told, named_at}
use Rattle.mp_search.proofs.OfferedStates.{keyed_offered, seen_offered}
use Rattle.mp_search.proofs.SentSets.{SentInside, offer_sets}
use Rattle.mp_search.proofs.states.States.offer_again.Goals as goal

pub offer_again-requires-clause-inside : goal.offer_again-requires-clause-inside
offer_again-requires-clause-inside c =
    let s = c.self.inside in
    let seen = subst (λ (x : KeptStates). c.args.entry < length x.kept.entries) (sym c.self.view_is)
    (best_inside (reached_state c.args.state.now) c.args.self.now.kept c.args.entry c.requires.best) in
    subst (λ (m : ℕ). c.args.entry < m) (length-map s.store.entries (named_entry (state_of_key s.tokens.sets))) seen

pub invariant_of-self : goal.invariant_of-self
invariant_of-self c =
    let s = c.self.inside in
    let told =
    entry_told (λ (e : Entry Key). IfOk c.offer_again.result (λ answer. (answer, c.offer_again.new.self) ≡ offered same_key (new_entry e.key c.args.arrival.g c.args.arrival.h c.args.arrival.origin c.args.goal) s.store))
    (slice_get s.store.entries c.args.entry) c.offer_again.ensures.offered
    in
    let of_key = all_get (λ (e : Entry Key). IsKeyOf s.publics (length s.tokens.sets) e.key) s.store.entries c.args.entry told.0 c.self.invariant.keyed told.1 in
    record {
      different = c.self.invariant.different;
      keyed = keyed_offered s.publics s.tokens.sets c.self.invariant.different s.store c.self.invariant.keyed
          told.0.key of_key c.args.arrival.g c.args.arrival.h c.args.arrival.origin c.args.goal c.offer_again.result c.offer_again.new.self told.2 c.offer_again.ensures.err;
    }

pub returns-clause-offered : goal.returns-clause-offered
returns-clause-offered c =
    let s = c.self.inside in
    let told =
    entry_told (λ (e : Entry Key). IfOk c.offer_again.result (λ answer. (answer, c.offer_again.new.self) ≡ offered same_key (new_entry e.key c.args.arrival.g c.args.arrival.h c.args.arrival.origin c.args.goal) s.store))
    (slice_get s.store.entries c.args.entry) c.offer_again.ensures.offered
    in
    let of_key = all_get (λ (e : Entry Key). IsKeyOf s.publics (length s.tokens.sets) e.key) s.store.entries c.args.entry told.0 c.self.invariant.keyed told.1 in
    let seen = ap (λ (x : KeptStates). x.kept) c.self.view_is in
    let state : state_of_key s.tokens.sets told.0.key ≡ reached_state c.args.state.now =
    best_has (reached_state c.args.state.now) c.args.self.now.kept c.args.entry c.requires.best (named_entry (state_of_key s.tokens.sets) told.0)
    (named_at s.tokens.sets s.store c.args.self.now.kept seen c.args.entry told.0 told.1)
    in
    seen_offered s.publics s.tokens.sets c.self.invariant.different s.store c.self.invariant.keyed
    told.0.key of_key c.args.arrival.g c.args.arrival.h c.args.arrival.origin c.args.goal c.offer_again.result c.offer_again.new.self
    (reached_state c.args.state.now) state c.args.self.now.kept seen told.2

pub returns-clause-sets : goal.returns-clause-sets
returns-clause-sets c =
    let s = c.self.inside in
    let inside : SentInside (named (state_of_key s.tokens.sets) s.store) =
    subst (λ (m : ℕ). All (λ n. n < m) s.store.sent) (sym (length-map s.store.entries (named_entry (state_of_key s.tokens.sets)))) c.count.ensures.sound.sent
    in
    offer_sets c.offer_again.result (entry_of (reached_state c.args.state.now) c.args.arrival c.args.goal) _ c.args.self.now.kept
    (subst (λ (x : KeptStates). SentInside x.kept) c.self.view_is inside) (returns-clause-offered c)
