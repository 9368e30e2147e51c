use Rattle.std.proofs.Common.{◌≡◌, ℕ, ◌<◌, length, Option, Some, sym, ap, subst, ◌∙◌}
use Rattle.std.specs.Prelude.{slice_get}
use Rattle.mp_tokens.specs.Order.{place, set_at, with_set}
use Rattle.mp_tokens.specs.Table.{TokenTable}
use Rattle.mp_store.specs.declared.entry.Entry.{Entry}
use Rattle.mp_store.specs.declared.key.Key.{Key}
use Rattle.mp_store.specs.Keys.{same_key}
use Rattle.mp_store.specs.Named.{named}
use Rattle.mp_store.specs.Record.{Record}
use Rattle.mp_store.specs.Sent.{mark_sent}
use Rattle.mp_store.specs.Views.{Shows}
use Rattle.mp_store.proofs.Naming.{mark_sent-named}
use Rattle.mp_search.specs.AgentState.{AgentState, same_state}
use Rattle.mp_search.specs.StateKeys.{IsKeyOf, KeptStates, state_of_key}
use Rattle.mp_search.proofs.KeyedStates.{all_get, apart, entry_told, mine_of_key}
use Rattle.mp_search.proofs.states.States.send.Goals as goal

pub returns-in_default-clause-sent : goal.returns-in_default-clause-sent
returns-in_default-clause-sent c =
    let s = c.self.inside in
    let name = state_of_key s.tokens.sets in
    record {
      marked =
          ap (λ (o : Option ℕ). (o, named name c.mark_sent.new.self)) (sym c.in_default.is)
          ∙ ap (λ (p : Option ℕ × Record Key). (p.0, named name p.1)) c.in_ok-number.ensures.sent
          ∙ sym (mark_sent-named name same_key same_state (IsKeyOf s.publics (length s.tokens.sets)) (apart s.publics s.tokens.sets c.self.invariant.different) c.args.entry s.store c.self.invariant.keyed)
          ∙ ap (λ (x : KeptStates). mark_sent same_state c.args.entry x.kept) c.self.view_is;
      used = λ e is. ap (λ (x : KeptStates). x.used) c.self.view_is;
      token = λ e is. tt;
    }

pub token_of-requires : goal.token_of-requires
token_of-requires c =
    let s = c.self.inside in
    let told = entry_told (Shows c.entry-index.result) _ c.entry-index.ensures in
    let of_key = all_get (λ (e : Entry Key). IsKeyOf s.publics (length s.tokens.sets) e.key) s.store.entries c.args.entry told.0 c.self.invariant.keyed told.1 in
    subst (λ (k : Key). k.mine < length s.tokens.sets) (sym told.2.key) of_key.index

pub returns-clause-sent : goal.returns-clause-sent
returns-clause-sent c =
    let s = c.self.inside in
    let sets_are : c.token_of.new.self.sets ≡ s.tokens.sets = ap (λ (t : TokenTable). t.sets) c.in_ok-token.ensures.used in
    let name = state_of_key s.tokens.sets in
    let told = entry_told (Shows c.entry-index.result) _ c.entry-index.ensures in
    let index = c.entry-index.result.key.mine in
    let mine : (e : Entry AgentState) → slice_get c.args.self.now.kept.entries c.args.entry ≡ Some e → set_at s.tokens.sets index ≡ e.key.mine =
    λ e is.
    ap (λ (k : Key). set_at s.tokens.sets k.mine) told.2.key
    ∙ sym (mine_of_key s.tokens.sets s.store c.args.entry told.0 e told.1
    (ap (λ (x : KeptStates). slice_get x.kept.entries c.args.entry) c.self.view_is ∙ is))
    in
    record {
      marked =
          (λ j. (Some c.in-Some.number, named (state_of_key (sets_are j)) c.mark_sent.new.self))
          ∙ ap (λ (o : Option ℕ). (o, named name c.mark_sent.new.self)) (sym c.in-Some.is)
          ∙ ap (λ (p : Option ℕ × Record Key). (p.0, named name p.1)) c.in_ok-number.ensures.sent
          ∙ sym (mark_sent-named name same_key same_state (IsKeyOf s.publics (length s.tokens.sets)) (apart s.publics s.tokens.sets c.self.invariant.different) c.args.entry s.store c.self.invariant.keyed)
          ∙ ap (λ (x : KeptStates). mark_sent same_state c.args.entry x.kept) c.self.view_is;
      used = λ e is.
          ap (λ (t : TokenTable). t.used) c.in_ok-token.ensures.used
          ∙ (λ j. with_set (c.self.view_is j).used (mine e is j));
      token = λ e is. c.in_ok-token.ensures.token ∙ ap (place c.token_of.new.self.used) (mine e is);
    }
