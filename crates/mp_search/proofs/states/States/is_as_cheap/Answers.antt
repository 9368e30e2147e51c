use Rattle.std.proofs.Common.{◌≡◌, ℕ, sym, ap, ◌∙◌}
use Rattle.std.specs.Prelude.{nat_le, slice_get}
use Rattle.mp_store.specs.declared.entry.Entry.{Entry}
use Rattle.mp_store.specs.declared.key.Key.{Key}
use Rattle.mp_store.specs.Named.{named_entry}
use Rattle.mp_search.specs.AgentState.{same_state}
use Rattle.mp_search.specs.StateKeys.{KeptStates, state_of_key}
use Rattle.mp_search.proofs.KeyedStates.{entry_told, named_at}
use Rattle.mp_store.proofs.BestLemmas.{unknown}
use Rattle.mp_search.proofs.KnownStates.{known_best}
use Rattle.mp_search.proofs.states.States.is_as_cheap.Goals as goal

pub returns-in-Some : goal.returns-in-Some
returns-in-Some c = λ state is.
    let s = c.self.inside in
    let r = c.args.self.now.kept in
    let n = c.in-Some.number in
    let told = entry_told (λ (e : Entry Key). c.cost.result ≡ e.g) (slice_get s.store.entries n) c.cost.ensures in
    ap (λ (g : ℕ). nat_le g c.args.g) told.2
    ∙ sym (known_best same_state state r c.args.g n (named_entry (state_of_key s.tokens.sets) told.0) (sym is ∙ c.in-Some.is)
    (named_at s.tokens.sets s.store r (ap (λ (x : KeptStates). x.kept) c.self.view_is) n told.0 told.1))

pub returns-in-None : goal.returns-in-None
returns-in-None c = λ state is. sym (unknown same_state state c.args.self.now.kept c.args.g (sym is ∙ c.in-None.is))
