use Rattle.mp_search.specs.AgentState.{AgentState}
use Rattle.mp_search.specs.Search.{sent_sets}
use Rattle.mp_search.proofs.SentSets.{popped_sets}
use Rattle.std.proofs.Common.{ℕ, Option, sym, ap, ◌∙◌}
use Rattle.mp_store.specs.declared.key.Key.{Key}
use Rattle.mp_store.specs.Minima.{popped}
use Rattle.mp_store.specs.Named.{named}
use Rattle.mp_store.specs.Record.{Record}
use Rattle.mp_store.proofs.Naming.{popped-named}
use Rattle.mp_search.specs.StateKeys.{KeptStates, state_of_key}
use Rattle.mp_search.proofs.states.States.pop_least.Goals as goal

pub returns-clause-popped : goal.returns-clause-popped
returns-clause-popped c =
    let name = state_of_key c.self.inside.tokens.sets in
    ap (λ (p : Option ℕ × Record Key). (p.0, named name p.1)) c.pop_least.ensures
    ∙ sym (popped-named name c.self.inside.store)
    ∙ ap (λ (x : KeptStates). popped x.kept) c.self.view_is

pub returns-clause-sets : goal.returns-clause-sets
returns-clause-sets c =
    ap (λ (p : Option ℕ × Record AgentState). sent_sets p.1) (returns-clause-popped c) ∙ popped_sets c.args.self.now.kept
