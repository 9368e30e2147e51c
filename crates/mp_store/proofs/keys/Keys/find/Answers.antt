use Rattle.std.proofs.Common.{ℕ, List, ◌<◌, ◌≡◌, length, subst}
use Rattle.std.specs.Prelude.{IfNone, IfSome}
use Rattle.mp_store.specs.declared.key.Key.{Key}
use Rattle.mp_store.specs.KeyRows.{key_at}
use Rattle.mp_store.proofs.keys.Keys.find.Goals as goal

pub returns-clause-found : goal.returns-clause-found
returns-clause-found c =
    subst (λ (keys : List Key). IfSome c.find_key.result (λ n. (n < length keys) × (key_at keys n ≡ c.args.key.now))) c.self.view_is c.find_key.ensures.found

pub returns-clause-none : goal.returns-clause-none
returns-clause-none c =
    subst (λ (keys : List Key). IfNone c.find_key.result ((n : ℕ) → n < length keys → key_at keys n ≡ c.args.key.now → ⊥)) c.self.view_is c.find_key.ensures.none
