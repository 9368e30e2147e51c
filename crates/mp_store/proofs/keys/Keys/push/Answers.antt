use Rattle.std.proofs.Common.{ℕ, List, ◌<◌, ◌≡◌, length, sym, subst}
use Rattle.mp_store.specs.declared.key.Key.{Key}
use Rattle.mp_store.specs.KeyRows.{key_at}
use Rattle.mp_store.proofs.KeyRowLemmas.{keys_once}
use Rattle.mp_store.proofs.keys.Keys.push.Goals as goal

pub push_key-requires-clause-new : goal.push_key-requires-clause-new
push_key-requires-clause-new c =
    subst (λ (keys : List Key). (n : ℕ) → n < length keys → key_at keys n ≡ c.args.key.now → ⊥) (sym c.self.view_is) c.requires

pub returns-clause-once : goal.returns-clause-once
returns-clause-once c = keys_once c.push_key.new.tags.keys c.push_key.new.rows c.push_key.ensures.keys
