use Rattle.std.proofs.Common.{◌-◌, List, length, take, sym, ap, subst, ◌∙◌, arith}
use Rattle.mp_store.specs.declared.key.Key.{Key}
use Rattle.mp_store.specs.KeyRows.{keys_at, AreKeys}
use Rattle.mp_store.proofs.KeyRowLemmas.{are_popped, keys_once, keys_popped}
use Rattle.mp_store.proofs.keys.Keys.pop.Goals as goal

pub invariant_of-self : goal.invariant_of-self
invariant_of-self c =
    let s = c.self.inside in
    subst (AreKeys s.tags.keys) (sym c.pop.ensures) (are_popped s.tags.keys s.rows (length s.rows - 1) (omega arith) c.self.invariant)

pub returns-clause-popped : goal.returns-clause-popped
returns-clause-popped c =
    let s = c.self.inside in
    ap (keys_at s.tags.keys) c.pop.ensures
    ∙ keys_popped s.tags.keys s.rows
    ∙ ap (λ (keys : List Key). take (length keys - 1) keys) c.self.view_is

pub returns-clause-once : goal.returns-clause-once
returns-clause-once c =
    let s = c.self.inside in
    keys_once s.tags.keys c.pop.new.self
    (subst (AreKeys s.tags.keys) (sym c.pop.ensures) (are_popped s.tags.keys s.rows (length s.rows - 1) (omega arith) c.self.invariant))
