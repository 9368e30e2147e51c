use Rattle.std.proofs.Common.{ℕ, List, Option, length, sym, ap, subst, ◌∙◌}
use Rattle.mp_store.specs.declared.key.Key.{Key}
use Rattle.mp_store.specs.KeyRows.{key_at}
use Rattle.mp_store.specs.Minima.{popped}
use Rattle.mp_store.specs.Named.{named}
use Rattle.mp_store.specs.Record.{Record}
use Rattle.mp_store.specs.StoreFields.{IsStore}
use Rattle.mp_store.proofs.Entries.{have_popped, same_keys}
use Rattle.mp_store.proofs.Naming.{popped-named}
use Rattle.mp_store.proofs.Popped.{popped_among}
use Rattle.mp_store.proofs.store.Store.pop_least.Goals as goal

pub aim-requires-clause-count : goal.aim-requires-clause-count
aim-requires-clause-count c = c.self.invariant.count ∙ sym c.pop_least-least.ensures.keys

pub aim-requires-clause-inside : goal.aim-requires-clause-inside
aim-requires-clause-inside c =
    popped_among c.self.inside.numbers.kept c.pop_least-least.result c.pop_least-least.new.self.kept c.pop_least-least.ensures.popped

pub invariant_of-self : goal.invariant_of-self
invariant_of-self c =
    let s = c.self.inside in
    subst (λ (keys : List Key). IsStore (record { keys = keys; numbers = c.pop_least-least.new.self })) (sym c.aim.ensures)
    (same_keys s.keys s.numbers c.pop_least-least.new.self c.self.invariant.count c.self.invariant.once c.pop_least-least.ensures.keys c.pop_least-least.ensures.keyed
    (have_popped (length s.keys) s.numbers c.self.invariant.have c.pop_least-least.new.self c.pop_least-least.result c.pop_least-least.ensures.popped))

pub returns : goal.returns
returns c =
    let s = c.self.inside in
    (λ j. (c.pop_least-least.result, named (key_at (c.aim.ensures j)) c.pop_least-least.new.self.kept))
    ∙ ap (λ (p : Option ℕ × Record ℕ). (p.0, named (key_at s.keys) p.1)) c.pop_least-least.ensures.popped
    ∙ sym (popped-named (key_at s.keys) s.numbers.kept)
    ∙ ap popped c.self.view_is
