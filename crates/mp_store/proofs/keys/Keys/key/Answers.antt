use Rattle.std.proofs.Common.{◌<◌, List, [], length, sym, ap, subst, ◌∙◌, arith}
use Rattle.mp_sets.specs.declared.tag.Tag.{Tag}
use Rattle.mp_store.specs.declared.key.Key.{Key}
use Rattle.mp_store.specs.KeyRows.{key_at, key_in, IsKeyRow}
use Rattle.mp_store.proofs.KeyRowLemmas.{key_is, keys_long}
use Rattle.mp_store.proofs.keys.Keys.key.Goals as goal

pub row-row-requires : goal.row-row-requires
row-row-requires c =
    let s = c.self.inside in
    let inside = subst (λ (keys : List Key). c.args.place < length keys) (sym c.self.view_is) c.requires in
    omega (arith, inside, keys_long s.tags.keys s.rows)

pub view_of-requires : goal.view_of-requires
view_of-requires c =
    let s = c.self.inside in
    let there = subst (λ (keys : List Key). c.args.place < length keys) (sym c.self.view_is) c.requires in
    let inside : c.args.place < length s.rows = omega (arith, there, keys_long s.tags.keys s.rows) in
    subst (λ (ts : List (List Tag)). IsKeyRow (length ts) c.row-row.result.now) (sym c.as_slice.ensures.keys)
    (subst (IsKeyRow (length s.tags.keys)) (sym c.row-row.ensures) (c.self.invariant.rows_are c.args.place [] inside))

pub returns : goal.returns
returns c =
    let s = c.self.inside in
    let there = subst (λ (keys : List Key). c.args.place < length keys) (sym c.self.view_is) c.requires in
    let inside : c.args.place < length s.rows = omega (arith, there, keys_long s.tags.keys s.rows) in
    c.view_of.ensures
    ∙ (λ j. key_in (c.as_slice.ensures.keys j) (c.row-row.ensures j))
    ∙ sym (key_is s.tags.keys s.rows c.args.place inside)
    ∙ ap (λ (keys : List Key). key_at keys c.args.place) c.self.view_is
