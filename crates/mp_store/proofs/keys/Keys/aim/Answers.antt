use Rattle.std.proofs.Common.{◌<◌, List, [], length, sym, subst, arith}
use Rattle.mp_store.specs.declared.key.Key.{Key}
use Rattle.mp_store.specs.KeyRows.{IsKeyRow}
use Rattle.mp_store.proofs.KeyRowLemmas.{keys_long}
use Rattle.mp_store.proofs.keys.Keys.aim.Goals as goal

pub row-requires : goal.row-requires
row-requires c =
    let s = c.self.inside in
    let inside = subst (λ (keys : List Key). c.args.place < length keys) (sym c.self.view_is) c.requires in
    omega (arith, inside, keys_long s.tags.keys s.rows)

pub place_in-self-inside-requires : goal.place_in-self-inside-requires
place_in-self-inside-requires c =
    let s = c.self.inside in
    let there = subst (λ (keys : List Key). c.args.place < length keys) (sym c.self.view_is) c.requires in
    let inside : c.args.place < length s.rows = omega (arith, there, keys_long s.tags.keys s.rows) in
    (subst (IsKeyRow (length s.tags.keys)) (sym c.row.ensures) (c.self.invariant.rows_are c.args.place [] inside)).long
