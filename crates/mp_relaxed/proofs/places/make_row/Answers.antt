use Rattle.std.proofs.Common.{◌∙◌, ap, sym, subst, arith}
use Rattle.mp_relaxed.specs.Places.{AreEmptyWithin, placed}
use Rattle.mp_relaxed.proofs.PlaceLemmas.{empty_added, placed_added}
use Rattle.mp_relaxed.proofs.places.make_row.Goals as goal

pub each-preserved : goal.each-preserved
each-preserved c =
    let i = c.each.invariant in
    let row = c.new.result in
    let rows = c.each.rows.items in
    let none = c.new.ensures.items in
    let whole = c.in_ok-push.ensures.items in
    record {
      few = omega arith;
      kept = omega (arith, i.kept, c.in_ok-push.ensures.len);
      same = ap (placed 0) whole ∙ placed_added 0 rows row none ∙ i.same;
      empty = λ from to empty. subst (AreEmptyWithin from to) (sym whole) (empty_added rows row from to none (i.empty from to empty));
    }
