use Rattle.mp_split.proofs.Basics.{get_or, map, subst, sym, slice_index_or, IsStrictlyIncreasing}
use Rattle.std.proofs.lemmas.List.{get_or_default}
use Rattle.mp_sets.specs.Numbers.{IsAboveLast}
use Rattle.mp_split.proofs.Numbering.{may_follow, renumbered_rise}
use Rattle.mp_split.proofs.numbers.numbers_at.Goals as goal

pub push-requires : goal.push-requires
push-requires c =
    let all = c.as_slice-all.result.now in
    let places = c.as_slice-place-items.result.now in
    let l = c.loop-place in
    let at = get_or places l.place-index 0 in
    let rises : IsStrictlyIncreasing (map (λ n. slice_index_or all n 0) places) =
    rw (c.as_slice-all.ensures.numbers, c.as_slice-place-items.ensures.numbers)
    (renumbered_rise c.args.numbers.now c.args.places.now c.as_slice-all.ensures.rising c.as_slice-place-items.ensures.rising c.requires) in
    subst (IsAboveLast l.out) (sym c.number_at.ensures)
    (may_follow (λ n. slice_index_or all n 0) places l.place-index at l.out rises c.loop-place-test.true
    (get_or_default places l.place-index 0 at c.loop-place-test.true) l.invariant)
