use Rattle.std.proofs.Common.{◌≡◌, ◌<◌, ◌-◌, suc, List, ℕ, length, sym, ap, subst, ◌∙◌, arith}
use Rattle.mp_audit.proofs.ChainLemmas.{at_inside, at_within, found_here, walk_on, walk_smaller, walk_start}
use Rattle.mp_audit.proofs.chains.find.Goals as goal

pub place_of-place-requires : goal.place_of-place-requires
place_of-place-requires c = subst (λ (xs : List ℕ). 0 < length xs) (sym c.as_slice-last.ensures.value) c.requires.chained.some_place

pub loop-number-init : goal.loop-number-init
loop-number-init c =
    walk_start c.args.tasks.now c.args.bounds.now.entries c.args.chains.now c.requires.fits c.requires.chained c.args.agent c.args.state.now c.requires.sizes
    c.as_slice-last.result.now c.place_of-place.result c.number_at-number.result c.as_slice-last.ensures.value c.place_of-place.ensures.place
    c.place_of-place.ensures.within c.number_at-number.ensures

pub entry-bound-requires : goal.entry-bound-requires
entry-bound-requires c =
    let some = c.loop-number-test.true in
    let next : c.loop-number.number ≡ suc (c.loop-number.number - 1) = omega (arith, some) in
    at_within c.args.tasks.now c.args.bounds.now.entries c.args.chains.now c.requires.fits c.requires.chained c.args.agent c.args.state.now c.requires.sizes
    c.loop-number.number (c.loop-number.number - 1) c.loop-number.invariant next

pub number_at-earlier-requires : goal.number_at-earlier-requires
number_at-earlier-requires c =
    let some = c.loop-number-test.true in
    let next : c.loop-number.number ≡ suc (c.loop-number.number - 1) = omega (arith, some) in
    let inside = at_inside c.args.tasks.now c.args.bounds.now.entries c.args.chains.now c.requires.fits c.requires.chained c.args.agent c.args.state.now c.requires.sizes
    c.loop-number.number (c.loop-number.number - 1) c.loop-number.invariant next in
    let lengths = ap length c.as_slice-before.ensures.value in
    omega (arith, inside, lengths)

pub loop-number-preserved : goal.loop-number-preserved
loop-number-preserved c =
    let some = c.loop-number-test.true in
    let next : c.loop-number.number ≡ suc (c.loop-number.number - 1) = omega (arith, some) in
    walk_on c.args.tasks.now c.args.bounds.now.entries c.args.chains.now c.requires.fits c.requires.chained c.args.agent c.args.state.now c.requires.sizes
    c.loop-number.number (c.loop-number.number - 1) c.loop-number.invariant next c.entry-bound.result c.entry-bound.ensures.is
    c.as_slice-before.result.now c.number_at-earlier.result c.as_slice-before.ensures.value c.number_at-earlier.ensures
    (sym c.is_entry_of.ensures ∙ c.if-is_entry_of.false)

pub loop-number-smaller : goal.loop-number-smaller
loop-number-smaller c =
    let some = c.loop-number-test.true in
    let next : c.loop-number.number ≡ suc (c.loop-number.number - 1) = omega (arith, some) in
    walk_smaller c.args.tasks.now c.args.bounds.now.entries c.args.chains.now c.requires.fits c.requires.chained c.args.agent c.args.state.now c.requires.sizes
    c.loop-number.number (c.loop-number.number - 1) c.loop-number.invariant next c.entry-bound.result c.entry-bound.ensures.is
    c.as_slice-before.result.now c.number_at-earlier.result c.as_slice-before.ensures.value c.number_at-earlier.ensures

pub returns-then-is_entry_of : goal.returns-then-is_entry_of
returns-then-is_entry_of c =
    let some = c.loop-number-test.true in
    let next : c.loop-number.number ≡ suc (c.loop-number.number - 1) = omega (arith, some) in (
      at_inside c.args.tasks.now c.args.bounds.now.entries c.args.chains.now c.requires.fits c.requires.chained c.args.agent c.args.state.now c.requires.sizes
          c.loop-number.number (c.loop-number.number - 1) c.loop-number.invariant next,
      found_here c.args.tasks.now c.args.bounds.now.entries c.args.chains.now c.requires.fits c.requires.chained c.args.agent c.args.state.now c.requires.sizes
          c.loop-number.number (c.loop-number.number - 1) c.loop-number.invariant next c.entry-bound.result c.entry-bound.ensures.is
          (sym c.is_entry_of.ensures ∙ c.if-is_entry_of.true),
    )

pub returns : goal.returns
returns c =
    let past = c.loop-number-test.false in
    λ i b inside there. c.loop-number.invariant.passed i b (omega (arith, past)) inside there
