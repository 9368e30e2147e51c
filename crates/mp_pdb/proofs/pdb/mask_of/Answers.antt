use Rattle.std.proofs.Common.{◌+◌, sym, subst, arith}
use Rattle.std.specs.FinSet as set
use Rattle.mp_task.specs.Projected.{projected_state}
use Rattle.mp_pdb.specs.Masks.{ShowsFirst}
use Rattle.mp_pdb.proofs.MaskLemmas.{place_more}
use Rattle.mp_pdb.proofs.pdb.mask_of.Goals as goal

pub loop-place-preserved : goal.loop-place-preserved
loop-place-preserved c = λ t pubs below.
    let test = set.contains (projected_state t c.args.publics.now.members c.args.privates.now.members) in
    subst (ShowsFirst (c.loop-place.place + 1) c.args.facts.now test) (sym c.with_place-mask.ensures)
    (place_more c.args.facts.now test c.loop-place.place c.loop-place.mask c.holds.result (omega (arith, c.loop-place-test.true, c.requires.few)) (c.holds.ensures t pubs (below c.loop-place.place 0 (omega (arith, c.loop-place-test.true)))) (c.loop-place.invariant t pubs below))
