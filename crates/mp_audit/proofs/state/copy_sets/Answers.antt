use Rattle.std.proofs.Common.{◌∙◌, List, ap, arith}
use Rattle.std.specs.Prelude.{slice_set}
use Rattle.mp_sets.specs.Numbers.{SizedSet}
use Rattle.mp_audit.specs.States.{sizes_of}
use Rattle.mp_audit.proofs.FillLemmas.{all_written, same_length, sizes_written, some_set, written_next}
use Rattle.mp_audit.proofs.state.copy_sets.Goals as goal

pub copy_set-requires-clause-sizes : goal.copy_set-requires-clause-sizes
copy_set-requires-clause-sizes c =
    let l = c.loop-place in
    ap sizes_of l.invariant ∙ sizes_written c.args.sets.now c.args.copies.now.items l.place c.requires

pub loop-place-preserved : goal.loop-place-preserved
loop-place-preserved c =
    let l = c.loop-place in
    let sets = c.args.sets.now in
    let lt = c.loop-place-test.true in
    let here = some_set sets l.place lt in
    let room = same_length c.args.copies.now.items sets c.requires in
    c.copy_set.ensures here.0 here.1
    ∙ ap (λ (copies : List SizedSet). slice_set copies l.place here.0) l.invariant
    ∙ written_next sets c.args.copies.now.items l.place here.0 lt (omega (arith, lt, room)) here.1

pub returns : goal.returns
returns c =
    let l = c.loop-place in
    let past = c.loop-place-test.false in
    let room = same_length c.args.copies.now.items c.args.sets.now c.requires in
    l.invariant ∙ all_written c.args.sets.now c.args.copies.now.items l.place past (omega (arith, past, room))
