use Rattle.std.proofs.Common.{◌∙◌, ℕ, List, slice_get, ap, arith}
use Rattle.std.specs.Prelude.{option_map, slice_set}
use Rattle.mp_sets.specs.Numbers.{SizedSet}
use Rattle.mp_audit.specs.Audited.{set_of}
use Rattle.mp_audit.specs.States.{no_privates, sized_sets}
use Rattle.mp_audit.proofs.FillLemmas.{all_written, length_sets, length_sized, none_there, not_written, size_there, sized_at, task_there, written_next}
use Rattle.mp_audit.proofs.FitLemmas.{fits_at, fits_length}
use Rattle.mp_audit.proofs.state.fill_privates.Goals as goal

pub privates_at-facts-requires : goal.privates_at-facts-requires
privates_at-facts-requires c =
    let lt = c.loop-place-test.true in
    let lengths = fits_length c.args.tasks.now c.args.bound.now.privates c.requires.fits in
    omega (arith, lt, lengths)

pub fill_own-requires-clause-size : goal.fill_own-requires-clause-size
fill_own-requires-clause-size c =
    let l = c.loop-place in
    let tasks = c.args.tasks.now in
    let lists = c.args.bound.now.privates in
    let t = c.index-tasks-place.result in
    let lt = c.loop-place-test.true in
    let there = task_there tasks l.place t lt c.index-tasks-place.is in
    let size : SizedSet → ℕ = λ s. s.size in
    let count = length_sized tasks lists c.requires.fits in
    let room = length_sets tasks c.args.sets.now.items c.requires.sizes in
    ap (λ (sets : List SizedSet). option_map size (slice_get sets l.place)) l.invariant
    ∙ ap (option_map size) (not_written (sized_sets tasks lists) c.args.sets.now.items l.place (no_privates t) (omega (arith, lt, count)) (omega (arith, lt, room)))
    ∙ size_there (λ u. u.privates) tasks c.args.sets.now.items l.place t c.requires.sizes there

pub fill_own-requires-clause-none : goal.fill_own-requires-clause-none
fill_own-requires-clause-none c =
    let t = c.index-tasks-place.result in
    none_there c.args.tasks.now c.args.none.now c.loop-place.place t c.requires.none (task_there c.args.tasks.now c.loop-place.place t c.loop-place-test.true c.index-tasks-place.is)

pub fill_own-requires-clause-facts : goal.fill_own-requires-clause-facts
fill_own-requires-clause-facts c =
    fits_at c.args.tasks.now c.args.bound.now.privates c.loop-place.place c.index-tasks-place.result c.privates_at-facts.result.now c.requires.fits
    c.loop-place-test.true c.index-tasks-place.is c.privates_at-facts.ensures.is

pub loop-place-preserved : goal.loop-place-preserved
loop-place-preserved c =
    let l = c.loop-place in
    let tasks = c.args.tasks.now in
    let lists = c.args.bound.now.privates in
    let t = c.index-tasks-place.result in
    let lt = c.loop-place-test.true in
    let made : SizedSet = record { size = t.privates; members = set_of c.privates_at-facts.result.now } in
    let count = length_sized tasks lists c.requires.fits in
    let room = length_sets tasks c.args.sets.now.items c.requires.sizes in
    c.fill_own.ensures
    ∙ ap (λ (sets : List SizedSet). slice_set sets l.place made) l.invariant
    ∙ written_next (sized_sets tasks lists) c.args.sets.now.items l.place made (omega (arith, lt, count)) (omega (arith, lt, room))
    (sized_at tasks lists l.place t c.privates_at-facts.result.now made c.requires.fits lt c.index-tasks-place.is c.privates_at-facts.ensures.is)

pub returns : goal.returns
returns c =
    let l = c.loop-place in
    let tasks = c.args.tasks.now in
    let lists = c.args.bound.now.privates in
    let past = c.loop-place-test.false in
    let count = length_sized tasks lists c.requires.fits in
    let room = length_sets tasks c.args.sets.now.items c.requires.sizes in
    l.invariant ∙ all_written (sized_sets tasks lists) c.args.sets.now.items l.place (omega (arith, past, count)) (omega (arith, past, room))
