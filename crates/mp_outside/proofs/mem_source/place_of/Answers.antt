use Rattle.mp_outside.proofs.Files.{HasName, whole_at, named_at}
use Rattle.mp_outside.proofs.mem_source.place_of.Goals as goal

pub returns-then-eq-clause-whole : goal.returns-then-eq-clause-whole
returns-then-eq-clause-whole c =
    let h : HasName c.args.files.now c.loop-place.place c.index-files-place.result c.as_str.result.now c.args.name.now
    = record { within = c.loop-place-test.true; is = c.index-files-place.is; value = c.as_str.ensures.value; same = c.if-eq.ensures } in
    whole_at _ _ _ _ _ h c.loop-place.invariant

pub returns-then-eq-clause-name : goal.returns-then-eq-clause-name
returns-then-eq-clause-name c =
    let h : HasName c.args.files.now c.loop-place.place c.index-files-place.result c.as_str.result.now c.args.name.now
    = record { within = c.loop-place-test.true; is = c.index-files-place.is; value = c.as_str.ensures.value; same = c.if-eq.ensures } in
    named_at _ _ _ _ _ h
