use Rattle.mp_audit.proofs.SizeLemmas.{own_members, own_size, own_within}
use Rattle.mp_audit.proofs.successor.own.Goals as goal

pub bounds-sets-place : goal.bounds-sets-place
bounds-sets-place c =
    own_within c.args.task.now c.args.state.now c.as_slice-sets.result.now c.place_of-place.result c.as_slice-sets.ensures.value c.place_of-place.ensures c.requires

pub returns-clause-members : goal.returns-clause-members
returns-clause-members c =
    own_members c.args.task.now c.args.state.now c.as_slice-sets.result.now c.place_of-place.result c.as_slice-sets.ensures.value c.place_of-place.ensures c.requires
    c.index-sets-place.result c.index-sets-place.is

pub returns-clause-size : goal.returns-clause-size
returns-clause-size c =
    own_size c.args.task.now c.args.state.now c.as_slice-sets.result.now c.place_of-place.result c.as_slice-sets.ensures.value c.place_of-place.ensures c.requires
    c.index-sets-place.result c.index-sets-place.is
