use Rattle.mp_audit.proofs.FillLemmas.{same_sizes}
use Rattle.mp_audit.proofs.state.copy_set.Goals as goal

pub copy_from-requires : goal.copy_from-requires
copy_from-requires c =
    same_sizes c.args.copies.now.items c.args.sets.now c.args.place c.index_mut.result.now c.index-sets-place.result c.requires.sizes c.requires.inside c.index_mut.ensures.value
    c.index-sets-place.is
