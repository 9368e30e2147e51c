use Rattle.mp_applicable.proofs.ListingLemmas.{taken_at}
use Rattle.mp_applicable.proofs.building.push_at.Goals as goal

pub returns : goal.returns
returns c =
    taken_at c.args.lists.now.items c.args.fact c.args.number _ c.push.new.self c.requires c.index_mut.ensures.value c.in_ok-push.ensures.ok
