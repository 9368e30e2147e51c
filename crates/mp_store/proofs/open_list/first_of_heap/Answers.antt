use Rattle.std.proofs.Common.{sym}
use Rattle.std.specs.BinaryHeap.{heap_items}
use Rattle.mp_store.proofs.RankLemmas.{top_is_first}
use Rattle.mp_store.proofs.open_list.first_of_heap.Goals as goal

pub returns-in-Some : goal.returns-in-Some
returns-in-Some c =
    let item = c.in-Some.ensures.item in
    sym (top_is_first c.in-Some.rank.now (heap_items c.args.heap.now) (0, item.3.0, sym item.1) (c.in-Some.ensures.greatest c.requires))
