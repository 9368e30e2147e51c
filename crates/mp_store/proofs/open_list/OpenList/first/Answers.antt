use Rattle.std.proofs.Common.{sym, ap, ◌∙◌}
use Rattle.std.specs.BinaryHeap.{heap_items}
use Rattle.mp_store.specs.OpenFields.{listed, sooner_of}
use Rattle.mp_store.specs.Ranks.{first_rank}
use Rattle.mp_store.proofs.OpenLemmas.{joined_first}
use Rattle.mp_store.proofs.open_list.OpenList.first.Goals as goal

pub returns : goal.returns
returns c =
    let s = c.self.inside in
    c.sooner_of.ensures
    ∙ (λ j. sooner_of (c.first_in_order.ensures j) (c.first_of_heap.ensures j))
    ∙ sym (joined_first s.in_order.items (listed (heap_items s.heap)))
    ∙ ap first_rank c.self.view_is
