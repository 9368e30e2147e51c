use Rattle.std.proofs.Common.{List, ◌∷◌, ◌++◌, sym, ap, subst, ◌∙◌}
use Rattle.std.specs.BinaryHeap.{heap_items}
use Rattle.std.specs.Prelude.{IfSome, IsPermutation}
use Rattle.mp_store.specs.declared.rank.Rank.{Rank}
use Rattle.mp_store.specs.OpenFields.{listed}
use Rattle.mp_store.specs.Ranks.{first_rank}
use Rattle.mp_store.proofs.OpenLemmas.{first_taken, other_taken, taken_before, taken_behind}
use Rattle.mp_store.proofs.open_list.OpenList.pop_first.Goals as goal

pub returns-then-is_ahead-clause-first : goal.returns-then-is_ahead-clause-first
returns-then-is_ahead-clause-first c =
    let s = c.self.inside in
    c.pop_in_order.ensures.first
    ∙ first_taken s.in_order.items (listed (heap_items s.heap)) c.first_in_order.result c.first_of_heap.result c.first_in_order.ensures c.first_of_heap.ensures (sym c.is_ahead.ensures ∙ c.if-is_ahead.true)
    ∙ ap first_rank c.self.view_is

pub returns-then-is_ahead-clause-rest : goal.returns-then-is_ahead-clause-rest
returns-then-is_ahead-clause-rest c =
    let s = c.self.inside in
    let others = listed (heap_items s.heap) in
    let left = c.pop_in_order.new.ranks.items in
    subst (λ (l : List Rank). IfSome c.pop_in_order.result (λ rank. IsPermutation l (rank ∷ (left ++ others)))) c.self.view_is
    (taken_before s.in_order.items left others c.pop_in_order.result c.pop_in_order.ensures.rest)

pub returns-else-is_ahead-clause-first : goal.returns-else-is_ahead-clause-first
returns-else-is_ahead-clause-first c =
    let s = c.self.inside in
    c.pop_heap.ensures.first
    ∙ other_taken s.in_order.items (listed (heap_items s.heap)) c.first_in_order.result c.first_of_heap.result c.first_in_order.ensures c.first_of_heap.ensures (sym c.is_ahead.ensures ∙ c.if-is_ahead.false)
    ∙ ap first_rank c.self.view_is

pub returns-else-is_ahead-clause-rest : goal.returns-else-is_ahead-clause-rest
returns-else-is_ahead-clause-rest c =
    let s = c.self.inside in
    let left = listed (heap_items c.pop_heap.new.heap) in
    subst (λ (l : List Rank). IfSome c.pop_heap.result (λ rank. IsPermutation l (rank ∷ (s.in_order.items ++ left)))) c.self.view_is
    (taken_behind s.in_order.items (listed (heap_items s.heap)) left c.pop_heap.result c.pop_heap.ensures.rest)
