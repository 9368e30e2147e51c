use Rattle.std.proofs.Common.{◌∷◌, sym}
use Rattle.std.proofs.lemmas.List.Sorted.{Contains-permutation, IsPermutation-map, IsPermutation-sym}
use Rattle.std.specs.BinaryHeap.{heap_items}
use Rattle.std.specs.declared.cmp.Reverse.{Reverse}
use Rattle.mp_list.proofs.Members.{contains_head}
use Rattle.mp_store.specs.declared.rank.Rank.{Rank}
use Rattle.mp_store.proofs.RankLemmas.{top_is_first}
use Rattle.mp_store.proofs.open_list.pop_heap.Goals as goal

pub returns-clause-first : goal.returns-clause-first
returns-clause-first c =
    let old = heap_items c.args.heap.now in
    let new = heap_items c.pop.new.self in
    let x = c.in_ok-rank.field-0 in
    sym (top_is_first x old
    (Contains-permutation (x ∷ new) old x (IsPermutation-sym old (x ∷ new) c.in_ok-rank.ensures.permutation) (contains_head x new))
    (c.in_ok-rank.ensures.heap_order c.requires).1)

pub returns-clause-rest : goal.returns-clause-rest
returns-clause-rest c = IsPermutation-map (λ (q : Reverse Rank). q.0) _ _ c.in_ok-rank.ensures.permutation
