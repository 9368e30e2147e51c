use Rattle.std.proofs.Common.{List, ◌∷◌, ◌++◌, sym, subst}
use Rattle.std.proofs.lemmas.List.Sorted.{IsPermutation-map}
use Rattle.std.specs.BinaryHeap.{heap_items}
use Rattle.std.specs.Prelude.{IsPermutation}
use Rattle.std.specs.declared.cmp.Reverse.{Reverse}
use Rattle.mp_store.specs.declared.rank.Rank.{Rank}
use Rattle.mp_store.specs.OpenFields.{listed}
use Rattle.mp_store.proofs.OpenLemmas.{added_before, added_behind}
use Rattle.mp_store.proofs.open_list.OpenList.insert.Goals as goal

pub returns-in_ok-push_back-clause-ok : goal.returns-in_ok-push_back-clause-ok
returns-in_ok-push_back-clause-ok c =
    let s = c.self.inside in
    let others = listed (heap_items s.heap) in
    subst (λ (l : List Rank). IsPermutation (c.args.rank ∷ l) (c.push_back.new.self.items ++ others)) c.self.view_is
    (subst (λ (l : List Rank). IsPermutation (c.args.rank ∷ (s.in_order.items ++ others)) (l ++ others)) (sym c.in_ok-push_back.ensures.items)
    (added_before s.in_order.items others c.args.rank))

pub returns-in_ok-push-clause-ok : goal.returns-in_ok-push-clause-ok
returns-in_ok-push-clause-ok c =
    let s = c.self.inside in
    let new = listed (heap_items c.push.new.self) in
    subst (λ (l : List Rank). IsPermutation (c.args.rank ∷ l) (s.in_order.items ++ new)) c.self.view_is
    (added_behind s.in_order.items (listed (heap_items s.heap)) new c.args.rank
    (IsPermutation-map (λ (q : Reverse Rank). q.0) _ _ c.in_ok-push.ensures.permutation))
