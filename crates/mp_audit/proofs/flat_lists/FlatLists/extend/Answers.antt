use Rattle.std.proofs.Common.{◌≡◌, ◌+◌, ◌++◌, ◌∷◌, [], ℕ, List, take, ap, sym, ◌∙◌, append_assoc, arith}
use Rattle.std.proofs.lemmas.List.{take_more}
use Rattle.std.proofs.lemmas.Option.{get_or_from_slice_get}
use Rattle.mp_audit.proofs.flat_lists.FlatLists.extend.Goals as goal

pub loop-at-preserved : goal.loop-at-preserved
loop-at-preserved c =
    let l = c.loop-at in
    let lists = c.all-others.result in
    let list = c.list.result.now in
    let old = c.args.self.now in
    let here = get_or_from_slice_get lists l.at list [] c.list.ensures.list in
    let more : take (l.at + 1) lists ≡ take l.at lists ++ list ∷ [] =
    take_more lists l.at [] (let lt = c.loop-at-test.true in let count = c.len-at-end.ensures in omega (arith, lt, count))
    ∙ ap (λ (x : List ℕ). take l.at lists ++ x ∷ []) here in
    c.in_ok-push.ensures.ok
    ∙ ap (λ (before : List (List ℕ)). before ++ list ∷ []) l.invariant
    ∙ append_assoc old (take l.at lists) (list ∷ [])
    ∙ ap (λ (added : List (List ℕ)). old ++ added) (sym more)
