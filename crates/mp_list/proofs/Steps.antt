-- The first of what the items of a list give, one item after the other, as a loop finds it.
use Rattle.std.proofs.Common.{◌≡◌, ℕ, suc, ◌+◌, ◌<◌, ◌≤◌, Bool, List, [], ◌++◌, length, get_or, drop, Option, sym, ap, ◌∙◌, drop-cons, arith}
use Rattle.std.proofs.Math.ListN.{drop_of_length-le}
use Rattle.std.specs.List.{flat_map}
use Rattle.mp_list.specs.First.{leftmost}
use Rattle.mp_list.proofs.FirstLemmas.{leftmost_append}

-- one item is looked at: what it gives, and what those behind it give
pub goes_on : {X F : Type 0} (before : F → F → Bool) (G : X → List F) (o o' whole : Option F) (xs : List X) (i : ℕ) (x : X)
    → i < length xs → x ≡ get_or xs i x
    → o' ≡ leftmost before o (G x)
    → leftmost before o (flat_map G (drop i xs)) ≡ whole
    → leftmost before o' (flat_map G (drop (i + 1) xs)) ≡ whole
goes_on {X} {F} before G o o' whole xs i x lt is found so_far =
    let next : suc i ≡ i + 1 = omega arith in
    let split : leftmost before o (flat_map G (drop i xs)) ≡ leftmost before (leftmost before o (G x)) (flat_map G (drop (suc i) xs)) =
    rw (drop-cons xs i x lt, ← is) (leftmost_append before o (G x) (flat_map G (drop (suc i) xs))) in
    ap (λ (n : ℕ). leftmost before o' (flat_map G (drop n xs))) (sym next)
    ∙ ap (λ (p : Option F). leftmost before p (flat_map G (drop (suc i) xs))) found
    ∙ sym split ∙ so_far

-- all items are looked at
pub ends : {X F : Type 0} (before : F → F → Bool) (G : X → List F) (o whole : Option F) (xs : List X) (i : ℕ)
    → length xs ≤ i → leftmost before o (flat_map G (drop i xs)) ≡ whole → o ≡ whole
ends {X} before G o whole xs i le so_far =
    let all_read : drop i xs ≡ [] = drop_of_length-le xs le in
    sym (ap (λ (ys : List X). leftmost before o (flat_map G ys)) all_read) ∙ so_far

-- what is found in one part, and then in the other
pub both : {F : Type 0} (before : F → F → Bool) (o o' o'' : Option F) (xs ys : List F)
    → o' ≡ leftmost before o xs → o'' ≡ leftmost before o' ys → o'' ≡ leftmost before o (xs ++ ys)
both {F} before o o' o'' xs ys first second =
    second ∙ ap (λ (p : Option F). leftmost before p ys) first ∙ sym (leftmost_append before o xs ys)
