-- The heap of a queue and its entries.
use Rattle.std.proofs.Common.{◌≡◌, ◌≤◌, false, List, [], ◌∷◌, ◌++◌, map, Result, Ok, Err, refl, sym, subst}
use Rattle.std.proofs.lemmas.List.Elements.{All-nil, All-cons}
use Rattle.std.proofs.lemmas.Map.Keys.{ge_from_not_lt}
use Rattle.std.proofs.lemmas.List.Sorted.{IsPermutation-append_left, IsPermutation-append_right, IsPermutation-middle, IsPermutation-sym, IsPermutation-trans}
use Rattle.std.specs.List.Sorted.{IsPermutation}
use Rattle.std.specs.BinaryHeap.{IsUpperBound}
use Rattle.std.specs.Result.{OnOk}
use Rattle.std.specs.Ordering.{is_lt, nat_cmp, ordering_then}
use Rattle.std.specs.declared.cmp.Ordering.{Ordering}
use Rattle.std.specs.declared.cmp.Ordering.TheVariants.{Less, Equal, Greater}
use Rattle.std.specs.declared.cmp.Reverse.{Reverse}
use Rattle.mp_relaxed.specs.Queue.{from_low}
use Rattle.mp_estimates.specs.Lowering.{Key}
use Rattle.mp_relaxed.specs.Search.{AreFrom}

first_not_less : (a b : Ordering) → is_lt (ordering_then a b) ≡ false → is_lt a ≡ false
first_not_less Less b e = e
first_not_less Equal b e = refl
first_not_less Greater b e = e

-- what a heap gives first has the least number
pub least_of : (x : Reverse Key) (xs : List (Reverse Key)) → IsUpperBound from_low x xs → AreFrom x.0.0 (map (λ (e : Reverse Key). e.0) xs)
least_of x [] h = All-nil (λ (k : Key). x.0.0 ≤ k.0)
least_of x (y ∷ ys) h =
    All-cons (λ (k : Key). x.0.0 ≤ k.0) y.0 (map (λ (e : Reverse Key). e.0) ys)
    (ge_from_not_lt y.0.0 x.0.0 (first_not_less (nat_cmp y.0.0 x.0.0) (nat_cmp y.0.1 x.0.1) h.0))
    (least_of x ys h.1)

-- entries of two parts

pub pushed_low : (low new rest : List Key) (k : Key) → IsPermutation (k ∷ low) new → IsPermutation (k ∷ (low ++ rest)) (new ++ rest)
pushed_low low new rest k pushed = IsPermutation-append_left rest (k ∷ low) new pushed

pub pushed_high : (low rest new : List Key) (k : Key) → IsPermutation (k ∷ rest) new → IsPermutation (k ∷ (low ++ rest)) (low ++ new)
pushed_high low rest new k pushed =
    IsPermutation-trans (k ∷ (low ++ rest)) (low ++ k ∷ rest) (low ++ new)
    (IsPermutation-sym (low ++ k ∷ rest) (k ∷ (low ++ rest)) (IsPermutation-middle low k rest))
    (IsPermutation-append_right low (k ∷ rest) new pushed)

pub popped_low : (low new rest : List Key) (k : Key) → IsPermutation low (k ∷ new) → IsPermutation (low ++ rest) (k ∷ (new ++ rest))
popped_low low new rest k popped = IsPermutation-append_left rest low (k ∷ new) popped

pub popped_high : (low fewer rest new : List Key) (k : Key) → low ≡ [] → fewer ≡ [] → IsPermutation rest (k ∷ new) → IsPermutation (low ++ rest) (k ∷ (fewer ++ new))
popped_high low fewer rest new k none still popped =
    subst (λ l. IsPermutation (l ++ rest) (k ∷ (fewer ++ new))) (sym none)
    (subst (λ l. IsPermutation rest (k ∷ (l ++ new))) (sym still) popped)

pub on_ok : {T E A B : Type 0} (r : Result T E) → (A → B) → OnOk r A → OnOk r B
on_ok (Ok x) f h = f h
on_ok (Err e) f h = h
