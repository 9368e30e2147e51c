-- All numbers below a count.
use Rattle.mp_typing.proofs.Basics.{◌≡◌, ℕ, ◌+◌, ◌<◌, List, [], ◌∷◌, ◌++◌, sym, ap, ◌∙◌, arith, zero-add, ◌↔◌, Contains, range_with_len, IsStrictlyIncreasing}
use Rattle.std.proofs.lemmas.List.FromFn.{length-range_with_len, get_or-range_with_len, map-range_with_len_more}
use Rattle.std.proofs.lemmas.List.{map-id}

pub counted_on : (list after : List ℕ) (n : ℕ) → list ≡ range_with_len 0 n → after ≡ list ++ n ∷ [] → after ≡ range_with_len 0 (n + 1)
counted_on list after n is longer =
    longer ∙ ap (λ (ns : List ℕ). ns ++ n ∷ []) (is ∙ sym (map-id (range_with_len 0 n)))
    ∙ sym (map-range_with_len_more (λ (m : ℕ). m) 0 n n (zero-add n)) ∙ map-id (range_with_len 0 (n + 1))

pub in_range : (n place : ℕ) → Contains (range_with_len 0 n) place ↔ (place < n)
in_range n place =
    let long = length-range_with_len 0 n in (
      (λ found.
          let (k, lt, is) = found in
          let same : place ≡ 0 + k = sym is ∙ get_or-range_with_len 0 n k place (omega (arith, lt, long)) in
          omega (arith, lt, long, same)),
      (λ lt. (place, omega (arith, lt, long), get_or-range_with_len 0 n place place lt ∙ zero-add place)),
    )

pub range_rises : (n : ℕ) → IsStrictlyIncreasing (range_with_len 0 n)
range_rises n = λ k lt.
    let long = length-range_with_len 0 n in
    let here = get_or-range_with_len 0 n k 0 (omega (arith, lt, long)) in
    let next = get_or-range_with_len 0 n (k + 1) 0 (omega (arith, lt, long)) in
    omega (arith, here, next)
