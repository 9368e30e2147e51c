-- Texts in order are no more than they were.
use Rattle.mp_grounder.proofs.Basics.{arith, ◌+◌, ◌≤◌, List, [], ◌∷◌, length, subst, Ordering, Less, Greater, slice_cmp, nat_cmp, Text, sorted_once}
use Rattle.std.proofs.Common.{Equal}
use Rattle.std.specs.BTreeSet.{insert_key}
use Rattle.std.specs.Cmp.Lexicographic.{nat_list_cmp_total}
use Rattle.std.specs.Ordering.{match_ordering}
use Rattle.mp_views.proofs.SortedLemmas.{all_sorted, with_all}

one_more : (texts : List Text) (t : Text) → length (insert_key (slice_cmp nat_cmp) texts t) ≤ length texts + 1
one_more [] t = omega arith
one_more (u ∷ us) t =
    let rest = one_more us t in
    elim (slice_cmp nat_cmp t u) as (λ (o : Ordering). length (match_ordering o (t ∷ u ∷ us) (u ∷ us) (u ∷ insert_key (slice_cmp nat_cmp) us t)) ≤ length (u ∷ us) + 1) [
      | Less ↦ omega arith
      | Equal ↦ omega arith
      | Greater ↦ omega (arith, rest)
    ]

no_more : (texts : List Text) → length (with_all (slice_cmp nat_cmp) texts []) ≤ length texts
no_more [] = omega arith
no_more (t ∷ ts) = omega (arith, one_more (with_all (slice_cmp nat_cmp) ts []) t, no_more ts)

pub count_in_order : (texts : List Text) → length (sorted_once texts) ≤ length texts
count_in_order texts = subst (λ (ts : List Text). length ts ≤ length texts) (all_sorted nat_list_cmp_total texts) (no_more texts)
