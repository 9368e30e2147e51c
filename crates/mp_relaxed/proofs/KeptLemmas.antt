-- Which operators are kept, one after another, and the problem with these alone.
use Rattle.std.proofs.Common.{◌≡◌, ◌⊎◌, inl, inr, ℕ, ◌+◌, ◌<◌, ◌≤◌, true, eqb, get_or, List, [], ◌∷◌, ◌++◌, length, map, All, Contains, refl, sym, ap, ◌∙◌, subst, ⊎_elim, get_or-set_same, get_or-set_other, arith}
use Rattle.std.proofs.Math.ListN.{set as set_at}
use Rattle.std.proofs.lemmas.Bool.{cases_eq, cases_lt, eqb-true}
use Rattle.std.proofs.lemmas.List.{length-append, length-set, get_or_default, nil_from_length}
use Rattle.std.proofs.lemmas.List.Elements.{All-from_get_or, All-map, All-nil, All-push, All-set, Contains-append_left, Contains-get_or, Contains-push}
use Rattle.mp_task.specs.Strips.{Operator}
use Rattle.mp_relaxed.specs.Dominated.{AreEquivalent, AreKept, Dominates, HasDominating, IsKept}
use Rattle.mp_relaxed.specs.Relaxed.{operator_at, without_deletes, zipped}
use Rattle.mp_relaxed.proofs.DominatedLemmas.{Contains-map, dominates_itself, dominates_next}

pub kept_none : (os : List Operator) (kept : List ℕ) → kept ≡ [] → AreKept os 0 kept
kept_none os kept e =
    subst (AreKept os 0) (sym e) (record { below = All-nil (λ j. j < length os); few = omega arith; all = λ k lt. absurd (omega (arith, lt)) })

module _ (os : List Operator) (n : ℕ) (old : List ℕ) (before : AreKept os n old) where
  -- a list in which each operator that was kept has one that dominates it
  kept_more : (new : List ℕ) → All (λ j. j < length os) new → length new ≤ n + 1 → ((j : ℕ) → Contains old j → (i : ℕ) × Contains new i × Dominates (operator_at os i) (operator_at os j)) → IsKept os new n → AreKept os (n + 1) new
  kept_more new below few still this = record {
    below = below;
    few = few;
    all = λ k lt. ⊎_elim
        (λ less. by k (before.all k less))
        (λ last. subst (IsKept os new) (let e : n ≡ k = omega arith in e) this)
        (cases_lt k n);
  }
    where
      by : (k : ℕ) → IsKept os old k → IsKept os new k
      by k (inl none) = inl none
      by k (inr has) =
          let now = still has.0 has.1 in
          inr (now.0, now.1, dominates_next (operator_at os now.0) (operator_at os has.0) (operator_at os k) now.2 has.2)

  same : (j : ℕ) → Contains old j → (i : ℕ) × Contains old i × Dominates (operator_at os i) (operator_at os j)
  same j c = (j, c, dominates_itself (operator_at os j))

  pub kept_left : (adds : List ℕ) → adds ≡ (operator_at os n).add → eqb (length adds) 0 ≡ true → AreKept os (n + 1) old
  kept_left adds own none =
      kept_more old before.below (let le = before.few in omega arith) same
      (inl (sym own ∙ nil_from_length adds (eqb-true (length adds) 0 none)))

  pub kept_stay : (j at : ℕ) → at < length old → get_or old at 0 ≡ j → Dominates (operator_at os j) (operator_at os n) → AreKept os (n + 1) old
  kept_stay j at inside own h =
      kept_more old before.below (let le = before.few in omega arith) same
      (inr (j, subst (Contains old) own (Contains-get_or old at 0 inside), h))

  pub kept_push : (new : List ℕ) → n < length os → new ≡ old ++ n ∷ [] → AreKept os (n + 1) new
  kept_push new lt e =
      subst (AreKept os (n + 1)) (sym e)
      (kept_more (old ++ n ∷ []) (All-push (λ j. j < length os) old n before.below lt)
      (let le = before.few in let len = length-append old (n ∷ []) in omega arith)
      (λ j c. (j, Contains-append_left old (n ∷ []) j c, dominates_itself (operator_at os j)))
      (inr (n, Contains-push old n, dominates_itself (operator_at os n))))

  pub kept_set : (i at : ℕ) → at < length old → get_or old at 0 ≡ i → n < length os → Dominates (operator_at os n) (operator_at os i) → AreKept os (n + 1) (set_at old at n)
  kept_set i at inside own lt h =
      kept_more (set_at old at n) (All-set (λ j. j < length os) old at n lt before.below)
      (let le = before.few in let len = length-set old at n in omega arith)
      (λ j c. by j c (cases_eq c.0 at))
      (inr (n, here, dominates_itself (operator_at os n)))
    where
      here : Contains (set_at old at n) n
      here = (at, (let len = length-set old at n in omega (arith, inside)), get_or-set_same old at n n inside)

      by : (j : ℕ) (c : Contains old j) → (c.0 ≡ at) ⊎ (c.0 ≡ at → ⊥) → (m : ℕ) × Contains (set_at old at n) m × Dominates (operator_at os m) (operator_at os j)
      by j c (inl e) =
          let same : i ≡ j = sym own ∙ get_or_default old at 0 j inside ∙ ap (λ m. get_or old m j) (sym e) ∙ c.2 in
          (n, here, subst (λ m. Dominates (operator_at os n) (operator_at os m)) same h)
      by j c (inr ne) =
          (j, (c.0, (let len = length-set old at n in let le = c.1 in omega arith), get_or-set_other old at c.0 n j ne ∙ c.2), dominates_itself (operator_at os j))

-- an operator by its number, without its deletes
abbrev pub bare_at : List Operator → ℕ → Operator
bare_at os k = without_deletes (operator_at os k)

-- the operators of these numbers, from their parts
pub zipped_kept : (os : List Operator) (kept : List ℕ) → zipped (map (λ k. (operator_at os k).pre) kept) (map (λ k. (operator_at os k).add) kept) (map (λ k. (operator_at os k).cost) kept) ≡ map (bare_at os) kept
zipped_kept os [] = refl
zipped_kept os (k ∷ kept) = ap (λ l. bare_at os k ∷ l) (zipped_kept os kept)

-- they dominate all, and are dominated by them
pub equivalent_kept : (os : List Operator) (kept : List ℕ) → AreKept os (length os) kept → AreEquivalent (map (bare_at os) kept) os
equivalent_kept os kept h = record {
  onward = All-from_get_or (λ o. (o.add ≡ []) ⊎ HasDominating (map (bare_at os) kept) o) os (record { pre = []; add = []; del = []; cost = 0 })
      (λ k lt. by k (h.all k lt));
  back = All-map (λ o. (o.add ≡ []) ⊎ HasDominating os o) (bare_at os) kept (λ i d lt. inr (record {
    q = operator_at os (get_or kept i d);
    among = Contains-get_or os (get_or kept i d) (record { pre = []; add = []; del = []; cost = 0 }) (h.below i d lt);
    dominates = record { needed = refl; added = refl; cheap = omega arith };
  }));
}
  where
    by : (k : ℕ) → IsKept os kept k → ((operator_at os k).add ≡ []) ⊎ HasDominating (map (bare_at os) kept) (operator_at os k)
    by k (inl none) = inl none
    by k (inr has) = inr (record {
      q = bare_at os has.0;
      among = Contains-map (bare_at os) kept has.0 has.1;
      dominates = record { needed = has.2.needed; added = has.2.added; cheap = has.2.cheap };
    })

-- they cost no more than all do at most
pub kept_cheap : (c : ℕ) (os : List Operator) (kept : List ℕ) → All (λ k. k < length os) kept → All (λ o. o.cost ≤ c) os → All (λ n. n ≤ c) (map (λ k. (operator_at os k).cost) kept)
kept_cheap c os kept below cheap =
    All-map (λ n. n ≤ c) (λ k. (operator_at os k).cost) kept (λ i d lt. cheap (get_or kept i d) _ (below i d lt))
