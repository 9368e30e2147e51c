-- What is cheaper than the goals is near: a fact that costs less than they do needs none of the zone.
use Rattle.std.proofs.Common.{◌≡◌, ℕ, suc, ◌+◌, Bool, true, false, cond, not, leb, ◌&&◌, get_or, Option, Some, None, option_map, List, [], ◌∷◌, length, refl, sym, ap, ◌∙◌, subst, arith}
use Rattle.std.proofs.lemmas.Bool.{and_from, both_ways, false≢true, true≢false, leb-false, ltb-true, not-true}
use Rattle.std.specs.FinSet as set
use Rattle.std.specs.List.{list_all}
use Rattle.std.specs.Option.{is_some}
use Rattle.mp_sets.specs.Numbers.{Numbers}
use Rattle.mp_sets.proofs.NumbersLemmas.{All_at}
use Rattle.mp_task.specs.Strips.{Operator}
use Rattle.mp_estimates.specs.Estimates.{AtMost, greater, Values}
use Rattle.mp_estimates.specs.Laws.Order.{AtMost-refl, AtMost-trans, greater_both, greater_left, greater_right, within}
use Rattle.mp_relaxed.specs.Values.{adds, cost_by, fact_values, greatest, least_cost, next_values}
use Rattle.mp_relaxed.specs.Laws.Bounds.{start_zero}
use Rattle.mp_relaxed.specs.Laws.Equations.{cost_by-mono, greatest_above, least_above}
use Rattle.mp_relaxed.specs.Laws.Rounds.{below_rounds}
use Rattle.mp_lmcut.specs.Cut.{all_valued, in_zone, is_above, is_near, support}
use Rattle.mp_lmcut.specs.Laws.Leading.{adds_low}
use Rattle.mp_lmcut.specs.Laws.Round.{zone_is_dear}
use Rattle.mp_lmcut.specs.Laws.Supports.{IsSupport, supported}
use Rattle.mp_lmcut.specs.Laws.Supports.IsSupport.{none, one}
use Rattle.mp_lmcut.proofs.NearLemmas.{Forward, near_forward, near_start}

greatest_none : (v : Values) (xs : List ℕ) → all_valued v xs ≡ false → greatest v xs ≡ None
greatest_none v [] e = absurd (true≢false e)
greatest_none v (x ∷ xs) e = by (v x) e (greatest_none v xs)
  where
    by : (a : Option ℕ) → (is_some a && all_valued v xs) ≡ false → (all_valued v xs ≡ false → greatest v xs ≡ None) → greater a (greatest v xs) ≡ None
    by None h rest = refl
    by (Some n) h rest = ap (greater (Some n)) (rest h)

with_cost : (c b : ℕ) (a : Option ℕ) → AtMost (Some b) a → AtMost (Some b) (option_map (λ h. c + h) a)
with_cost c b None h = tt
with_cost c b (Some n) h = omega arith

beyond : (k : ℕ) (a : Option ℕ) → not (within k a) ≡ true → AtMost (Some (suc k)) a
beyond k None e = tt
beyond k (Some n) e = let gt = leb-false n k (not-true (leb n k) e) in omega arith

module _ (os : List Operator) (s : Numbers) (goals : List ℕ) (k : ℕ) (paid : greatest (fact_values os s) goals ≡ Some (suc k)) where
  abbrev v : Values
  v = fact_values os s

  abbrev near : ℕ → Bool
  near = is_near v os goals s

  abbrev zone : ℕ → Bool
  zone = in_zone v os goals

  -- values that are raised to that of the goals where a fact is far
  raised : Values
  raised x = cond (near x) (v x) (greater (v x) (Some (suc k)))

  raised_above : (x : ℕ) → AtMost (v x) (raised x)
  unfolding raised
  raised_above x = by (near x)
    where
      by : (b : Bool) → AtMost (v x) (cond b (v x) (greater (v x) (Some (suc k))))
      by true = AtMost-refl (v x)
      by false = greater_left (v x) (Some (suc k))

  raised_far : (x : ℕ) → near x ≡ false → AtMost (Some (suc k)) (raised x)
  unfolding raised
  raised_far x e = subst (λ b. AtMost (Some (suc k)) (cond b (v x) (greater (v x) (Some (suc k))))) (sym e) (greater_right (v x) (Some (suc k)))

  dear_zone : (x : ℕ) → zone x ≡ true → AtMost (Some (suc k)) (v x)
  dear_zone x inside = beyond k (v x) (zone_is_dear os s goals k paid x inside)

  -- what adds a far fact costs as much as the goals
  far_by : (o : Operator) (x : ℕ) → Forward v os goals s near o → AtMost (v x) (cost_by raised o) → adds o x ≡ true → near x ≡ false → AtMost (Some (suc k)) (cost_by raised o)
  far_by o x forward own adding far = by (zone x) refl (all_valued v o.pre) refl (supported v o.pre)
    where
      led : zone x ≡ false → all_valued v o.pre ≡ true → list_all near (support v o.pre) ≡ true → ⊥
      led outside valued ready = both_ways (near x) far (forward valued ready x adding outside)

      by : (z : Bool) → zone x ≡ z → (b : Bool) → all_valued v o.pre ≡ b → IsSupport v o.pre (support v o.pre) → AtMost (Some (suc k)) (cost_by raised o)
      by true inside b valued sup = AtMost-trans (Some (suc k)) (v x) (cost_by raised o) (dear_zone x inside) own
      by false outside false valued sup =
          let never : AtMost (Some (suc k)) (cost_by v o) = subst (λ a. AtMost (Some (suc k)) (option_map (λ h. o.cost + h) a)) (sym (greatest_none v o.pre valued)) tt in
          AtMost-trans (Some (suc k)) (cost_by v o) (cost_by raised o) never (cost_by-mono v raised o (λ _ _ _. raised_above _))
      by false outside true valued (none e is) = absurd (led outside valued (ap (list_all near) is))
      by false outside true valued (one z is member value) = at (near z) refl
        where
          at : (b : Bool) → near z ≡ b → AtMost (Some (suc k)) (cost_by raised o)
          at true here = absurd (led outside valued (ap (list_all near) is ∙ and_from (near z) true here refl))
          at false there =
              with_cost o.cost (suc k) (greatest raised o.pre)
              (AtMost-trans (Some (suc k)) (raised z) (greatest raised o.pre) (raised_far z there)
              (All_at (λ y. AtMost (raised y) (greatest raised o.pre)) o.pre z (greatest_above raised o.pre) member))

  raised_by : (o : Operator) (x : ℕ) → Forward v os goals s near o → (adds o x ≡ true → AtMost (v x) (cost_by v o)) → adds o x ≡ true → AtMost (raised x) (cost_by raised o)
  unfolding raised
  raised_by o x forward low adding = by (near x) refl
    where
      own : AtMost (v x) (cost_by raised o)
      own = AtMost-trans (v x) (cost_by v o) (cost_by raised o) (low adding) (cost_by-mono v raised o (λ _ _ _. raised_above _))

      by : (b : Bool) → near x ≡ b → AtMost (cond b (v x) (greater (v x) (Some (suc k)))) (cost_by raised o)
      by true e = own
      by false e = greater_both (cost_by raised o) (v x) (Some (suc k)) own (far_by o x forward own adding e)

  raised_low : (x : ℕ) → AtMost (raised x) (next_values os s raised x)
  unfolding raised
  raised_low x = by (set.contains s x) refl
    where
      by : (b : Bool) → set.contains s x ≡ b → AtMost (raised x) (cond b (Some 0) (least_cost raised os x))
      by true member = subst (λ b. AtMost (cond b (v x) (greater (v x) (Some (suc k)))) (Some 0)) (sym (near_start v os goals s x member)) (start_zero os s x member)
      by false member =
          least_above raised (raised x) x os
          (λ i d lt adding. raised_by (get_or os i d) x (near_forward v os goals s i d lt) (λ a. adds_low os s i d lt x a) adding)

  pub cheap_near : (x : ℕ) → is_above (Some (suc k)) (v x) ≡ true → near x ≡ true
  unfolding raised
  cheap_near x cheap = by (near x) refl (below_rounds os s raised raised_low (length os + 1) x)
    where
      low : (a : Option ℕ) → is_above (Some (suc k)) a ≡ true → AtMost (greater a (Some (suc k))) a → ⊥
      low None h r = false≢true h
      low (Some n) h r = let lt = ltb-true n (suc k) h in omega arith

      by : (b : Bool) → near x ≡ b → AtMost (cond b (v x) (greater (v x) (Some (suc k)))) (v x) → near x ≡ true
      by true e r = e
      by false e r = absurd (low (v x) cheap r)
