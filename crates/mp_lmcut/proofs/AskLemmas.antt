-- The near side asked for backwards: what a search back from a fact finds, and marks of it.
use Rattle.std.proofs.Common.{◌≡◌, ℕ, zero, suc, ◌<◌, ◌≤◌, Bool, true, false, not, ◌&&◌, ◌||◌, None, Some, List, length, get_or, All, refl, sym, ap, ◌∙◌, subst, ⊎_elim, arith}
use Rattle.std.proofs.lemmas.Bool.{and_from, and_parts, both_ways, false_from_ne_true, lt-ltb, not-true, not_from_false, or_cases, or_left, or_right}
use Rattle.std.proofs.lemmas.List.{get_or_default}
use Rattle.std.specs.FinSet as set
use Rattle.std.specs.List.{list_all}
use Rattle.mp_sets.specs.Numbers.{Numbers}
use Rattle.mp_task.specs.Strips.{Operator}
use Rattle.mp_estimates.specs.Estimates.{AtMost, Values}
use Rattle.mp_relaxed.specs.Relaxed.{HasAdders, operator_at}
use Rattle.mp_relaxed.specs.Values.{adds, fact_values, greatest}
use Rattle.mp_relaxed.specs.Laws.Bounds.{start_zero}
use Rattle.mp_lmcut.specs.Cut.{all_valued, in_zone, is_above, is_near, support}
use Rattle.mp_lmcut.specs.Laws.Supports.{IsSupport, supported}
use Rattle.mp_lmcut.specs.Laws.Supports.IsSupport.{none, one}
use Rattle.mp_lmcut.specs.Laws.Round.{near_is_beside}
use Rattle.mp_lmcut.specs.Marks.{MarkLists}
use Rattle.mp_lmcut.specs.Marked.{HasGrown, is_marked}
use Rattle.mp_lmcut.specs.Sides.{AreNearFacts, AreValuesFor, HasSource, IsBehind, IsTraced, IsZone, TracesBack, is_cheap, is_source}
use Rattle.mp_lmcut.proofs.CheapLemmas.{cheap_near}
use Rattle.mp_lmcut.proofs.NearLemmas.{Forward, near_forward, near_least, near_start, support_passes}
use Rattle.mp_lmcut.proofs.ZoneLemmas.{at_times, list_all_more, times_any}

one_more : (m : ℕ) → 1 ≤ m → (k : ℕ) × (m ≡ suc k)
one_more zero h = absurd (omega (arith, h))
one_more (suc k) h = (k, refl)

module _ (v : Values) (os : List Operator) (goals : List ℕ) (most : ℕ) (s : Numbers) (h : AreValuesFor v os goals most s) where
  abbrev near : ℕ → Bool
  near = is_near v os goals s

  same : v ≡ fact_values os s
  same = λ i x. h.same x i

  less : (k : ℕ) × (most ≡ suc k)
  less = one_more most h.some

  paid : greatest (fact_values os s) goals ≡ Some (suc less.0)
  paid = ap (λ (u : Values). greatest u goals) (sym same) ∙ h.paid ∙ ap Some less.1

  pub cheap_is_near : (x : ℕ) → is_cheap v most x ≡ true → near x ≡ true
  cheap_is_near x cheap =
      subst (λ (u : Values). is_near u os goals s x ≡ true) (sym same)
      (cheap_near os s goals less.0 paid x
      (subst (λ (u : Values). is_above (Some (suc less.0)) (u x) ≡ true) same (subst (λ n. is_above (Some n) (v x) ≡ true) less.1 cheap)))

  near_outside : (x : ℕ) → near x ≡ true → in_zone v os goals x ≡ false
  near_outside x here =
      let beside = subst (λ (u : Values). is_near u os goals s x ≡ true → in_zone u os goals x ≡ false) (sym same)
      (λ e. not-true (in_zone (fact_values os s) os goals x) ((and_parts _ _ (near_is_beside os s goals less.0 paid x e)).1)) in
      beside here

  pub inside_far : (x : ℕ) → in_zone v os goals x ≡ true → false ≡ near x
  inside_far x inside = sym (false_from_ne_true (near x) (λ here. both_ways (in_zone v os goals x) (near_outside x here) inside))

  -- a fact of the state is cheap
  start_cheap : (x : ℕ) → set.contains s x ≡ true → is_cheap v most x ≡ true
  start_cheap x member = by (v x) (subst (λ (u : Values). AtMost (u x) (Some 0)) (sym same) (start_zero os s x member))
    where
      by : (a : _) → AtMost a (Some 0) → is_above (Some most) a ≡ true
      by None low = absurd low
      by (Some n) low = let some = h.some in lt-ltb n most (omega arith)

  -- what a source adds outside the zone is near
  pub source_near : (x : ℕ) → in_zone v os goals x ≡ false → HasSource v most os x → near x ≡ true
  source_near x outside found =
      let o : Operator = operator_at os found.k in
      let both = and_parts (all_valued v o.pre) (list_all (is_cheap v most) (support v o.pre)) found.source in
      near_forward v os goals s found.k _ found.within both.0
      (list_all_more (is_cheap v most) near (support v o.pre) cheap_is_near both.1) x found.adding outside

-- facts from which a fact outside the zone is near, if they are
pub record IsBack (v : Values) (os : List Operator) (goals : List ℕ) (zone : List Bool) (most x y : ℕ) : Type 0 where
  pub outside : is_marked zone y ≡ false
  pub dear : is_cheap v most y ≡ false
  pub leads : (s : Numbers) → is_near v os goals s y ≡ true → is_near v os goals s x ≡ true

module _ (v : Values) (os : List Operator) (goals : List ℕ) (zone : List Bool) (right : IsZone v os goals zone) (most x : ℕ) where
  pub back_start : is_marked zone x ≡ false → is_cheap v most x ≡ false → IsBack v os goals zone most x x
  back_start outside dear = record { outside = outside; dear = dear; leads = λ s here. here }

  pub back_step : (y z : ℕ) → IsBack v os goals zone most x y → IsBehind v most os zone y z → IsBack v os goals zone most x z
  back_step y z back behind = record {
    outside = behind.traced.outside;
    dear = behind.traced.dear;
    leads = λ s here. back.leads s
        (near_forward v os goals s behind.k _ behind.within behind.traced.valued
        (support_passes v (operator_at os behind.k).pre z (is_near v os goals s) behind.traced.supports here)
        y behind.adding (sym (right y) ∙ back.outside));
  }

  pub back_found : (y : ℕ) → IsBack v os goals zone most x y → HasSource v most os y → (s : Numbers) → AreValuesFor v os goals most s → true ≡ is_near v os goals s x
  back_found y back source s h =
      sym (back.leads s (source_near v os goals most s h y (sym (right y) ∙ back.outside) source))

  module _ (flags : List Bool) where
    abbrev clear : ℕ → Bool
    clear y = not (is_marked flags y) && not (is_marked zone y)

    clash : (o : Operator) → is_source v most o ≡ false → IsTraced v zone o flags → all_valued v o.pre ≡ true → list_all clear (support v o.pre) ≡ true → IsSupport v o.pre (support v o.pre) → ⊥
    clash o source traced valued ready (none e is) =
        both_ways (is_source v most o) source (and_from (all_valued v o.pre) _ valued (ap (list_all (is_cheap v most)) is))
    clash o source traced valued ready (one q is member value) =
        let at : (is_marked zone q || is_marked flags q) ≡ true = (and_parts _ _ (sym (ap (list_all (λ w. is_marked zone w || is_marked flags w)) is) ∙ traced valued)).0 in
        let out : clear q ≡ true = (and_parts _ _ (sym (ap (list_all clear) is) ∙ ready)).0 in
        ⊎_elim
        (λ z. both_ways (is_marked zone q) (not-true _ ((and_parts _ _ out).1)) z)
        (λ m. both_ways (is_marked flags q) (not-true _ ((and_parts _ _ out).0)) m)
        (or_cases (is_marked zone q) (is_marked flags q) at)

    pub back_none : is_marked flags x ≡ true → ((y : ℕ) → is_marked flags y ≡ true → IsBack v os goals zone most x y × TracesBack v most os zone y flags) → (s : Numbers) → AreValuesFor v os goals most s → false ≡ is_near v os goals s x
    back_none marked all s h = sym (false_from_ne_true (is_near v os goals s x)
        (λ here. both_ways (is_marked flags x) (not-true _ ((and_parts _ _ (near_least v os goals s clear start forward x here)).0)) marked))
      where
        start : (y : ℕ) → set.contains s y ≡ true → clear y ≡ true
        start y member =
            and_from (not (is_marked flags y)) (not (is_marked zone y))
            (not_from_false (is_marked flags y) (false_from_ne_true (is_marked flags y)
            (λ m. both_ways (is_cheap v most y) ((all y m).0.dear) (start_cheap v os goals most s h y member))))
            (not_from_false (is_marked zone y) (right y ∙ near_outside v os goals most s h y (near_start v os goals s y member)))

        forward : All (Forward v os goals s clear) os
        forward = λ i d lt valued ready y adding out.
            and_from (not (is_marked flags y)) (not (is_marked zone y))
            (not_from_false (is_marked flags y) (false_from_ne_true (is_marked flags y)
            (λ m. let back = (all y m).1 i d lt adding in
            clash (get_or os i d) back.0 back.1 valued ready (supported v (get_or os i d).pre))))
            (not_from_false (is_marked zone y) (right y ∙ out))

pub traced_kept : (v : Values) (zone : List Bool) (o : Operator) (a b : List Bool) → ((y : ℕ) → is_marked a y ≡ true → is_marked b y ≡ true) → IsTraced v zone o a → IsTraced v zone o b
traced_kept v zone o a b kept done valued =
    list_all_more (λ x. is_marked zone x || is_marked a x) (λ x. is_marked zone x || is_marked b x) (support v o.pre)
    (λ x h. ⊎_elim (λ z. or_left (is_marked zone x) _ z) (λ m. or_right (is_marked zone x) _ (kept x m)) (or_cases (is_marked zone x) (is_marked a x) h))
    (done valued)

pub traces_kept : (v : Values) (most : ℕ) (os : List Operator) (zone : List Bool) (x : ℕ) (a b : List Bool) → ((y : ℕ) → is_marked a y ≡ true → is_marked b y ≡ true) → TracesBack v most os zone x a → TracesBack v most os zone x b
traces_kept v most os zone x a b kept done = λ i d lt adding.
    let was = done i d lt adding in
    (was.0, traced_kept v zone (get_or os i d) a b kept was.1)

-- each operator that adds a fact is among its adders
pub traces_from_adders : (v : Values) (most : ℕ) (os : List Operator) (zone : List Bool) (x : ℕ) (adders : List ℕ) (flags : List Bool) → HasAdders os x adders → ((j : ℕ) → j < length adders → (is_source v most (operator_at os (get_or adders j 0)) ≡ false) × IsTraced v zone (operator_at os (get_or adders j 0)) flags) → TracesBack v most os zone x flags
traces_from_adders v most os zone x adders flags has done = λ i d lt adding.
    let same : get_or os i d ≡ operator_at os i = get_or_default os i d _ lt in
    let often = times_any x (operator_at os i).add (ap (λ (o : Operator). adds o x) (sym same) ∙ adding) in
    let listed = has i lt in
    subst (λ (o : Operator). (is_source v most o ≡ false) × IsTraced v zone o flags) (sym same)
    (at_times (λ j. (is_source v most (operator_at os j) ≡ false) × IsTraced v zone (operator_at os j) flags) i adders done (omega arith))

-- marks of what was found

module _ (v : Values) (os : List Operator) (goals : List ℕ) (most x : ℕ) (before after : MarkLists) (found : Bool) where
  pub found_marks : ((s : Numbers) → AreValuesFor v os goals most s → found ≡ is_near v os goals s x) → HasGrown (λ y. (y ≡ x) × (found ≡ true)) before after → AreNearFacts v os goals most before.flags → AreNearFacts v os goals most after.flags
  found_marks is grown all = λ s h y m. ⊎_elim
      (λ was. all s h y was)
      (λ new. subst (λ z. is_near v os goals s z ≡ true) (sym new.0.0) (sym (is s h) ∙ new.0.1))
      (grown.only y m)
