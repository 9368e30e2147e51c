-- Rounds end: each leaves one more operator without a cost, so a round for each operator is enough.
use Rattle.std.proofs.Common.{◌≡◌, ℕ, zero, suc, ◌+◌, ◌-◌, ◌<◌, ◌≤◌, Bool, true, false, cond, not, eqb, ltb, min, ◌&&◌, ◌||◌, get_or, Option, Some, None, option_map, List, [], ◌∷◌, length, map, All, refl, sym, ap, ◌∙◌, subst, ⊎_elim, arith}
use Rattle.std.proofs.lemmas.Bool.{and_from, and_parts, both_ways, cases_lt, eq-eqb, eqb-true, false_from_ne_true, false≢true, le-leb, lt-ltb, ltb-true, not-true, or_cases, or_left, or_right}
use Rattle.std.proofs.lemmas.List.Elements.{All-head, All-tail}
use Rattle.std.proofs.lemmas.Option.{none-some}
use Rattle.std.specs.List.{filter, list_all, list_any}
use Rattle.std.specs.Option.{is_some, unwrap_or}
use Rattle.mp_sets.specs.Numbers.{Numbers}
use Rattle.mp_task.specs.Strips.{Operator}
use Rattle.mp_estimates.specs.Estimates.{AtMost, greater, lesser, Values}
use Rattle.mp_estimates.specs.Laws.Order.{within, within-AtMost}
use Rattle.mp_relaxed.specs.Relaxed.{operator_at}
use Rattle.mp_relaxed.specs.Values.{adds, cost_by, fact_values, greatest}
use Rattle.mp_lmcut.specs.Cut.{all_valued, cut_cost, cuts, in_cut, in_zone, is_near, is_positive, leads, least, lowered, priced_by, support}
use Rattle.mp_lmcut.specs.Sides.{AreValuesFor, least_where}
use Rattle.mp_lmcut.specs.Laws.Leading.{adds_low, leads_only}
use Rattle.mp_lmcut.specs.Laws.Round.{goals_far, near_is_beside, near_leaves, near_start, zone_is_dear}
use Rattle.mp_lmcut.specs.Laws.Supports.{IsSupport, supported}
use Rattle.mp_lmcut.specs.Laws.Supports.IsSupport.{none, one}
use Rattle.mp_lmcut.proofs.RoundLemmas.{cuts_end, cuts_go_on, no_cuts}
use Rattle.mp_lmcut.proofs.ZoneLemmas.{list_all_more, zone_backward}

-- lists

any_here : {X : Type 0} (p : X → Bool) (xs : List X) (i : ℕ) (d : X) → i < length xs → p (get_or xs i d) ≡ true → list_any p xs ≡ true
any_here p [] i d lt e = absurd (omega (arith, lt))
any_here p (x ∷ xs) zero d lt e = or_left (p x) (list_any p xs) e
any_here p (x ∷ xs) (suc i) d lt e = or_right (p x) (list_any p xs) (any_here p xs i d (omega (arith, lt)) e)

any_one : (p : ℕ → Bool) (xs : List ℕ) → list_any p xs ≡ true → (y : ℕ) × (list_any (λ z. eqb z y) xs ≡ true) × (p y ≡ true)
any_one p [] e = absurd (false≢true e)
any_one p (x ∷ xs) e = ⊎_elim
    (λ here. (x, or_left (eqb x x) (list_any (λ z. eqb z x) xs) (eq-eqb x x refl), here))
    (λ later. let rest = any_one p xs later in (rest.0, or_right (eqb x rest.0) (list_any (λ z. eqb z rest.0) xs) rest.1, rest.2))
    (or_cases (p x) (list_any p xs) e)

some_valued : (v : Values) (xs : List ℕ) (n : ℕ) → greatest v xs ≡ Some n → all_valued v xs ≡ true
some_valued v [] n e = refl
some_valued v (x ∷ xs) n e = by (v x) (greatest v xs) refl e (some_valued v xs)
  where
    by : (a b : Option ℕ) → greatest v xs ≡ b → greater a b ≡ Some n → ((j : ℕ) → greatest v xs ≡ Some j → all_valued v xs ≡ true) → (is_some a && all_valued v xs) ≡ true
    by None b same h rest = absurd (none-some n h)
    by (Some m) None same h rest = absurd (none-some n h)
    by (Some m) (Some j) same h rest = rest j same

-- one of those that pass a test has the least cost of them

least_some : (such : Operator → Bool) (os : List Operator) → list_any such os ≡ true → (c : ℕ) × (least_where such os ≡ Some c)
least_some such [] e = absurd (false≢true e)
least_some such (o ∷ os) e = by (such o) e (least_some such os)
  where
    first : (a : Option ℕ) → (c : ℕ) × (lesser (Some o.cost) a ≡ Some c)
    first None = (o.cost, refl)
    first (Some n) = (min o.cost n, refl)

    by : (b : Bool) → (b || list_any such os) ≡ true → (list_any such os ≡ true → (c : ℕ) × (least_where such os ≡ Some c)) → (c : ℕ) × (least (map (λ q. q.cost) (cond b (o ∷ filter such os) (filter such os))) ≡ Some c)
    by true h rest = first (least_where such os)
    by false h rest = rest h

some_same : (m n : ℕ) → Some m ≡ Some n → m ≡ n
some_same m n e = ap (λ a. unwrap_or a 0) e

attained : (such : Operator → Bool) (os : List Operator) (c : ℕ) → least_where such os ≡ Some c → list_any (λ o. such o && eqb o.cost c) os ≡ true
attained such [] c e = absurd (none-some c e)
attained such (o ∷ os) c e = by (such o) (least_where such os) refl e (attained such os)
  where
    by : (b : Bool) (a : Option ℕ) → least_where such os ≡ a → least (map (λ q. q.cost) (cond b (o ∷ filter such os) (filter such os))) ≡ Some c → ((d : ℕ) → least_where such os ≡ Some d → list_any (λ q. such q && eqb q.cost d) os ≡ true) → ((b && eqb o.cost c) || list_any (λ q. such q && eqb q.cost c) os) ≡ true
    by false a same h rest = rest c h
    by true None same h rest =
        or_left (eqb o.cost c) _ (eq-eqb o.cost c (some_same o.cost c (sym (ap (lesser (Some o.cost)) same) ∙ h)))
    by true (Some d) same h rest =
        let is = some_same (min o.cost d) c (sym (ap (lesser (Some o.cost)) same) ∙ h) in
        ⊎_elim
        (λ lt. or_right (eqb o.cost c) _ (rest c (same ∙ ap (λ n. Some n) (let e : d ≡ c = omega arith in e))))
        (λ le. or_left (eqb o.cost c) _ (eq-eqb o.cost c (omega arith)))
        (cases_lt d o.cost)

-- how many operators have a cost

abbrev pub costly : List Operator → ℕ
costly [] = zero
costly (o ∷ os) = cond (ltb 0 o.cost) (suc (costly os)) (costly os)

pub costly_most : (os : List Operator) → costly os ≤ length os
costly_most [] = omega arith
costly_most (o ∷ os) = by (ltb 0 o.cost) (costly_most os)
  where
    by : (b : Bool) → costly os ≤ length os → cond b (suc (costly os)) (costly os) ≤ suc (length os)
    by true le = omega arith
    by false le = omega arith

module _ (f : Operator → ℕ) where
  fewer : (os : List Operator) → All (λ o. f o ≤ o.cost) os → costly (priced_by f os) ≤ costly os
  fewer [] h = omega arith
  fewer (o ∷ os) h =
      by (ltb 0 (f o)) refl (ltb 0 o.cost) refl (All-head (λ q. f q ≤ q.cost) o os h) (fewer os (All-tail (λ q. f q ≤ q.cost) o os h))
    where
      by : (a : Bool) → ltb 0 (f o) ≡ a → (b : Bool) → ltb 0 o.cost ≡ b → f o ≤ o.cost → costly (priced_by f os) ≤ costly os → cond a (suc (costly (priced_by f os))) (costly (priced_by f os)) ≤ cond b (suc (costly os)) (costly os)
      by true ae true be le rest = omega arith
      by true ae false be le rest = absurd (false≢true (sym be ∙ lt-ltb 0 o.cost (let lt = ltb-true 0 (f o) ae in omega arith)))
      by false ae true be le rest = omega arith
      by false ae false be le rest = rest

  one_fewer : (os : List Operator) → All (λ o. f o ≤ o.cost) os → list_any (λ o. ltb 0 o.cost && eqb (f o) 0) os ≡ true → suc (costly (priced_by f os)) ≤ costly os
  one_fewer [] h e = absurd (false≢true e)
  one_fewer (o ∷ os) h e =
      let lows = All-tail (λ q. f q ≤ q.cost) o os h in
      by (ltb 0 (f o)) refl (ltb 0 o.cost) refl (All-head (λ q. f q ≤ q.cost) o os h) (fewer os lows) (one_fewer os lows) e
    where
      by : (a : Bool) → ltb 0 (f o) ≡ a → (b : Bool) → ltb 0 o.cost ≡ b → f o ≤ o.cost → costly (priced_by f os) ≤ costly os → (list_any (λ q. ltb 0 q.cost && eqb (f q) 0) os ≡ true → suc (costly (priced_by f os)) ≤ costly os) → ((b && eqb (f o) 0) || list_any (λ q. ltb 0 q.cost && eqb (f q) 0) os) ≡ true → suc (cond a (suc (costly (priced_by f os))) (costly (priced_by f os))) ≤ cond b (suc (costly os)) (costly os)
      by true ae true be le most rest k = ⊎_elim
          (λ zeros. absurd (let none = eqb-true (f o) 0 zeros in let lt = ltb-true 0 (f o) ae in omega arith))
          (λ later. let r = rest later in omega arith)
          (or_cases (eqb (f o) 0) _ k)
      by true ae false be le most rest k = absurd (false≢true (sym be ∙ lt-ltb 0 o.cost (let lt = ltb-true 0 (f o) ae in omega arith)))
      by false ae true be le most rest k = omega arith
      by false ae false be le most rest k = rest k

-- a round

module _ (os : List Operator) (s : Numbers) (goals : List ℕ) where
  abbrev v : Values
  v = fact_values os s

  abbrev zone : ℕ → Bool
  zone = in_zone v os goals

  abbrev near : ℕ → Bool
  near = is_near v os goals s

  abbrev cut : Operator → Bool
  cut = in_cut v os goals s

  abbrev left : Operator → ℕ
  left o = cond (cut o) (o.cost - cut_cost v os goals s) o.cost

  left_low : All (λ o. left o ≤ o.cost) os
  left_low = λ i d lt. by (get_or os i d) (cut (get_or os i d))
    where
      by : (o : Operator) (b : Bool) → cond b (o.cost - cut_cost v os goals s) o.cost ≤ o.cost
      by o true = omega arith
      by o false = omega arith

  module _ (k : ℕ) (paid : greatest v goals ≡ Some (suc k)) where
    closed : list_any cut os ≡ false → All (λ o. list_all near o.pre ≡ true → (x : ℕ) → adds o x ≡ true → near x ≡ true) os
    closed empty = λ i d lt ready x adding. ⊎_elim
        (λ here. here)
        (λ inside. absurd (false≢true (sym empty ∙ any_here cut os i d lt inside)))
        (near_leaves os s goals k paid i d lt ready x adding)

    all_near : list_any cut os ≡ false → (x : ℕ) → leads os s x ≡ true → near x ≡ true
    all_near empty = leads_only os s near (near_start os s goals k paid) (closed empty)

    near_valued : list_any cut os ≡ false → (x : ℕ) → is_some (v x) ≡ true → near x ≡ true
    unfolding leads
    near_valued empty x h = all_near empty x h

    -- the cut is not empty
    cut_some : list_any cut os ≡ true
    cut_some = by (list_any cut os) refl
      where
        by : (b : Bool) → list_any cut os ≡ b → b ≡ true
        by true e = refl
        by false e = absurd (both_ways (list_all near goals) (goals_far os s goals k paid) (list_all_more (λ x. is_some (v x)) near goals (near_valued e) (some_valued v goals (suc k) paid)))

    cut_parts : (o : Operator) → cut o ≡ true → (all_valued v o.pre ≡ true) × (list_all near (support v o.pre) ≡ true) × (list_any zone o.add ≡ true)
    unfolding in_cut
    cut_parts o h =
        let outer = and_parts (all_valued v o.pre) _ h in
        let inner = and_parts (list_all near (support v o.pre)) (list_any zone o.add) outer.1 in
        (outer.0, inner.0, inner.1)

    -- what is in the cut costs something
    pub free_outside : (i : ℕ) (d : Operator) → i < length os → cut (get_or os i d) ≡ true → (get_or os i d).cost ≤ 0 → ⊥
    free_outside i d lt inside free =
        let o : Operator = get_or os i d in
        let parts = cut_parts o inside in
        let y = any_one zone o.add parts.2 in
        let none_paid : o.cost ≡ 0 = omega (arith, free) in
        let back : list_all zone (support v o.pre) ≡ true = zone_backward v os goals i d lt (and_from (eqb o.cost 0) (all_valued v o.pre) (eq-eqb o.cost 0 none_paid) parts.0) y.0 y.1 y.2 in
        by o y.0 none_paid parts.1 back (adds_low os s i d lt y.0 y.1) (zone_is_dear os s goals k paid y.0 y.2) (supported v o.pre)
      where
        by : (o : Operator) (y : ℕ) → o.cost ≡ 0 → list_all near (support v o.pre) ≡ true → list_all zone (support v o.pre) ≡ true → AtMost (v y) (cost_by v o) → not (within k (v y)) ≡ true → IsSupport v o.pre (support v o.pre) → ⊥
        by o y zeros nears zones low dear (none e is) =
            let at : cost_by v o ≡ Some (o.cost + 0) = ap (λ xs. option_map (λ h. o.cost + h) (greatest v xs)) e in
            both_ways (within k (v y)) (not-true _ dear)
            (within-AtMost k (v y) (Some (o.cost + 0)) (subst (AtMost (v y)) at low) (le-leb (o.cost + 0) k (omega arith)))
        by o y zeros nears zones low dear (one x is member value) =
            let near_x = (and_parts (near x) true (sym (ap (list_all near) is) ∙ nears)).0 in
            let zone_x = (and_parts (zone x) true (sym (ap (list_all zone) is) ∙ zones)).0 in
            both_ways (zone x) (not-true _ ((and_parts _ _ (near_is_beside os s goals k paid x near_x)).1)) zone_x

    freed_at : (i : ℕ) (d : Operator) (c : ℕ) → i < length os → c ≡ cut_cost v os goals s → (cut (get_or os i d) && eqb (get_or os i d).cost c) ≡ true → (ltb 0 (get_or os i d).cost && eqb (left (get_or os i d)) 0) ≡ true
    freed_at i d c lt is h =
        let o : Operator = get_or os i d in
        let parts = and_parts (cut o) (eqb o.cost c) h in
        let costs : o.cost ≡ c = eqb-true o.cost c parts.1 in
        let left_is : left o ≡ o.cost - cut_cost v os goals s = ap (λ b. cond b (o.cost - cut_cost v os goals s) o.cost) parts.0 in
        let zeros : left o ≡ 0 = omega (arith, left_is, costs, is) in
        and_from (ltb 0 o.cost) (eqb (left o) 0)
        (⊎_elim (λ more. lt-ltb 0 o.cost more) (λ free. absurd (free_outside i d lt parts.0 free)) (cases_lt 0 o.cost))
        (eq-eqb (left o) 0 zeros)

    freed : list_any (λ o. ltb 0 o.cost && eqb (left o) 0) os ≡ true
    unfolding cut_cost
    freed =
        let c = least_some cut os cut_some in
        any_mapped (λ o. cut o && eqb o.cost c.0) (λ o. ltb 0 o.cost && eqb (left o) 0) os
        (λ i d lt h. freed_at i d c.0 lt (sym (ap (λ a. unwrap_or a 0) c.1)) h)
        (attained cut os c.0 c.1)
      where
        any_mapped : (p q : Operator → Bool) (xs : List Operator) → ((i : ℕ) (d : Operator) → i < length xs → p (get_or xs i d) ≡ true → q (get_or xs i d) ≡ true) → list_any p xs ≡ true → list_any q xs ≡ true
        any_mapped p q [] f e = e
        any_mapped p q (x ∷ xs) f e = ⊎_elim
            (λ here. or_left (q x) (list_any q xs) (f 0 x (omega arith) here))
            (λ later. or_right (q x) (list_any q xs) (any_mapped p q xs (λ i d lt. f (suc i) d (omega (arith, lt))) later))
            (or_cases (p x) (list_any p xs) e)

    pub round_frees : suc (costly (lowered v os goals s)) ≤ costly os
    unfolding lowered
    round_frees = one_fewer left os left_low freed

-- an operator without a cost is in no cut
pub free_left_out : (v : Values) (os : List Operator) (goals : List ℕ) (most : ℕ) (s : Numbers) → AreValuesFor v os goals most s → (k : ℕ) → k < length os → (operator_at os k).cost ≡ 0 → in_cut v os goals s (operator_at os k) ≡ false
free_left_out v os goals most s h k lt free =
    false_from_ne_true (in_cut v os goals s (operator_at os k)) (by most h.some h.paid)
  where
    same : v ≡ fact_values os s
    same = λ i x. h.same x i

    by : (m : ℕ) → 1 ≤ m → greatest v goals ≡ Some m → in_cut v os goals s (operator_at os k) ≡ true → ⊥
    by zero le paid inside = absurd (omega (arith, le))
    by (suc j) le paid inside =
        free_outside os s goals j (ap (λ (u : Values). greatest u goals) (sym same) ∙ paid) k _ lt
        (subst (λ (u : Values). in_cut u os goals s (operator_at os k) ≡ true) same inside)
        (omega (arith, free))

-- all rounds

module _ (goals : List ℕ) (s : Numbers) where
  abbrev next : List Operator → List Operator
  next os = lowered (fact_values os s) os goals s

  enough : (n : ℕ) (os : List Operator) → costly os ≤ n → (more : ℕ) → cuts (n + more) os goals s ≡ cuts n os goals s
  enough zero os few zero = ap (λ n. cuts n os goals s) (let e : 0 + 0 ≡ 0 = omega arith in e)
  enough zero os few (suc more) = by (greatest (fact_values os s) goals) refl
    where
      ended : is_positive (greatest (fact_values os s) goals) ≡ false → cuts (0 + suc more) os goals s ≡ cuts 0 os goals s
      ended e =
          ap (λ n. cuts n os goals s) (let same : 0 + suc more ≡ suc more = omega arith in same)
          ∙ cuts_end os goals s e more
          ∙ sym (no_cuts os goals s)

      by : (a : Option ℕ) → greatest (fact_values os s) goals ≡ a → cuts (0 + suc more) os goals s ≡ cuts 0 os goals s
      by None e = ended (ap is_positive e)
      by (Some zero) e = ended (ap is_positive e)
      by (Some (suc k)) e = absurd (let frees = round_frees os s goals k e in omega arith)
  enough (suc n) os few more = by (greatest (fact_values os s) goals) refl (λ le. enough n (next os) le more)
    where
      ended : is_positive (greatest (fact_values os s) goals) ≡ false → cuts (suc n + more) os goals s ≡ cuts (suc n) os goals s
      ended e =
          ap (λ m. cuts m os goals s) (let same : suc n + more ≡ suc (n + more) = omega arith in same)
          ∙ cuts_end os goals s e (n + more)
          ∙ sym (cuts_end os goals s e n)

      by : (a : Option ℕ) → greatest (fact_values os s) goals ≡ a → (costly (next os) ≤ n → cuts (n + more) (next os) goals s ≡ cuts n (next os) goals s) → cuts (suc n + more) os goals s ≡ cuts (suc n) os goals s
      by None e rest = ended (ap is_positive e)
      by (Some zero) e rest = ended (ap is_positive e)
      by (Some (suc k)) e rest =
          let positive : is_positive (greatest (fact_values os s) goals) ≡ true = ap is_positive e ∙ lt-ltb 0 (suc k) (omega arith) in
          let frees = round_frees os s goals k e in
          ap (λ m. cuts m os goals s) (let same : suc n + more ≡ suc (n + more) = omega arith in same)
          ∙ cuts_go_on os goals s positive (n + more)
          ∙ ap (λ m. cut_cost (fact_values os s) os goals s + m) (rest (omega arith))
          ∙ sym (cuts_go_on os goals s positive n)

pub rounds_end : (os : List Operator) (goals : List ℕ) (s : Numbers) (more : ℕ) → cuts (length os + more) os goals s ≡ cuts (length os) os goals s
rounds_end os goals s more = enough goals s (length os) os (costly_most os) more
