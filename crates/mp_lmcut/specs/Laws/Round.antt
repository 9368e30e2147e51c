-- One round, where the goals cost something: what is in the goal zone is dear, the near side is outside it, and a step
-- from the near side that leaves it is one of the cut. So every plan pays for the cut.
use Rattle.std.proofs.Common.{◌≡◌, ℕ, suc, ◌+◌, Bool, true, false, cond, not, eqb, leb, ◌&&◌, ◌⊎◌, inl, inr, get_or, Option, Some, None, option_map, List, [], ◌∷◌, map, All, refl, sym, ap, ◌∙◌, subst, ⊎_elim, arith}
use Rattle.std.proofs.lemmas.Bool.{true≢false, and_parts, and_from, both_ways, eqb-true, false_from_ne_true, lt-leb, le-leb, not-true, not_from_false, or_left, eq-eqb}
use Rattle.std.proofs.lemmas.List.Elements.{All-filter, All-map, filter_passes}
use Rattle.std.proofs.lemmas.List.Sums.{AllPass-from_list_all, list_all-from_AllPass}
use Rattle.std.specs.FinSet as set
use Rattle.std.specs.List.{filter, list_all, list_any}
use Rattle.std.specs.Option.{is_some}
use Rattle.mp_sets.specs.Numbers.{Numbers}
use Rattle.mp_sets.proofs.NumbersLemmas.{All_at, among_itself}
use Rattle.mp_task.specs.Strips.{Operator}
use Rattle.mp_estimates.specs.Estimates.{AtMost, greater, Values}
use Rattle.mp_estimates.specs.Laws.Order.{AtMost-refl, AtMost-trans, zero_AtMost, greater_left, greater_right, within, within-AtMost}
use Rattle.mp_relaxed.specs.Values.{greatest, cost_by, adds, least_cost, next_values, fact_values}
use Rattle.mp_relaxed.specs.Laws.Equations.{least_above}
use Rattle.mp_relaxed.specs.Laws.Bounds.{start_zero}
use Rattle.mp_lmcut.specs.Cut.{edge, support, all_valued, possible, turned, in_zone, avoiding, is_near, in_cut, priced_by}
use Rattle.mp_lmcut.specs.Laws.Lists.{All-flat_map, All_mapped, All_filtered, any_filtered, any_passes}
use Rattle.mp_lmcut.specs.Laws.Leading.{some_at_most, adds_low, adds_valued, leads_to_start, leads_on, leads_only}
use Rattle.mp_lmcut.specs.Laws.Supports.{IsSupport, supported, support_value, support_among}
use Rattle.mp_lmcut.specs.Laws.Supports.IsSupport.{none, one}

-- what is beyond a number stays so above it
beyond-AtMost : (t : ℕ) (a b : Option ℕ) → AtMost a b → not (within t a) ≡ true → not (within t b) ≡ true
beyond-AtMost t a b le e = by (within t b) refl
  where
    by : (c : Bool) → within t b ≡ c → not c ≡ true
    by true is = absurd (both_ways (within t a) (not-true _ e) (within-AtMost t a b le is))
    by false is = refl

without_cost : (c : ℕ) (a b : Option ℕ) → eqb c 0 ≡ true → AtMost b (option_map (λ h. c + h) a) → AtMost b a
without_cost c None b e h = tt
without_cost c (Some m) None e h = absurd h
without_cost c (Some m) (Some n) e h = let none = eqb-true c 0 e in omega arith

with_cost : (c : ℕ) (b : ℕ) (a : Option ℕ) → AtMost (Some b) a → AtMost (Some b) (option_map (λ h. c + h) a)
with_cost c b None h = tt
with_cost c b (Some n) h = omega arith

at_own_cost : (c : ℕ) (a : Option ℕ) → AtMost (Some c) (option_map (λ h. c + h) a)
at_own_cost c None = tt
at_own_cost c (Some n) = omega arith

module _ (os : List Operator) (s : Numbers) (goals : List ℕ) where
  abbrev v : Values
  v = fact_values os s

  abbrev zone : ℕ → Bool
  zone = in_zone v os goals

  abbrev near : ℕ → Bool
  near = is_near v os goals s

  abbrev cut : Operator → Bool
  cut = in_cut v os goals s

  -- each possible operator leads on from its support, as the avoiding edges have it
  Low : Operator → Type 0
  Low o = (x : ℕ) → adds o x ≡ true → AtMost (v x) (cost_by v o)

  low_all : All Low os
  unfolding Low
  low_all = adds_low os s

  low_at : (o : Operator) → Low o → (x : ℕ) → adds o x ≡ true → AtMost (v x) (cost_by v o)
  unfolding Low
  low_at o low = low

  possible_low : All Low (possible v os)
  possible_low = All-filter (λ o. all_valued v o.pre) Low os low_all

  possible_valued : All (λ o. all_valued v o.pre ≡ true) (possible v os)
  possible_valued = filter_passes (λ o. all_valued v o.pre) os

  module _ (k : ℕ) (paid : greatest v goals ≡ Some (suc k)) where
    abbrev dear : ℕ → Bool
    dear x = not (within k (v x))

    dear_goals : (x : ℕ) → v x ≡ greatest v goals → dear x ≡ true
    dear_goals x e = subst (λ a. not (within k a) ≡ true) (sym (e ∙ paid)) (not_from_false (leb (suc k) k) (lt-leb (suc k) k (omega arith)))

    abbrev last : Numbers
    last = set.from_list (support v goals)

    zone_starts : (x : ℕ) → set.contains last x ≡ true → dear x ≡ true
    zone_starts x member =
        dear_goals x (All_at (λ y. v y ≡ greatest v goals) (support v goals) x (support_value v goals) (sym (set.contains-from_list_nat (support v goals) x) ∙ member))

    -- an edge without a cost leads from what is no dearer
    dear_before : (o : Operator) → eqb o.cost 0 ≡ true → Low o → (y x : ℕ) → adds o y ≡ true → list_any (λ z. eqb z x) (support v o.pre) ≡ true → dear y ≡ true → dear x ≡ true
    dear_before o free low y x adding sup dear_y =
        let value : v x ≡ greatest v o.pre = All_at (λ z. v z ≡ greatest v o.pre) (support v o.pre) x (support_value v o.pre) sup in
        beyond-AtMost k (v y) (v x)
        (subst (AtMost (v y)) (sym value) (without_cost o.cost (greatest v o.pre) (v y) free (low_at o low y adding)))
        dear_y

    abbrev Keeps : (ℕ → Bool) → Operator → Type 0
    Keeps p o = list_all p o.pre ≡ true → (x : ℕ) → adds o x ≡ true → p x ≡ true

    zone_goes_on : All (Keeps dear) (turned v os)
    zone_goes_on =
        let free : List Operator = filter (λ o. eqb o.cost 0) (possible v os) in
        let low : All Low free = All-filter (λ o. eqb o.cost 0) Low (possible v os) possible_low in
        let costless : All (λ o. eqb o.cost 0 ≡ true) free = filter_passes (λ o. eqb o.cost 0) (possible v os) in
        All-flat_map (Keeps dear) (λ o. map (λ y. edge (y ∷ []) (support v o.pre)) o.add) free
        (λ i d lt.
        let o : Operator = get_or free i d in
        All-map (Keeps dear) (λ y. edge (y ∷ []) (support v o.pre)) o.add
        (λ j e less ready x sup. dear_before o (costless i d lt) (low i d lt) (get_or o.add j e) x (among_itself o.add j e less) sup ((and_parts _ _ ready).0)))

    -- what is in the zone is at least as dear as the goals
    pub zone_is_dear : (x : ℕ) → zone x ≡ true → dear x ≡ true
    unfolding in_zone
    zone_is_dear x h = leads_only (turned v os) last dear zone_starts zone_goes_on x h

    -- so no fact of the state is in it
    start_outside : (x : ℕ) → set.contains s x ≡ true → zone x ≡ false
    start_outside x member =
        false_from_ne_true (zone x)
        (λ h. both_ways (within k (v x)) (not-true _ (zone_is_dear x h))
        (within-AtMost k (v x) (Some 0) (start_zero os s x member) (le-leb 0 k (omega arith))))

    abbrev beside : ℕ → Bool
    beside x = is_some (v x) && not (zone x)

    near_starts : (x : ℕ) → set.contains s x ≡ true → beside x ≡ true
    near_starts x member =
        and_from (is_some (v x)) (not (zone x)) (some_at_most (v x) 0 (start_zero os s x member)) (not_from_false (zone x) (start_outside x member))

    near_goes_on : All (Keeps beside) (avoiding zone v os)
    near_goes_on =
        All-map (Keeps beside) (λ o. edge (support v o.pre) (filter (λ x. not (zone x)) o.add)) (possible v os)
        (λ i d lt ready x adding.
        let o : Operator = get_or (possible v os) i d in
        let out : not (zone x) ≡ true = All_at (λ y. not (zone y) ≡ true) (filter (λ y. not (zone y)) o.add) x (filter_passes (λ y. not (zone y)) o.add) adding in
        let own : adds o x ≡ true = All_at (λ y. adds o y ≡ true) (filter (λ y. not (zone y)) o.add) x (All-filter (λ y. not (zone y)) (λ y. adds o y ≡ true) o.add (among_itself o.add)) adding in
        and_from (is_some (v x)) (not (zone x)) (adds_valued os s o x (low_at o (possible_low i d lt) x own) (possible_valued i d lt)) out)

    -- facts of the near side have values and are outside the zone
    pub near_is_beside : (x : ℕ) → near x ≡ true → beside x ≡ true
    unfolding is_near
    near_is_beside x h = leads_only (avoiding zone v os) s beside near_starts near_goes_on x h

    -- the near side keeps to itself, but for the operators of the cut
    abbrev Leaves : Operator → Type 0
    Leaves o = list_all near o.pre ≡ true → (x : ℕ) → adds o x ≡ true → (near x ≡ true) ⊎ (cut o ≡ true)

    near_all : (o : Operator) → list_all near o.pre ≡ true → all_valued v o.pre ≡ true
    near_all o ready =
        let all = AllPass-from_list_all near o.pre ready in
        list_all-from_AllPass (λ x. is_some (v x)) o.pre (λ i d lt. (and_parts _ _ (near_is_beside (get_or o.pre i d) (all i d lt))).0)

    near_support : (o : Operator) → list_all near o.pre ≡ true → list_all near (support v o.pre) ≡ true
    near_support o ready =
        let all = AllPass-from_list_all near o.pre ready in
        list_all-from_AllPass near (support v o.pre)
        (λ i d lt. All_at (λ x. near x ≡ true) o.pre (get_or (support v o.pre) i d) all (support_among v o.pre i d lt))

    near_edges : All (λ o. all_valued v o.pre ≡ true → Keeps near (edge (support v o.pre) (filter (λ x. not (zone x)) o.add))) os
    unfolding is_near
    near_edges =
        All_filtered (λ o. Keeps near (edge (support v o.pre) (filter (λ x. not (zone x)) o.add))) (λ o. all_valued v o.pre) os
        (All_mapped (Keeps near) (λ o. edge (support v o.pre) (filter (λ x. not (zone x)) o.add)) (possible v os)
        (leads_on (avoiding zone v os) s))

    cut_by : (o : Operator) (x : ℕ) → all_valued v o.pre ≡ true → list_all near (support v o.pre) ≡ true → adds o x ≡ true → zone x ≡ true → cut o ≡ true
    unfolding in_cut
    cut_by o x valued ready adding inside =
        and_from (all_valued v o.pre) _ valued (and_from (list_all near (support v o.pre)) (list_any zone o.add) ready (any_passes zone x o.add adding inside))

    pub near_leaves : All Leaves os
    near_leaves = λ i d lt ready x adding.
        let o : Operator = get_or os i d in
        by o ready x adding (near_edges i d lt) (zone x) refl
      where
        by : (o : Operator) → list_all near o.pre ≡ true → (x : ℕ) → adds o x ≡ true → (all_valued v o.pre ≡ true → Keeps near (edge (support v o.pre) (filter (λ y. not (zone y)) o.add))) → (b : Bool) → zone x ≡ b → (near x ≡ true) ⊎ (cut o ≡ true)
        by o ready x adding edges true e = inr (cut_by o x (near_all o ready) (near_support o ready) adding e)
        by o ready x adding edges false e =
            inl (edges (near_all o ready) (near_support o ready) x (any_filtered (λ y. not (zone y)) x o.add adding (not_from_false (zone x) e)))

    pub near_start : (x : ℕ) → set.contains s x ≡ true → near x ≡ true
    unfolding is_near
    near_start x member = leads_to_start (avoiding zone v os) s x member

    zone_start : (x : ℕ) → list_any (λ y. eqb y x) (support v goals) ≡ true → zone x ≡ true
    unfolding in_zone
    zone_start x member = leads_to_start (turned v os) last x (set.contains-from_list_nat (support v goals) x ∙ member)

    -- a goal is far
    pub goals_far : list_all near goals ≡ false
    goals_far = false_from_ne_true (list_all near goals) (λ all. by all (supported v goals))
      where
        by : list_all near goals ≡ true → IsSupport v goals (support v goals) → ⊥
        by all (none e is) =
            let zeros : greatest v [] ≡ Some (suc k) = ap (greatest v) (sym e) ∙ paid in
            let z : Some 0 ≡ Some (suc k) = zeros in
            cc
        by all (one x is member value) =
            both_ways (zone x)
            (not-true _ ((and_parts _ _ (near_is_beside x (All_at (λ y. near y ≡ true) goals x (AllPass-from_list_all near goals all) member))).1))
            (zone_start x (ap (list_any (λ y. eqb y x)) is ∙ or_left (eqb x x) false (eq-eqb x x refl)))

    -- what is far costs as much as the cut, where the cut's operators cost so much and others nothing
    module _ (c : ℕ) where
      abbrev pub of_cut : Operator → ℕ
      of_cut o = cond (cut o) c 0

      pub far : Values
      far x = cond (near x) (Some 0) (Some c)

      far_greatest : (xs : List ℕ) → list_all near xs ≡ false → AtMost (Some c) (greatest far xs)
      unfolding far
      far_greatest [] e = absurd (true≢false e)
      far_greatest (x ∷ xs) e = by (near x) e (far_greatest xs)
        where
          by : (b : Bool) → (b && list_all near xs) ≡ false → (list_all near xs ≡ false → AtMost (Some c) (greatest far xs)) → AtMost (Some c) (greater (cond b (Some 0) (Some c)) (greatest far xs))
          by true h rest = AtMost-trans (Some c) (greatest far xs) _ (rest h) (greater_right (Some 0) (greatest far xs))
          by false h rest = greater_left (Some c) (greatest far xs)

      far_by : (o : Operator) (x : ℕ) → Leaves o → adds o x ≡ true → AtMost (far x) (option_map (λ h. of_cut o + h) (greatest far o.pre))
      unfolding far
      far_by o x leaves adding = by (near x) refl (list_all near o.pre) refl
        where
          in_cut_pays : cut o ≡ true → AtMost (Some c) (option_map (λ h. of_cut o + h) (greatest far o.pre))
          in_cut_pays e = subst (λ b. AtMost (Some c) (option_map (λ h. cond b c 0 + h) (greatest far o.pre))) (sym e) (at_own_cost c (greatest far o.pre))

          by : (b : Bool) → near x ≡ b → (a : Bool) → list_all near o.pre ≡ a → AtMost (cond b (Some 0) (Some c)) (option_map (λ h. of_cut o + h) (greatest far o.pre))
          by true here a e = zero_AtMost (option_map (λ h. of_cut o + h) (greatest far o.pre))
          by false here false e = with_cost (of_cut o) c (greatest far o.pre) (far_greatest o.pre e)
          by false here true e = ⊎_elim
              (λ h. absurd (both_ways (near x) here h))
              (λ h. in_cut_pays h)
              (leaves e x adding)

      pub far_low : (x : ℕ) → AtMost (far x) (next_values (priced_by of_cut os) s far x)
      unfolding far
      far_low x = by (set.contains s x) refl
        where
          by : (b : Bool) → set.contains s x ≡ b → AtMost (far x) (cond b (Some 0) (least_cost far (priced_by of_cut os) x))
          by true member = subst (λ b. AtMost (cond b (Some 0) (Some c)) (Some 0)) (sym (near_start x member)) (AtMost-refl (Some 0))
          by false member =
              least_above far (far x) x (priced_by of_cut os)
              (All-map (λ o. adds o x ≡ true → AtMost (far x) (cost_by far o)) (λ o. record o { cost = of_cut o }) os
              (λ i d lt adding. far_by (get_or os i d) x (near_leaves i d lt) adding))

      pub far_start : (x : ℕ) → set.contains s x ≡ true → AtMost (far x) (Some 0)
      unfolding far
      far_start x member = subst (λ b. AtMost (cond b (Some 0) (Some c)) (Some 0)) (sym (near_start x member)) (AtMost-refl (Some 0))

      pub goals_cost : AtMost (Some c) (greatest far goals)
      goals_cost = far_greatest goals goals_far
