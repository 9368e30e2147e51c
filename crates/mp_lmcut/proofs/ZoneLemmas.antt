-- The goal zone by marks.
use Rattle.std.proofs.Common.{◌≡◌, ℕ, ◌+◌, ◌<◌, ◌≤◌, Bool, true, false, cond, eqb, ◌||◌, List, [], ◌∷◌, ◌++◌, length, map, get_or, All, refl, sym, ap, ◌∙◌, subst, ⊎_elim, arith}
use Rattle.std.proofs.lemmas.Bool.{and_from, and_parts, both_ways, cases_Bool, false_from_ne_true, false≢true}
use Rattle.std.proofs.lemmas.List.{get_or_default}
use Rattle.std.proofs.lemmas.List.Elements.{All-cons, All-filter, All-head, All-map, All-nil, All-tail, Contains-get_or, filter_passes}
use Rattle.std.proofs.lemmas.List.Sums.{AllPass-from_list_all, list_all-from_AllPass}
use Rattle.std.specs.FinSet as set
use Rattle.std.specs.List.{filter, flat_map, list_all, list_any}
use Rattle.mp_sets.specs.Numbers.{Numbers}
use Rattle.mp_sets.proofs.NumbersLemmas.{All_at, among_itself}
use Rattle.mp_task.specs.Strips.{Operator}
use Rattle.mp_relaxed.specs.Relaxed.{HasAdders, operator_at}
use Rattle.mp_relaxed.specs.Users.{times}
use Rattle.mp_estimates.specs.Estimates.{Values}
use Rattle.mp_relaxed.specs.Values.{adds}
use Rattle.mp_relaxed.proofs.TimesLemmas.{times_contained}
use Rattle.mp_lmcut.specs.Cut.{all_valued, edge, in_zone, possible, support, turned}
use Rattle.mp_lmcut.specs.Marked.{is_marked}
use Rattle.mp_lmcut.specs.Sides.{IsFollowed, IsTurned, IsZone, Supports, TurnsBack, is_free}
use Rattle.mp_lmcut.specs.Laws.Lists.{All-flat_map, All_filtered, All_mapped}
use Rattle.mp_lmcut.specs.Laws.Leading.{leads_on, leads_only, leads_to_start}

-- lists

pub list_all_more : (p q : ℕ → Bool) (xs : List ℕ) → ((x : ℕ) → p x ≡ true → q x ≡ true) → list_all p xs ≡ true → list_all q xs ≡ true
list_all_more p q xs f h =
    let all = AllPass-from_list_all p xs h in
    list_all-from_AllPass q xs (λ i d lt. f (get_or xs i d) (all i d lt))

All_flat_mapped : {X Y : Type 0} (P : Y → Type 0) (f : X → List Y) (xs : List X) → All P (flat_map f xs) → All (λ x. All P (f x)) xs
All_flat_mapped P f [] h = All-nil (λ x. All P (f x))
All_flat_mapped P f (x ∷ xs) h =
    All-cons (λ y. All P (f y)) x xs (first (f x) h) (All_flat_mapped P f xs (later (f x) h))
  where
    first : (ys : List _) → All P (ys ++ flat_map f xs) → All P ys
    first [] h = All-nil P
    first (y ∷ ys) h = All-cons P y ys (All-head P y (ys ++ flat_map f xs) h) (first ys (All-tail P y (ys ++ flat_map f xs) h))

    later : (ys : List _) → All P (ys ++ flat_map f xs) → All P (flat_map f xs)
    later [] h = h
    later (y ∷ ys) h = later ys (All-tail P y (ys ++ flat_map f xs) h)

pub any_times : (x : ℕ) (xs : List ℕ) → 1 ≤ times x xs → list_any (λ y. eqb y x) xs ≡ true
any_times x [] h = absurd (omega (arith, h))
any_times x (y ∷ ys) h = by (eqb y x) h (any_times x ys)
  where
    by : (b : Bool) → 1 ≤ cond b (times x ys + 1) (times x ys) → (1 ≤ times x ys → list_any (λ z. eqb z x) ys ≡ true) → (b || list_any (λ z. eqb z x) ys) ≡ true
    by true k rest = refl
    by false k rest = rest k

pub times_any : (x : ℕ) (xs : List ℕ) → list_any (λ y. eqb y x) xs ≡ true → 1 ≤ times x xs
times_any x [] h = absurd (false≢true h)
times_any x (y ∷ ys) h = by (eqb y x) h (times_any x ys)
  where
    by : (b : Bool) → (b || list_any (λ z. eqb z x) ys) ≡ true → (list_any (λ z. eqb z x) ys ≡ true → 1 ≤ times x ys) → 1 ≤ cond b (times x ys + 1) (times x ys)
    by true k rest = omega arith
    by false k rest = rest k

-- what holds at each place of a list holds of each number in it
pub at_times : (P : ℕ → Type 0) (k : ℕ) (xs : List ℕ) → ((j : ℕ) → j < length xs → P (get_or xs j 0)) → 1 ≤ times k xs → P k
at_times P k xs all h = All_at P xs k (λ j d lt. subst P (get_or_default xs j 0 d lt) (all j lt)) (any_times k xs h)

-- the zone

module _ (v : Values) (os : List Operator) (goals : List ℕ) where
  abbrev zone : ℕ → Bool
  zone = in_zone v os goals

  abbrev last : Numbers
  last = set.from_list (support v goals)

  -- an operator keeps a test where, if one of its adds passes it, its support does
  abbrev pub Backward : (ℕ → Bool) → Operator → Type 0
  Backward p o = is_free v o ≡ true → (y : ℕ) → adds o y ≡ true → p y ≡ true → list_all p (support v o.pre) ≡ true

  abbrev Keeps : (ℕ → Bool) → Operator → Type 0
  Keeps p o = list_all p o.pre ≡ true → (x : ℕ) → adds o x ≡ true → p x ≡ true

  abbrev free_edges : Operator → List Operator
  free_edges o = map (λ y. edge (y ∷ []) (support v o.pre)) o.add

  pub zone_start : (x : ℕ) → Supports v goals x → zone x ≡ true
  unfolding in_zone
  zone_start x member = leads_to_start (turned v os) last x (set.contains-from_list_nat (support v goals) x ∙ member)

  zone_steps : All (λ o. all_valued v o.pre ≡ true → eqb o.cost 0 ≡ true → All (Keeps zone) (free_edges o)) os
  unfolding in_zone
  zone_steps =
      All_filtered (λ o. eqb o.cost 0 ≡ true → All (Keeps zone) (free_edges o)) (λ o. all_valued v o.pre) os
      (All_filtered (λ o. All (Keeps zone) (free_edges o)) (λ o. eqb o.cost 0) (possible v os)
      (All_flat_mapped (Keeps zone) free_edges (filter (λ o. eqb o.cost 0) (possible v os))
      (leads_on (turned v os) last)))

  pub zone_backward : All (Backward zone) os
  zone_backward = λ k d lt free y adding inside.
      let o : Operator = get_or os k d in
      let both = and_parts (eqb o.cost 0) (all_valued v o.pre) free in
      let edges = All_mapped (Keeps zone) (λ z. edge (z ∷ []) (support v o.pre)) o.add (zone_steps k d lt both.1 both.0) in
      let step = All_at (λ z. Keeps zone (edge (z ∷ []) (support v o.pre))) o.add y edges adding in
      list_all-from_AllPass zone (support v o.pre)
      (λ i e less. step (and_from (zone y) true inside refl) (get_or (support v o.pre) i e) (among_itself (support v o.pre) i e less))

  pub zone_least : (p : ℕ → Bool) → list_all p (support v goals) ≡ true → All (Backward p) os → (x : ℕ) → zone x ≡ true → p x ≡ true
  unfolding in_zone
  zone_least p start back x h = leads_only (turned v os) last p starts goes_on x h
    where
      starts : (y : ℕ) → set.contains last y ≡ true → p y ≡ true
      starts y member =
          All_at (λ z. p z ≡ true) (support v goals) y (AllPass-from_list_all p (support v goals) start) (sym (set.contains-from_list_nat (support v goals) y) ∙ member)

      goes_on : All (Keeps p) (turned v os)
      goes_on =
          let free : List Operator = filter (λ o. eqb o.cost 0) (possible v os) in
          let valued : All (λ o. all_valued v o.pre ≡ true) free = All-filter (λ o. eqb o.cost 0) (λ o. all_valued v o.pre ≡ true) (possible v os) (filter_passes (λ o. all_valued v o.pre) os) in
          let keeps : All (Backward p) free = All-filter (λ o. eqb o.cost 0) (Backward p) (possible v os) (All-filter (λ o. all_valued v o.pre) (Backward p) os back) in
          let costless : All (λ o. eqb o.cost 0 ≡ true) free = filter_passes (λ o. eqb o.cost 0) (possible v os) in
          All-flat_map (Keeps p) free_edges free
          (λ i d lt.
          let o : Operator = get_or free i d in
          All-map (Keeps p) (λ y. edge (y ∷ []) (support v o.pre)) o.add
          (λ j e less ready z sup.
          All_at (λ w. p w ≡ true) (support v o.pre) z
          (AllPass-from_list_all p (support v o.pre)
          (keeps i d lt (and_from _ _ (costless i d lt) (valued i d lt)) (get_or o.add j e) (among_itself o.add j e less) ((and_parts _ _ ready).0)))
          sup))

  -- marks that begin at the support of the goals, go back, and stay in the zone are the zone
  pub zone_marked : (flags : List Bool) → list_all (is_marked flags) (support v goals) ≡ true → ((x : ℕ) → is_marked flags x ≡ true → (zone x ≡ true) × TurnsBack v os x flags) → IsZone v os goals flags
  zone_marked flags start all x = ⊎_elim
      (λ e. e ∙ sym ((all x e).0))
      (λ e. e ∙ sym (false_from_ne_true (zone x)
      (λ h. both_ways (is_marked flags x) e
      (zone_least (is_marked flags) start (λ k d lt free y adding marked. (all y marked).1 k d lt adding free) x h))))
      (cases_Bool (is_marked flags x))

  -- a support of an operator without a cost that adds a fact of the zone is in the zone
  pub turned_inside : (k x y : ℕ) → k < length os → adds (operator_at os k) x ≡ true → zone x ≡ true → is_free v (operator_at os k) ≡ true → Supports v (operator_at os k).pre y → zone y ≡ true
  turned_inside k x y lt adding inside free sup =
      All_at (λ z. zone z ≡ true) (support v (operator_at os k).pre) y
      (AllPass-from_list_all zone (support v (operator_at os k).pre) (zone_backward k _ lt free x adding inside))
      sup

  -- each operator that adds a fact is among its adders
  pub turns_back : (x : ℕ) (adders : List ℕ) (flags : List Bool) → HasAdders os x adders → ((j : ℕ) → j < length adders → IsTurned v (operator_at os (get_or adders j 0)) flags) → TurnsBack v os x flags
  turns_back x adders flags has done = λ k d lt adding.
      let same : get_or os k d ≡ operator_at os k = get_or_default os k d _ lt in
      let often = times_any x (operator_at os k).add (ap (λ (o : Operator). adds o x) (sym same) ∙ adding) in
      let listed = has k lt in
      subst (λ (o : Operator). IsTurned v o flags) (sym same)
      (at_times (λ j. IsTurned v (operator_at os j) flags) k adders done (omega arith))

  -- and each of these adds it
  pub adder_adds : (x : ℕ) (adders : List ℕ) (j : ℕ) → HasAdders os x adders → j < length adders → get_or adders j 0 < length os → adds (operator_at os (get_or adders j 0)) x ≡ true
  adder_adds x adders j has lt within =
      let once = times_contained (get_or adders j 0) adders (Contains-get_or adders j 0 lt) in
      let listed = has (get_or adders j 0) within in
      any_times x (operator_at os (get_or adders j 0)).add (omega arith)

pub turned_kept : (v : Values) (o : Operator) (a b : List Bool) → ((x : ℕ) → is_marked a x ≡ true → is_marked b x ≡ true) → IsTurned v o a → IsTurned v o b
turned_kept v o a b kept done free = list_all_more (is_marked a) (is_marked b) (support v o.pre) kept (done free)

pub turns_kept : (v : Values) (os : List Operator) (x : ℕ) (a b : List Bool) → ((y : ℕ) → is_marked a y ≡ true → is_marked b y ≡ true) → TurnsBack v os x a → TurnsBack v os x b
turns_kept v os x a b kept done = λ k d lt adding. turned_kept v (get_or os k d) a b kept (done k d lt adding)

pub followed_kept : (v : Values) (os : List Operator) (inside : List ℕ) (x : ℕ) (a b : List Bool) → ((y : ℕ) → is_marked a y ≡ true → is_marked b y ≡ true) → IsFollowed v os inside x a → IsFollowed v os inside x b
followed_kept v os inside x a b kept done = (turns_kept v os x a b kept done.0, done.1)
