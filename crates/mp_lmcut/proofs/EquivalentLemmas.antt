-- LM-cut is the same without operators that others dominate: this holds in each round, since operators with the same
-- preconditions and adds are in a cut together or not at all, and so the one of the least cost stays so.
use Rattle.std.proofs.Common.{◌≡◌, ◌⊎◌, inl, inr, ℕ, zero, suc, ◌+◌, ◌-◌, ◌≤◌, Bool, true, false, cond, not, eqb, ◌&&◌, get_or, Option, Some, option_map, List, [], ◌∷◌, ◌++◌, length, map, All, Contains, refl, sym, ap, ◌∙◌, subst, zero-le, arith}
use Rattle.std.proofs.lemmas.Bool.{and_parts, eq-eqb, eqb-true, false≢true}
use Rattle.std.proofs.lemmas.List.Elements.{All-cons, All-contains, All-contains_itself, All-filter, All-head, All-map, All-nil, All-tail, All-weaker, Contains-append_left, Contains-append_right, Contains-get_or, filter_passes}
use Rattle.std.specs.FinSet as set
use Rattle.std.specs.List.{filter, flat_map, list_all, list_any}
use Rattle.std.specs.Option.{is_some, unwrap_or}
use Rattle.mp_sets.specs.Numbers.{Numbers}
use Rattle.mp_task.specs.AgentTask.{AgentTask}
use Rattle.mp_task.specs.Projected.{projected, projected_state}
use Rattle.mp_task.specs.Strips.{Operator}
use Rattle.mp_estimates.specs.Estimates.{AtMost, Values}
use Rattle.mp_estimates.specs.Laws.Order.{AtMost-antisym, AtMost-trans, lesser_both}
use Rattle.mp_relaxed.specs.Dominated.{AreDominated, AreEquivalent, Dominates, HasDominating, IsEquivalent}
use Rattle.mp_relaxed.specs.Relaxed.{RelaxedProblem, delete_relaxation, state_of, without_deletes}
use Rattle.mp_relaxed.specs.Values.{fact_values, greatest}
use Rattle.mp_relaxed.proofs.DominatedLemmas.{Contains-map, equivalent_bare, same_values}
use Rattle.mp_lmcut.specs.Cut.{all_valued, avoiding, cheaper_where, cut_cost, cuts, edge, in_cut, in_zone, is_near, is_positive, leads, least, lmcut, lmcut_of, lowered, possible, support, turned}
use Rattle.mp_lmcut.specs.Sides.{least_where}
use Rattle.mp_lmcut.specs.Laws.Costs.{least_low}
use Rattle.mp_lmcut.specs.Laws.Lists.{All-flat_map, All_filtered, All_mapped}
use Rattle.mp_lmcut.proofs.EndLemmas.{rounds_end}

-- lists

Contains-filter : {X : Type 0} (p : X → Bool) (xs : List X) (x : X) → Contains xs x → p x ≡ true → Contains (filter p xs) x
Contains-filter p xs x c =
    All-contains (λ y. p y ≡ true → Contains (filter p xs) y) xs x
    (All_filtered (Contains (filter p xs)) p xs (All-contains_itself (filter p xs))) c

each_among : {X Y : Type 0} (f : X → List Y) (xs : List X) → All (λ x. All (Contains (flat_map f xs)) (f x)) xs
each_among f [] = All-nil (λ x. All (Contains (flat_map f [])) (f x))
each_among f (z ∷ zs) =
    All-cons (λ x. All (Contains (f z ++ flat_map f zs)) (f x)) z zs
    (All-weaker (Contains (f z)) (Contains (f z ++ flat_map f zs)) (λ w e. Contains-append_left (f z) (flat_map f zs) w e) (f z) (All-contains_itself (f z)))
    (All-weaker (λ x. All (Contains (flat_map f zs)) (f x)) (λ x. All (Contains (f z ++ flat_map f zs)) (f x))
    (λ x h. All-weaker (Contains (flat_map f zs)) (Contains (f z ++ flat_map f zs)) (λ w e. Contains-append_right (f z) (flat_map f zs) w e) (f x) h)
    zs (each_among f zs))

Contains-flat_map : {X Y : Type 0} (f : X → List Y) (xs : List X) (x : X) (y : Y) → Contains xs x → Contains (f x) y → Contains (flat_map f xs) y
Contains-flat_map f xs x y c d =
    All-contains (Contains (flat_map f xs)) (f x) y
    (All-contains (λ z. All (Contains (flat_map f xs)) (f z)) xs x (each_among f xs) c) d

-- lists that are made of operators by their preconditions and adds

module _ (qs os : List Operator) (h : AreDominated qs os) where
  filter_dominated : (p : Operator → Bool) → ((q o : Operator) → Dominates q o → p o ≡ true → p q ≡ true) → AreDominated (filter p qs) (filter p os)
  filter_dominated p agrees = λ i d lt.
      by (get_or (filter p os) i d) (All-filter p (λ (o : Operator). (o.add ≡ []) ⊎ HasDominating qs o) os h i d lt) (filter_passes p os i d lt)
    where
      by : (o : Operator) → (o.add ≡ []) ⊎ HasDominating qs o → p o ≡ true → (o.add ≡ []) ⊎ HasDominating (filter p qs) o
      by o (inl none) e = inl none
      by o (inr has) e = inr (record {
        q = has.q;
        among = Contains-filter p qs has.q has.among (agrees has.q o has.dominates e);
        dominates = has.dominates;
      })

  map_dominated : (f : Operator → Operator) → ((o : Operator) → o.add ≡ [] → (f o).add ≡ []) → ((q o : Operator) → Dominates q o → Dominates (f q) (f o)) → AreDominated (map f qs) (map f os)
  map_dominated f none agrees =
      All-map (λ (o : Operator). (o.add ≡ []) ⊎ HasDominating (map f qs) o) f os (λ i d lt. by (get_or os i d) (h i d lt))
    where
      by : (o : Operator) → (o.add ≡ []) ⊎ HasDominating qs o → ((f o).add ≡ []) ⊎ HasDominating (map f qs) (f o)
      by o (inl e) = inl (none o e)
      by o (inr has) = inr (record {
        q = f has.q;
        among = Contains-map f qs has.q has.among;
        dominates = agrees has.q o has.dominates;
      })

  abbrev edges : Values → Operator → List Operator
  edges v o = map (λ y. edge (y ∷ []) (support v o.pre)) o.add

  abbrev IsReplaced : Values → Operator → Type 0
  IsReplaced v o = (o.add ≡ []) ⊎ HasDominating (flat_map (edges v) qs) o

  edges_dominated : (v : Values) → AreDominated (flat_map (edges v) qs) (flat_map (edges v) os)
  edges_dominated v = All-flat_map (IsReplaced v) (edges v) os (λ i d lt. by (get_or os i d) (h i d lt))
    where
      by : (o : Operator) → (o.add ≡ []) ⊎ HasDominating qs o → All (IsReplaced v) (edges v o)
      by o (inl none) = subst (λ xs. All (IsReplaced v) (map (λ y. edge (y ∷ []) (support v o.pre)) xs)) (sym none) (All-nil (IsReplaced v))
      by o (inr has) =
          All-map (IsReplaced v) (λ y. edge (y ∷ []) (support v o.pre)) o.add
          (λ i d lt. inr (record {
            q = edge (get_or o.add i d ∷ []) (support v has.q.pre);
            among = Contains-flat_map (edges v) qs has.q (edge (get_or o.add i d ∷ []) (support v has.q.pre)) has.among
                (Contains-map (λ y. edge (y ∷ []) (support v has.q.pre)) has.q.add (get_or o.add i d)
                (subst (λ xs. Contains xs (get_or o.add i d)) (sym has.dominates.added) (Contains-get_or o.add i d lt)));
            dominates = record { needed = refl; added = ap (support v) has.dominates.needed; cheap = zero-le };
          }))

module _ (v : Values) (qs os : List Operator) (h : AreDominated qs os) where
  possible_dominated : AreDominated (possible v qs) (possible v os)
  possible_dominated =
      filter_dominated qs os h (λ o. all_valued v o.pre) (λ q o d e. ap (all_valued v) d.needed ∙ e)

  turned_dominated : AreDominated (turned v qs) (turned v os)
  turned_dominated =
      edges_dominated (filter (λ o. eqb o.cost 0) (possible v qs)) (filter (λ o. eqb o.cost 0) (possible v os))
      (filter_dominated (possible v qs) (possible v os) possible_dominated (λ o. eqb o.cost 0)
      (λ q o d e. eq-eqb q.cost 0 (let none = eqb-true o.cost 0 e in let le = d.cheap in omega arith)))
      v

  avoiding_dominated : (zone : ℕ → Bool) → AreDominated (avoiding zone v qs) (avoiding zone v os)
  avoiding_dominated zone =
      map_dominated (possible v qs) (possible v os) possible_dominated (λ o. edge (support v o.pre) (filter (λ x. not (zone x)) o.add))
      (λ o none. ap (filter (λ x. not (zone x))) none)
      (λ q o d. record { needed = ap (support v) d.needed; added = ap (filter (λ x. not (zone x))) d.added; cheap = zero-le })

-- a cut

in_cut_adds : (v : Values) (os : List Operator) (goals : List ℕ) (s : Numbers) (o : Operator) → in_cut v os goals s o ≡ true → list_any (in_zone v os goals) o.add ≡ true
unfolding in_cut
in_cut_adds v os goals s o e = (and_parts _ _ ((and_parts _ _ e).1)).1

in_cut_agrees : (v : Values) (os : List Operator) (goals : List ℕ) (s : Numbers) (q o : Operator) → Dominates q o → in_cut v os goals s q ≡ in_cut v os goals s o
unfolding in_cut
in_cut_agrees v os goals s q o d =
    λ i. all_valued v (d.needed i) && (list_all (is_near v os goals s) (support v (d.needed i)) && list_any (in_zone v os goals) (d.added i))

least_high : (a : Option ℕ) (costs : List ℕ) → All (λ c. AtMost a (Some c)) costs → AtMost a (least costs)
least_high a [] h = tt
least_high a (c ∷ costs) h =
    lesser_both a (Some c) (least costs) (All-head (λ d. AtMost a (Some d)) c costs h) (least_high a costs (All-tail (λ d. AtMost a (Some d)) c costs h))

module _ (v : Values) (goals : List ℕ) (s : Numbers) (rs qs os : List Operator) (h : AreDominated qs os) where
  abbrev cut : Operator → Bool
  cut = in_cut v rs goals s

  least_cut : AtMost (least_where cut qs) (least_where cut os)
  least_cut =
      least_high (least_where cut qs) (map (λ (o : Operator). o.cost) (filter cut os))
      (All-map (λ c. AtMost (least_where cut qs) (Some c)) (λ (o : Operator). o.cost) (filter cut os)
      (λ i d lt. by (get_or (filter cut os) i d) (filter_dominated qs os h cut (λ q o e t. in_cut_agrees v rs goals s q o e ∙ t) i d lt) (filter_passes cut os i d lt)))
    where
      low : All (λ (q : Operator). AtMost (least_where cut qs) (Some q.cost)) (filter cut qs)
      low = All_mapped (λ c. AtMost (least_where cut qs) (Some c)) (λ (q : Operator). q.cost) (filter cut qs) (least_low (map (λ (q : Operator). q.cost) (filter cut qs)))

      by : (o : Operator) → (o.add ≡ []) ⊎ HasDominating (filter cut qs) o → cut o ≡ true → AtMost (least_where cut qs) (Some o.cost)
      by o (inl none) e = absurd (false≢true (ap (list_any (in_zone v rs goals)) (sym none) ∙ in_cut_adds v rs goals s o e))
      by o (inr has) e =
          AtMost-trans (least_where cut qs) (Some has.q.cost) (Some o.cost)
          (All-contains (λ (q : Operator). AtMost (least_where cut qs) (Some q.cost)) (filter cut qs) has.q low has.among)
          has.dominates.cheap

  cheaper_dominated : (c : ℕ) → AreDominated (cheaper_where cut c qs) (cheaper_where cut c os)
  cheaper_dominated c =
      map_dominated qs os h (λ o. record o { cost = cond (cut o) (o.cost - c) o.cost }) (λ o none. none)
      (λ q o d. record {
        needed = d.needed;
        added = d.added;
        cheap = subst (λ b. cond b (q.cost - c) q.cost ≤ cond (cut o) (o.cost - c) o.cost) (sym (in_cut_agrees v rs goals s q o d)) (by q.cost o.cost d.cheap (cut o));
      })
    where
      by : (m n : ℕ) → m ≤ n → (b : Bool) → cond b (m - c) m ≤ cond b (n - c) n
      by m n le true = omega arith
      by m n le false = le

module _ (v : Values) (goals : List ℕ) (s : Numbers) (qs os : List Operator) (h : AreEquivalent qs os) where
  same_zone : in_zone v qs goals ≡ in_zone v os goals
  unfolding in_zone leads
  same_zone = λ i x.
      is_some (same_values (turned v qs) (turned v os)
      (record { onward = turned_dominated v qs os h.onward; back = turned_dominated v os qs h.back })
      (set.from_list (support v goals)) x i)

  same_near : is_near v qs goals s ≡ is_near v os goals s
  unfolding is_near leads
  same_near =
      (λ i x. is_some (same_values (avoiding (in_zone v qs goals) v qs) (avoiding (in_zone v qs goals) v os)
      (record { onward = avoiding_dominated v qs os h.onward (in_zone v qs goals); back = avoiding_dominated v os qs h.back (in_zone v qs goals) })
      s x i))
      ∙ (λ i x. is_some (fact_values (avoiding (same_zone i) v os) s x))

  same_cut : in_cut v qs goals s ≡ in_cut v os goals s
  unfolding in_cut
  same_cut = λ i o. all_valued v o.pre && (list_all (same_near i) (support v o.pre) && list_any (same_zone i) o.add)

  same_cost : cut_cost v qs goals s ≡ cut_cost v os goals s
  unfolding cut_cost
  same_cost =
      ap (λ a. unwrap_or a 0)
      (AtMost-antisym (least_where (in_cut v qs goals s) qs) (least_where (in_cut v qs goals s) os)
      (least_cut v goals s qs qs os h.onward) (least_cut v goals s qs os qs h.back))
      ∙ ap (λ (such : Operator → Bool). unwrap_or (least_where such os) 0) same_cut

  lowered_equivalent : AreEquivalent (lowered v qs goals s) (lowered v os goals s)
  unfolding lowered
  lowered_equivalent =
      subst (λ c. AreEquivalent (cheaper_where (in_cut v qs goals s) (cut_cost v qs goals s) qs) (cheaper_where (in_cut v os goals s) c os)) same_cost
      (subst (λ (such : Operator → Bool). AreEquivalent (cheaper_where (in_cut v qs goals s) (cut_cost v qs goals s) qs) (cheaper_where such (cut_cost v qs goals s) os)) same_cut
      (record {
        onward = cheaper_dominated v goals s qs qs os h.onward (cut_cost v qs goals s);
        back = cheaper_dominated v goals s qs os qs h.back (cut_cost v qs goals s);
      }))

-- rounds

module _ (goals : List ℕ) (s : Numbers) where
  values_path : (qs os : List Operator) → AreEquivalent qs os → fact_values qs s ≡ fact_values os s
  values_path qs os h = λ i x. same_values qs os h s x i

  same_rounds : (n : ℕ) (qs os : List Operator) → AreEquivalent qs os → cuts n qs goals s ≡ cuts n os goals s
  unfolding cuts
  same_rounds zero qs os h = refl
  same_rounds (suc n) qs os h =
      let cost = same_cost (fact_values qs s) goals s qs os h ∙ ap (λ (v : Values). cut_cost v os goals s) (values_path qs os h) in
      let rest = same_rounds n (lowered (fact_values qs s) qs goals s) (lowered (fact_values os s) os goals s)
      (subst (λ (v : Values). AreEquivalent (lowered (fact_values qs s) qs goals s) (lowered v os goals s)) (values_path qs os h)
      (lowered_equivalent (fact_values qs s) goals s qs os h)) in
      λ i. cond (is_positive (greatest (values_path qs os h i) goals)) (cost i + rest i) 0

  same_cuts : (qs os : List Operator) → AreEquivalent qs os → cuts (length qs) qs goals s ≡ cuts (length os) os goals s
  same_cuts qs os h =
      sym (rounds_end qs goals s (length os))
      ∙ same_rounds (length qs + length os) qs os h
      ∙ ap (λ n. cuts n os goals s) (let e : length qs + length os ≡ length os + length qs = omega arith in e)
      ∙ rounds_end os goals s (length qs)

  same_lmcut : (qs os : List Operator) → AreEquivalent qs os → lmcut_of qs goals s ≡ lmcut_of os goals s
  same_lmcut qs os h = λ i. option_map (λ _. same_cuts qs os h i) (greatest (values_path qs os h i) goals)

-- a problem that is equivalent to that of a task
pub lmcut_found : (t : AgentTask) (r : RelaxedProblem) (p q : Numbers) → IsEquivalent r (delete_relaxation t) → lmcut_of r.operators r.goals (state_of r p q) ≡ lmcut t p q
lmcut_found t r p q e =
    ap (λ (m : RelaxedProblem). lmcut_of r.operators m.goals (state_of m p q)) e.same
    ∙ same_lmcut (projected t).goals (projected_state t p q) r.operators (map without_deletes (projected t).operators) e.operators
    ∙ same_lmcut (projected t).goals (projected_state t p q) (map without_deletes (projected t).operators) (projected t).operators (equivalent_bare (projected t).operators)
