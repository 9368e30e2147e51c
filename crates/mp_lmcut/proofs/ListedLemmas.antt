-- The operators of a cut as a list, and that they alone get cheaper.
use Rattle.std.proofs.Common.{◌≡◌, ℕ, zero, suc, ◌-◌, ◌<◌, ◌≤◌, Bool, true, false, cond, eqb, ◌&&◌, ◌||◌, Some, List, [], ◌∷◌, ◌++◌, length, map, get_or, All, Contains, refl, sym, ap, ◌∙◌, subst, ⊎_elim, arith}
use Rattle.std.proofs.lemmas.Bool.{and_parts, both_ways, cases_Bool, eq-eqb, false≢true, false_from_ne_true, or_left, or_right}
use Rattle.std.proofs.lemmas.List.{get_or_default, map-append}
use Rattle.std.proofs.lemmas.List.Elements.{All-append, All-cons, All-contains, All-filter, All-map, All-nil, Contains-append_left, Contains-push, filter_passes}
use Rattle.std.specs.List.{filter, list_all, list_any}
use Rattle.std.specs.Option.{unwrap_or}
use Rattle.mp_sets.specs.Numbers.{Numbers}
use Rattle.mp_sets.proofs.NumbersLemmas.{All_at}
use Rattle.mp_task.specs.Strips.{Operator}
use Rattle.mp_estimates.specs.Estimates.{AtMost, Values}
use Rattle.mp_estimates.specs.Laws.Order.{AtMost-antisym}
use Rattle.mp_relaxed.specs.Relaxed.{AreCheaper, HasAdders, RelaxedProblem, operator_at}
use Rattle.mp_relaxed.proofs.TimesLemmas.{times_contained}
use Rattle.mp_lmcut.specs.Cut.{all_valued, cheaper_where, in_cut, in_zone, is_near, least, priced_by, support}
use Rattle.mp_lmcut.specs.Laws.Lists.{All_filtered, All_mapped, any_passes}
use Rattle.mp_lmcut.specs.Sides.{AreListed, AreNoted, HaveNoted, is_from_near, least_where, lowered_at}
use Rattle.mp_lmcut.proofs.CostLemmas.{add_at, length-priced_by}
use Rattle.mp_lmcut.proofs.CutLemmas.{least_high, least_low, lowered_same}
use Rattle.mp_lmcut.proofs.ZoneLemmas.{adder_adds, any_times, at_times}

module _ (such : Operator → Bool) (os : List Operator) where
  pub listed_none : AreListed such os [] []
  listed_none = record {
    below = All-nil (λ k. k < length os);
    inside = All-nil (λ k. such (operator_at os k) ≡ true);
    paid = refl;
  }

  listed_push : (k : ℕ) (cut costs : List ℕ) → k < length os → such (operator_at os k) ≡ true → AreListed such os cut costs → AreListed such os (cut ++ k ∷ []) (costs ++ (operator_at os k).cost ∷ [])
  listed_push k cut costs within e h = record {
    below =
        All-append (λ j. j < length os) cut (k ∷ []) h.below
        (All-cons (λ j. j < length os) k [] within (All-nil (λ j. j < length os)));
    inside =
        All-append (λ j. such (operator_at os j) ≡ true) cut (k ∷ []) h.inside
        (All-cons (λ j. such (operator_at os j) ≡ true) k [] e (All-nil (λ j. such (operator_at os j) ≡ true)));
    paid =
        ap (λ l. l ++ (operator_at os k).cost ∷ []) h.paid
        ∙ sym (map-append (λ j. (operator_at os j).cost) cut (k ∷ []));
  }

  pub noted_refl : (cut costs : List ℕ) → HaveNoted such os cut costs cut costs
  noted_refl cut costs = record { kept = λ k h. h; listed = λ h. h }

  pub noted_trans : (a p b q c r : List ℕ) → HaveNoted such os a p b q → HaveNoted such os b q c r → HaveNoted such os a p c r
  noted_trans a p b q c r one two = record {
    kept = λ k h. two.kept k (one.kept k h);
    listed = λ h. two.listed (one.listed h);
  }

  pushed : (k : ℕ) (cut costs : List ℕ) → k < length os → such (operator_at os k) ≡ true → HaveNoted such os cut costs (cut ++ k ∷ []) (costs ++ (operator_at os k).cost ∷ [])
  pushed k cut costs within e = record {
    kept = λ j h. Contains-append_left cut (k ∷ []) j h;
    listed = λ h. listed_push k cut costs within e h;
  }

  module _ (k : ℕ) (cut costs new paid : List ℕ) (within : k < length os) (inside : such (operator_at os k) ≡ true → (new ≡ cut ++ k ∷ []) × (paid ≡ costs ++ (operator_at os k).cost ∷ [])) where
    pub noted_one : (such (operator_at os k) ≡ false → (new ≡ cut) × (paid ≡ costs)) → HaveNoted such os cut costs new paid
    noted_one outside = ⊎_elim
        (λ e. let both = inside e in
        subst (λ l. HaveNoted such os cut costs l paid) (sym both.0)
        (subst (HaveNoted such os cut costs (cut ++ k ∷ [])) (sym both.1) (pushed k cut costs within e)))
        (λ e. let both = outside e in
        subst (λ l. HaveNoted such os cut costs l paid) (sym both.0)
        (subst (HaveNoted such os cut costs cut) (sym both.1) (noted_refl cut costs)))
        (cases_Bool (such (operator_at os k)))

    pub noted_here : such (operator_at os k) ≡ true → Contains new k
    noted_here e = subst (λ l. Contains l k) (sym ((inside e).0)) (Contains-push cut k)

  -- a list of some operators' numbers that has all of them

  module _ (cut costs : List ℕ) (listed : AreListed such os cut costs) (all : (k : ℕ) → k < length os → such (operator_at os k) ≡ true → Contains cut k) where
    above_listed : AtMost (least costs) (least_where such os)
    above_listed =
        let low : All (λ k. AtMost (least costs) (Some (operator_at os k).cost)) cut =
        All_mapped (λ n. AtMost (least costs) (Some n)) (λ k. (operator_at os k).cost) cut
        (subst (All (λ n. AtMost (least costs) (Some n))) listed.paid (least_low costs)) in
        let each : All (λ o. such o ≡ true → AtMost (least costs) (Some o.cost)) os = λ k d lt e.
        let same : get_or os k d ≡ operator_at os k = get_or_default os k d _ lt in
        subst (λ (o : Operator). AtMost (least costs) (Some o.cost)) (sym same)
        (All-contains (λ j. AtMost (least costs) (Some (operator_at os j).cost)) cut k low (all k lt (sym (ap such same) ∙ e))) in
        least_high (least costs) (map (λ (o : Operator). o.cost) (filter such os))
        (All-map (λ n. AtMost (least costs) (Some n)) (λ (o : Operator). o.cost) (filter such os)
        (λ k d lt. All-filter such (λ o. such o ≡ true → AtMost (least costs) (Some o.cost)) os each k d lt (filter_passes such os k d lt)))

    below_listed : AtMost (least_where such os) (least costs)
    below_listed =
        let low : All (λ o. such o ≡ true → AtMost (least_where such os) (Some o.cost)) os =
        All_filtered (λ o. AtMost (least_where such os) (Some o.cost)) such os
        (All_mapped (λ n. AtMost (least_where such os) (Some n)) (λ (o : Operator). o.cost) (filter such os) (least_low (map (λ (o : Operator). o.cost) (filter such os)))) in
        least_high (least_where such os) costs
        (subst (All (λ n. AtMost (least_where such os) (Some n))) (sym listed.paid)
        (All-map (λ n. AtMost (least_where such os) (Some n)) (λ k. (operator_at os k).cost) cut
        (λ i d lt. low (get_or cut i d) _ (listed.below i d lt) (listed.inside i d lt))))

    pub least_listed : least costs ≡ least_where such os
    least_listed = AtMost-antisym (least costs) (least_where such os) above_listed below_listed

    in_list : (k : ℕ) → k < length os → list_any (λ j. eqb j k) cut ≡ such (operator_at os k)
    in_list k lt = ⊎_elim
        (λ e. any_times k cut (times_contained k cut (all k lt e)) ∙ sym e)
        (λ e. false_from_ne_true (list_any (λ j. eqb j k) cut)
        (λ h. both_ways (such (operator_at os k)) e (All_at (λ j. such (operator_at os j) ≡ true) cut k listed.inside h)) ∙ sym e)
        (cases_Bool (such (operator_at os k)))

    pub lowered_listed : (by : ℕ) → lowered_at (λ k. list_any (λ j. eqb j k) cut) by os ≡ cheaper_where such by os
    lowered_listed by = lowered_same (λ k. list_any (λ j. eqb j k) cut) such by os in_list

    pub least_paid : (seen : List ℕ) → seen ≡ costs → unwrap_or (least seen) 0 ≡ unwrap_or (least_where such os) 0
    least_paid seen e = ap (λ l. unwrap_or (least l) 0) e ∙ ap (λ a. unwrap_or a 0) least_listed

pub lowered_to : (such : Operator → Bool) (r now : RelaxedProblem) (cut costs seen : List ℕ) (by : ℕ) → AreListed such r.operators cut costs → ((k : ℕ) → k < length r.operators → such (operator_at r.operators k) ≡ true → Contains cut k) → seen ≡ cut → now ≡ record r { operators = lowered_at (λ k. list_any (λ j. eqb j k) seen) by r.operators } → now ≡ record r { operators = cheaper_where such by r.operators }
lowered_to such r now cut costs seen by listed all same is =
    is
    ∙ ap (λ l. record r { operators = lowered_at (λ k. list_any (λ j. eqb j k) l) by r.operators }) same
    ∙ ap (λ os. record r { operators = os }) (lowered_listed such r.operators cut costs listed all by)

-- a number of a list that passes a test
pub one_passing : (p : ℕ → Bool) (xs : List ℕ) → list_any p xs ≡ true → (y : ℕ) × (list_any (λ z. eqb z y) xs ≡ true) × (p y ≡ true)
one_passing p [] h = absurd (false≢true h)
one_passing p (x ∷ xs) h = by (p x) refl h (one_passing p xs)
  where
    by : (b : Bool) → p x ≡ b → (b || list_any p xs) ≡ true → (list_any p xs ≡ true → (y : ℕ) × (list_any (λ z. eqb z y) xs ≡ true) × (p y ≡ true)) → (y : ℕ) × ((eqb x y || list_any (λ z. eqb z y) xs) ≡ true) × (p y ≡ true)
    by true e _ rest = (x, or_left (eqb x x) _ (eq-eqb x x refl), e)
    by false e k rest = let one = rest k in (one.0, or_right (eqb x one.0) _ one.1, one.2)

both_true : (a b c : Bool) → c ≡ true → (a && b) ≡ (a && (b && c))
both_true false b c e = refl
both_true true false c e = refl
both_true true true c e = sym e

module _ (v : Values) (os : List Operator) (goals : List ℕ) (s : Numbers) where
  -- of the operators that add a fact of the zone those with an edge from the near side are in the cut
  pub cut_from : (o : Operator) → list_any (in_zone v os goals) o.add ≡ true → is_from_near v os goals s o ≡ in_cut v os goals s o
  unfolding in_cut
  cut_from o enters =
      both_true (all_valued v o.pre) (list_all (is_near v os goals s) (support v o.pre)) (list_any (in_zone v os goals) o.add) enters

  enters : (o : Operator) → in_cut v os goals s o ≡ true → list_any (in_zone v os goals) o.add ≡ true
  unfolding in_cut
  enters o e = (and_parts (list_all (is_near v os goals s) (support v o.pre)) (list_any (in_zone v os goals) o.add) ((and_parts (all_valued v o.pre) _ e).1)).1

  -- where the adders of each fact of the zone are noted, all operators of the cut are
  pub all_noted : (inside cut : List ℕ) → ((x : ℕ) → in_zone v os goals x ≡ true → Contains inside x) → ((j : ℕ) → j < length inside → AreNoted (in_cut v os goals s) os (get_or inside j 0) cut) → (k : ℕ) → k < length os → in_cut v os goals s (operator_at os k) ≡ true → Contains cut k
  all_noted inside cut has seen k lt e =
      let one = one_passing (in_zone v os goals) (operator_at os k).add (enters (operator_at os k) e) in
      at_times (λ x. AreNoted (in_cut v os goals s) os x cut) one.0 inside seen (times_contained one.0 inside (has one.0 one.2)) k lt one.1 e

-- the adders of a fact of the zone add one
pub adders_enter : (v : Values) (os : List Operator) (goals : List ℕ) (x : ℕ) (adders : List ℕ) → HasAdders os x adders → All (λ k. k < length os) adders → in_zone v os goals x ≡ true → All (λ k. list_any (in_zone v os goals) (operator_at os k).add ≡ true) adders
adders_enter v os goals x adders has below inside = λ j d lt.
    let same : get_or adders j 0 ≡ get_or adders j d = get_or_default adders j 0 d lt in
    subst (λ k. list_any (in_zone v os goals) (operator_at os k).add ≡ true) same
    (any_passes (in_zone v os goals) x (operator_at os (get_or adders j 0)).add (adder_adds v os goals x adders j has lt (below j 0 lt)) inside)

pre_at : (cost : Operator → ℕ) (os : List Operator) (k : ℕ) → (operator_at (priced_by cost os) k).pre ≡ (operator_at os k).pre
pre_at cost [] k = refl
pre_at cost (o ∷ os) zero = refl
pre_at cost (o ∷ os) (suc k) = pre_at cost os k

cost_at : (cost : Operator → ℕ) (os : List Operator) (k : ℕ) → k < length os → (operator_at (priced_by cost os) k).cost ≡ cost (operator_at os k)
cost_at cost [] k lt = absurd (omega (arith, lt))
cost_at cost (o ∷ os) zero lt = refl
cost_at cost (o ∷ os) (suc k) lt = cost_at cost os k (omega (arith, lt))

lower_at : (cost : Operator → ℕ) (os : List Operator) (k : ℕ) → ((o : Operator) → cost o ≤ o.cost) → (operator_at (priced_by cost os) k).cost ≤ (operator_at os k).cost
lower_at cost [] k low = omega arith
lower_at cost (o ∷ os) zero low = low o
lower_at cost (o ∷ os) (suc k) low = lower_at cost os k low

pub cheaper_listed : (such : Operator → Bool) (by : ℕ) (os : List Operator) (cut : List ℕ) → ((k : ℕ) → k < length os → such (operator_at os k) ≡ true → Contains cut k) → AreCheaper os (cheaper_where such by os) cut
cheaper_listed such by os cut all = record {
  as_many = as_many;
  needed = pre_at cost os;
  added = add_at cost os;
  lower = λ k. lower_at cost os k low;
  same = λ k lt out.
      let within : k < length os = omega (arith, lt, as_many) in
      cost_at cost os k within ∙ kept (operator_at os k) (λ inside. out (all k within inside));
}
  where
    cost : Operator → ℕ
    cost o = cond (such o) (o.cost - by) o.cost

    as_many : length (priced_by cost os) ≡ length os
    as_many = length-priced_by cost os

    low : (o : Operator) → cost o ≤ o.cost
    low o = at (such o)
      where
        at : (b : Bool) → cond b (o.cost - by) o.cost ≤ o.cost
        at true = omega arith
        at false = omega arith

    kept : (o : Operator) → (such o ≡ true → ⊥) → cost o ≡ o.cost
    kept o none = at (such o) refl
      where
        at : (b : Bool) → such o ≡ b → cond b (o.cost - by) o.cost ≡ o.cost
        at true e = absurd (none e)
        at false e = refl
