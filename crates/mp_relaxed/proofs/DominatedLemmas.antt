-- Values of facts stay the same without operators that others dominate.
use Rattle.std.proofs.Common.{◌≡◌, ◌⊎◌, inl, inr, ℕ, ◌+◌, ◌≤◌, Bool, true, false, cond, eqb, get_or, Option, Some, None, option_map, List, [], length, map, Contains, refl, sym, ap, ◌∙◌, subst, arith}
use Rattle.std.proofs.lemmas.Bool.{false≢true}
use Rattle.std.proofs.lemmas.List.{get_or-map, length-map}
use Rattle.std.proofs.lemmas.List.Elements.{All-contains, All-map, Contains-get_or}
use Rattle.std.specs.FinSet as set
use Rattle.std.specs.List.{list_any}
use Rattle.mp_sets.specs.Numbers.{Numbers}
use Rattle.mp_task.specs.Strips.{Operator}
use Rattle.mp_estimates.specs.Estimates.{AtMost, Values}
use Rattle.mp_estimates.specs.Laws.Order.{AtMost-antisym, AtMost-refl, AtMost-trans}
use Rattle.mp_relaxed.specs.Dominated.{AreDominated, AreEquivalent, Dominates, HasDominating}
use Rattle.mp_relaxed.specs.Relaxed.{without_deletes}
use Rattle.mp_relaxed.specs.Values.{adds, cost_by, fact_values, greatest, least_cost, next_values}
use Rattle.mp_relaxed.specs.Laws.Equations.{least_above, least_below}
use Rattle.mp_relaxed.specs.Laws.Rounds.{below_rounds, settled}

pub Contains-map : {X Y : Type 0} (f : X → Y) (xs : List X) (x : X) → Contains xs x → Contains (map f xs) (f x)
Contains-map f xs x c =
    (c.0, (let lt = c.1 in let len = length-map xs f in omega arith), get_or-map f xs c.0 x (f x) c.1 ∙ ap f c.2)

-- domination

pub dominates_itself : (o : Operator) → Dominates o o
dominates_itself o = record { needed = refl; added = refl; cheap = omega arith }

pub dominates_next : (p q o : Operator) → Dominates p q → Dominates q o → Dominates p o
dominates_next p q o h k = record {
  needed = h.needed ∙ k.needed;
  added = h.added ∙ k.added;
  cheap = let one = h.cheap in let two = k.cheap in omega arith;
}

-- deletes make no difference
pub equivalent_bare : (os : List Operator) → AreEquivalent (map without_deletes os) os
equivalent_bare os = record {
  onward = λ i d lt. inr (record {
    q = without_deletes (get_or os i d);
    among = Contains-map without_deletes os (get_or os i d) (Contains-get_or os i d lt);
    dominates = record { needed = refl; added = refl; cheap = omega arith };
  });
  back = All-map (λ (o : Operator). (o.add ≡ []) ⊎ HasDominating os o) without_deletes os (λ i d lt. inr (record {
    q = get_or os i d;
    among = Contains-get_or os i d lt;
    dominates = record { needed = refl; added = refl; cheap = omega arith };
  }));
}

-- values

plus_low : (c d : ℕ) (a : Option ℕ) → c ≤ d → AtMost (option_map (λ h. c + h) a) (option_map (λ h. d + h) a)
plus_low c d None le = tt
plus_low c d (Some m) le = omega arith

cost_low : (v : Values) (q o : Operator) → Dominates q o → AtMost (cost_by v q) (cost_by v o)
cost_low v q o h =
    subst (λ pre. AtMost (option_map (λ n. q.cost + n) (greatest v pre)) (cost_by v o)) (sym h.needed)
    (plus_low q.cost o.cost (greatest v o.pre) h.cheap)

module _ (qs os : List Operator) (h : AreDominated qs os) where
  least_low : (v : Values) (x : ℕ) → AtMost (least_cost v qs x) (least_cost v os x)
  least_low v x = least_above v (least_cost v qs x) x os (λ i d lt. by (get_or os i d) (h i d lt))
    where
      by : (o : Operator) → (o.add ≡ []) ⊎ HasDominating qs o → adds o x ≡ true → AtMost (least_cost v qs x) (cost_by v o)
      by o (inl none) e = absurd (false≢true (ap (list_any (λ y. eqb y x)) (sym none) ∙ e))
      by o (inr has) e =
          AtMost-trans (least_cost v qs x) (cost_by v has.q) (cost_by v o)
          (All-contains (λ p. adds p x ≡ true → AtMost (least_cost v qs x) (cost_by v p)) qs has.q (least_below v x qs) has.among (ap (list_any (λ y. eqb y x)) has.dominates.added ∙ e))
          (cost_low v has.q o has.dominates)

  values_low : (s : Numbers) (x : ℕ) → AtMost (fact_values qs s x) (fact_values os s x)
  values_low s x =
      below_rounds os s (fact_values qs s)
      (λ y. subst (λ a. AtMost a (next_values os s (fact_values qs s) y)) (sym (settled qs s y)) (by y (set.contains s y)))
      (length os + 1) x
    where
      by : (y : ℕ) (b : Bool) → AtMost (cond b (Some 0) (least_cost (fact_values qs s) qs y)) (cond b (Some 0) (least_cost (fact_values qs s) os y))
      by y true = AtMost-refl (Some 0)
      by y false = least_low (fact_values qs s) y

pub same_values : (qs os : List Operator) → AreEquivalent qs os → (s : Numbers) (x : ℕ) → fact_values qs s x ≡ fact_values os s x
same_values qs os h s x =
    AtMost-antisym (fact_values qs s x) (fact_values os s x) (values_low qs os h.onward s x) (values_low os qs h.back s x)
