-- What rounds end with are the least costs of plans.
use Rattle.std.proofs.Common.{◌≡◌, ℕ, zero, suc, ◌+◌, ◌<◌, ◌≤◌, Bool, true, false, cond, min, ◌⊎◌, Option, Some, None, option_map, List, [], ◌∷◌, length, All, Contains, refl, sym, ap, ◌∙◌, subst, inl, inr, ⊎_elim, arith}
use Rattle.std.proofs.lemmas.Bool.{cases_lt}
use Rattle.std.proofs.lemmas.Option.{none-some, same_Some}
use Rattle.std.proofs.lemmas.List.Elements.{All-cons, All-head, All-tail, All-nil}
use Rattle.std.specs.Option.{IfSome, IsSomeAnd, option_and_then}
use Rattle.mp_estimates.specs.Estimates.{AtMost, lesser}
use Rattle.mp_estimates.specs.Laws.Order.{AtMost-trans, plus-mono}
use Rattle.mp_runs.specs.Run.{run}
use Rattle.mp_runs.specs.System.{System, IsPlanFrom, plan_cost}
use Rattle.mp_runs.proofs.Costs.{plan_cost-cons}
use Rattle.mp_runs.proofs.Runs.{run-none, run-cons, run-first}
use Rattle.mp_pdb.specs.Distance.{cost_by, least_by, after_rounds, distance, HasPlan, IsLeastCost, AreClosed}
use Rattle.mp_pdb.specs.Laws.Rounds.{least_below, next_round, settled, first_round}

lesser_is : (a b : Option ℕ) (n : ℕ) → lesser a b ≡ Some n → (a ≡ Some n) ⊎ (b ≡ Some n)
lesser_is None b n e = inr e
lesser_is (Some k) None n e = inl e
lesser_is (Some k) (Some l) n e =
    let is : min k l ≡ n = same_Some _ _ e in
    ⊎_elim
    (λ h. inl (let same : k ≡ n = omega arith in ap Some same))
    (λ h. inr (let same : l ≡ n = omega arith in ap Some same))
    (cases_lt k l)

-- the costs after rounds are those of plans

module _ {S A : Type 0} (system : System S A) where
  least_is : (v : S → Option ℕ) (s : S) (actions : List A) (n : ℕ) → least_by system v s actions ≡ Some n → (a : A) × Contains actions a × (cost_by system v s a ≡ Some n)
  least_is v s [] n e = absurd (none-some n e)
  least_is v s (a ∷ actions) n e = ⊎_elim
      (λ here. (a, (0, (let lt : 0 < length (a ∷ actions) = omega arith in lt), refl), here))
      (λ rest. later (least_is v s actions n rest))
      (lesser_is (cost_by system v s a) (least_by system v s actions) n e)
    where
      later : (b : A) × Contains actions b × (cost_by system v s b ≡ Some n) → (b : A) × Contains (a ∷ actions) b × (cost_by system v s b ≡ Some n)
      later found =
          (found.0, (suc found.1.0, (let lt = found.1.1 in let le : suc found.1.0 < length (a ∷ actions) = omega arith in le), found.1.2), found.2)

  no_action : (actions : List A) (s : S) → system.is_goal s ≡ true → HasPlan system actions s 0
  no_action actions s goal =
      ([], All-nil (Contains actions), subst (λ o. IsSomeAnd o (λ last. system.is_goal last ≡ true)) (sym (run-none system.after s)) goal, (let none : plan_cost system [] ≡ 0 = omega arith in none))

  one_more : (actions : List A) (s t : S) (a : A) (n : ℕ) → Contains actions a → system.after s a ≡ Some t → HasPlan system actions t n → HasPlan system actions s (system.cost a + n)
  one_more actions s t a n here leads found = (
    a ∷ found.0,
    All-cons (Contains actions) a found.0 here found.1,
    subst (λ o. IsSomeAnd o (λ last. system.is_goal last ≡ true)) (sym (run-first system.after s t a found.0 leads)) found.2,
    plan_cost-cons system a found.0 ∙ ap (λ m. system.cost a + m) found.3,
  )

  cost_is : (v : S → Option ℕ) (s : S) (a : A) (n : ℕ) → cost_by system v s a ≡ Some n → (t : S) × (m : ℕ) × (system.after s a ≡ Some t) × (v t ≡ Some m) × (system.cost a + m ≡ n)
  cost_is v s a n e = by (system.after s a) refl e
    where
      inner : (t : S) → system.after s a ≡ Some t → (o : Option ℕ) → v t ≡ o → option_map (λ c. system.cost a + c) o ≡ Some n → (t : S) × (m : ℕ) × (system.after s a ≡ Some t) × (v t ≡ Some m) × (system.cost a + m ≡ n)
      inner t leads None is e = absurd (none-some n e)
      inner t leads (Some m) is e = (t, m, leads, is, same_Some _ _ e)

      by : (o : Option S) → system.after s a ≡ o → option_and_then (λ t. option_map (λ c. system.cost a + c) (v t)) o ≡ Some n → (t : S) × (m : ℕ) × (system.after s a ≡ Some t) × (v t ≡ Some m) × (system.cost a + m ≡ n)
      by None leads e = absurd (none-some n e)
      by (Some t) leads e = inner t leads (v t) refl e

  pub attained : (actions : List A) (k : ℕ) (s : S) (n : ℕ) → after_rounds system actions k s ≡ Some n → HasPlan system actions s n
  attained actions zero s n e = absurd (none-some n (sym (first_round system actions s) ∙ e))
  attained actions (suc k) s n e = by (system.is_goal s) refl (attained actions k) (sym (next_round system actions k s) ∙ e)
    where
      by : (b : Bool) → system.is_goal s ≡ b → ((t : S) (m : ℕ) → after_rounds system actions k t ≡ Some m → HasPlan system actions t m) → cond b (Some 0) (least_by system (after_rounds system actions k) s actions) ≡ Some n → HasPlan system actions s n
      by true goal before e = subst (HasPlan system actions s) (same_Some 0 n e) (no_action actions s goal)
      by false goal before e =
          let found = least_is (after_rounds system actions k) s actions n e in
          let parts = cost_is (after_rounds system actions k) s found.0 n found.2 in
          subst (HasPlan system actions s) parts.4 (one_more actions s parts.0 found.0 parts.1 found.1 parts.2 (before parts.0 parts.1 parts.3))

  -- and at most those of all plans

  module _ (actions : List A) (states : List S) (closed : AreClosed system actions states) where
    pub goal_costs : (s : S) → Contains states s → system.is_goal s ≡ true → distance system actions states s ≡ Some 0
    goal_costs s here goal =
        settled system actions states closed s here ∙ ap (λ b. cond b (Some 0) (least_by system (after_rounds system actions (length states)) s actions)) goal

    pub action_costs : (s t : S) (a : A) → Contains states s → Contains actions a → system.after s a ≡ Some t → AtMost (distance system actions states s) (option_map (λ c. system.cost a + c) (distance system actions states t))
    action_costs s t a here among leads =
        subst (λ d. AtMost d (option_map (λ c. system.cost a + c) (distance system actions states t))) (sym (settled system actions states closed s here)) (by (system.is_goal s))
      where
        by_action : AtMost (least_by system (after_rounds system actions (length states)) s actions) (option_map (λ c. system.cost a + c) (distance system actions states t))
        by_action =
            subst (λ o. AtMost (least_by system (after_rounds system actions (length states)) s actions) (option_and_then (λ u. option_map (λ c. system.cost a + c) (after_rounds system actions (length states) u)) o)) leads
            (least_below system (after_rounds system actions (length states)) s actions a among)

        zero_below : (o : Option ℕ) → AtMost (Some 0) o
        zero_below None = tt
        zero_below (Some n) = omega arith

        by : (b : Bool) → AtMost (cond b (Some 0) (least_by system (after_rounds system actions (length states)) s actions)) (option_map (λ c. system.cost a + c) (distance system actions states t))
        by true = zero_below _
        by false = by_action

    Bounds : List A → Type 0
    Bounds plan =
        (t : S)
        → Contains states t
        → IsPlanFrom system t plan
        → AtMost (distance system actions states t) (Some (plan_cost system plan))

    pub at_most : (plan : List A) (s : S) → Contains states s → All (Contains actions) plan → IsPlanFrom system s plan → AtMost (distance system actions states s) (Some (plan_cost system plan))
    unfolding Bounds
    at_most [] s here made plans =
        let goal = subst (λ o. IsSomeAnd o (λ last. system.is_goal last ≡ true)) (run-none system.after s) plans in
        let none : 0 ≤ plan_cost system [] = omega arith in
        subst (λ d. AtMost d (Some (plan_cost system []))) (sym (goal_costs s here goal)) none
    at_most (a ∷ plan) s here made plans =
        by (system.after s a) refl (λ t there later. at_most plan t there (All-tail (Contains actions) a plan made) later)
        (subst (λ o. IsSomeAnd o (λ last. system.is_goal last ≡ true)) (run-cons system.after s a plan) plans)
      where
        by : (o : Option S) → system.after s a ≡ o → Bounds plan → IsSomeAnd (option_and_then (λ t. run system.after t plan) o) (λ last. system.is_goal last ≡ true) → AtMost (distance system actions states s) (Some (plan_cost system (a ∷ plan)))
        by None leads rest h = absurd h
        by (Some t) leads rest h =
            let among = All-head (Contains actions) a plan made in
            subst (λ n. AtMost (distance system actions states s) (Some n)) (sym (plan_cost-cons system a plan))
            (AtMost-trans (distance system actions states s) (option_map (λ c. system.cost a + c) (distance system actions states t)) (Some (system.cost a + plan_cost system plan))
            (action_costs s t a here among leads)
            (plus-mono (system.cost a) (distance system actions states t) (Some (plan_cost system plan)) (rest t (closed s t a here among leads) h)))

    pub is_least : (s : S) → Contains states s → IsLeastCost system actions s (distance system actions states s)
    is_least s here = record {
      attained = by (distance system actions states s) refl;
      at_most = λ plan made plans. at_most plan s here made plans;
    }
      where
        by : (o : Option ℕ) → distance system actions states s ≡ o → IfSome o (λ n. HasPlan system actions s n)
        by None e = tt
        by (Some n) e = attained actions (length states) s n e
