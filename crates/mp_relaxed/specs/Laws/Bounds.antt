-- How great values are at most, and that values which are at most the right sides of the equations are at most the cost of
-- each plan.
use Rattle.std.proofs.Common.{◌≡◌, ℕ, zero, suc, ◌+◌, ◌*◌, ◌≤◌, Bool, true, false, cond, not, eqb, ◌&&◌, ◌⊎◌, get_or, Option, Some, None, option_map, List, [], ◌∷◌, length, map, All, refl, sym, ap, ◌∙◌, subst, ⊎_elim, zero-le, arith}
use Rattle.std.proofs.lemmas.Bool.{and_parts, or_cases}
use Rattle.std.proofs.lemmas.List.{length-append, length-map}
use Rattle.std.proofs.lemmas.List.Elements.{All-head, All-tail, All-append, All-map, All-contains}
use Rattle.std.proofs.lemmas.List.Sums.{AllPass-from_list_all}
use Rattle.std.specs.FinSet as set
use Rattle.std.specs.List.{list_any, slice_get}
use Rattle.std.specs.Option.{IfSome, IsSomeAnd, option_and_then, option_map_or}
use Rattle.mp_runs.specs.Run.{run}
use Rattle.mp_runs.specs.System.{IsPlanFrom, plan_cost}
use Rattle.mp_runs.proofs.Costs.{plan_cost-cons}
use Rattle.mp_runs.proofs.Runs.{run-none, run-cons}
use Rattle.mp_sets.specs.Numbers.{Numbers, holds, after}
use Rattle.mp_sets.proofs.NumbersLemmas.{contains-after}
use Rattle.mp_task.specs.AgentTask.{AgentTask}
use Rattle.mp_task.specs.Limits.{IsWithinLimits}
use Rattle.mp_task.specs.Projected.{own_operator, far_operator, projected}
use Rattle.mp_task.specs.Strips.{Operator, Problem, after_operator, strips_system}
use Rattle.mp_task.proofs.Agreeing.{Contains-slice_get}
use Rattle.mp_estimates.specs.Estimates.{AtMost, lesser, greater, Values}
use Rattle.mp_relaxed.specs.Values.{greatest, cost_by, adds, least_cost, next_values, after_rounds, fact_values}
use Rattle.mp_estimates.specs.Laws.Order.{AtMost-refl, AtMost-trans, zero_AtMost, plus-mono}
use Rattle.mp_relaxed.specs.Laws.Equations.{greatest_below, least_below}
use Rattle.mp_relaxed.specs.Laws.Rounds.{first_round, next_round, settled}

-- how great values are

abbrev pub Below : ℕ → Option ℕ → Type 0
Below c a = IfSome a (λ h. h ≤ c)

greater-Below : (c : ℕ) (a b : Option ℕ) → Below c a → Below c b → Below c (greater a b)
greater-Below c None b h k = tt
greater-Below c (Some m) None h k = tt
greater-Below c (Some m) (Some n) h k = omega arith

lesser-Below : (c : ℕ) (a b : Option ℕ) → Below c a → Below c b → Below c (lesser a b)
lesser-Below c None b h k = k
lesser-Below c (Some m) None h k = h
lesser-Below c (Some m) (Some n) h k = omega arith

pub greatest-Below : (c : ℕ) (v : Values) (xs : List ℕ) → ((x : ℕ) → Below c (v x)) → Below c (greatest v xs)
greatest-Below c v [] h = zero-le
greatest-Below c v (x ∷ xs) h = greater-Below c (v x) (greatest v xs) (h x) (greatest-Below c v xs h)

plus-Below : (c d e : ℕ) (a : Option ℕ) → d ≤ e → Below c a → Below (e + c) (option_map (λ h. d + h) a)
plus-Below c d e None le h = tt
plus-Below c d e (Some m) le h = omega arith

pub cost-Below : (c e : ℕ) (v : Values) (o : Operator) → o.cost ≤ e → ((y : ℕ) → Below c (v y)) → Below (e + c) (cost_by v o)
cost-Below c e v o fits h = plus-Below c o.cost e (greatest v o.pre) fits (greatest-Below c v o.pre h)

least-Below : (c e : ℕ) (v : Values) (x : ℕ) (os : List Operator) → ((y : ℕ) → Below c (v y)) → All (λ o. o.cost ≤ e) os → Below (e + c) (least_cost v os x)
least-Below c e v x [] h fits = tt
least-Below c e v x (o ∷ os) h fits =
    by (adds o x) (least-Below c e v x os h (All-tail (λ p. p.cost ≤ e) o os fits))
    (cost-Below c e v o (All-head (λ p. p.cost ≤ e) o os fits) h)
  where
    by : (b : Bool) → Below (e + c) (least_cost v os x) → Below (e + c) (cost_by v o) → Below (e + c) (cond b (lesser (cost_by v o) (least_cost v os x)) (least_cost v os x))
    by true rest this = lesser-Below (e + c) _ _ this rest
    by false rest this = rest

pub rounds-Below : (os : List Operator) (s : Numbers) (e : ℕ) → All (λ o. o.cost ≤ e) os → (k x : ℕ) → Below (k * e) (after_rounds os s k x)
rounds-Below os s e fits zero x = subst (Below (0 * e)) (sym (first_round os s x)) (tt)
rounds-Below os s e fits (suc k) x =
    let more : e + k * e ≡ suc k * e = omega arith in
    subst (Below (suc k * e)) (sym (next_round os s k x))
    (subst (λ c. Below c (next_values os s (after_rounds os s k) x)) more
    (by (set.contains s x) (least-Below (k * e) e (after_rounds os s k) x os (rounds-Below os s e fits k) fits)))
  where
    by : (b : Bool) → Below (e + k * e) (least_cost (after_rounds os s k) os x) → Below (e + k * e) (cond b (Some 0) (least_cost (after_rounds os s k) os x))
    by true h = zero-le
    by false h = h

-- all operators of a projected problem keep the limit on costs
pub costs_fit : (t : AgentTask) → IsWithinLimits t → All (λ o. o.cost ≤ 16000000) (projected t).operators
costs_fit t fits =
    All-append (λ o. o.cost ≤ 16000000) (map (own_operator t.publics) t.acts) (map far_operator t.far)
    (All-map (λ o. o.cost ≤ 16000000) (own_operator t.publics) t.acts (λ k d h. (fits.acts k d h).cost))
    (All-map (λ o. o.cost ≤ 16000000) far_operator t.far (λ k d h. (fits.far k d h).cost))

-- there are at most 3,200,000
pub operators_fit : (t : AgentTask) → IsWithinLimits t → length (projected t).operators ≤ 3200000
operators_fit t fits =
    let all = length-append (map (own_operator t.publics) t.acts) (map far_operator t.far) in
    let own : length (map (own_operator t.publics) t.acts) ≡ length t.acts = length-map t.acts (own_operator t.publics) in
    let far : length (map far_operator t.far) ≡ length t.far = length-map t.far far_operator in
    let few = fits.number_of_acts in
    let many = fits.number_of_far in
    omega arith

-- plans

module _ (problem : Problem) (start : Numbers) (v : Values) (falls : (x : ℕ) → AtMost (v x) (next_values problem.operators start v x)) where
  Known : Numbers → ℕ → Type 0
  Known s c = (x : ℕ) → set.contains s x ≡ true → AtMost (v x) (Some c)

  value_known : (s : Numbers) (c : ℕ) → Known s c → (x : ℕ) → set.contains s x ≡ true → AtMost (v x) (Some c)
  unfolding Known
  value_known s c known = known

  -- what is true after a step has values of at most what has been paid
  known_after : (s : Numbers) (c k : ℕ) (o : Operator) → Known s c → slice_get problem.operators k ≡ Some o → holds s o.pre ≡ true → Known (after s o.del o.add) (o.cost + c)
  unfolding Known
  known_after s c k o known here ready x member =
      by (or_cases _ _ (sym (contains-after s o.del o.add x) ∙ member))
    where
      pre_known : AtMost (greatest v o.pre) (Some c)
      pre_known = greatest_below v (Some c) o.pre (λ j d h. known (get_or o.pre j d) (AllPass-from_list_all (set.contains s) o.pre ready j d h))

      by_adds : adds o x ≡ true → (b : Bool) → AtMost (cond b (Some 0) (least_cost v problem.operators x)) (Some (o.cost + c))
      by_adds e true = zero_AtMost (Some (o.cost + c))
      by_adds e false =
          AtMost-trans (least_cost v problem.operators x) (cost_by v o) (Some (o.cost + c))
          (All-contains (λ p. adds p x ≡ true → AtMost (least_cost v problem.operators x) (cost_by v p)) problem.operators o (least_below v x problem.operators) (Contains-slice_get problem.operators k o here) e)
          (plus-mono o.cost (greatest v o.pre) (Some c) pre_known)

      by : ((set.contains s x && not (list_any (λ y. eqb y x) o.del)) ≡ true) ⊎ (list_any (λ y. eqb y x) o.add ≡ true) → AtMost (v x) (Some (o.cost + c))
      by h = ⊎_elim
          (λ e. AtMost-trans (v x) (Some c) (Some (o.cost + c)) (known x ((and_parts _ _ e).0)) (let le : c ≤ o.cost + c = omega arith in le))
          (λ e. AtMost-trans (v x) (next_values problem.operators start v x) (Some (o.cost + c)) (falls x) (by_adds e (set.contains start x)))
          h

  Leads : List ℕ → Type 0
  Leads plan =
      (t : Numbers) (d : ℕ)
      → Known t d
      → IsPlanFrom (strips_system problem) t plan
      → AtMost (greatest v problem.goals) (Some (d + plan_cost (strips_system problem) plan))

  -- what a plan leads to from there on: its goals have values of at most what has been paid in the end
  goals_known : (plan : List ℕ) (s : Numbers) (c : ℕ) → Known s c → IsPlanFrom (strips_system problem) s plan → AtMost (greatest v problem.goals) (Some (c + plan_cost (strips_system problem) plan))
  unfolding Leads
  goals_known [] s c known plans =
      let reached = subst (λ o. IsSomeAnd o (λ last. holds last problem.goals ≡ true)) (run-none (strips_system problem).after s) plans in
      AtMost-trans (greatest v problem.goals) (Some c) (Some (c + plan_cost (strips_system problem) []))
      (greatest_below v (Some c) problem.goals (λ j d h. value_known s c known (get_or problem.goals j d) (AllPass-from_list_all (set.contains s) problem.goals reached j d h)))
      (let le : c ≤ c + plan_cost (strips_system problem) [] = omega arith in le)
  goals_known (k ∷ plan) s c known plans =
      by (slice_get problem.operators k) refl (goals_known plan)
      (subst (λ o. IsSomeAnd o (λ last. holds last problem.goals ≡ true)) (run-cons (strips_system problem).after s k plan) plans)
    where
      paid : (cost : ℕ) → option_map_or (λ o. o.cost) (slice_get problem.operators k) 0 ≡ cost → (cost + c) + plan_cost (strips_system problem) plan ≡ c + plan_cost (strips_system problem) (k ∷ plan)
      paid cost e = let all = plan_cost-cons (strips_system problem) k plan in omega arith

      ready : (o : Operator) → slice_get problem.operators k ≡ Some o → (b : Bool) → holds s o.pre ≡ b → Leads plan → IsSomeAnd (option_and_then (λ t. run (strips_system problem).after t plan) (cond b (Some (after s o.del o.add)) None)) (λ last. holds last problem.goals ≡ true) → AtMost (greatest v problem.goals) (Some (c + plan_cost (strips_system problem) (k ∷ plan)))
      ready o here false is rest h = absurd h
      ready o here true is rest h =
          subst (λ n. AtMost (greatest v problem.goals) (Some n)) (paid o.cost (ap (λ m. option_map_or (λ p. p.cost) m 0) here))
          (rest (after s o.del o.add) (o.cost + c) (known_after s c k o known here is) h)

      by : (m : Option Operator) → slice_get problem.operators k ≡ m → Leads plan → IsSomeAnd (option_and_then (λ t. run (strips_system problem).after t plan) (option_and_then (after_operator s) m)) (λ last. holds last problem.goals ≡ true) → AtMost (greatest v problem.goals) (Some (c + plan_cost (strips_system problem) (k ∷ plan)))
      by None here rest h = absurd h
      by (Some o) here rest h = ready o here (holds s o.pre) refl rest h

  pub at_most_plans : (plan : List ℕ) → ((x : ℕ) → set.contains start x ≡ true → AtMost (v x) (Some 0)) → IsPlanFrom (strips_system problem) start plan → AtMost (greatest v problem.goals) (Some (plan_cost (strips_system problem) plan))
  at_most_plans plan none_paid plans =
      subst (λ n. AtMost (greatest v problem.goals) (Some n)) (let e : 0 + plan_cost (strips_system problem) plan ≡ plan_cost (strips_system problem) plan = omega arith in e)
      (goals_known plan start 0 (unfold Known in none_paid) plans)

-- facts of the state cost nothing
pub start_zero : (os : List Operator) (s : Numbers) (x : ℕ) → set.contains s x ≡ true → AtMost (fact_values os s x) (Some 0)
start_zero os s x member =
    subst (λ a. AtMost a (Some 0)) (sym (settled os s x))
    (subst (λ b. AtMost (cond b (Some 0) (least_cost (fact_values os s) os x)) (Some 0)) (sym member) (AtMost-refl (Some 0)))
