-- The laws of the heuristic: the abstract problem simulates the projected one, so that a value is at most the cost of each
-- plan; and how great a value is at most.
use Rattle.std.proofs.Common.{◌≡◌, ℕ, ◌+◌, ◌*◌, ◌^◌, ◌<◌, ◌≤◌, true, cond, Option, Some, None, option_map, List, [], ◌∷◌, length, map, All, Contains, refl, sym, ap, ◌∙◌, subst, zero-le, arith}
use Rattle.std.proofs.Math.Nat.{pow-le-pow_right}
use Rattle.std.proofs.lemmas.List.{length-map}
use Rattle.std.proofs.lemmas.List.Concat.{flat_map_single}
use Rattle.std.proofs.lemmas.List.Elements.{All-append, All-map, All-cons, All-nil, All-contains}
use Rattle.std.proofs.lemmas.List.FromFn.{length-range_with_len, get_or-range_with_len}
use Rattle.std.proofs.lemmas.Option.{none-some, same_Some, cond_some, slice_get-map, slice_get_within}
use Rattle.std.specs.List.{flat_map, range_with_len, slice_get}
use Rattle.std.specs.Option.{IfSome, IsSomeAnd, option_and_then, option_map_or}
use Rattle.mp_estimates.specs.Estimates.{AtMost}
use Rattle.mp_runs.specs.Run.{run}
use Rattle.mp_runs.specs.Simulation.{HasAnswer, Simulates}
use Rattle.mp_runs.specs.System.{IsPlanFrom, plan_cost}
use Rattle.mp_runs.proofs.Costs.{plan_cost-one, equal_costs}
use Rattle.mp_runs.proofs.Runs.{run-one, run-cons}
use Rattle.mp_runs.proofs.Simulations.{mapped_plan}
use Rattle.mp_sets.specs.Numbers.{Numbers, holds, after}
use Rattle.mp_task.specs.AgentTask.{AgentTask}
use Rattle.mp_task.specs.Limits.{IsWithinLimits}
use Rattle.mp_task.specs.Projected.{own_operator, far_operator, projected, projected_state}
use Rattle.mp_task.specs.Seen.{seen_system}
use Rattle.mp_task.specs.Strips.{Operator, Problem, after_operator, strips_system}
use Rattle.mp_task.proofs.Agreeing.{Contains-slice_get}
use Rattle.mp_pdb.specs.Distance.{IsLeastCost, AreClosed}
use Rattle.mp_pdb.specs.Pattern.{pattern_of, of_pattern, abstract_operator, abstraction, abstract_state, abstract_states, actions_of, abstract_distance, pattern_value}
use Rattle.mp_pdb.specs.Laws.Least.{is_least}
use Rattle.mp_pdb.specs.Laws.States.{IsOf, state_is_of, is_state, length-abstract_states, abstract_state_is_of, after_is_of, abstract_state-after, holds-abstract_state}
use Rattle.mp_pdb.specs.Laws.Sizes.{Below, rounds-Below}
use Rattle.mp_pdb.specs.Laws.Growth.{at_most_12}

-- the operator of a step that leads on, and what it does
pub record Step (problem : Problem) (s t : Numbers) (k : ℕ) : Type 0 where
  pub operator : Operator
  pub is : slice_get problem.operators k ≡ Some operator
  pub holds : holds s operator.pre ≡ true
  pub leads : after s operator.del operator.add ≡ t

pub step_of : (problem : Problem) (s t : Numbers) (k : ℕ) → (strips_system problem).after s k ≡ Some t → Step problem s t k
step_of problem s t k e = by (slice_get problem.operators k) refl e
  where
    by : (m : Option Operator) → slice_get problem.operators k ≡ m → option_and_then (after_operator s) m ≡ Some t → Step problem s t k
    by None here e = absurd (none-some t e)
    by (Some o) here e =
        let parts = cond_some (holds s o.pre) (after s o.del o.add) t e in
        record { operator = o; is = here; holds = parts.0; leads = parts.1 }

pub step_leads : (problem : Problem) (s : Numbers) (k : ℕ) (o : Operator) → slice_get problem.operators k ≡ Some o → holds s o.pre ≡ true → (strips_system problem).after s k ≡ Some (after s o.del o.add)
step_leads problem s k o here ready =
    ap (option_and_then (after_operator s)) here ∙ ap (λ b. cond b (Some (after s o.del o.add)) None) ready

module _ (pattern : List ℕ) (problem : Problem) where
  pub abstract_at : (k : ℕ) → slice_get (abstraction pattern problem).operators k ≡ option_map (abstract_operator pattern) (slice_get problem.operators k)
  abstract_at k = slice_get-map (abstract_operator pattern) problem.operators k

  pub abstract_cost : (k : ℕ) → (strips_system (abstraction pattern problem)).cost k ≡ (strips_system problem).cost k
  abstract_cost k = ap (λ m. option_map_or (λ (o : Operator). o.cost) m 0) (abstract_at k) ∙ by (slice_get problem.operators k)
    where
      by : (m : Option Operator) → option_map_or (λ (o : Operator). o.cost) (option_map (abstract_operator pattern) m) 0 ≡ option_map_or (λ (o : Operator). o.cost) m 0
      by None = refl
      by (Some o) = refl

  -- operators do not lead away from the abstract states
  within : (s t : Numbers) (k : ℕ) → IsOf pattern s → Step (abstraction pattern problem) s t k → IsOf pattern t
  within s t k alone step = by (slice_get problem.operators k) (sym (abstract_at k) ∙ step.is)
    where
      by : (m : Option Operator) → option_map (abstract_operator pattern) m ≡ Some step.operator → IsOf pattern t
      by None e = absurd (none-some step.operator e)
      by (Some o) e =
          let same : abstract_operator pattern o ≡ step.operator = same_Some (abstract_operator pattern o) step.operator e in
          subst (IsOf pattern) ((λ i. after s (same i).del (same i).add) ∙ step.leads) (after_is_of pattern s o.del o.add alone)

  pub are_closed : AreClosed (strips_system (abstraction pattern problem)) (actions_of problem) (abstract_states pattern)
  are_closed s t k here among leads =
      is_state pattern t (within s t k (state_is_of pattern s here) (step_of (abstraction pattern problem) s t k leads))

  -- the abstract problem follows each operator by its own one
  follows : (t s reached : Numbers) (k : ℕ) → t ≡ abstract_state pattern s → Step problem s reached k → HasAnswer (strips_system (abstraction pattern problem)) (λ u v. u ≡ abstract_state pattern v) (λ ks. ks ≡ k ∷ []) (λ c d. c ≡ d) t reached ((strips_system problem).cost k)
  follows t s reached k same step =
      let o = step.operator in
      let second = strips_system (abstraction pattern problem) in (
        k ∷ [],
        record {
          stand = refl;
          end = abstract_state pattern reached;
          runs =
              run-one second.after t k ∙ (λ i. second.after (same i) k)
              ∙ step_leads (abstraction pattern problem) (abstract_state pattern s) k (abstract_operator pattern o)
              (abstract_at k ∙ ap (option_map (abstract_operator pattern)) step.is)
              (holds-abstract_state pattern s o.pre step.holds)
              ∙ ap Some (abstract_state-after pattern s o.del o.add ∙ ap (abstract_state pattern) step.leads);
          represents = refl;
          fits = plan_cost-one second k ∙ abstract_cost k;
        },
      )

  simulates : Simulates (strips_system (abstraction pattern problem)) (strips_system problem) (λ t s. t ≡ abstract_state pattern s) (λ k ks. ks ≡ k ∷ []) (λ c d. c ≡ d)
  simulates = record {
    step = λ t s reached k same leads. follows t s reached k same (step_of problem s reached k leads);
    goal = λ t s same goal. subst (λ u. holds u (of_pattern pattern problem.goals) ≡ true) (sym same) (holds-abstract_state pattern s problem.goals goal);
  }

  -- a plan of the problem is one of the abstract problem, at the same cost
  pub abstract_plan : (plan : List ℕ) (s : Numbers) → IsPlanFrom (strips_system problem) s plan → IsPlanFrom (strips_system (abstraction pattern problem)) (abstract_state pattern s) plan × (plan_cost (strips_system (abstraction pattern problem)) plan ≡ plan_cost (strips_system problem) plan)
  abstract_plan plan s plans =
      let second = strips_system (abstraction pattern problem) in
      let found = mapped_plan second (strips_system problem) (λ t u. t ≡ abstract_state pattern u) (λ k. k ∷ []) (λ c d. c ≡ d) equal_costs simulates plan (abstract_state pattern s) s refl plans in
      let same : flat_map (λ k. k ∷ []) plan ≡ plan = flat_map_single (λ k. k) plan ∙ map-same plan in
      (subst (IsPlanFrom second (abstract_state pattern s)) same found.0, subst (λ ks. plan_cost second ks ≡ plan_cost (strips_system problem) plan) same found.1)
    where
      map-same : (xs : List ℕ) → map (λ k. k) xs ≡ xs
      map-same [] = refl
      map-same (x ∷ xs) = λ i. x ∷ map-same xs i

-- the actions of a plan are numbers of operators

pub number_among : (n k : ℕ) → k < n → Contains (range_with_len 0 n) k
number_among n k lt =
    let long = length-range_with_len 0 n in
    (k, (let h : k < length (range_with_len 0 n) = omega arith in h), get_or-range_with_len 0 n k k lt ∙ (let e : 0 + k ≡ k = omega arith in e))

Among : Problem → List ℕ → Type 0
Among problem plan =
    (s : Numbers) → IsPlanFrom (strips_system problem) s plan → All (Contains (actions_of problem)) plan

pub are_actions : (problem : Problem) (plan : List ℕ) (s : Numbers) → IsPlanFrom (strips_system problem) s plan → All (Contains (actions_of problem)) plan
unfolding Among
are_actions problem [] s plans = All-nil (Contains (actions_of problem))
are_actions problem (k ∷ plan) s plans =
    by ((strips_system problem).after s k) refl (are_actions problem plan)
    (subst (λ o. IsSomeAnd o (λ last. holds last problem.goals ≡ true)) (run-cons (strips_system problem).after s k plan) plans)
  where
    by : (o : Option Numbers) → (strips_system problem).after s k ≡ o → Among problem plan → IsSomeAnd (option_and_then (λ t. run (strips_system problem).after t plan) o) (λ last. holds last problem.goals ≡ true) → All (Contains (actions_of problem)) (k ∷ plan)
    by None leads rest h = absurd h
    by (Some t) leads rest h =
        let step = step_of problem s t k leads in
        All-cons (Contains (actions_of problem)) k plan (number_among (length problem.operators) k (slice_get_within problem.operators k step.operator step.is)) (rest t h)

pub are_abstract_actions : (pattern : List ℕ) (problem : Problem) (plan : List ℕ) (s : Numbers) → IsPlanFrom (strips_system (abstraction pattern problem)) s plan → All (Contains (actions_of problem)) plan
are_abstract_actions pattern problem plan s plans =
    let long : length (map (abstract_operator pattern) problem.operators) ≡ length problem.operators = length-map problem.operators (abstract_operator pattern) in
    subst (λ n. All (Contains (range_with_len 0 n)) plan) long (are_actions (abstraction pattern problem) plan s plans)

-- distances of abstract states are least costs of plans

pub abstract_distance_is_least : (pattern : List ℕ) (problem : Problem) (s : Numbers) → IsLeastCost (strips_system (abstraction pattern problem)) (actions_of problem) (abstract_state pattern s) (abstract_distance pattern problem (abstract_state pattern s))
abstract_distance_is_least pattern problem s =
    is_least (strips_system (abstraction pattern problem)) (actions_of problem) (abstract_states pattern) (are_closed pattern problem) (abstract_state pattern s) (is_state pattern (abstract_state pattern s) (abstract_state_is_of pattern s))

-- the heuristic of a projected problem

pub value_at_most : (t : AgentTask) (p q : Numbers) (plan : List ℕ) → IsPlanFrom (seen_system t) (projected_state t p q) plan → AtMost (pattern_value t p q) (Some (plan_cost (seen_system t) plan))
value_at_most t p q plan plans =
    let pattern = pattern_of (projected t) in
    let s = projected_state t p q in
    let found = abstract_plan pattern (projected t) plan s plans in
    let least = abstract_distance_is_least pattern (projected t) s in
    subst (λ n. AtMost (pattern_value t p q) (Some n)) found.1
    (least.at_most plan (are_abstract_actions pattern (projected t) plan (abstract_state pattern s) found.0) found.0)

pub value_is_admissible : (t : AgentTask) (p q : Numbers) (plan : List ℕ) → IsPlanFrom (seen_system t) (projected_state t p q) plan → IfSome (pattern_value t p q) (λ h. h ≤ plan_cost (seen_system t) plan)
value_is_admissible t p q plan plans = by (pattern_value t p q) (value_at_most t p q plan plans)
  where
    by : (a : Option ℕ) → AtMost a (Some (plan_cost (seen_system t) plan)) → IfSome a (λ h. h ≤ plan_cost (seen_system t) plan)
    by None h = tt
    by (Some h) le = le

pub value_is_dead : (t : AgentTask) (p q : Numbers) (plan : List ℕ) → pattern_value t p q ≡ None → ¬ IsPlanFrom (seen_system t) (projected_state t p q) plan
value_is_dead t p q plan none plans =
    subst (λ a. AtMost a (Some (plan_cost (seen_system t) plan))) none (value_at_most t p q plan plans)

-- how great a value is at most

pub costs_fit : (t : AgentTask) → IsWithinLimits t → All (λ o. o.cost ≤ 16000000) (projected t).operators
costs_fit t fits =
    All-append (λ o. o.cost ≤ 16000000) (map (own_operator t.publics) t.acts) (map far_operator t.far)
    (All-map (λ o. o.cost ≤ 16000000) (own_operator t.publics) t.acts (λ k d h. (fits.acts k d h).cost))
    (All-map (λ o. o.cost ≤ 16000000) far_operator t.far (λ k d h. (fits.far k d h).cost))

cost_fits : (problem : Problem) (e : ℕ) → All (λ o. o.cost ≤ e) problem.operators → (k : ℕ) → (strips_system problem).cost k ≤ e
cost_fits problem e fits k = by (slice_get problem.operators k) refl
  where
    by : (m : Option Operator) → slice_get problem.operators k ≡ m → option_map_or (λ (o : Operator). o.cost) m 0 ≤ e
    by None here = zero-le
    by (Some o) here = All-contains (λ (p : Operator). p.cost ≤ e) problem.operators o fits (Contains-slice_get problem.operators k o here)

pub abstract_distance_is_small : (pattern : List ℕ) (problem : Problem) → length pattern ≤ 12 → All (λ o. o.cost ≤ 16000000) problem.operators → (s : Numbers) → IfSome (abstract_distance pattern problem s) (λ h. h < 2 ^ 50)
abstract_distance_is_small pattern problem few cheap s =
    by (abstract_distance pattern problem s)
    (rounds-Below (strips_system (abstraction pattern problem)) (actions_of problem) 16000000
    (λ k. subst (λ c. c ≤ 16000000) (sym (abstract_cost pattern problem k)) (cost_fits problem 16000000 cheap k))
    (length (abstract_states pattern)) s)
  where
    by : (a : Option ℕ) → Below (length (abstract_states pattern) * 16000000) a → IfSome a (λ h. h < 2 ^ 50)
    by None h = tt
    by (Some h) le =
        let many = length-abstract_states pattern in
        let power : 2 ^ length pattern ≤ 4096 = pow-le-pow_right {n = 2} (omega arith) few in
        omega arith

pub value_is_small : (t : AgentTask) (p q : Numbers) → IsWithinLimits t → IfSome (pattern_value t p q) (λ h. h < 2 ^ 50)
value_is_small t p q fits =
    abstract_distance_is_small (pattern_of (projected t)) (projected t) (at_most_12 (projected t)) (costs_fit t fits) (abstract_state (pattern_of (projected t)) (projected_state t p q))
