-- A table of moves has the distances of the abstract problem.
use Rattle.std.proofs.Common.{◌≡◌, ℕ, ◌+◌, ◌^◌, ◌<◌, ◌≤◌, true, Option, Some, None, option_map, List, [], ◌∷◌, length, get_or, All, Contains, refl, sym, ap, ◌∙◌, subst, arith}
use Rattle.std.proofs.Math.Nat.{pow-le-pow_right}
use Rattle.std.proofs.lemmas.List.{get_or_default}
use Rattle.std.proofs.lemmas.List.Elements.{All-contains}
use Rattle.std.proofs.lemmas.Option.{none-some, same_Some, slice_get-get_or}
use Rattle.std.specs.FinSet as set
use Rattle.std.specs.List.{slice_get}
use Rattle.std.specs.Option.{IfSome, IsSomeAnd, option_and_then, option_map_or}
use Rattle.mp_estimates.specs.Estimates.{AtMost}
use Rattle.mp_estimates.specs.Laws.Order.{AtMost-antisym}
use Rattle.mp_runs.specs.Run.{run}
use Rattle.mp_runs.specs.System.{IsPlanFrom, plan_cost}
use Rattle.mp_runs.proofs.Costs.{plan_cost-cons}
use Rattle.mp_runs.proofs.Runs.{run-none, run-cons}
use Rattle.mp_sets.specs.Numbers.{Numbers, holds, after}
use Rattle.mp_task.specs.AgentTask.{AgentTask}
use Rattle.mp_task.specs.Projected.{projected, projected_state}
use Rattle.mp_task.specs.Strips.{Operator, Problem, strips_system}
use Rattle.mp_task.proofs.Agreeing.{Contains-slice_get}
use Rattle.mp_pdb.specs.declared.moves.Move.{Move}
use Rattle.mp_pdb.specs.Distance.{HasPlan}
use Rattle.mp_pdb.specs.Masks.{Shows}
use Rattle.mp_pdb.specs.Moves.{HasLists, IsMoveOf, HasMove, AreMoves, after_move, has_all}
use Rattle.mp_pdb.specs.Moves.HasMove.{by_move, by_nothing}
use Rattle.mp_pdb.specs.Pattern.{is_in, of_pattern, abstract_operator, abstraction, abstract_state, abstract_states, actions_of, abstract_distance, pattern_value}
use Rattle.mp_pdb.specs.Pdb.{IsDatabaseOf}
use Rattle.mp_estimates.specs.Lowering.{unknown, known, number_at}
use Rattle.mp_pdb.specs.Table.{IsTable, AreLow}
use Rattle.mp_pdb.specs.Laws.Bounds.{Step, step_of, step_leads, abstract_at, abstract_cost, are_closed, abstract_distance_is_least, abstract_distance_is_small, number_among}
use Rattle.mp_pdb.specs.Laws.Least.{goal_costs, action_costs}
use Rattle.mp_pdb.specs.Laws.States.{is_state}
use Rattle.mp_pdb.proofs.MaskLemmas.{shows_below}
use Rattle.mp_pdb.proofs.ChosenLemmas.{set_of, set_is_of, set_of_shown, set_holds, set_of-after, has_shown, shows-after, shows-idle, shows_abstract}
use Rattle.mp_estimates.proofs.LoweringLemmas.{known-some}

module _ (pattern : List ℕ) (problem : Problem) (moves : List Move) (goal : ℕ) (numbers : List ℕ) (few : length pattern ≤ 12) (are : AreMoves pattern problem.operators moves) (goals : Shows pattern (is_in problem.goals) goal) (table : IsTable (2 ^ length pattern) moves goal numbers) where
  fits : (mask : ℕ) → mask < 2 ^ length pattern → mask < 2 ^ 16
  fits mask lt = let power : 2 ^ length pattern ≤ 4096 = pow-le-pow_right {n = 2} (omega arith) few in omega arith

  -- no number is below the distance

  zeros : (mask : ℕ) → has_all mask goal ≡ true → AtMost (abstract_distance pattern problem (set_of pattern mask)) (Some 0)
  zeros mask ready =
      subst (λ d. AtMost d (Some 0))
      (sym (goal_costs (strips_system (abstraction pattern problem)) (actions_of problem) (abstract_states pattern) (are_closed pattern problem) (set_of pattern mask)
      (is_state pattern (set_of pattern mask) (set_is_of pattern mask)) (set_holds pattern problem.goals mask goal goals ready)))
      (let le : 0 ≤ 0 = omega arith in le)

  by_operator : (o : Operator) (move : Move) (mask : ℕ) → Contains problem.operators o → HasLists pattern o move → mask < 2 ^ length pattern → has_all mask move.pre ≡ true → AtMost (abstract_distance pattern problem (set_of pattern mask)) (option_map (λ c. o.cost + c) (abstract_distance pattern problem (set_of pattern (after_move move mask))))
  by_operator o move mask (k, lt, e) lists within ready =
      let system = strips_system (abstraction pattern problem) in
      let here : slice_get problem.operators k ≡ Some o = slice_get-get_or problem.operators k o lt ∙ ap Some e in
      let leads = step_leads (abstraction pattern problem) (set_of pattern mask) k (abstract_operator pattern o) (abstract_at pattern problem k ∙ ap (option_map (abstract_operator pattern)) here) (set_holds pattern o.pre mask move.pre lists.pre ready) in
      let next : set_of pattern (after_move move mask) ≡ after (set_of pattern mask) (of_pattern pattern o.del) (of_pattern pattern o.add) = set_of-after pattern o.del o.add move mask (fits mask within) (fits move.del (shows_below pattern (is_in o.del) move.del lists.del)) lists.del lists.add in
      let found = action_costs system (actions_of problem) (abstract_states pattern) (are_closed pattern problem) (set_of pattern mask) (set_of pattern (after_move move mask)) k (is_state pattern (set_of pattern mask) (set_is_of pattern mask)) (number_among (length problem.operators) k lt) (leads ∙ ap Some (sym next)) in
      let paid : system.cost k ≡ o.cost = abstract_cost pattern problem k ∙ ap (λ m. option_map_or (λ (p : Operator). p.cost) m 0) here in
      subst (λ n. AtMost (abstract_distance pattern problem (set_of pattern mask)) (option_map (λ c. n + c) (abstract_distance pattern problem (set_of pattern (after_move move mask))))) paid found

  are_low : AreLow (2 ^ length pattern) moves (λ mask. abstract_distance pattern problem (set_of pattern mask))
  are_low mask move among within ready =
      let found = All-contains (IsMoveOf pattern problem.operators) moves move are.sound among in
      subst (λ n. AtMost (abstract_distance pattern problem (set_of pattern mask)) (option_map (λ c. n + c) (abstract_distance pattern problem (set_of pattern (after_move move mask))))) (sym found.stands.cost)
      (by_operator found.operator move mask found.among found.stands.lists within ready)

  no_lower : (mask : ℕ) → AtMost (abstract_distance pattern problem (set_of pattern mask)) (known (number_at numbers mask))
  no_lower = table.below (λ mask. abstract_distance pattern problem (set_of pattern mask)) (λ mask lt ready. zeros mask ready) are_low

  -- and none is above the cost of a plan

  AtMostPlan : List ℕ → Type 0
  AtMostPlan plan =
      (s : Numbers) (mask : ℕ)
      → Shows pattern (set.contains s) mask
      → IsPlanFrom (strips_system (abstraction pattern problem)) s plan
      → number_at numbers mask ≤ plan_cost (strips_system (abstraction pattern problem)) plan

  no_greater : (plan : List ℕ) (s : Numbers) (mask : ℕ) → Shows pattern (set.contains s) mask → IsPlanFrom (strips_system (abstraction pattern problem)) s plan → number_at numbers mask ≤ plan_cost (strips_system (abstraction pattern problem)) plan
  unfolding AtMostPlan
  no_greater [] s mask shows plans =
      let system = strips_system (abstraction pattern problem) in
      let reached = subst (λ o. IsSomeAnd o (λ last. holds last (of_pattern pattern problem.goals) ≡ true)) (run-none system.after s) plans in
      let zero = table.goals mask (shows_below pattern (set.contains s) mask shows) (has_shown pattern problem.goals s mask goal shows goals reached) in
      omega arith
  no_greater (k ∷ plan) s mask shows plans =
      by ((strips_system (abstraction pattern problem)).after s k) refl (no_greater plan)
      (subst (λ o. IsSomeAnd o (λ last. holds last (of_pattern pattern problem.goals) ≡ true)) (run-cons (strips_system (abstraction pattern problem)).after s k plan) plans)
    where
      within : mask < 2 ^ length pattern
      within = shows_below pattern (set.contains s) mask shows

      by_one : (o : Operator) (t : Numbers) → slice_get problem.operators k ≡ Some o → holds s (of_pattern pattern o.pre) ≡ true → after s (of_pattern pattern o.del) (of_pattern pattern o.add) ≡ t → AtMostPlan plan → IsPlanFrom (strips_system (abstraction pattern problem)) t plan → HasMove pattern moves o → number_at numbers mask ≤ o.cost + plan_cost (strips_system (abstraction pattern problem)) plan
      by_one o t here ready leads rest later (by_move move among lists cheaper) =
          let next = shows-after pattern o.del o.add s move mask (fits mask within) (fits move.del (shows_below pattern (is_in o.del) move.del lists.del)) lists.del lists.add shows in
          let low = rest t (after_move move mask) (subst (λ u. Shows pattern (set.contains u) (after_move move mask)) leads next) later in
          let served = table.served mask move among within (has_shown pattern o.pre s mask move.pre shows lists.pre ready) in
          omega arith
      by_one o t here ready leads rest later (by_nothing move lists idle) =
          let next = shows-idle pattern o.pre o.del o.add s move mask lists.pre lists.del lists.add idle.needed idle.added (has_shown pattern o.pre s mask move.pre shows lists.pre ready) shows in
          let low = rest t mask (subst (λ u. Shows pattern (set.contains u) mask) leads next) later in
          omega arith

      by_operator_of : (t : Numbers) → Step (abstraction pattern problem) s t k → AtMostPlan plan → IsPlanFrom (strips_system (abstraction pattern problem)) t plan → (m : Option Operator) → slice_get problem.operators k ≡ m → number_at numbers mask ≤ plan_cost (strips_system (abstraction pattern problem)) (k ∷ plan)
      by_operator_of t step rest later None here =
          absurd (none-some step.operator (sym (abstract_at pattern problem k ∙ ap (option_map (abstract_operator pattern)) here) ∙ step.is))
      by_operator_of t step rest later (Some o) here =
          let same : abstract_operator pattern o ≡ step.operator = same_Some (abstract_operator pattern o) step.operator (sym (abstract_at pattern problem k ∙ ap (option_map (abstract_operator pattern)) here) ∙ step.is) in
          let found = by_one o t here
          (subst (λ (p : Operator). holds s p.pre ≡ true) (sym same) step.holds)
          ((λ i. after s (same i).del (same i).add) ∙ step.leads)
          rest later (All-contains (HasMove pattern moves) problem.operators o are.whole (Contains-slice_get problem.operators k o here)) in
          let paid : (strips_system (abstraction pattern problem)).cost k ≡ o.cost = abstract_cost pattern problem k ∙ ap (λ m. option_map_or (λ (p : Operator). p.cost) m 0) here in
          let all = plan_cost-cons (strips_system (abstraction pattern problem)) k plan in
          omega arith

      by : (o : Option Numbers) → (strips_system (abstraction pattern problem)).after s k ≡ o → AtMostPlan plan → IsSomeAnd (option_and_then (λ t. run (strips_system (abstraction pattern problem)).after t plan) o) (λ last. holds last (of_pattern pattern problem.goals) ≡ true) → number_at numbers mask ≤ plan_cost (strips_system (abstraction pattern problem)) (k ∷ plan)
      by None leads rest h = absurd h
      by (Some t) leads rest h = by_operator_of t (step_of (abstraction pattern problem) s t k leads) rest h (slice_get problem.operators k) refl

  -- so they are the distances
  pub numbers_are_distances : All (λ o. o.cost ≤ 16000000) problem.operators → (s : Numbers) (mask : ℕ) → Shows pattern (set.contains s) mask → known (number_at numbers mask) ≡ abstract_distance pattern problem (abstract_state pattern s)
  numbers_are_distances cheap s mask shows =
      AtMost-antisym (known (number_at numbers mask)) (abstract_distance pattern problem (abstract_state pattern s))
      (by (abstract_distance pattern problem (abstract_state pattern s)) (abstract_distance_is_least pattern problem s).attained (abstract_distance_is_small pattern problem few cheap (abstract_state pattern s)))
      (subst (λ u. AtMost (abstract_distance pattern problem u) (known (number_at numbers mask))) (set_of_shown pattern s mask shows) (no_lower mask))
    where
      by : (o : Option ℕ) → IfSome o (λ n. HasPlan (strips_system (abstraction pattern problem)) (actions_of problem) (abstract_state pattern s) n) → IfSome o (λ n. n < 2 ^ 50) → AtMost (known (number_at numbers mask)) o
      by None plan small = tt
      by (Some n) plan small =
          let low = no_greater plan.0 (abstract_state pattern s) mask (shows_abstract pattern s mask shows) plan.2 in
          let cost = plan.3 in
          let le : number_at numbers mask ≤ n = omega arith in
          subst (λ a. AtMost a (Some n)) (sym (known-some (number_at numbers mask) (omega arith))) le

-- what is looked up is the value
pub value_is : (t : AgentTask) (p q : Numbers) (publics : ℕ) (facts slice numbers : List ℕ) (mask number : ℕ) → IsDatabaseOf t publics facts numbers → slice ≡ facts → Shows slice (set.contains (projected_state t p q)) mask → mask < length numbers → number ≡ get_or numbers mask number → known number ≡ pattern_value t p q
value_is t p q publics facts slice numbers mask number database same shows within read =
    ap known (read ∙ get_or_default numbers mask number unknown within)
    ∙ database.numbers (projected_state t p q) mask (subst (λ fs. Shows fs (set.contains (projected_state t p q)) mask) same shows)
    ∙ ap (λ fs. abstract_distance fs (projected t) (abstract_state fs (projected_state t p q))) database.pattern
