-- Plans whose actions are taken in another order of their times.
use Rattle.std.proofs.Common.{◌≡◌, ℕ, suc, ◌+◌, false, List, [], ◌∷◌, ◌++◌, length, Option, Some, None, refl, sym, ap, subst, ◌∙◌, arith, append_assoc, IsSomeAnd, IsTrue}
use Rattle.std.specs.List.{range_with_len, filter_map, sum_by, slice_get, cons_option}
use Rattle.std.specs.Option.{option_and_then, option_map_or}
use Rattle.std.proofs.lemmas.List.{length_push}
use Rattle.std.proofs.lemmas.List.Sums.{sum_by-cons}
use Rattle.std.proofs.lemmas.List.Sorted.{sum_by-IsPermutation}
use Rattle.mp_runs.specs.Run.{run}
use Rattle.mp_joint.specs.declared.plan.PlanStep.{PlanStep}
use Rattle.mp_joint.specs.Instance.{State}
use Rattle.mp_joint.specs.Plan.{Contribution, step_after, step_cost, joint_start, is_goal, Solves, cost}
use Rattle.mp_steps.specs.Levels.{times, levels}
use Rattle.mp_steps.specs.Interference.{interfere, at_time, interfere_at}
use Rattle.mp_steps.specs.Packing.{WritesOut}
use Rattle.mp_steps.specs.PlanSteps.{plan_steps, in_order}
use Rattle.mp_steps.proofs.LevelLemmas.{AreLevels, levels_are}
use Rattle.mp_steps.proofs.ExchangeLemmas.{steps_commute}
use Rattle.mp_steps.proofs.OrderLemmas.{Commutes, order_is_permutation, order_leads_there}

-- ---- all times in their order are the plan

item_behind : (before : List PlanStep) (x : PlanStep) (behind : List PlanStep) → slice_get (before ++ x ∷ behind) (length before) ≡ Some x
item_behind [] x behind = refl
item_behind (y ∷ before) x behind = item_behind before x behind

all_behind : (before behind : List PlanStep) (a : ℕ) → length before + 1 ≡ a → filter_map (at_time (before ++ behind)) (range_with_len a (length behind)) ≡ behind
all_behind before [] a e = refl
all_behind before (x ∷ behind) a e =
    let first : at_time (before ++ x ∷ behind) a ≡ Some x =
    let number : a ≡ suc (length before) = omega (arith, e) in
    ap (at_time (before ++ x ∷ behind)) number ∙ item_behind before x behind in
    let grown = length_push before x in
    let rest = all_behind (before ++ x ∷ []) behind (a + 1) (omega (arith, e, grown)) in
    ap (λ o. cons_option o (filter_map (at_time (before ++ x ∷ behind)) (range_with_len (a + 1) (length behind)))) first
    ∙ ap (λ xs. x ∷ filter_map (at_time xs) (range_with_len (a + 1) (length behind))) (sym (append_assoc before (x ∷ []) behind))
    ∙ ap (λ xs. x ∷ xs) rest

in_own_order : (plan : List PlanStep) → in_order plan (times (length plan)) ≡ plan
in_own_order plan = all_behind [] plan 1 refl

module _ (team : List Contribution) (plan : List PlanStep) where
  -- ---- runs of times

  -- the state after the action of a time; where there is none the state stays
  abbrev after_time : State → ℕ → Option State
  after_time s t = option_map_or (step_after team s) (at_time plan t) (Some s)

  itself : (o : Option State) → option_and_then (λ t. Some t) o ≡ o
  itself None = refl
  itself (Some t) = refl

  commute : (s : State) (o p : Option PlanStep) → option_map_or (λ x. option_map_or (λ y. interfere team x y) p false) o false ≡ false
      → option_and_then (λ w. option_map_or (step_after team w) p (Some w)) (option_map_or (step_after team s) o (Some s))
      ≡ option_and_then (λ w. option_map_or (step_after team w) o (Some w)) (option_map_or (step_after team s) p (Some s))
  commute s None None apart = refl
  commute s None (Some y) apart = sym (itself (step_after team s y))
  commute s (Some x) None apart = itself (step_after team s x)
  commute s (Some x) (Some y) apart = steps_commute team s x y apart

  times_commute : (ls : List ℕ) (are : AreLevels (interfere_at team plan) (length plan) ls) → Commutes (interfere_at team plan) (length plan) ls are after_time
  times_commute ls are s t u first before within apart = commute s (at_time plan t) (at_time plan u) apart

  runs_alike : (s : State) (order : List ℕ) → run after_time s order ≡ run (step_after team) s (in_order plan order)
  unfolding run
  runs_alike s [] = refl
  runs_alike s (t ∷ order) = by (at_time plan t) (λ w. runs_alike w order)
    where
      by : (o : Option PlanStep) → ((w : State) → run after_time w order ≡ run (step_after team) w (in_order plan order))
          → option_and_then (λ w. run after_time w order) (option_map_or (step_after team s) o (Some s)) ≡ run (step_after team) s (cons_option o (in_order plan order))
      by None each = each s
      by (Some x) each = λ i. option_and_then (λ w. each w i) (step_after team s x)

  -- ---- costs

  abbrev time_cost : ℕ → ℕ
  time_cost t = option_map_or (step_cost team) (at_time plan t) 0

  cost_alike : (order : List ℕ) → cost team (in_order plan order) ≡ sum_by time_cost order
  cost_alike [] = refl
  cost_alike (t ∷ order) = by (at_time plan t) refl (cost_alike order) ∙ sym (sum_by-cons time_cost t order)
    where
      by : (o : Option PlanStep) → at_time plan t ≡ o → cost team (in_order plan order) ≡ sum_by time_cost order
          → cost team (cons_option o (in_order plan order)) ≡ option_map_or (step_cost team) o 0 + sum_by time_cost order
      by None is rest = omega (arith, rest)
      by (Some x) is rest = let all = sum_by-cons (step_cost team) x (in_order plan order) in omega (arith, rest, all)

  -- ---- a plan in the order of its steps

  abbrev own_levels : AreLevels (interfere_at team plan) (length plan) (levels (interfere_at team plan) (length plan))
  own_levels = levels_are (interfere_at team plan) (length plan)

  pub same_run : (order : List ℕ) → WritesOut (plan_steps team plan) order → (s : State) → run (step_after team) s (in_order plan order) ≡ run (step_after team) s plan
  same_run order h s =
      let ls = levels (interfere_at team plan) (length plan) in
      sym (runs_alike s order)
      ∙ order_leads_there (interfere_at team plan) (length plan) ls own_levels after_time (times_commute ls own_levels) order h s
      ∙ runs_alike s (times (length plan))
      ∙ ap (run (step_after team) s) (in_own_order plan)

  pub same_cost : (order : List ℕ) → WritesOut (plan_steps team plan) order → cost team (in_order plan order) ≡ cost team plan
  same_cost order h =
      let ls = levels (interfere_at team plan) (length plan) in
      cost_alike order
      ∙ sum_by-IsPermutation time_cost (times (length plan)) order (order_is_permutation (interfere_at team plan) (length plan) ls own_levels after_time order h)
      ∙ sym (cost_alike (times (length plan)))
      ∙ ap (cost team) (in_own_order plan)

  pub still_solves : (order : List ℕ) → WritesOut (plan_steps team plan) order → Solves team plan → Solves team (in_order plan order)
  still_solves order h solves =
      subst (λ o. IsSomeAnd o (λ last. IsTrue (is_goal team last))) (sym (same_run order h (joint_start team))) solves
