-- The worked team: that the tasks agree, which plans solve and what they cost, and the one in order.
use Rattle.std.proofs.Common.{◌≡◌, ◌<◌, ◌≤◌, ◌≢◌, ℕ, true, false, [], ◌∷◌, refl, sym, ap, ◌∙◌, ⊎_elim, arith}
use Rattle.std.proofs.lemmas.Bool.{false≢true}
use Rattle.std.proofs.lemmas.List.Elements.{All-cons, All-nil}
use Rattle.std.specs.FinSet as set
use Rattle.std.specs.List.{Contains, AllPairs}
use Rattle.mp_list.proofs.Members.{contains_cases, contains_one}
use Rattle.mp_runs.specs.Run.{run}
use Rattle.mp_sets.proofs.NumbersLemmas.{contains-after}
use Rattle.mp_task.specs.declared.act.Act.{Act}
use Rattle.mp_task.specs.declared.act.Far.{Far}
use Rattle.mp_task.specs.AgentTask.{AgentTask}
use Rattle.mp_task.specs.Agreement.{AreTeamTasks, FitsTeam, SayAlike}
use Rattle.mp_task.specs.Limits.{ActFits, AllLess, FarFits, IsWithinLimits}
use Rattle.mp_task.specs.Met.{is_met, met_at_start}
use Rattle.mp_task.specs.Plan.{JointState, SolvesFrom, TaskSolves, after_act, goals_hold, joint_start, private_of, task_cost}
use Rattle.mp_task.proofs.FarLists.{parts_in, parts_of_others, others_are_exact}
use Rattle.mp_order.specs.Examples.{privately, serve, carry, served, carried, cook, waiter, one_of_two, cook_and_waiter, washing, serving, resting, fetching, carrying, collecting, unordered, ordered, meal_out}
use Rattle.mp_order.specs.Ordered.{IsOrdered}
use Rattle.mp_order.specs.Ordered.IsBlock.{by_public, by_private}
use Rattle.mp_order.specs.Ordered.IsClosingGroup.{met, unmet}
use Rattle.mp_order.specs.Ordered.AreClosingGroups.{no_agent, first_agent}
use Rattle.mp_order.specs.Ordered.IsOrdered.{closing, block}

one_pair : {X : Type 0} (R : X → X → Type 0) (a : X) → AllPairs R (a ∷ [])
one_pair R a = λ i j d lt within. absurd (omega arith)

none_met : met_at_start cook_and_waiter ≡ false ∷ false ∷ []
none_met = simp set.contains-from_list_nat refl

cook_fits : FitsTeam cook_and_waiter cook
unfolding parts_of_others parts_in
cook_fits = record {
  agents = refl;
  met = sym none_met;
  far = record {
    exact = others_are_exact cook_and_waiter 1;
    once = one_pair (λ a b. a ≢ b) carried;
    by_agent = one_pair (λ a b. a.by ≤ b.by) carried;
  };
}

waiter_fits : FitsTeam cook_and_waiter waiter
unfolding parts_of_others parts_in
waiter_fits = record {
  agents = refl;
  met = sym none_met;
  far = record {
    exact = others_are_exact cook_and_waiter 2;
    once = one_pair (λ a b. a ≢ b) served;
    by_agent = one_pair (λ a b. a.by ≤ b.by) served;
  };
}

-- what all of the two say is what the cook says
as_the_cook : (t : AgentTask) → Contains cook_and_waiter t → SayAlike t cook
as_the_cook t here =
    ⊎_elim (λ e. record { publics = ap (λ (u : AgentTask). u.publics) (sym e); start_pub = ap (λ (u : AgentTask). u.start_pub) (sym e); goal_pub = ap (λ (u : AgentTask). u.goal_pub) (sym e) })
    (λ later. let e = contains_one waiter t later in record { publics = ap (λ (u : AgentTask). u.publics) e; start_pub = ap (λ (u : AgentTask). u.start_pub) e; goal_pub = ap (λ (u : AgentTask). u.goal_pub) e })
    (contains_cases cook (waiter ∷ []) t here)

-- each of the two keeps the limits
none : AllLess 2 []
none = All-nil (λ x. x < 2)

one : (x : ℕ) → x < 2 → AllLess 2 (x ∷ [])
one x less = All-cons (λ y. y < 2) x [] less none

privately_fits : (fact : ℕ) → fact < 2 → ActFits 2 2 (privately fact)
privately_fits fact less = record { pre_pub = none; pre_priv = none; add_pub = none; add_priv = one fact less; del_pub = none; del_priv = none; cost = omega arith }

serve_fits : ActFits 2 2 serve
serve_fits = record { pre_pub = none; pre_priv = one 0 (omega arith); add_pub = one 0 (omega arith); add_priv = none; del_pub = none; del_priv = none; cost = omega arith }

carry_fits : ActFits 2 2 carry
carry_fits = record {
  pre_pub = one 0 (omega arith);
  pre_priv = one 0 (omega arith);
  add_pub = one 1 (omega arith);
  add_priv = none;
  del_pub = one 0 (omega arith);
  del_priv = none;
  cost = omega arith;
}

one_within : (me : ℕ) (shown : Act) (part : Far) → 1 ≤ me → me ≤ 2 → ActFits 2 2 shown → FarFits 2 2 part → IsWithinLimits (one_of_two me shown part)
one_within me shown part from_1 in_team shown_fits part_fits = record {
  at_most_16_agents = omega arith;
  from_1 = from_1;
  in_team = in_team;
  a_flag_each = refl;
  publics = omega arith;
  privates = omega arith;
  start_pub = none;
  start_priv = none;
  goal_pub = one 1 (omega arith);
  goal_priv = one 1 (omega arith);
  number_of_acts = omega arith;
  number_of_far = omega arith;
  acts =
      All-cons (ActFits 2 2) (privately 0) (shown ∷ privately 1 ∷ []) (privately_fits 0 (omega arith))
      (All-cons (ActFits 2 2) shown (privately 1 ∷ []) shown_fits (All-cons (ActFits 2 2) (privately 1) [] (privately_fits 1 (omega arith)) (All-nil (ActFits 2 2))));
  far = All-cons (FarFits 2 2) part [] part_fits (All-nil (FarFits 2 2));
}

pub are_a_team : AreTeamTasks cook_and_waiter
are_a_team = record {
  agree = record {
    numbered = refl;
    team = All-cons (FitsTeam cook_and_waiter) cook (waiter ∷ []) cook_fits (All-cons (FitsTeam cook_and_waiter) waiter [] waiter_fits (All-nil (FitsTeam cook_and_waiter)));
    alike = λ t u here there.
        let a = as_the_cook t here in
        let b = as_the_cook u there in
        record { publics = a.publics ∙ sym b.publics; start_pub = a.start_pub ∙ sym b.start_pub; goal_pub = a.goal_pub ∙ sym b.goal_pub };
  };
  within =
      All-cons IsWithinLimits cook (waiter ∷ [])
      (one_within 1 serve carried (omega arith) (omega arith) serve_fits (record { from_1 = omega arith; in_team = omega arith; pre = one 0 (omega arith); add = one 1 (omega arith); del = one 0 (omega arith); cost = omega arith }))
      (All-cons IsWithinLimits waiter []
      (one_within 2 carry served (omega arith) (omega arith) carry_fits (record { from_1 = omega arith; in_team = omega arith; pre = none; add = one 0 (omega arith); del = none; cost = omega arith }))
      (All-nil IsWithinLimits));
}

pub unordered_solves : TaskSolves cook_and_waiter unordered
unfolding run
unordered_solves = simp (contains-after, set.contains-from_list_nat) refl

pub unordered_costs_7 : task_cost cook_and_waiter unordered ≡ 7
unordered_costs_7 = refl

pub ordered_costs_6 : task_cost cook_and_waiter ordered ≡ 6
ordered_costs_6 = refl

pub falling_solves : SolvesFrom cook_and_waiter meal_out (collecting ∷ resting ∷ [])
unfolding run
falling_solves = simp (contains-after, set.contains-from_list_nat) refl

pub longer_solves : SolvesFrom cook_and_waiter meal_out (resting ∷ washing ∷ collecting ∷ [])
unfolding run
longer_solves = simp (contains-after, set.contains-from_list_nat) refl

-- the states on the way
abbrev at_start : JointState
at_start = joint_start cook_and_waiter

abbrev washed : JointState
washed = after_act at_start 1 (privately 0)

abbrev ready : JointState
ready = after_act washed 1 serve

abbrev fetched : JointState
fetched = after_act ready 2 (privately 0)

abbrev out : JointState
out = after_act fetched 2 carry

-- from a state where neither private goal holds, each does its last action
closing_part : (s : JointState)
    → (let s1 = after_act s 1 (privately 1) in
    let s2 = after_act s1 2 (privately 1) in
    is_met cook (private_of s 1) ≡ false
    → is_met cook (private_of s1 1) ≡ true
    → is_met waiter (private_of s1 2) ≡ false
    → is_met waiter (private_of s2 2) ≡ true
    → goals_hold cook_and_waiter s2 ≡ true
    → IsOrdered cook_and_waiter s (resting ∷ collecting ∷ []))
closing_part s before_1 after_1 before_2 after_2 goals =
    let s1 = after_act s 1 (privately 1) in
    let s2 = after_act s1 2 (privately 1) in
    closing s s2 (resting ∷ collecting ∷ [])
    (first_agent cook (waiter ∷ []) s s1 s2 (resting ∷ []) (collecting ∷ [])
    (unmet s s1 s1 resting [] (λ e. false≢true (sym before_1 ∙ e)) (record { by = refl; act = privately 1; is = refl; kind = refl; may = refl; leads = refl }) (met s1 after_1))
    (first_agent waiter [] s1 s2 s2 (collecting ∷ []) []
    (unmet s1 s2 s2 collecting [] (λ e. false≢true (sym before_2 ∙ e)) (record { by = refl; act = privately 1; is = refl; kind = refl; may = refl; leads = refl }) (met s2 after_2))
    (no_agent s2)))
    goals

pub closing_is_ordered : IsOrdered cook_and_waiter meal_out (resting ∷ collecting ∷ [])
closing_is_ordered =
    closing_part meal_out (simp set.contains-from_list_nat refl) (simp (contains-after, set.contains-from_list_nat) refl) (simp set.contains-from_list_nat refl) (simp (contains-after, set.contains-from_list_nat) refl) (simp (contains-after, set.contains-from_list_nat) refl)

pub ordered_is_ordered : IsOrdered cook_and_waiter at_start ordered
ordered_is_ordered =
    block 1 at_start ready (washing ∷ serving ∷ []) _
    (by_private at_start washed ready washing (serving ∷ []) (record { by = refl; act = privately 0; is = refl; kind = refl; may = refl; leads = refl })
    (by_public washed ready serving (record { by = refl; act = serve; is = refl; kind = refl; may = simp (contains-after, set.contains-from_list_nat) refl; leads = refl })))
    (block 2 ready out (fetching ∷ carrying ∷ []) _
    (by_private ready fetched out fetching (carrying ∷ []) (record { by = refl; act = privately 0; is = refl; kind = refl; may = refl; leads = refl })
    (by_public fetched out carrying (record { by = refl; act = carry; is = refl; kind = refl; may = simp (contains-after, set.contains-from_list_nat) refl; leads = refl })))
    (closing_part out (simp (contains-after, set.contains-from_list_nat) refl) (simp (contains-after, set.contains-from_list_nat) refl) (simp (contains-after, set.contains-from_list_nat) refl) (simp (contains-after, set.contains-from_list_nat) refl) (simp (contains-after, set.contains-from_list_nat) refl)))
