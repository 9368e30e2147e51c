-- A plan of the team is, seen by one agent, a plan of its projected problem that costs no more: its own actions stay,
-- of the others' public actions the public parts stay, and their private actions go.
use Rattle.std.proofs.Common.{◌≡◌, ◌≢◌, ℕ, ◌+◌, ◌-◌, ◌<◌, ◌≤◌, true, false, cond, not, ◌&&◌, List, [], ◌∷◌, ◌++◌, append-nil, length, map, get_or, All, Some, None, refl, sym, ap, ◌∙◌, subst, ⊎_elim, zero-le, arith}
use Rattle.std.proofs.Math.Bool.{and-true}
use Rattle.std.proofs.Math.ListN.{set as set_at}
use Rattle.std.proofs.lemmas.Bool.{and_parts, cases_Bool, cases_eq, eqb-true, not-false}
use Rattle.std.proofs.lemmas.List.{get_or_append_left, get_or-append-add, get_or_default, get_or-map, get_or-set_same, get_or-set_other, length-append, length-map, length-set, nil_from_length}
use Rattle.std.proofs.lemmas.List.Elements.{All-contains}
use Rattle.std.proofs.lemmas.List.Sums.{AllPass-from_list_all}
use Rattle.std.proofs.lemmas.Option.{cond_some, option_and_then_some, slice_get-get_or, slice_get_within, get_or_from_slice_get}
use Rattle.std.specs.FinSet as set
use Rattle.std.specs.List.{Contains, slice_get}
use Rattle.std.specs.Option.{option_and_then, option_map_or}
use Rattle.mp_runs.specs.Simulation.{StandsForAll, HasAnswer, Simulates}
use Rattle.mp_runs.proofs.Costs.{plan_cost-one, smaller_costs}
use Rattle.mp_runs.proofs.Runs.{run-none, run-one}
use Rattle.mp_runs.proofs.Simulations.{IsAnsweringPlan, simulated_plan}
use Rattle.mp_sets.specs.Numbers.{Numbers, holds, after}
use Rattle.mp_sets.proofs.NumbersLemmas.{after-none, after-without_adds}
use Rattle.mp_task.specs.declared.act.Act.{Act}
use Rattle.mp_task.specs.declared.act.Far.{Far}
use Rattle.mp_task.specs.AgentTask.{AgentTask}
use Rattle.mp_task.specs.Agreement.{AreTeamTasks, FitsTeam}
use Rattle.mp_task.specs.Limits.{ActFits, IsWithinLimits}
use Rattle.mp_task.specs.Met.{is_met}
use Rattle.mp_task.specs.Plan.{JointState, IsJointState, TaskStep, SolvesFrom, act_of, private_of, applies, after_act, after_step, step_cost, goals_hold, team_system, task_cost}
use Rattle.mp_task.specs.Projected.{own_operator, far_operator, projected, projected_state}
use Rattle.mp_task.specs.Public.{is_public, part_of}
use Rattle.mp_task.specs.Seen.{seen_system, seen_state, IsSeenAs}
use Rattle.mp_task.specs.Seen.IsSeenAs.{as_it_is, as_part, as_nothing}
use Rattle.mp_task.specs.Strips.{Operator, after_operator}
use Rattle.mp_task.proofs.Agreeing.{Contains-slice_get, IsStepOf, number_at, step_parts}
use Rattle.mp_task.proofs.ProjectedState.{holds-projected_state, projected_state-after}

-- operators of the projected problem by their numbers
own_at : (t : AgentTask) (k : ℕ) (act : Act) → slice_get t.acts k ≡ Some act → slice_get (projected t).operators k ≡ Some (own_operator t.publics act)
own_at t k act here =
    let owns = map (own_operator t.publics) t.acts in
    let parts = map far_operator t.far in
    let within = slice_get_within t.acts k act here in
    let short : length owns ≡ length t.acts = length-map t.acts (own_operator t.publics) in
    let o = own_operator t.publics act in
    let is = get_or_append_left owns parts o k (omega arith) ∙ get_or-map (own_operator t.publics) t.acts k act o within ∙ ap (own_operator t.publics) (get_or_from_slice_get t.acts k act act here) in
    slice_get-get_or (owns ++ parts) k o (omega (arith, length-append owns parts)) ∙ ap Some is

part_at : (t : AgentTask) (k : ℕ) (p : Far) → k < length t.far → get_or t.far k p ≡ p → slice_get (projected t).operators (length t.acts + k) ≡ Some (far_operator p)
part_at t k p within here =
    let owns = map (own_operator t.publics) t.acts in
    let parts = map far_operator t.far in
    let short : length owns ≡ length t.acts = length-map t.acts (own_operator t.publics) in
    let long : length parts ≡ length t.far = length-map t.far far_operator in
    let o = far_operator p in
    let is = ap (λ n. get_or (owns ++ parts) (n + k) o) (sym short) ∙ get_or-append-add owns parts k o ∙ get_or-map far_operator t.far k p o within ∙ ap far_operator here in
    slice_get-get_or (owns ++ parts) (length t.acts + k) o (omega (arith, length-append owns parts)) ∙ ap Some is

-- one operator answers a step
by_operator : (t : AgentTask) (Represents : Numbers → JointState → Type 0) (StandFor : List ℕ → Type 0) (s reached : JointState) (k : ℕ) (o : Operator) → StandFor (k ∷ []) → slice_get (projected t).operators k ≡ Some o → holds (seen_state t s) o.pre ≡ true → Represents (after (seen_state t s) o.del o.add) reached → HasAnswer (seen_system t) Represents StandFor (λ c d. c ≤ d) (seen_state t s) reached o.cost
by_operator t Represents StandFor s reached k o stand here may represents =
    let p = seen_state t s in
    let taken : (seen_system t).after p k ≡ Some (after p o.del o.add) = ap (option_and_then (after_operator p)) here ∙ ap (λ b. cond b (Some (after p o.del o.add)) None) may in
    let cost : (seen_system t).cost k ≡ o.cost = ap (λ m. option_map_or (λ (w : Operator). w.cost) m 0) here in (
      k ∷ [],
      record {
        stand = stand;
        end = after p o.del o.add;
        runs = run-one (seen_system t).after p k ∙ taken;
        represents = represents;
        fits = omega (arith, cost, plan_cost-one (seen_system t) k);
      },
    )

no_numbers : (n : ℕ) → All (λ k. k < n) []
no_numbers n = λ k d h. absurd (omega arith)

-- a private action has no public fact
record HasNoPublic (act : Act) : Type 0 where
  pre : act.pre_pub ≡ []
  add : act.add_pub ≡ []
  del : act.del_pub ≡ []

private_act : (act : Act) → is_public act ≡ false → HasNoPublic act
private_act act hidden =
    let all = and_parts _ _ (not-false _ hidden) in
    let others = and_parts _ _ all.1 in
    record {
      pre = nil_from_length act.pre_pub (eqb-true _ 0 all.0);
      add = nil_from_length act.add_pub (eqb-true _ 0 others.0);
      del = nil_from_length act.del_pub (eqb-true _ 0 others.1);
    }

module _ (tasks : List AgentTask) (are : AreTeamTasks tasks) (t : AgentTask) (here : Contains tasks t) where
  abbrev pub Sees : Numbers → JointState → Type 0
  Sees p s = IsJointState tasks s × (p ≡ seen_state t s)

  abbrev Answered : JointState → JointState → TaskStep → ℕ → Type 0
  Answered s reached step cost = HasAnswer (seen_system t) Sees (IsSeenAs tasks t step) (λ c d. c ≤ d) (seen_state t s) reached cost

  -- an own action
  own_task : (step : TaskStep) (act : Act) → step.agent ≡ t.me → IsStepOf tasks step act → slice_get t.acts step.action ≡ Some act
  own_task step act mine of =
      let u = of.task in
      let place : here.0 ≡ of.place = let a = number_at tasks are.agree.numbered here.0 t here.1 here.2 in let b = of.agent in omega arith in
      let same : u ≡ t =
      sym of.is ∙ ap (λ k. get_or tasks k u) (sym place) ∙ get_or_default tasks here.0 u t here.1 ∙ here.2 in
      ap (λ (v : AgentTask). slice_get v.acts step.action) (sym same) ∙ of.own

  own_step : (s : JointState) (step : TaskStep) (act : Act) → IsJointState tasks s → step.agent ≡ t.me → IsStepOf tasks step act → applies act s.publics (private_of s step.agent) ≡ true → Answered s (after_act s step.agent act) step act.cost
  own_step s step act joint mine of may =
      let own_act = own_task step act mine of in
      let fits = All-contains (ActFits t.publics t.privates) t.acts act (All-contains IsWithinLimits tasks t are.within here).acts (Contains-slice_get t.acts step.action act own_act) in
      let number = number_at tasks are.agree.numbered here.0 t here.1 here.2 in
      let within = here.1 in
      let in_range : t.me - 1 < length s.privates = omega arith in
      let q = private_of s t.me in
      let moved : private_of (after_act s step.agent act) t.me ≡ after q act.del_priv act.add_priv =
      ap (λ a. get_or (set_at s.privates (a - 1) (after (private_of s a) act.del_priv act.add_priv)) (t.me - 1) set.empty) mine
      ∙ get_or-set_same s.privates (t.me - 1) _ set.empty in_range in
      by_operator t Sees (IsSeenAs tasks t step) s (after_act s step.agent act) step.action (own_operator t.publics act)
      (as_it_is mine refl)
      (own_at t step.action act own_act)
      (holds-projected_state t s.publics q act.pre_pub act.pre_priv fits.pre_pub fits.pre_priv ∙ ap (λ a. applies act s.publics (private_of s a)) (sym mine) ∙ may) (
        length-set s.privates (step.agent - 1) _ ∙ joint,
        sym (projected_state-after t s.publics q act.del_pub act.add_pub act.del_priv act.add_priv fits.del_pub fits.add_pub fits.add_priv)
            ∙ ap (projected_state t (after s.publics act.del_pub act.add_pub)) (sym moved),
      )

  -- an action of another agent leaves this agent's private facts
  private_stays : (s : JointState) (step : TaskStep) (act : Act) → step.agent ≢ t.me → IsStepOf tasks step act → private_of (after_act s step.agent act) t.me ≡ private_of s t.me
  private_stays s step act other of =
      let number = number_at tasks are.agree.numbered here.0 t here.1 here.2 in
      let agent = of.agent in
      let apart : t.me - 1 ≢ step.agent - 1 = λ e. other (omega arith) in
      get_or-set_other s.privates (step.agent - 1) (t.me - 1) _ set.empty apart

  -- and what this agent sees changes by the public facts alone
  moved_by_part : (s : JointState) (step : TaskStep) (act : Act) {privates : ℕ} → ActFits t.publics privates act → step.agent ≢ t.me → IsStepOf tasks step act → seen_state t (after_act s step.agent act) ≡ after (seen_state t s) act.del_pub act.add_pub
  moved_by_part s step act fits other of =
      let q = private_of s t.me in
      let seen = seen_state t s in
      ap (projected_state t (after s.publics act.del_pub act.add_pub)) (private_stays s step act other of ∙ sym (after-none q))
      ∙ projected_state-after t s.publics q act.del_pub act.add_pub [] [] fits.del_pub fits.add_pub (no_numbers t.privates)
      ∙ (λ i. after seen (append-nil act.del_pub i) (append-nil act.add_pub i))

  -- a public action of another agent
  far_step : (s : JointState) (step : TaskStep) (act : Act) → IsJointState tasks s → step.agent ≢ t.me → act_of tasks step ≡ Some act → IsStepOf tasks step act → is_public act ≡ true → applies act s.publics (private_of s step.agent) ≡ true → Answered s (after_act s step.agent act) step act.cost
  far_step s step act joint other is of public may =
      let u = of.task in
      let in_team : Contains tasks u = (of.place, of.within, of.is) in
      let by : u.me ≡ step.agent = number_at tasks are.agree.numbered of.place u of.within of.is ∙ sym of.agent in
      let theirs = All-contains (ActFits u.publics u.privates) u.acts act (All-contains IsWithinLimits tasks u are.within in_team).acts (Contains-slice_get u.acts step.action act of.own) in
      let fits : ActFits t.publics u.privates act = subst (λ n. ActFits n u.privates act) (are.agree.alike u t in_team here).publics theirs in
      let p = part_of step.agent act in
      let among : Contains t.far p =
      ((All-contains (FitsTeam tasks) tasks t are.agree.team here).far.exact p).1 (record {
        other = u;
        in_team = in_team;
        another = λ e. other (sym by ∙ e);
        act = act;
        own = Contains-slice_get u.acts step.action act of.own;
        public = public;
        is = ap (λ a. part_of a act) (sym by);
      }) in
      let q = private_of s t.me in
      let seen = seen_state t s in
      by_operator t Sees (IsSeenAs tasks t step) s (after_act s step.agent act) (length t.acts + among.0) (far_operator p)
      (as_part act among.0 other is public (slice_get-get_or t.far among.0 p among.1 ∙ ap Some among.2) refl)
      (part_at t among.0 p among.1 among.2)
      (ap (holds seen) (sym (append-nil act.pre_pub))
      ∙ holds-projected_state t s.publics q act.pre_pub [] fits.pre_pub (no_numbers t.privates)
      ∙ and-true (holds s.publics act.pre_pub)
      ∙ (and_parts _ _ may).0) (
        length-set s.privates (step.agent - 1) _ ∙ joint,
        after-without_adds seen act.del_pub act.add_pub ∙ sym (moved_by_part s step act fits other of),
      )

  goals_are_seen : (s : JointState) → goals_hold tasks s ≡ true → (seen_system t).is_goal (seen_state t s) ≡ true
  goals_are_seen s goals =
      let within = All-contains IsWithinLimits tasks t are.within here in
      let mine = All-contains (λ u. (holds s.publics u.goal_pub && is_met u (private_of s u.me)) ≡ true) tasks t (AllPass-from_list_all _ tasks goals) here in
      holds-projected_state t s.publics (private_of s t.me) t.goal_pub t.goal_priv within.goal_pub within.goal_priv ∙ mine

  -- a private action of another agent
  hidden_step : (s : JointState) (step : TaskStep) (act : Act) → IsJointState tasks s → step.agent ≢ t.me → act_of tasks step ≡ Some act → IsStepOf tasks step act → is_public act ≡ false → Answered s (after_act s step.agent act) step act.cost
  hidden_step s step act joint other is of hidden =
      let none = private_act act hidden in
      let same : after s.publics act.del_pub act.add_pub ≡ s.publics = (λ i. after s.publics (none.del i) (none.add i)) ∙ after-none s.publics in (
        [],
        record {
          stand = as_nothing act other is (ap not hidden) refl;
          end = seen_state t s;
          runs = run-none (seen_system t).after (seen_state t s);
          represents = (
            length-set s.privates (step.agent - 1) _ ∙ joint,
            sym ((λ i. projected_state t (same i) (private_stays s step act other of i))),
          );
          fits = zero-le;
        },
      )

  by_act : (s : JointState) (step : TaskStep) (act : Act) → IsJointState tasks s → act_of tasks step ≡ Some act → applies act s.publics (private_of s step.agent) ≡ true → Answered s (after_act s step.agent act) step act.cost
  by_act s step act joint is may =
      let of = step_parts tasks step act is in
      ⊎_elim (λ mine. own_step s step act joint mine of may)
      (λ other. ⊎_elim (λ public. far_step s step act joint other is of public may) (λ hidden. hidden_step s step act joint other is of hidden) (cases_Bool (is_public act)))
      (cases_eq step.agent t.me)

  -- each step is answered
  any_step : (p : Numbers) (s reached : JointState) (step : TaskStep) → Sees p s → after_step tasks s step ≡ Some reached → HasAnswer (seen_system t) Sees (IsSeenAs tasks t step) (λ c d. c ≤ d) p reached (step_cost tasks step)
  any_step p s reached step sees ran =
      option_and_then_some (λ act. cond (applies act s.publics (private_of s step.agent)) (Some (after_act s step.agent act)) None) (act_of tasks step) reached ran (λ act is taken.
      let parts = cond_some (applies act s.publics (private_of s step.agent)) (after_act s step.agent act) reached taken in
      let cost : act.cost ≡ step_cost tasks step = ap (λ m. option_map_or (λ (a : Act). a.cost) m 0) (sym is) in
      let found = by_act s step act sees.0 is parts.0 in
      subst (λ q. HasAnswer (seen_system t) Sees (IsSeenAs tasks t step) (λ c d. c ≤ d) q reached (step_cost tasks step)) (sym sees.1)
      (subst (λ r. Answered s r step (step_cost tasks step)) parts.1 (subst (Answered s (after_act s step.agent act) step) cost found)))

  pub simulates : Simulates (seen_system t) (team_system tasks) Sees (IsSeenAs tasks t) (λ c d. c ≤ d)
  simulates = record {
    step = any_step;
    goal = λ p s sees goals. ap (seen_system t).is_goal sees.1 ∙ goals_are_seen s goals;
  }

  -- a plan that solves from a joint state is seen as a plan from what is seen of that state
  pub seen_plan : (s : JointState) (plan : List TaskStep) → IsJointState tasks s → SolvesFrom tasks s plan → IsAnsweringPlan (seen_system t) (StandsForAll (IsSeenAs tasks t) plan) (λ c d. c ≤ d) (seen_state t s) (task_cost tasks plan)
  seen_plan s plan joint solves =
      simulated_plan (seen_system t) (team_system tasks) Sees (IsSeenAs tasks t) (λ c d. c ≤ d) smaller_costs simulates plan (seen_state t s) s (joint, refl) solves
