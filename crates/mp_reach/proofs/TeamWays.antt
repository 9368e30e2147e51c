-- An ordered plan is a way through the searches of the agents: in a block and in a closing group the agent goes on alone,
-- and what its last action leads to concerns the agent whose turn is next.
use Rattle.std.proofs.Common.{◌≡◌, ◌≢◌, ℕ, ◌+◌, Bool, List, [], ◌++◌, refl, sym, ap, ◌∙◌, subst, ◌⊎◌, ⊎_elim, inl, inr, IsTrue, arith}
use Rattle.std.proofs.lemmas.Bool.{cases_eq}
use Rattle.std.specs.List.{Contains}
use Rattle.std.specs.Option.{option_map_or}
use Rattle.mp_list.proofs.Members.{contains_head, contains_tail}
use Rattle.mp_runs.proofs.Costs.{plan_cost-append, plan_cost-cons}
use Rattle.mp_task.specs.declared.act.Act.{Act}
use Rattle.mp_task.specs.AgentTask.{AgentTask}
use Rattle.mp_task.specs.Agreement.{IsTeamMember}
use Rattle.mp_task.specs.Met.{is_met}
use Rattle.mp_task.specs.Plan.{JointState, TaskStep, goals_hold, private_of, step_cost, task_cost, team_system}
use Rattle.mp_task.specs.Public.{is_public, is_private}
use Rattle.mp_task.proofs.Agreeing.{number_at, step_parts}
use Rattle.mp_order.specs.Ordered.{TakesStep, IsBlock, IsClosingGroup, AreClosingGroups, IsOrdered}
use Rattle.mp_order.specs.Ordered.IsBlock.{by_public, by_private}
use Rattle.mp_order.specs.Ordered.IsClosingGroup.{met, unmet}
use Rattle.mp_order.specs.Ordered.AreClosingGroups.{no_agent, first_agent}
use Rattle.mp_order.specs.Ordered.IsOrdered.{closing, block}
use Rattle.mp_order.proofs.BlocksAndGroups.{block_public, known_to_others}
use Rattle.mp_reach.specs.LeadsOn.{Known, Concerns, IsVisible, LeadsOn, IsGoal, any_action}
use Rattle.mp_reach.specs.LeadsOn.LeadsOn.{alone, to_another}
use Rattle.mp_reach.specs.Ways.{Way}
use Rattle.mp_reach.specs.Ways.Way.{arrived, onward}

module _ (tasks : List AgentTask) (someone : AgentTask) (member : IsTeamMember tasks someone) where
  -- a joint state in an agent's search
  abbrev at : AgentTask → JointState → Known
  at t s = record { agent = t.me; state = s }

  -- a way of a cost from there to a goal
  pub record HasWay (t : AgentTask) (s : JointState) (cost : ℕ) : Type 0 where
    pub end : Known
    pub way : Way (LeadsOn tasks) (at t s) cost end
    pub goal : IsGoal tasks end

  -- it is the turn of an agent, which the state concerns, and that goes on from there
  record HasTurn (s : JointState) (cost : ℕ) : Type 0 where
    task : AgentTask
    in_team : Contains tasks task
    concerned : (t : AgentTask) → Contains tasks t → task.me ≢ t.me → Concerns t task s
    goes_on : HasWay task s cost

  -- either nothing is left to do, or it is an agent's turn
  abbrev IsNext : JointState → ℕ → Type 0
  IsNext s cost = (IsTrue (goals_hold tasks s) × (cost ≡ 0)) ⊎ HasTurn s cost

  abbrev as_any : (agent : ℕ) (passes : Act → Bool) (s reached : JointState) (step : TaskStep) → TakesStep tasks agent passes s step reached → TakesStep tasks agent any_action s step reached
  as_any agent passes s reached step takes = record { by = takes.by; act = takes.act; is = takes.is; kind = refl; may = takes.may; leads = takes.leads }

  cost_is : (agent : ℕ) (passes : Act → Bool) (s reached : JointState) (step : TaskStep) (takes : TakesStep tasks agent passes s step reached) → step_cost tasks step ≡ takes.act.cost
  cost_is agent passes s reached step takes = ap (λ o. option_map_or (λ (act : Act). act.cost) o 0) takes.is

  -- an agent's step in its own search
  goes_alone : (t : AgentTask) (s reached : JointState) (step : TaskStep) (cost : ℕ) → Contains tasks t → (takes : TakesStep tasks t.me any_action s step reached) → HasWay t reached cost → HasWay t s (takes.act.cost + cost)
  goes_alone t s reached step cost here takes rest =
      record { end = rest.end; way = onward (at t s) (at t reached) rest.end takes.act.cost cost (alone t s reached step here takes) rest.way; goal = rest.goal }

  -- a step that may be seen, after which it is the turn of any agent
  hands_over : (t : AgentTask) (s reached : JointState) (step : TaskStep) (cost : ℕ) → Contains tasks t → (takes : TakesStep tasks t.me any_action s step reached) → IsVisible t takes.act s reached → IsNext reached cost → HasWay t s (takes.act.cost + cost)
  hands_over t s reached step cost here takes visible (inl done) =
      goes_alone t s reached step cost here takes (subst (HasWay t reached) (sym done.1) (record { end = at t reached; way = arrived (at t reached); goal = done.0 }))
  hands_over t s reached step cost here takes visible (inr turn) =
      let u = turn.task in
      ⊎_elim
      (λ same. goes_alone t s reached step cost here takes (record {
        end = turn.goes_on.end;
        way = subst (λ a. Way (LeadsOn tasks) (record { agent = a; state = reached }) cost turn.goes_on.end) same turn.goes_on.way;
        goal = turn.goes_on.goal;
      }))
      (λ other. record {
        end = turn.goes_on.end;
        way = onward (at t s) (at u reached) turn.goes_on.end takes.act.cost cost (to_another t u s reached step here turn.in_team takes visible (turn.concerned t here other)) turn.goes_on.way;
        goal = turn.goes_on.goal;
      })
      (cases_eq u.me t.me)

  -- a block
  block_way : (t : AgentTask) (s next : JointState) (steps : List TaskStep) (cost : ℕ) → Contains tasks t → IsBlock tasks t.me s steps next → IsNext next cost → HasWay t s (task_cost tasks steps + cost)
  block_way t s next steps cost here (by_public _ _ step takes) turn =
      let one = cost_is t.me is_public s next step takes in
      let sum = plan_cost-cons (team_system tasks) step [] in
      subst (HasWay t s) (omega arith) (hands_over t s next step cost here (as_any t.me is_public s next step takes) (inl takes.kind) turn)
  block_way t s next steps cost here (by_private _ mid _ step others takes later) turn =
      let one = cost_is t.me is_private s mid step takes in
      let sum = plan_cost-cons (team_system tasks) step others in
      subst (HasWay t s) (omega arith) (goes_alone t s mid step (task_cost tasks others + cost) here (as_any t.me is_private s mid step takes) (block_way t mid next others cost here later turn))

  -- a closing group is empty where the goals hold, and a way otherwise
  abbrev IsGroupWay : AgentTask → JointState → JointState → List TaskStep → ℕ → Type 0
  IsGroupWay t s next group cost =
      (IsTrue (is_met t (private_of s t.me)) × (s ≡ next) × (group ≡ []))
      ⊎ (¬ IsTrue (is_met t (private_of s t.me)) × HasWay t s (task_cost tasks group + cost))

  group_way : (t : AgentTask) (s next : JointState) (group : List TaskStep) (cost : ℕ) → Contains tasks t → IsClosingGroup tasks t s group next → IsNext next cost → IsGroupWay t s next group cost
  group_way t s next group cost here (met _ goals) turn = inl (goals, refl, refl)
  group_way t s next group cost here (unmet _ mid _ step others goals takes later) turn =
      let one = cost_is t.me is_private s mid step takes in
      let sum = plan_cost-cons (team_system tasks) step others in
      let any_takes = as_any t.me is_private s mid step takes in
      inr (
        goals,
        ⊎_elim
            (λ ends.
            let none : task_cost tasks others ≡ 0 = ap (task_cost tasks) ends.2 in
            subst (HasWay t s) (omega arith) (hands_over t s mid step cost here any_takes (inr (goals, ends.0)) (subst (λ u. IsNext u cost) (sym ends.1) turn)))
            (λ on. subst (HasWay t s) (omega arith) (goes_alone t s mid step (task_cost tasks others + cost) here any_takes on.1))
            (group_way t mid next others cost here later turn),
      )

  -- closing groups
  closing_turn : (ts : List AgentTask) (s reached : JointState) (steps : List TaskStep) → ((t : AgentTask) → Contains ts t → Contains tasks t) → AreClosingGroups tasks ts s steps reached → IsTrue (goals_hold tasks reached) → IsNext s (task_cost tasks steps)
  closing_turn ts s reached steps team (no_agent _) goals = inl (goals, refl)
  closing_turn ts s reached steps team (first_agent t others _ next _ group groups now later) goals =
      let here = team t (contains_head t others) in
      let turn = closing_turn others next reached groups (λ u there. team u (contains_tail t others u there)) later goals in
      let sum = plan_cost-append (team_system tasks) group groups in
      ⊎_elim
      (λ ends.
      let none : task_cost tasks group ≡ 0 = ap (task_cost tasks) ends.2 in
      subst (λ c. IsNext s c) (omega arith) (subst (λ u. IsNext u (task_cost tasks groups)) (sym ends.1) turn))
      (λ on. inr (record {
        task = t;
        in_team = here;
        concerned = λ u there other. record { another = other; because = inr on.0 };
        goes_on = subst (HasWay t s) (omega arith) on.1;
      }))
      (group_way t s next group (task_cost tasks groups) here now turn)

  -- an ordered plan
  ordered_turn : (s : JointState) (plan : List TaskStep) → IsOrdered tasks s plan → IsNext s (task_cost tasks plan)
  ordered_turn s plan (closing _ reached _ groups goals) = closing_turn tasks s reached plan (λ t here. here) groups goals
  ordered_turn s plan (block agent _ next steps later now rest) =
      let it = block_public tasks agent s next steps now in
      let of = step_parts tasks it.step it.act it.is in
      let t = of.task in
      let here : Contains tasks t = (of.place, of.within, of.is) in
      let number : agent ≡ t.me = sym it.by ∙ of.agent ∙ sym (number_at tasks member.agree.numbered of.place t of.within of.is) in
      block_turn t s next steps later here (subst (λ a. IsBlock tasks a s steps next) number now) (ordered_turn next later rest)
    where
      block_turn : (t : AgentTask) (s next : JointState) (steps later : List TaskStep) → Contains tasks t → IsBlock tasks t.me s steps next → IsNext next (task_cost tasks later) → IsNext s (task_cost tasks (steps ++ later))
      block_turn t s next steps later here now turn =
          let sum = plan_cost-append (team_system tasks) steps later in
          inr (record {
            task = t;
            in_team = here;
            concerned = λ u there other.
                let known = known_to_others tasks t.me u s next steps (record { agree = member.agree; in_team = there }) (λ e. other (sym e)) now in
                record { another = other; because = inl known };
            goes_on = subst (HasWay t s) (omega arith) (block_way t s next steps (task_cost tasks later) here now turn);
          })

  -- it is a way from some agent's search
  pub record HasStart (s : JointState) (cost : ℕ) : Type 0 where
    pub task : AgentTask
    pub in_team : Contains tasks task
    pub goes_on : HasWay task s cost

  pub ordered_way : (s : JointState) (plan : List TaskStep) → IsOrdered tasks s plan → HasStart s (task_cost tasks plan)
  ordered_way s plan ordered =
      ⊎_elim
      (λ done. record { task = someone; in_team = member.in_team; goes_on = subst (HasWay someone s) (sym done.1) (record { end = at someone s; way = arrived (at someone s); goal = done.0 }) })
      (λ turn. record { task = turn.task; in_team = turn.in_team; goes_on = turn.goes_on })
      (ordered_turn s plan ordered)
