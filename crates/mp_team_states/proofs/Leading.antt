-- What an expanded entry's state leads to is reached: in the agent's own search it is kept, and to others it was sent.
use Rattle.mp_world.proofs.Basics.{◌≡◌, ℕ, ◌+◌, Bool, true, cond, List, Option, Some, None, refl, sym, ap, subst, ◌∙◌, arith, inl, inr, Contains, option_and_then, slice_get, All-contains, same_Some}
use Rattle.mp_task.specs.Plan.{after_act, after_if_applies, applies as may_apply}
use Rattle.mp_task.proofs.Agreeing.{same_number}
use Rattle.mp_order.specs.Ordered.{TakesStep}
use Rattle.mp_reach.specs.Explored.{HasEntry}
use Rattle.mp_reach.specs.LeadsOn.{Concerns, IsTeamHopelessFor, IsVisible, Known, LeadsOn, TeamReachesFor, any_action}
use Rattle.mp_reach.specs.LeadsOn.LeadsOn.{alone, to_another}
use Rattle.mp_reach.proofs.Changing.{reached_at_more}
use Rattle.mp_world.specs.AgentWords.{Act, AgentTask, IsWithinLimits, JointState, TaskStep, act_of, after_step, task_of, AgentRecord}
use Rattle.mp_world.specs.SearchWords.{Numbers, Entry, AgentState, applies, successor, receivers, own_value, is_due}
use Rattle.mp_world.specs.Joint.{joint}
use Rattle.mp_world.specs.Team.{AreTeamTasks}
use Rattle.mp_world.specs.Values.{Values}
use Rattle.mp_world.specs.World.{IsTeamWorld, World, agent_at}
use Rattle.mp_world.proofs.Agents.{agree_numbered, task_there}
use Rattle.mp_team_states.specs.Sound.{AreStatesSound, IsStateOf}
use Rattle.mp_team_states.proofs.JointSteps.{action_leads}
use Rattle.mp_team_states.proofs.StepsSound.{limits_of, task_at}
use Rattle.mp_team_states.specs.TeamFound.{found_of}
use Rattle.mp_team_states.proofs.Expanded.{AreOffered, IsOffered}
use Rattle.mp_team_states.proofs.SoundWorlds.{IsHeuristicFor, agents_are, me_is, states_known, task_in}
use Rattle.mp_team_states.proofs.Joint.{concerned_is_receiver, joint_size, own_private, some_receiver, visible_is}
use Rattle.mp_team_states.proofs.Kept.{IsKept}
use Rattle.mp_team_states.proofs.Staying.{has_kept, known}

-- where an own action leads on to
pub data Ends (tasks : List AgentTask) (t : AgentTask) (act : Act) (s reached : JointState) : Known → Type 0 where
  itself : Ends tasks t act s reached (known t.me reached)
  another : (other : AgentTask) → Contains tasks other → IsVisible t act s reached → Concerns t other reached → Ends tasks t act s reached (known other.me reached)

-- a step that leads on, by its parts
pub record HasLed (tasks : List AgentTask) (k : Known) (cost : ℕ) (last : Known) : Type 0 where
  pub task : AgentTask
  pub here : Contains tasks task
  pub agent : k.agent ≡ task.me
  pub step : TaskStep
  pub reached : JointState
  pub takes : TakesStep tasks task.me any_action k.state step reached
  pub price : cost ≡ takes.act.cost
  pub ends : Ends tasks task takes.act k.state reached last

has_led : (tasks : List AgentTask) (k : Known) (cost : ℕ) (last : Known) → LeadsOn tasks k cost last → HasLed tasks k cost last
has_led tasks k cost last (alone t s reached step here takes) =
    record { task = t; here = here; agent = refl; step = step; reached = reached; takes = takes; price = refl; ends = itself }
has_led tasks k cost last (to_another t other s reached step here there takes visible concern) = record {
  task = t;
  here = here;
  agent = refl;
  step = step;
  reached = reached;
  takes = takes;
  price = refl;
  ends = another other there visible concern;
}

module _ (tasks : List AgentTask) (are : AreTeamTasks tasks) (w : World) (team : IsTeamWorld tasks w) (sound : AreStatesSound tasks w)
    {Goal : Known → Type 0} (value : Values) (heuristic : IsHeuristicFor Goal value tasks) (agent : ℕ) (r : AgentRecord) (there : agent_at w agent ≡ Some r)
    -- all that was sent is reached
    (sent : (k n receiver : ℕ) (e : Entry AgentState) → slice_get r.search.kept.sent k ≡ Some n → slice_get r.search.kept.entries n ≡ Some e
    → Contains (receivers r.task e.key) receiver → TeamReachesFor tasks Goal (found_of w) (known receiver (joint w agent e.key)) e.g)
    (n : ℕ) (e : Entry AgentState) (at : slice_get r.search.kept.entries n ≡ Some e) where
  t : AgentTask
  t = r.task

  me : t.me ≡ agent
  unfolding t
  me = me_is tasks are w team agent r there

  fit : IsWithinLimits t
  unfolding t
  fit = limits_of tasks are w team agent r there

  is_known : IsStateOf w t e.key
  unfolding t
  is_known = states_known tasks are w team sound agent n r e there at

  task_is : task_of tasks t.me ≡ Some t
  unfolding t
  task_is = ap (task_of tasks) me ∙ task_at tasks are w team agent r there

  -- an action that is taken in the joint state
  module _ (step : TaskStep) (reached : JointState) (takes : TakesStep tasks t.me any_action (joint w t.me e.key) step reached) where
    act : Act
    act = takes.act

    s : AgentState
    unfolding act
    s = successor act e.key

    own : slice_get t.acts step.action ≡ Some act
    unfolding act
    own = sym (ap (λ (o : Option AgentTask). option_and_then (λ t. slice_get t.acts step.action) o) (ap (task_of tasks) takes.by ∙ task_is)) ∙ takes.is

    may : applies act e.key ≡ true
    unfolding act
    may = ap (λ (x : Numbers). may_apply act e.key.publics x) (sym (own_private w t fit e.key is_known.number)) ∙ takes.may

    reached_is : reached ≡ joint w t.me s
    unfolding s act
    reached_is =
        let before = joint w t.me e.key in
        let taken : TaskStep = record { agent = t.me; action = step.action } in
        let leads : after_step tasks before taken ≡ Some (joint w t.me (successor act e.key)) =
        action_leads w t fit e.key is_known tasks step.action act task_is own may
        in
        let this : act_of tasks taken ≡ Some act = ap (λ (o : Option AgentTask). option_and_then (λ t. slice_get t.acts step.action) o) task_is ∙ own in
        let after : after_step tasks before taken ≡ Some (after_act before t.me act) =
        ap (λ (o : Option Act). option_and_then (after_if_applies before t.me) o) this
        ∙ ap (λ (b : Bool). cond b (Some (after_act before t.me act)) None) takes.may
        in
        takes.leads ∙ same_Some (after_act before t.me act) (joint w t.me (successor act e.key)) (sym after ∙ leads)

    -- where there is no estimate, no search leads on to a goal
    nothing_there : own_value t (value t) s ≡ None → (other : ℕ) → IsTeamHopelessFor tasks Goal (known other (joint w t.me s))
    unfolding s act t
    nothing_there none other =
        heuristic.hopeless t (known other (joint w t.me s)) (task_in tasks are w team agent r there)
        (joint_size w t fit s is_known.number ∙ agents_are tasks are w team agent r there)
        (ap (value t s.publics) (own_private w t fit s is_known.number) ∙ none)

    -- what is to be sent goes to each agent that it concerns
    due_to : (other : AgentTask) → Contains tasks other → IsVisible t act (joint w t.me e.key) (joint w t.me s) → Concerns t other (joint w t.me s)
        → Contains (receivers t s) other.me × (is_due t act e.key s ≡ true)
    unfolding s act t
    due_to other here visible concern =
        let u = task_there tasks (agree_numbered tasks are.agree) w team other here in
        let its = All-contains IsWithinLimits tasks other are.within here in
        let many = agents_are tasks are w team agent r there in
        let its_many = agents_are tasks are w team other.me u.0 u.1 in
        let same_task = ap (λ (x : AgentTask). x.agents) u.2 in
        let in_team = its.in_team in
        let to : Contains (receivers t s) other.me =
        concerned_is_receiver w t fit s is_known.number is_known.others other u.0 its.from_1 (omega arith) u.1 u.2 concern
        in
        let seen = visible_is w t fit e.key is_known.number act visible (own_private w t fit s is_known.number) in
        (to, some_receiver t act e.key s other.me seen to)

    ends_reached : AreOffered t (value t) e r.search.kept → (last : Known) → Ends tasks t act (joint w t.me e.key) reached last → TeamReachesFor tasks Goal (found_of w) last (e.g + act.cost)
    unfolding s act t
    ends_reached offers last ends = by (offers step.action act own may) last ends
      where
        cost : ℕ
        cost = e.g + act.cost

        at_agent : (k : JointState) → known agent k ≡ known t.me k
        at_agent k = ap (λ (a : ℕ). known a k) (sym me)

        by : IsOffered t (value t) act e.key cost r.search.kept → (last : Known) → Ends tasks t act (joint w t.me e.key) reached last → TeamReachesFor tasks Goal (found_of w) last cost
        by (inl none) _ itself = inr (inr (subst (λ (x : JointState). IsTeamHopelessFor tasks Goal (known t.me x)) (sym reached_is) (nothing_there none t.me)))
        by (inl none) _ (another other here visible concern) =
            inr (inr (subst (λ (x : JointState). IsTeamHopelessFor tasks Goal (known other.me x)) (sym reached_is) (nothing_there none other.me)))
        by (inr offer) _ itself =
            inl (has_kept_at offer.0)
          where
            has_kept_at : IsKept r.search.kept s cost → HasEntry (found_of w) (known t.me reached) cost
            has_kept_at kept =
                subst (λ (x : JointState). HasEntry (found_of w) (known t.me x) cost) (sym reached_is)
                (subst (λ (a : ℕ). HasEntry (found_of w) (known a (joint w a s)) cost) (sym me) (has_kept w agent r s cost there kept))
        by (inr offer) _ (another other here visible concern) =
            let visible_now = subst (λ (x : JointState). IsVisible t act (joint w t.me e.key) x) reached_is visible in
            let concern_now = subst (λ (x : JointState). Concerns t other x) reached_is concern in
            let due = due_to other here visible_now concern_now in
            let was = offer.1 due.1 in
            let for : Contains (receivers t was.entry.key) other.me = subst (λ (k : AgentState). Contains (receivers t k) other.me) (sym was.key) due.0 in
            let there_now = sent was.sent was.number other.me was.entry was.given was.at for in
            let whole : joint w agent was.entry.key ≡ reached = (λ j. joint w (sym me j) (was.key j)) ∙ sym reached_is in
            reached_at_more (LeadsOn tasks) Goal (found_of w) (known other.me reached) was.entry.g cost was.within
            (subst (λ (x : JointState). TeamReachesFor tasks Goal (found_of w) (known other.me x) was.entry.g) whole there_now)

  -- what an entry's state leads to is reached once it was offered
  pub leads_reached : AreOffered r.task (value r.task) e r.search.kept → (cost : ℕ) (last : Known) → LeadsOn tasks (known agent (joint w agent e.key)) cost last → TeamReachesFor tasks Goal (found_of w) last (e.g + cost)
  unfolding act t
  leads_reached offers cost last leads =
      let led = has_led tasks (known agent (joint w agent e.key)) cost last leads in
      by led.task led.here (me ∙ led.agent) led.step led.reached led.takes led.ends led.price
    where
      Taken : (step : TaskStep) (reached : JointState) → AgentTask → JointState → Type 0
      Taken step reached u x =
          (takes : TakesStep tasks u.me any_action x step reached) → Ends tasks u takes.act x reached last → cost ≡ takes.act.cost
          → TeamReachesFor tasks Goal (found_of w) last (e.g + cost)

      mine : (step : TaskStep) (reached : JointState) → Taken step reached t (joint w t.me e.key)
      mine step reached takes ends price =
          subst (λ (c : ℕ). TeamReachesFor tasks Goal (found_of w) last (e.g + c)) (sym price) (ends_reached step reached takes offers last ends)

      by : (u : AgentTask) → Contains tasks u → t.me ≡ u.me → (step : TaskStep) (reached : JointState) → Taken step reached u (joint w agent e.key)
      by u here number step reached =
          let same : t ≡ u = same_number tasks are.agree.numbered t u (task_in tasks are w team agent r there) here number in
          subst (λ (u : AgentTask). Taken step reached u (joint w agent e.key)) same
          (subst (λ (a : ℕ). Taken step reached t (joint w a e.key)) me (mine step reached))
