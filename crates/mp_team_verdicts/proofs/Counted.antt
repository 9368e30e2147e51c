-- What shows in a world that a cost may be is counted in its verdict.
use Rattle.mp_world.proofs.Basics.{◌≡◌, ◌≢◌, ℕ, zero, suc, ◌+◌, ◌-◌, ◌≤◌, ◌⊎◌, true, List, length, get_or, map, Some, sym, ap, subst, ◌∙◌, arith, inl, inr, Contains, not, ◌==◌, range_with_len, ne_eqb, get_or-range_with_len, none-some}
use Rattle.std.proofs.lemmas.List.FromFn.{length-range_with_len}
use Rattle.mp_task.proofs.Agreeing.{Contains-slice_get}
use Rattle.mp_messages.specs.declared.message.Message.TheVariants as kinds
use Rattle.mp_store.specs.Minima.{least_f as least_f_of}
use Rattle.mp_store.proofs.RankLemmas.{member_kept}
use Rattle.mp_reach.specs.Explored.{HasWitness}
use Rattle.mp_reach.specs.Explored.HasWitness.{open_entry, under_way, goal_entry}
use Rattle.mp_reach.specs.Found.{Entry as Seen, Message as Sent}
use Rattle.mp_reach.specs.LeadsOn.{IsGoal, Known}
use Rattle.mp_world.specs.AgentWords.{AgentTask, goals_hold, message_of, Findings, State, lesser, least_f, least_goal, AgentRecord, others}
use Rattle.mp_world.specs.SearchWords.{Entry, Open, f, AgentState}
use Rattle.mp_world.specs.Team.{AreTeamTasks}
use Rattle.mp_world.specs.World.{IsAgent, IsTeamWorld, World, agent_at}
use Rattle.mp_world.specs.World as worlds
use Rattle.mp_world.proofs.Agents.{agree_numbered, member_of}
use Rattle.mp_world.proofs.Mail.{agent_of_team}
use Rattle.mp_world.proofs.Stepping.{team_size}
use Rattle.mp_team_snapshots.specs.Messages.{messages}
use Rattle.mp_team_states.specs.Paths.{IsEntryAt}
use Rattle.mp_team_states.specs.Sound.{AreStatesSound}
use Rattle.mp_team_states.proofs.GoodStates.{what_is_read}
use Rattle.mp_team_states.proofs.ReachedEntries.{entry_in, has_it}
use Rattle.mp_team_states.proofs.StepsSound.{task_at}
use Rattle.mp_team_states.specs.Estimates.{AreGoalsFlagged}
use Rattle.mp_team_states.specs.TeamFound.{found_of}
use Rattle.mp_team_states.proofs.Found.{found_entry, found_message}
use Rattle.mp_team_states.proofs.Members.{from_filter_map, to_filter_map}
use Rattle.mp_list.proofs.Members.{to_map}
use Rattle.mp_team_snapshots.specs.Found.{findings_in, least_state, least_under_way, state_f}
use Rattle.mp_team_verdicts.proofs.LeastEntries.{bound_at_most, least_f_at_most}
use Rattle.mp_team_verdicts.proofs.Least.{IsAtMost, at_most_more, least_at_most, lesser_first, lesser_second}
use Rattle.mp_team_verdicts.proofs.ToOthers.{HaveNoneToThemselves}

agent_member : (w : World) (agent : ℕ) (r : AgentRecord) → agent_at w agent ≡ Some r → Contains w.agents r
agent_member w zero r there = absurd (none-some r there)
agent_member w (suc k) r there = Contains-slice_get w.agents k r there

-- another agent of a team is one of the others
is_among_others : (me agents agent : ℕ) → 1 ≤ agent → agent ≤ agents → agent ≢ me → Contains (others me agents) agent
is_among_others me agents agent low high off =
    let many = length-range_with_len 1 agents in
    let back : 1 + (agent - 1) ≡ agent = omega arith in
    let number : get_or (range_with_len 1 agents) (agent - 1) agent ≡ agent = get_or-range_with_len 1 agents (agent - 1) agent (omega arith) ∙ back in
    member_kept (λ agent. not (agent == me)) (range_with_len 1 agents) agent (agent - 1, omega arith, number) (ap not (ne_eqb agent me off))

module _ (tasks : List AgentTask) (are : AreTeamTasks tasks) (w : World) (team : IsTeamWorld tasks w) (sound : AreStatesSound tasks w)
    (none : HaveNoneToThemselves tasks w) where
  abbrev found : List Findings
  found = map (findings_in w) w.agents

  among : (agent : ℕ) (r : AgentRecord) → agent_at w agent ≡ Some r → Contains (map (findings_in w) w.agents) (findings_in w r)
  among agent r there = to_map (findings_in w) w.agents r (agent_member w agent r there)

  pub open_counted : (agent number : ℕ) (e : Entry AgentState) → IsEntryAt w agent number e → e.mark ≡ Open → IsAtMost (f e) (least_f (map (findings_in w) w.agents))
  open_counted agent number e has is_open =
      let h = has_it w agent number e has in
      let r = h.agent_is in
      least_at_most (λ (x : Findings). lesser x.least x.under_way) (f e) found (findings_in w r) (among agent r h.there)
      (lesser_first (f e) (least_f_of r.search.kept) (least_under_way w r) (least_f_at_most r.search.kept number e h.at is_open))

  pub goal_counted : (agent number : ℕ) (e : Entry AgentState) → IsEntryAt w agent number e → e.goal ≡ true → IsAtMost e.g (least_goal (map (findings_in w) w.agents))
  goal_counted agent number e has goal =
      let h = has_it w agent number e has in
      let r = h.agent_is in
      least_at_most (λ (x : Findings). x.goal) e.g found (findings_in w r) (among agent r h.there) (bound_at_most r.search.kept number e h.at goal)

  me_is : (agent : ℕ) (r : AgentRecord) → agent_at w agent ≡ Some r → r.task.me ≡ agent
  me_is agent r there = (member_of tasks (agree_numbered tasks are.agree) w team agent r there).me

  size_is : (agent : ℕ) (r : AgentRecord) → agent_at w agent ≡ Some r → length w.agents ≡ r.task.agents
  size_is agent r there = team_size tasks w team ∙ sym (member_of tasks (agree_numbered tasks are.agree) w team agent r there).agents

  -- a state that is read comes from another agent
  from_another : (from to : ℕ) (r : AgentRecord) (m : State) → agent_at w to ≡ Some r
      → Contains (messages r.task.publics w from to) (kinds.State m) → from ≢ to
  from_another from to r m there here same =
      let bytes = from_filter_map (message_of (length w.agents) r.task.publics) (worlds.under_way w from to) (kinds.State m) here in
      let reads : message_of r.task.agents r.task.publics bytes.0 ≡ Some (kinds.State m) =
      ap (λ (n : ℕ). message_of n r.task.publics bytes.0) (sym (size_is to r there)) ∙ bytes.2 in
      let own : Contains (worlds.under_way w to to) bytes.0 = subst (λ (i : ℕ). Contains (worlds.under_way w i to) bytes.0) same bytes.1 in
      let read = what_is_read tasks are w team sound to to r.task r (task_at tasks are w team to r there) there bytes.0 m own reads in
      let is = agent_of_team w to r there in
      let size = team_size tasks w team in
      let low = is.from_1 in
      let high = is.at_most in
      none to m low (omega arith) (subst (λ (b : List ℕ). Contains (worlds.under_way w to to) b) read.0 own)

  pub state_counted : (from to : ℕ) (r : AgentRecord) (m : State) → IsAgent w from → agent_at w to ≡ Some r
      → Contains (messages r.task.publics w from to) (kinds.State m) → IsAtMost (m.g + m.h) (least_f (map (findings_in w) w.agents))
  state_counted from to r m sender there here =
      let n = m.g + m.h in
      let me = me_is to r there in
      let off : from ≢ r.task.me = λ same. from_another from to r m there here (same ∙ me) in
      let mine : Contains (messages r.task.publics w from r.task.me) (kinds.State m) =
      subst (λ (i : ℕ). Contains (messages r.task.publics w from i) (kinds.State m)) (sym me) here in
      least_at_most (λ (x : Findings). lesser x.least x.under_way) n found (findings_in w r) (among to r there)
      (lesser_second n (least_f_of r.search.kept) (least_under_way w r)
      (least_at_most (λ (from : ℕ). least_state (messages r.task.publics w from r.task.me)) n (others r.task.me (length w.agents)) from
      (is_among_others r.task.me (length w.agents) from sender.from_1 sender.at_most off)
      (least_at_most state_f n (messages r.task.publics w from r.task.me) (kinds.State m) mine (omega arith))))

  module _ (flags : AreGoalsFlagged tasks w) where
    pub witness_counted : (cost : ℕ) → HasWitness (IsGoal tasks) (found_of w) cost
        → IsAtMost cost (least_f (map (findings_in w) w.agents)) ⊎ IsAtMost cost (least_goal (map (findings_in w) w.agents))
    witness_counted cost (open_entry i seen there is within) =
        let x = found_entry w i seen there in
        let g = ap (λ (y : Seen Known). y.cost) x.is in
        let h = ap (λ (y : Seen Known). y.estimate) x.is in
        inl (at_most_more (f x.entry) cost (least_f found) (omega arith)
        (open_counted i.0 i.1 x.entry (entry_in w i.0 i.1 x.agent_is x.entry x.there x.at) (ap (λ (y : Seen Known). y.mark) (sym x.is) ∙ is)))
    witness_counted cost (under_way m here within) =
        let x = found_message tasks (agree_numbered tasks are.agree) w team m here in
        let g = ap (λ (y : Sent Known). y.cost) x.is in
        let h = ap (λ (y : Sent Known). y.estimate) x.is in
        let reads : message_of (length w.agents) x.receiver.task.publics x.bytes ≡ Some (kinds.State x.state) =
        ap (λ (n : ℕ). message_of n x.receiver.task.publics x.bytes) (size_is x.to x.receiver x.receiver_there) ∙ x.reads in
        let read : Contains (messages x.receiver.task.publics w x.from x.to) (kinds.State x.state) =
        to_filter_map (message_of (length w.agents) x.receiver.task.publics) (worlds.under_way w x.from x.to) x.bytes (kinds.State x.state) x.here reads in
        inl (at_most_more (x.state.g + x.state.h) cost (least_f found) (omega arith)
        (state_counted x.from x.to x.receiver x.state (agent_of_team w x.from x.sender x.sender_there) x.receiver_there read))
    witness_counted cost (goal_entry i seen there goal within) =
        let x = found_entry w i seen there in
        let g = ap (λ (y : Seen Known). y.cost) x.is in
        let has = entry_in w i.0 i.1 x.agent_is x.entry x.there x.at in
        inr (at_most_more x.entry.g cost (least_goal found) (omega arith)
        (goal_counted i.0 i.1 x.entry has (flags i.0 i.1 x.entry has ∙ ap (λ (y : Seen Known). goals_hold tasks y.state.state) (sym x.is) ∙ goal)))
