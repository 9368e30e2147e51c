-- What holds in a world of a team whose states are sound, agent by agent.
use Rattle.mp_world.proofs.Basics.{◌≡◌, ℕ, ◌+◌, ◌*◌, ◌<◌, ◌≤◌, ◌^◌, List, length, get_or, Option, Some, None, refl, sym, ap, subst, ◌∙◌, arith, Contains, IfSome, IsSomeAnd, option_map, slice_get, get_or_from_slice_get, none-some, same_Some, slice_get-get_or}
use Rattle.mp_world.proofs.Basics.{slice_get_within}
use Rattle.std.proofs.Common.{max}
use Rattle.mp_task.specs.Plan.{IsJointState}
use Rattle.mp_search.proofs.KeyedStates.{Decides-state, all_get}
use Rattle.mp_reach.specs.Explored.{HasLiveEntry}
use Rattle.mp_reach.specs.LeadsOn.{IsGoal, IsTeamBoundFor, IsTeamHopelessFor, Known}
use Rattle.mp_world.specs.AgentWords.{AgentTask, private_of, task_of, State, AgentRecord}
use Rattle.mp_world.specs.SearchWords.{Entry, Replaced, IsSound, best, Record, AgentState, same_state, own_value}
use Rattle.mp_world.specs.Joint.{joint, joint_told}
use Rattle.mp_world.specs.Team.{AreTeamTasks}
use Rattle.mp_world.specs.Values.{Values}
use Rattle.mp_world.specs.World.{IsAgent, IsTeamWorld, World, agent_at}
use Rattle.mp_world.proofs.Agents.{agent_there, agree_numbered, member_of}
use Rattle.mp_world.proofs.Stepping.{team_size}
use Rattle.mp_team_states.specs.Room.{AreSmall, HasSmallValues, expanded_by_all}
use Rattle.mp_team_states.specs.Sent.{IsSentIn}
use Rattle.mp_team_states.specs.Sound.{AreStatesSound, IsSoundState, IsStateOf}
use Rattle.mp_team_states.proofs.GoodStates.{known_is_joint, own_facts, tells_of_entry}
use Rattle.mp_team_states.proofs.ReachedEntries.{entry_in}
use Rattle.mp_team_states.proofs.RoomCounts.{few_expansions}
use Rattle.mp_team_states.proofs.RoomLemmas.{sent_small}
use Rattle.mp_team_states.proofs.StepsSound.{agent_of_task, agent_sound, at_me, task_at}
use Rattle.mp_team_states.specs.TeamFound.{found_of, seen_entry}
use Rattle.mp_team_states.proofs.Found.{entry_found}
use Rattle.mp_team_states.proofs.Kept.{IsKept, best_of_kept}

-- what the values of a heuristic say of joint states, whichever agent's search goes on from there, and whatever counts as a goal
pub record IsHeuristicFor (Goal : Known → Type 0) (value : Values) (tasks : List AgentTask) : Type 0 where
  pub bounds : (t : AgentTask) (k : Known) (h : ℕ) → Contains tasks t → IsJointState tasks k.state
      → value t k.state.publics (private_of k.state t.me) ≡ Some h → IsTeamBoundFor tasks Goal k h
  pub hopeless : (t : AgentTask) (k : Known) → Contains tasks t → IsJointState tasks k.state
      → value t k.state.publics (private_of k.state t.me) ≡ None → IsTeamHopelessFor tasks Goal k
  pub small : HasSmallValues value tasks

-- the same where all goals of the team are true
abbrev pub IsHeuristic : Values → List AgentTask → Type 0
IsHeuristic value tasks = IsHeuristicFor (IsGoal tasks) value tasks

-- ---- the last entry of a state

module _ (r : Record AgentState) (sound : IsSound same_state r) where
  -- of two entries of one state the later one costs less
  pub later_cheaper : (i j : ℕ) (e f : Entry AgentState) → i < j → slice_get r.entries i ≡ Some e → slice_get r.entries j ≡ Some f → e.key ≡ f.key → f.g < e.g
  later_cheaper i j e f before at_i at_j key =
      let is_e : get_or r.entries i e ≡ e = get_or_from_slice_get r.entries i e e at_i in
      let is_f : get_or r.entries j e ≡ f = get_or_from_slice_get r.entries j f e at_j in
      let fell = sound.falling i j e before (slice_get_within r.entries j f at_j) ((λ k. same_state (is_e k).key (is_f k).key) ∙ (Decides-state e.key f.key).1 key) in
      subst (λ (x : Entry AgentState). f.g < x.g) is_e (subst (λ (x : Entry AgentState). x.g < (get_or r.entries i e).g) is_f fell)

  -- the best entry of a state did not give way
  best_lives : (s : AgentState) (n : ℕ) (e : Entry AgentState) → best same_state s r ≡ Some n → slice_get r.entries n ≡ Some e → e.key ≡ s → ¬ (e.mark ≡ Replaced)
  best_lives s n e is at key gone =
      let it : get_or r.entries n e ≡ e = get_or_from_slice_get r.entries n e e at in
      let later = sound.gave_way n e (slice_get_within r.entries n e at) (ap (λ (x : Entry AgentState). x.mark) it ∙ gone) in
      let f = get_or r.entries later.0 e in
      let f_at : slice_get r.entries later.0 ≡ Some f = slice_get-get_or r.entries later.0 e later.2 in
      let one : e.key ≡ f.key = ap (λ (x : Entry AgentState). x.key) (sym it) ∙ (Decides-state (get_or r.entries n e).key f.key).0 later.3 in
      let less = later_cheaper n later.0 e f later.1 at f_at one in
      let found = best_of_kept s r f.g (record { number = later.0; entry = f; at = f_at; key = sym one ∙ key; within = omega arith }) in
      let number : n ≡ found.0 = same_Some n found.0 (sym is ∙ found.2) in
      let same : e ≡ found.1 = same_Some e found.1 (sym at ∙ ap (slice_get r.entries) number ∙ found.3) in
      let cost = ap (λ (x : Entry AgentState). x.g) same in
      let most = found.5 in
      omega arith

module _ (tasks : List AgentTask) (are : AreTeamTasks tasks) (w : World) (team : IsTeamWorld tasks w) where
  pub me_is : (agent : ℕ) (r : AgentRecord) → agent_at w agent ≡ Some r → r.task.me ≡ agent
  me_is agent r there = (member_of tasks (agree_numbered tasks are.agree) w team agent r there).me

  pub task_in : (agent : ℕ) (r : AgentRecord) → agent_at w agent ≡ Some r → Contains tasks r.task
  task_in agent r there = (member_of tasks (agree_numbered tasks are.agree) w team agent r there).task

  pub agents_are : (agent : ℕ) (r : AgentRecord) → agent_at w agent ≡ Some r → r.task.agents ≡ length tasks
  agents_are agent r there = (member_of tasks (agree_numbered tasks are.agree) w team agent r there).agents

  -- each agent of a team is there
  pub other_there : (agent : ℕ) (r : AgentRecord) → agent_at w agent ≡ Some r → (other : ℕ) → 1 ≤ other → other ≤ r.task.agents
      → IsAgent w other × (u : AgentRecord) × (agent_at w other ≡ Some u)
  other_there agent r there other low high =
      let many = agents_are agent r there in
      let all = team_size tasks w team in
      let is : IsAgent w other = record { from_1 = low; at_most = omega arith } in
      let found = agent_there w other is in
      (is, found.0, found.1)

  module _ (sound : AreStatesSound tasks w) where
    pub states_known : (agent n : ℕ) (r : AgentRecord) (e : Entry AgentState) → agent_at w agent ≡ Some r → slice_get r.search.kept.entries n ≡ Some e → IsStateOf w r.task e.key
    states_known agent n r e there at =
        all_get (λ (e : Entry AgentState). IsStateOf w r.task e.key) r.search.kept.entries n e
        (agent_sound tasks are w team sound agent r there).states at

    -- for each entry there is one of its state that costs no more and did not give way
    pub lives : (agent n : ℕ) (r : AgentRecord) (e : Entry AgentState) → agent_at w agent ≡ Some r → slice_get r.search.kept.entries n ≡ Some e
        → HasLiveEntry (found_of w) (record { agent = agent; state = joint w agent e.key }) e.g
    lives agent n r e there at =
        let kept : IsKept r.search.kept e.key e.g = record { number = n; entry = e; at = at; key = refl; within = omega arith } in
        let found = best_of_kept e.key r.search.kept e.g kept in
        record {
          has = record {
            index = (agent, found.0);
            entry = seen_entry w agent found.1;
            there = entry_found w agent found.0 r found.1 there found.3;
            of = ap (λ (s : AgentState). record { agent = agent; state = joint w agent s }) found.4;
            within = found.5;
          };
          live = best_lives r.search.kept (agent_sound tasks are w team sound agent r there).kept e.key found.0 found.1 found.2 found.3 found.4;
        }

    -- ---- values

    module _ {Goal : Known → Type 0} (value : Values) (heuristic : IsHeuristicFor Goal value tasks) (agent : ℕ) (r : AgentRecord) (there : agent_at w agent ≡ Some r)
        (s : AgentState) (known : IsStateOf w r.task s) where
      own_value_is : value r.task (joint w agent s).publics (private_of (joint w agent s) r.task.me) ≡ own_value r.task (value r.task) s
      own_value_is =
          ap (λ (a : ℕ). value r.task s.publics (private_of (joint w agent s) a)) (me_is agent r there)
          ∙ ap (value r.task s.publics) (own_facts tasks are w team agent r there s known)

      -- an own value is a bound in each agent's search, and where there is none, no search leads on to a goal
      pub own_bound : (h other : ℕ) → own_value r.task (value r.task) s ≡ Some h → IsTeamBoundFor tasks Goal (record { agent = other; state = joint w agent s }) h
      own_bound h other is =
          heuristic.bounds r.task (record { agent = other; state = joint w agent s }) h (task_in agent r there)
          (known_is_joint tasks are w team agent r there s known) (own_value_is ∙ is)

      pub own_hopeless : (other : ℕ) → own_value r.task (value r.task) s ≡ None → IsTeamHopelessFor tasks Goal (record { agent = other; state = joint w agent s })
      own_hopeless other none =
          heuristic.hopeless r.task (record { agent = other; state = joint w agent s }) (task_in agent r there)
          (known_is_joint tasks are w team agent r there s known) (own_value_is ∙ none)

    -- ---- room

    module _ (small : AreSmall w) where
      few : 16000000 * expanded_by_all w ≤ 16000000 * 160000000
      few = let counts = few_expansions tasks are w team sound in omega arith

      pub entry_room : (agent n : ℕ) (r : AgentRecord) (e : Entry AgentState) → agent_at w agent ≡ Some r → slice_get r.search.kept.entries n ≡ Some e
          → (cost h : ℕ) → cost ≤ 16000000 → h < 2 ^ 50 → e.g + cost + h < 2 ^ 60
      entry_room agent n r e there at cost h price below =
          let it = (small agent n e (entry_in w agent n r e there at)).cost in
          let most = few in
          omega arith

      pub message_room : (sender : ℕ) (u : AgentTask) (m : State) → task_of tasks sender ≡ Some u → IsSoundState w u m
          → (h : ℕ) → h < 2 ^ 50 → m.g + h < 2 ^ 60
      message_room sender u m at state h below =
          let it = (sent_small tasks are w team sound small sender u m at state).0 in
          let most = few in
          omega arith

      pub message_estimate : (sender : ℕ) (u : AgentTask) (m : State) → task_of tasks sender ≡ Some u → IsSoundState w u m → m.h < 2 ^ 50
      message_estimate sender u m at state = (sent_small tasks are w team sound small sender u m at state).1

    -- ---- messages

    -- a message of a state tells of an entry of its sender
    pub record IsTold (sender : ℕ) (m : State) : Type 0 where
      pub agent_is : AgentRecord
      pub there : agent_at w sender ≡ Some agent_is
      pub number : ℕ
      pub entry : Entry AgentState
      pub at : slice_get agent_is.search.kept.entries number ≡ Some entry
      pub joint_is : joint w sender entry.key ≡ joint_told w m
      pub estimate : m.h ≡ entry.h

    pub told_of : (sender : ℕ) (u : AgentTask) (m : State) → task_of tasks sender ≡ Some u → IsSoundState w u m → IsTold sender m
    told_of sender u m at state =
        let found = agent_there w sender (agent_of_task tasks are w team sender u at) in
        by found.0 found.1
      where
        by : (r : AgentRecord) → agent_at w sender ≡ Some r → IsTold sender m
        by r there =
            let same : u ≡ r.task = same_Some u r.task (sym at ∙ task_at tasks are w team sender r there) in
            let sent_by = subst (λ (u : AgentTask). IsSoundState w u m) same state in
            let sent : IsSentIn r.task r.search.kept m = subst (λ (o : Option AgentRecord). IsSomeAnd o (λ x. IsSentIn r.task x.search.kept m)) (at_me tasks are w team sender r there) sent_by.sent in
            let tells = tells_of_entry tasks are w team sound sender r m sent.number sent.entry there sent_by.sent sent.sent sent.there in
            record { agent_is = r; there = there; number = sent.number; entry = sent.entry; at = sent.there; joint_is = tells.0; estimate = tells.2 }

-- ---- the greater of two estimates

pub greater_none : (o : Option ℕ) (m : ℕ) → option_map (max m) o ≡ None → o ≡ None
greater_none None m is = refl
greater_none (Some x) m is = absurd (none-some (max m x) (sym is))

pub greater_small : (o : Option ℕ) (m h : ℕ) → IfSome o (λ h. h < 2 ^ 50) → m < 2 ^ 50 → option_map (max m) o ≡ Some h → h < 2 ^ 50
greater_small None m h small below is = absurd (none-some h is)
greater_small (Some x) m h small below is = subst (λ (n : ℕ). n < 2 ^ 50) (same_Some (max m x) h is) (omega arith)

pub greater_bound : (tasks : List AgentTask) (Goal : Known → Type 0) (k : Known) (o : Option ℕ) (m h : ℕ) → ((x : ℕ) → o ≡ Some x → IsTeamBoundFor tasks Goal k x) → IsTeamBoundFor tasks Goal k m → option_map (max m) o ≡ Some h
    → IsTeamBoundFor tasks Goal k h
greater_bound tasks Goal k None m h own other is = absurd (none-some h is)
greater_bound tasks Goal k (Some x) m h own other is = subst (IsTeamBoundFor tasks Goal k) (same_Some (max m x) h is) (λ cost last way goal.
    let a = own x refl cost last way goal in
    let b = other cost last way goal in
    omega arith)
