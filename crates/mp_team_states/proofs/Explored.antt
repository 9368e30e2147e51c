-- What the agents have found is explored at the start, and stays so at each event.
use Rattle.mp_world.proofs.Basics.{◌≡◌, ℕ, ◌+◌, ◌-◌, ◌<◌, ◌^◌, ◌⊎◌, List, [], get_or, map, Option, Some, None, sym, ap, subst, ◌∙◌, arith, inl, inr, Contains, slice_get, cases_eq, get_or-map, none-some, same_Some}
use Rattle.std.specs.FinSet as set
use Rattle.mp_list.proofs.Members.{no_member}
use Rattle.mp_runs.proofs.Runs.{run-none}
use Rattle.mp_task.proofs.Agreeing.{number_at, public_start-at}
use Rattle.mp_task.proofs.JointStates.{start_is_joint}
use Rattle.mp_reach.specs.Explored.{HasEntry, HasLiveEntry, IsAt}
use Rattle.mp_reach.specs.Found.{Entry as Seen, Message as Sent}
use Rattle.mp_reach.specs.LeadsOn.{IsRoot, IsTeamExploredFor, IsTeamHopelessFor, Known, LeadsOn, TeamReachesFor}
use Rattle.mp_world.specs.AgentWords.{state_after, AgentTask, JointState, after_step, joint_start, private_of, team_system, Event, AgentRecord, new_record}
use Rattle.mp_world.specs.SearchWords.{Numbers, Entry, Expanded, Root, Record, empty, AgentState, start_state, receivers, own_value, start_record}
use Rattle.mp_world.specs.Events.{agent_of}
use Rattle.mp_world.specs.Joint.{joint}
use Rattle.mp_world.specs.Steps.{IsStepOf}
use Rattle.mp_world.specs.Team.{AreTeamTasks, IsTeam, Team}
use Rattle.mp_world.specs.Values.{Values}
use Rattle.mp_world.specs.World.{IsTeamWorld, World, agent_at, start_world}
use Rattle.mp_world.proofs.Agents.{task_there, agree_numbered}
use Rattle.mp_team_states.specs.Paths.IsPath.{at_root}
use Rattle.mp_team_states.specs.Room.{AreSmall}
use Rattle.mp_team_states.specs.Sound.{AreStatesSound}
use Rattle.mp_team_states.proofs.ReachedEntries.{entry_in, one_path}
use Rattle.mp_team_states.proofs.RoomLemmas.{small_value}
use Rattle.mp_team_states.proofs.StartReached.{start_reaches, task_is}
use Rattle.mp_team_states.specs.Estimates.{AreEstimatesBoundsFor}
use Rattle.mp_team_states.specs.TeamFound.{found_of, seen_entry}
use Rattle.mp_team_states.proofs.Bounds.{entry_bounds, message_bounds, start_entry}
use Rattle.mp_team_states.proofs.Expanded.{AreOffered}
use Rattle.mp_team_states.proofs.Found.{entry_found, found_entry, found_sent}
use Rattle.mp_team_states.proofs.Continuing.{Continues, GoesOut, WasExpanded, offered_continues}
use Rattle.mp_team_states.proofs.SoundWorlds.{IsHeuristicFor, lives, me_is}
use Rattle.mp_team_states.proofs.Kept.{IsKept, offered_is_kept}
use Rattle.mp_team_states.proofs.Leading.{leads_reached}
use Rattle.mp_team_states.proofs.Staying.{IsLater, has_kept, known, later_entry, reached_stays, sent_reached}
use Rattle.mp_team_states.proofs.Stepping.{HasStepped, event_stepped}

module _ (tasks : List AgentTask) (are : AreTeamTasks tasks) where
  -- what makes a world explored, agent by agent
  pub record AreReached (Goal : Known → Type 0) (w : World) : Type 0 where
    pub roots : (k : Known) → IsRoot tasks k → TeamReachesFor tasks Goal (found_of w) k 0
    pub closed : (agent n : ℕ) (r : AgentRecord) (e : Entry AgentState) → agent_at w agent ≡ Some r → slice_get r.search.kept.entries n ≡ Some e → e.mark ≡ Expanded
        → (cost : ℕ) (last : Known) → LeadsOn tasks (known agent (joint w agent e.key)) cost last → TeamReachesFor tasks Goal (found_of w) last (e.g + cost)
    pub sent : (agent k n receiver : ℕ) (r : AgentRecord) (e : Entry AgentState) → agent_at w agent ≡ Some r → slice_get r.search.kept.sent k ≡ Some n
        → slice_get r.search.kept.entries n ≡ Some e → Contains (receivers r.task e.key) receiver → TeamReachesFor tasks Goal (found_of w) (known receiver (joint w agent e.key)) e.g

  module _ (Goal : Known → Type 0) (w : World) (team : IsTeamWorld tasks w) (sound : AreStatesSound tasks w) (bounds : AreEstimatesBoundsFor tasks Goal w) where
    explored_if : AreReached Goal w → IsTeamExploredFor tasks Goal None (found_of w)
    explored_if reached = record {
      roots = reached.roots;
      live = λ i seen there. live_at i seen there;
      closed = λ i seen there mark. inr (λ cost last leads. closed_at i seen there mark cost last leads);
      sent = λ x here. sent_at x here;
      entries = entry_bounds tasks are Goal w team sound bounds;
      messages = message_bounds tasks are Goal w team sound bounds;
    }
      where
        live_at : (i : ℕ × ℕ) (seen : Seen Known) → IsAt (found_of w) i seen → HasLiveEntry (found_of w) seen.state seen.cost
        live_at i seen there =
            let f = found_entry w i seen there in
            subst (λ (x : Seen Known). HasLiveEntry (found_of w) x.state x.cost) (sym f.is) (lives tasks are w team sound i.0 i.1 f.agent_is f.entry f.there f.at)

        closed_at : (i : ℕ × ℕ) (seen : Seen Known) → IsAt (found_of w) i seen → seen.mark ≡ Expanded → (cost : ℕ) (last : Known) → LeadsOn tasks seen.state cost last
            → TeamReachesFor tasks Goal (found_of w) last (seen.cost + cost)
        closed_at i seen there mark cost last leads =
            let f = found_entry w i seen there in
            subst (λ (x : Seen Known). TeamReachesFor tasks Goal (found_of w) last (x.cost + cost)) (sym f.is)
            (reached.closed i.0 i.1 f.agent_is f.entry f.there f.at (ap (λ (x : Seen Known). x.mark) (sym f.is) ∙ mark) cost last
            (subst (λ (x : Seen Known). LeadsOn tasks x.state cost last) f.is leads))

        sent_at : (x : Sent Known) → Contains (found_of w).sent x → TeamReachesFor tasks Goal (found_of w) x.state x.cost
        sent_at x here =
            let f = found_sent w x here in
            let me = me_is tasks are w team f.agent f.agent_is f.there in
            subst (λ (y : Sent Known). TeamReachesFor tasks Goal (found_of w) y.state y.cost) f.is
            (subst (λ (a : ℕ). TeamReachesFor tasks Goal (found_of w) (known f.receiver (joint w a f.entry.key)) f.entry.g) (sym me)
            (reached.sent f.agent f.sent f.number f.receiver f.agent_is f.entry f.there f.given f.at f.here))

  -- ---- an event

  module _ {Goal : Known → Type 0} (value : Values) (heuristic : IsHeuristicFor Goal value tasks) (w : World) (team : IsTeamWorld tasks w) (sound : AreStatesSound tasks w)
      (small : AreSmall w) (next : World) (later_team : IsTeamWorld tasks next) (later_sound : AreStatesSound tasks next) (bounds : AreEstimatesBoundsFor tasks Goal next)
      (event : Event) (is : IsStepOf value w event next) (explored : IsTeamExploredFor tasks Goal None (found_of w)) where
    stays : (k : Known) (cost : ℕ) → TeamReachesFor tasks Goal (found_of w) k cost → TeamReachesFor tasks Goal (found_of next) k cost
    stays = reached_stays tasks are w team sound small value heuristic next later_team later_sound event is

    sends : (agent k n receiver : ℕ) (r : AgentRecord) (e : Entry AgentState) → agent_at next agent ≡ Some r → slice_get r.search.kept.sent k ≡ Some n
        → slice_get r.search.kept.entries n ≡ Some e → Contains (receivers r.task e.key) receiver → TeamReachesFor tasks Goal (found_of next) (known receiver (joint next agent e.key)) e.g
    sends = sent_reached tasks are w team sound small value heuristic next later_team later_sound event is explored

    -- an entry that was expanded before
    old_closed : (agent n : ℕ) (o : AgentRecord) (old : Entry AgentState) → agent_at w agent ≡ Some o → slice_get o.search.kept.entries n ≡ Some old → old.mark ≡ Expanded
        → (r : AgentRecord) (e : Entry AgentState) → agent_at next agent ≡ Some r → slice_get r.search.kept.entries n ≡ Some e
        → (cost : ℕ) (last : Known) → LeadsOn tasks (known agent (joint next agent e.key)) cost last → TeamReachesFor tasks Goal (found_of next) last (e.g + cost)
    old_closed agent n o old o_there o_at mark r e there at cost last leads =
        let x : IsLater tasks are w team sound small value heuristic next later_team later_sound event is agent n o old =
        later_entry tasks are w team sound small value heuristic next later_team later_sound event is agent n o old o_there o_at
        in
        let r_is : x.agent_is ≡ r = same_Some x.agent_is r (sym x.there ∙ there) in
        let e_is : x.entry ≡ e = same_Some x.entry e (sym x.at ∙ ap (λ (r : AgentRecord). slice_get r.search.kept.entries n) r_is ∙ at) in
        let whole : joint next agent e.key ≡ joint w agent old.key = ap (λ (e : Entry AgentState). joint next agent e.key) (sym e_is) ∙ x.joint_is in
        let price : old.g ≡ e.g = sym x.cost ∙ ap (λ (e : Entry AgentState). e.g) e_is in
        let led : LeadsOn tasks (known agent (joint w agent old.key)) cost last = subst (λ (s : JointState). LeadsOn tasks (known agent s) cost last) whole leads in
        subst (λ (c : ℕ). TeamReachesFor tasks Goal (found_of next) last (c + cost)) price
        (stays last (old.g + cost)
        (by led (explored.closed (agent, n) (seen_entry w agent old) (entry_found w agent n o old o_there o_at) mark)))
      where
        by : LeadsOn tasks (known agent (joint w agent old.key)) cost last
            → (◌≡◌ {A = Option (ℕ × ℕ)} None (Some (agent, n))) ⊎ ((cost : ℕ) (t : Known) → LeadsOn tasks (known agent (joint w agent old.key)) cost t → TeamReachesFor tasks Goal (found_of w) t (old.g + cost))
            → TeamReachesFor tasks Goal (found_of w) last (old.g + cost)
        by led (inl none) = absurd (none-some (agent, n) none)
        by led (inr each) = each cost last led

    closed_later : (agent n : ℕ) (r : AgentRecord) (e : Entry AgentState) → agent_at next agent ≡ Some r → slice_get r.search.kept.entries n ≡ Some e → e.mark ≡ Expanded
        → (cost : ℕ) (last : Known) → LeadsOn tasks (known agent (joint next agent e.key)) cost last → TeamReachesFor tasks Goal (found_of next) last (e.g + cost)
    closed_later agent n r e there at mark cost last leads = by (cases_eq agent (agent_of event))
      where
        stepped : HasStepped (value is.agent.task) is.agent is.step
        stepped = event_stepped tasks are w team sound value next small heuristic.small event is

        now : agent ≡ agent_of event → is.step.after ≡ r → WasExpanded is.agent.search.kept n ⊎ AreOffered is.agent.task (value is.agent.task) e is.step.after.search.kept
            → TeamReachesFor tasks Goal (found_of next) last (e.g + cost)
        now same r_is (inl old) = old_closed agent n is.agent old.entry (ap (agent_at w) same ∙ is.there) old.at old.is r e there at cost last leads
        now same r_is (inr offers) =
            let offers_last : AreOffered is.step.after.task (value is.step.after.task) e is.step.after.search.kept =
            subst (λ (t : AgentTask). AreOffered t (value t) e is.step.after.search.kept) (sym stepped.task) offers
            in
            let offers_now : AreOffered r.task (value r.task) e r.search.kept = subst (λ (r : AgentRecord). AreOffered r.task (value r.task) e r.search.kept) r_is offers_last in
            leads_reached tasks are next later_team later_sound value heuristic agent r there (λ k m receiver f given f_at here. sends agent k m receiver r f there given f_at here)
            n e at offers_now cost last leads

        by : (agent ≡ agent_of event) ⊎ (agent ≡ agent_of event → ⊥) → TeamReachesFor tasks Goal (found_of next) last (e.g + cost)
        by (inl same) =
            let r_is : is.step.after ≡ r = same_Some is.step.after r (sym is.after ∙ ap (agent_at next) (sym same) ∙ there) in
            now same r_is (stepped.done.expanded n e (ap (λ (r : AgentRecord). slice_get r.search.kept.entries n) r_is ∙ at) mark)
        by (inr other) = old_closed agent n r e (sym (is.others agent other) ∙ there) at mark r e there at cost last leads

    pub event_explored : IsTeamExploredFor tasks Goal None (found_of next)
    event_explored =
        explored_if Goal next later_team later_sound bounds
        (record { roots = λ k root. stays k 0 (explored.roots k root); closed = closed_later; sent = sends })

-- ---- the start

module _ (team : Team) (is_team : IsTeam team) where
  open team use {tasks, value, limit}

  module _ {Goal : Known → Type 0} (heuristic : IsHeuristicFor Goal value tasks) where
    abbrev first : World
    first = start_world team

    module _ (of_team : IsTeamWorld tasks first) (sound : AreStatesSound tasks first) (bounds : AreEstimatesBoundsFor tasks Goal first) where
      first_continues : (t : AgentTask) → Continues t empty [] (start_record t (value t)).kept
      first_continues t = offered_continues t (start_state t) 0 Root empty (own_value t (value t) (start_state t))

      -- the initial state is the joint start
      first_value : (t : AgentTask) → Contains tasks t → value t (joint_start tasks).publics (private_of (joint_start tasks) t.me) ≡ own_value t (value t) (start_state t)
      first_value t here =
          let number = number_at tasks is_team.tasks.agree.numbered here.0 t here.1 here.2 in
          let place : t.me - 1 ≡ here.0 = omega arith in
          let start : AgentTask → Numbers = λ u. set.from_list u.start_priv in
          let mine : private_of (joint_start tasks) t.me ≡ set.from_list t.start_priv =
          ap (λ k. get_or (map start tasks) k set.empty) place ∙ get_or-map start tasks here.0 t set.empty here.1 ∙ ap start here.2
          in
          let shared = public_start-at tasks t here (λ u there. (is_team.tasks.agree.alike u t there here).start_pub) in
          λ j. value t (shared j) (mine j)

      first_joint : (agent n : ℕ) (r : AgentRecord) (e : Entry AgentState) → agent_at first agent ≡ Some r → slice_get r.search.kept.entries n ≡ Some e → joint first agent e.key ≡ joint_start tasks
      first_joint agent n r e there at =
          let of = task_is team is_team agent r there in
          let begun = start_entry of.0 (value of.0) n e (subst (λ (r : AgentRecord). slice_get r.search.kept.entries n ≡ Some e) of.2 at) in
          let has = entry_in first agent n r e there at in
          let x = start_reaches team is_team agent n e has in
          let none = one_path first agent n x.steps [] x.path (at_root agent n e has begun.origin) in
          same_Some (joint first agent e.key) (joint_start tasks)
          (sym x.leads ∙ ap (λ steps. state_after (team_system tasks) (joint_start tasks) steps) none ∙ run-none (after_step tasks) (joint_start tasks))

      roots_first : (k : Known) → IsRoot tasks k → TeamReachesFor tasks Goal (found_of first) k 0
      roots_first k root = by (offered_is_kept t (start_state t) 0 Root empty (own_value t (value t) (start_state t)) room)
        where
          t : AgentTask
          t = root.task

          room : (h : ℕ) → own_value t (value t) (start_state t) ≡ Some h → 0 + h < 2 ^ 60
          room h is =
              let s = start_state t in
              let below = small_value (value t s.publics s.mine) h (heuristic.small t s.publics s.mine root.in_team) is in
              omega arith

          k_is : known t.me (joint_start tasks) ≡ k
          k_is = λ j. record { agent = sym root.agent j; state = sym root.state j }

          by : (own_value t (value t) (start_state t) ≡ None) ⊎ IsKept (start_record t (value t)).kept (start_state t) 0 → TeamReachesFor tasks Goal (found_of first) k 0
          by (inl none) =
              inr (inr (subst (IsTeamHopelessFor tasks Goal) k_is (heuristic.hopeless t (known t.me (joint_start tasks)) root.in_team (start_is_joint tasks) (first_value t root.in_team ∙ none))))
          by (inr kept) =
              let found = task_there tasks (agree_numbered tasks is_team.tasks.agree) first of_team t root.in_team in
              let of = task_is team is_team t.me found.0 found.1 in
              let task : of.0 ≡ t = ap (λ (r : AgentRecord). r.task) (sym of.2) ∙ found.2 in
              let r_is : new_record t (value t) limit ≡ found.0 = ap (λ (t : AgentTask). new_record t (value t) limit) (sym task) ∙ sym of.2 in
              let here : IsKept found.0.search.kept (start_state t) 0 = subst (λ (r : AgentRecord). IsKept r.search.kept (start_state t) 0) r_is kept in
              let whole : joint first t.me (start_state t) ≡ joint_start tasks =
              ap (joint first t.me) (sym here.key) ∙ first_joint t.me here.number found.0 here.entry found.1 here.at
              in
              inl (subst (λ (x : Known). HasEntry (found_of first) x 0) k_is
              (subst (λ (s : JointState). HasEntry (found_of first) (known t.me s) 0) whole (has_kept first t.me found.0 (start_state t) 0 found.1 here)))

      -- of an agent at the start
      kept_first : (agent : ℕ) (r : AgentRecord) → agent_at first agent ≡ Some r → Continues r.task empty [] r.search.kept
      kept_first agent r there =
          let of = task_is team is_team agent r there in
          subst (λ (r : AgentRecord). Continues r.task empty [] r.search.kept) (sym of.2) (first_continues of.0)

      pub start_explored : IsTeamExploredFor tasks Goal None (found_of first)
      start_explored =
          explored_if tasks is_team.tasks Goal first of_team sound bounds
          (record {
            roots = roots_first;
            closed = λ agent n r e there at mark cost last leads.
                let was = (kept_first agent r there).expanded n e at mark in
                absurd (none-some was.entry was.at);
            sent = λ agent k n receiver r e there given at here. absurd (nothing_sent k n r.task r.search.kept ((kept_first agent r there).sent k n given));
          })
        where
          nothing_sent : (k n : ℕ) (t : AgentTask) (s : Record AgentState) → (slice_get (empty {K = AgentState}).sent k ≡ Some n) ⊎ GoesOut t s [] k n → ⊥
          nothing_sent k n t s (inl old) = none-some n old
          nothing_sent k n t s (inr out) = no_member out.sending out.there
