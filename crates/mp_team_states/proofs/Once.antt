-- One agent that knows nothing of what is still to be paid expands no state twice: what it expands costs no less than before.
use Rattle.mp_world.proofs.Basics.{◌≡◌, ℕ, ◌≤◌, ◌⊎◌, true, List, [], length, Option, Some, sym, ap, subst, ◌∙◌, arith, inl, inr, not, slice_get, option_map_or, and_parts, none-some, same_Some}
use Rattle.mp_machine.specs.declared.event.Local.TheVariants.{Expand}
use Rattle.mp_world.specs.AgentWords.{AgentTask, Event, AgentRecord, is_going, Local, may, Step, with_state}
use Rattle.mp_world.specs.SearchWords.{Entry, Mark, Open, Expanded, Replaced, Root, IsSound, closed, Record, empty, AgentState, same_state, start_state, successor, Parent, expanded, expanded_entry, with_actions, own_value, start_record, SearchRecord, is_open_below}
use Rattle.mp_world.specs.SearchWords.{is_spent, may_expand}
use Rattle.mp_world.specs.Events.{agent_of, local_of, run, taken}
use Rattle.mp_world.specs.Steps.{IsStepOf}
use Rattle.mp_world.specs.Team.{AreTeamTasks, IsTeam, team_with}
use Rattle.mp_world.specs.World.{IsTeamWorld, World, agent_at}
use Rattle.mp_world.proofs.Agents.{agree_numbered, sender_of}
use Rattle.mp_team_states.proofs.EachAgent.{each_agent}
use Rattle.mp_world.proofs.Mail.{agent_of_team}
use Rattle.mp_world.proofs.Runs.{run_has, run_of_team}
use Rattle.mp_world.proofs.Stepping.{team_size}
use Rattle.mp_team_states.specs.Sound.{AreStatesSound}
use Rattle.mp_team_states.proofs.Growth.{grown_closed, grown_then}
use Rattle.mp_team_states.proofs.GoodStates.{equal_if_joint}
use Rattle.mp_team_states.proofs.ReachedEntries.{has_it}
use Rattle.mp_team_states.proofs.StartReached.{task_is}
use Rattle.mp_team_states.proofs.StartSound.{start_states_sound}
use Rattle.mp_team_states.proofs.StepsSound.{agent_sound, states_stay_sound}
use Rattle.mp_team_states.specs.Expansions.{ExpandsOnce, nothing_known}
use Rattle.mp_team_states.proofs.Adding.{Adds, WasThere, actions_add, offered_adds}
use Rattle.mp_team_states.proofs.Expanded.{closed_is, one_expanded}
use Rattle.mp_team_states.proofs.Members.{set_back, set_same}
use Rattle.mp_team_states.proofs.Continuing.{Continues, WasExpanded, actions_continue, offered_continues}
use Rattle.mp_team_states.proofs.SoundWorlds.{states_known}
use Rattle.mp_team_states.proofs.WorldsGrow.{search_holds}
use Rattle.mp_team_states.proofs.Worth.{IsWorth, falls, worth}

-- What holds of the record of an agent that is alone: estimates are 0, no expanded entry costs more than an open one, and no two
-- expanded entries are of one state.
pub record HasRisingCosts (r : Record AgentState) : Type 0 where
  pub nothing : (n : ℕ) (e : Entry AgentState) → slice_get r.entries n ≡ Some e → e.h ≡ 0
  pub before : (m n : ℕ) (o : WasExpanded r m) (e : Entry AgentState) → slice_get r.entries n ≡ Some e → e.mark ≡ Open → o.entry.g ≤ e.g
  pub once : (m n : ℕ) (a : WasExpanded r m) (b : WasExpanded r n) → a.entry.key ≡ b.entry.key → m ≡ n

-- the estimate is 0, and the cost is at least another one
abbrev IsFrom : ℕ → ℕ → ℕ → Type 0
IsFrom least g h = (least ≤ g) × (h ≡ 0)

no_value : (t : AgentTask) (s : AgentState) (h : ℕ) → own_value t (nothing_known t) s ≡ Some h → h ≡ 0
no_value t s h is = sym (same_Some 0 h is)

-- ---- an expansion

module _ (t : AgentTask) (r : SearchRecord) (sound : IsSound same_state r.kept) (rising : HasRisingCosts r.kept) (w : IsWorth r.kept) where
  n : ℕ
  n = w.number

  e : Entry AgentState
  e = w.entry

  parent : Parent
  unfolding n e
  parent = record { number = n; state = e.key; g = e.g }

  shut : Record AgentState
  unfolding n
  shut = closed n r.kept

  last : Record AgentState
  unfolding parent shut n e
  last = (with_actions t (nothing_known t) parent 0 t.acts shut).1

  last_is : (expanded t (nothing_known t) r).1.kept ≡ last
  unfolding expanded expanded_entry last parent shut n e
  last_is =
      ap (λ (o : Option ℕ). (option_map_or (λ n. option_map_or (λ e. expanded_entry t (nothing_known t) n e r) (slice_get r.kept.entries n) ([], r)) o ([], r)).1.kept) w.first
      ∙ ap (λ (o : Option (Entry AgentState)). (option_map_or (λ e. expanded_entry t (nothing_known t) n e r) o ([], r)).1.kept) w.at

  goes : Continues t shut (with_actions t (nothing_known t) parent 0 t.acts shut).0 last
  unfolding last parent shut n e
  goes = actions_continue t (nothing_known t) parent 0 t.acts shut

  adds : Adds (IsFrom e.g) shut last
  unfolding last parent shut n e
  adds = actions_add (IsFrom e.g) t (nothing_known t) parent 0 t.acts shut (λ act h is. (omega arith, no_value t (successor act parent.state) h is))

  -- an entry as it was
  same_entry : (m : ℕ) (o x : Entry AgentState) → slice_get r.kept.entries m ≡ Some o → slice_get last.entries m ≡ Some x → (x.key ≡ o.key) × (x.g ≡ o.g)
  unfolding last shut
  same_entry m o x at x_at =
      let grown = grown_then r.kept shut last (grown_closed n r.kept) goes.grown in
      let later = grown.entries m o at in
      let one : later.0 ≡ x = same_Some later.0 x (sym later.1 ∙ x_at) in
      (ap (λ (y : Entry AgentState). y.key) (sym one) ∙ later.2.key, ap (λ (y : Entry AgentState). y.g) (sym one) ∙ later.2.g)

  -- an entry that is expanded then is the one that was taken, or was expanded before
  record IsThen (m : ℕ) (x : Entry AgentState) : Type 0 where
    old : Entry AgentState
    at : slice_get r.kept.entries m ≡ Some old
    key : x.key ≡ old.key
    cost : x.g ≡ old.g
    which : (m ≡ n) ⊎ (old.mark ≡ Expanded)

  then_is : (m : ℕ) (x : WasExpanded last m) → IsThen m x.entry
  unfolding last shut n e
  then_is m x = by (one.1 m (subst (λ (y : Record AgentState). WasExpanded y m) (sym last_is) x))
    where
      one : WasExpanded (expanded t (nothing_known t) r).1.kept n × ((m : ℕ) → WasExpanded (expanded t (nothing_known t) r).1.kept m → (m ≡ n) ⊎ WasExpanded r.kept m)
      one = one_expanded t (nothing_known t) r n e w.first w.at

      by : (m ≡ n) ⊎ WasExpanded r.kept m → IsThen m x.entry
      by (inl same) =
          let at : slice_get r.kept.entries m ≡ Some e = ap (slice_get r.kept.entries) same ∙ w.at in
          let parts = same_entry m e x.entry at x.at in
          record { old = e; at = at; key = parts.0; cost = parts.1; which = inl same }
      by (inr was) =
          let parts = same_entry m was.entry x.entry was.at x.at in
          record { old = was.entry; at = was.at; key = parts.0; cost = parts.1; which = inr was.is }

  -- an entry of the record that is closed
  shut_entry : (m : ℕ) (o : Entry AgentState) → slice_get shut.entries m ≡ Some o → (m ≡ n) ⊎ (slice_get r.kept.entries m ≡ Some o)
  unfolding shut n e
  shut_entry m o at = set_back r.kept.entries n m (record e { mark = Expanded }) o (ap (λ (x : Record AgentState). slice_get x.entries m) (sym (closed_is n e r.kept w.at)) ∙ at)

  shut_here : (o : Entry AgentState) → slice_get shut.entries n ≡ Some o → (o.g ≡ e.g) × (o.h ≡ e.h) × (o.mark ≡ Expanded)
  unfolding shut n e
  shut_here o at =
      let one : record e { mark = Expanded } ≡ o =
      set_same r.kept.entries n (record e { mark = Expanded }) o (ap (λ (x : Record AgentState). slice_get x.entries n) (sym (closed_is n e r.kept w.at)) ∙ at)
      in
      (ap (λ (x : Entry AgentState). x.g) (sym one), ap (λ (x : Entry AgentState). x.h) (sym one), ap (λ (x : Entry AgentState). x.mark) (sym one))

  nothing_later : (m : ℕ) (x : Entry AgentState) → slice_get last.entries m ≡ Some x → x.h ≡ 0
  unfolding n e
  nothing_later m x at = by (adds m x at)
    where
      was : (o : WasThere shut m x) → (m ≡ n) ⊎ (slice_get r.kept.entries m ≡ Some o.entry) → x.h ≡ 0
      was o (inl same) =
          let here = shut_here o.entry (ap (slice_get shut.entries) (sym same) ∙ o.at) in
          o.estimate ∙ here.1 ∙ e_nothing
        where
          e_nothing : e.h ≡ 0
          e_nothing = rising.nothing w.number w.entry w.at
      was o (inr old) = o.estimate ∙ rising.nothing m o.entry old

      by : WasThere shut m x ⊎ IsFrom e.g x.g x.h → x.h ≡ 0
      by (inl o) = was o (shut_entry m o.entry o.at)
      by (inr new) = new.1

  -- an open entry costs no less than the one that was taken, and no less than what was expanded before
  open_later : (m : ℕ) (x : Entry AgentState) → slice_get last.entries m ≡ Some x → x.mark ≡ Open → e.g ≤ x.g
  unfolding n e
  open_later m x at open_ = by (adds m x at)
    where
      marked : (o : Mark) → (x.mark ≡ o) ⊎ (x.mark ≡ Replaced) → o ≡ Open
      marked o (inl same) = sym same ∙ open_
      marked o (inr gone) = absurd (let impossible : ⊥ = cc in impossible)

      was : (o : WasThere shut m x) → (m ≡ n) ⊎ (slice_get r.kept.entries m ≡ Some o.entry) → e.g ≤ x.g
      was o (inl same) =
          let here = shut_here o.entry (ap (slice_get shut.entries) (sym same) ∙ o.at) in
          let mark = marked o.entry.mark o.mark in
          let shut_mark = here.2 in
          absurd (let impossible : ⊥ = cc in impossible)
      was o (inr old) =
          let least = w.least m o.entry old (marked o.entry.mark o.mark) in
          let mine = rising.nothing n e w.at in
          let its = rising.nothing m o.entry old in
          let cost = o.cost in
          omega arith

      by : WasThere shut m x ⊎ IsFrom e.g x.g x.h → e.g ≤ x.g
      by (inl o) = was o (shut_entry m o.entry o.at)
      by (inr new) = new.0

  pub rising_later : HasRisingCosts (expanded t (nothing_known t) r).1.kept
  unfolding n e
  rising_later =
      subst HasRisingCosts (sym last_is)
      (record {
        nothing = nothing_later;
        before = λ m k o x at open_.
            let was = then_is m o in
            let most = open_later k x at open_ in
            let cost = was.cost in
            let early = earlier m was.old was.at was.which in
            omega arith;
        once = λ m k a b key.
            let x = then_is m a in
            let y = then_is k b in
            both m k x.old y.old x.at y.at (sym x.key ∙ key ∙ y.key) x.which y.which;
      })
    where
      -- what was expanded costs no more than the entry that is taken
      earlier : (m : ℕ) (o : Entry AgentState) → slice_get r.kept.entries m ≡ Some o → (m ≡ n) ⊎ (o.mark ≡ Expanded) → o.g ≤ e.g
      earlier m o at (inl same) =
          let one : o ≡ e = same_Some o e (sym at ∙ ap (slice_get r.kept.entries) same ∙ w.at) in
          let cost = ap (λ (x : Entry AgentState). x.g) one in
          omega arith
      earlier m o at (inr shut_mark) = rising.before m n (record { entry = o; at = at; is = shut_mark }) e w.at w.is_open

      -- a state that is taken was not expanded before
      fresh : (m : ℕ) (o : Entry AgentState) → slice_get r.kept.entries m ≡ Some o → o.mark ≡ Expanded → o.key ≡ e.key → ⊥
      fresh m o at mark key =
          let less = falls r.kept sound n m e o w.at w.is_open at mark key in
          let most = rising.before m n (record { entry = o; at = at; is = mark }) e w.at w.is_open in
          omega arith

      taken_key : (m : ℕ) (o : Entry AgentState) → slice_get r.kept.entries m ≡ Some o → m ≡ n → e.key ≡ o.key
      taken_key m o at same = ap (λ (x : Entry AgentState). x.key) (same_Some e o (sym w.at ∙ ap (slice_get r.kept.entries) (sym same) ∙ at))

      both : (m k : ℕ) (o p : Entry AgentState) → slice_get r.kept.entries m ≡ Some o → slice_get r.kept.entries k ≡ Some p → o.key ≡ p.key
          → (m ≡ n) ⊎ (o.mark ≡ Expanded) → (k ≡ n) ⊎ (p.mark ≡ Expanded) → m ≡ k
      both m k o p o_at p_at key (inl a) (inl b) = a ∙ sym b
      both m k o p o_at p_at key (inl a) (inr mark) = absurd (fresh k p p_at mark (sym key ∙ sym (taken_key m o o_at a)))
      both m k o p o_at p_at key (inr mark) (inl b) = absurd (fresh m o o_at mark (key ∙ sym (taken_key k p p_at b)))
      both m k o p o_at p_at key (inr mark) (inr other) = rising.once m k (record { entry = o; at = o_at; is = mark }) (record { entry = p; at = p_at; is = other }) key

-- ---- the start

pub rising_first : (t : AgentTask) → HasRisingCosts (start_record t (nothing_known t)).kept
rising_first t = record {
  nothing = λ n e at. by n e (offered_adds (IsFrom 0) t (start_state t) 0 Root empty (own_value t (nothing_known t) (start_state t)) (λ h is. (omega arith, no_value t (start_state t) h is)) n e at);
  before = λ m n o e at open_. absurd (none_yet m o);
  once = λ m n a b key. absurd (none_yet m a);
}
  where
    by : (n : ℕ) (e : Entry AgentState) → WasThere empty n e ⊎ IsFrom 0 e.g e.h → e.h ≡ 0
    by n e (inl old) = absurd (none-some old.entry old.at)
    by n e (inr new) = new.1

    none_yet : (m : ℕ) → WasExpanded (start_record t (nothing_known t)).kept m → ⊥
    none_yet m o =
        let was = (offered_continues t (start_state t) 0 Root empty (own_value t (nothing_known t) (start_state t))).expanded m o.entry o.at o.is in
        none-some was.entry was.at

-- ---- runs of one agent

-- states are sound, and costs rise
abbrev pub HaveRising : List AgentTask → World → Type 0
HaveRising tasks w =
    AreStatesSound tasks w × ((agent : ℕ) (r : AgentRecord) → agent_at w agent ≡ Some r → HasRisingCosts r.search.kept)

module _ (tasks : List AgentTask) (are : AreTeamTasks tasks) (alone : length tasks ≡ 1) where
  -- what its one agent does
  step_rising : (w next : World) → IsTeamWorld tasks w → HaveRising tasks w → (event : Event) (is : IsStepOf nothing_known w event next)
      → HasRisingCosts is.step.after.search.kept
  unfolding with_state
  step_rising w next team all event is =
      let r = is.agent in
      let old = all.1 (agent_of event) r is.there in
      search_holds (nothing_known r.task) r (local_of event) (taken w event) (λ (s : Step). HasRisingCosts s.after.search.kept) (record {
        expands = λ at.
            let allowed : may r Expand ≡ true = subst (λ (e : Local). may r e ≡ true) at is.may in
            let now = and_parts (is_going r.ending) (may_expand r.limit r.search) allowed in
            let below = and_parts (not (is_spent r.limit r.search)) (is_open_below r.search.kept) now.1 in
            rising_later r.task r.search (agent_sound tasks are w team all.0 (agent_of event) r is.there).kept old
            (worth r.search.kept below.1);
        receives = λ from m at reads.
            let allowed = subst (λ (e : Local). may r e ≡ true) at is.may in
            let sender = sender_of tasks (agree_numbered tasks are.agree) w team (agent_of event) from r is.there allowed in
            let receiver = agent_of_team w (agent_of event) r is.there in
            let size = team_size tasks w team in
            let a = sender.0.from_1 in
            let b = sender.0.at_most in
            let c = receiver.from_1 in
            let d = receiver.at_most in
            absurd (sender.1 (let same : from ≡ agent_of event = omega arith in same));
        quiet = λ s quiet. subst (λ (x : SearchRecord). HasRisingCosts x.kept) (sym quiet.search_is) old;
      }) is.step is.local

  module _ (limit : ℕ) (is_team : IsTeam (team_with nothing_known limit tasks)) (schedule : List Event) (w : World)
      (ran : run (team_with nothing_known limit tasks) schedule ≡ Some w) where
    pub rising_in_runs : HaveRising tasks w
    rising_in_runs =
        run_has (team_with nothing_known limit tasks) (HaveRising tasks) (
          start_states_sound (team_with nothing_known limit tasks) is_team,
          λ agent r there.
              let of = task_is (team_with nothing_known limit tasks) is_team agent r there in
              subst (λ (r : AgentRecord). HasRisingCosts r.search.kept) (sym of.2) (rising_first of.0),
        )
        (λ v event next team all is. (
          states_stay_sound tasks are v team all.0 nothing_known next event is,
          each_agent nothing_known v event next is (λ agent r. HasRisingCosts r.search.kept) (step_rising v next team all event is)
              (λ agent r there other. all.1 agent r there),
        )) schedule w ran

    pub run_expands_once : ExpandsOnce w
    run_expands_once agent m n a b same =
        let team = run_of_team (team_with nothing_known limit tasks) schedule w ran in
        let all = rising_in_runs in
        let x = has_it w agent m a.entry a.there in
        let y = has_it w agent n b.entry b.there in
        let one : y.agent_is ≡ x.agent_is = same_Some y.agent_is x.agent_is (sym y.there ∙ x.there) in
        let y_at : slice_get x.agent_is.search.kept.entries n ≡ Some b.entry = subst (λ (r : AgentRecord). slice_get r.search.kept.entries n ≡ Some b.entry) one y.at in
        let key =
        equal_if_joint tasks are w team all.0 agent x.agent_is a.entry.key b.entry.key x.there
        (states_known tasks are w team all.0 agent m x.agent_is a.entry x.there x.at)
        (states_known tasks are w team all.0 agent n x.agent_is b.entry x.there y_at) same
        in
        (all.1 agent x.agent_is x.there).once m n (record { entry = a.entry; at = x.at; is = a.is }) (record { entry = b.entry; at = y_at; is = b.is }) key
