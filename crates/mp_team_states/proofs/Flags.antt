-- An entry's flag says whether all goals of the team are true in its joint state.
use Rattle.mp_world.proofs.Basics.{◌≡◌, ◌≢◌, ℕ, ◌+◌, ◌-◌, ◌<◌, ◌⊎◌, Bool, true, false, ◌&&◌, ◌||◌, List, [], ◌∷◌, length, get_or, Some, refl, sym, ap, subst, ◌∙◌, arith, inl, inr, Contains, ◌==◌, enumerate_from, list_all, and_from, and_parts, cases_eq, eq-eqb}
use Rattle.mp_world.proofs.Basics.{false≢true, ne_eqb, get_or_default, All-contains, get_or-enumerate_from, length-enumerate_from, none-some, same_Some}
use Rattle.std.proofs.lemmas.Bool.{or_left, or_right}
use Rattle.mp_list.proofs.Members.{all_at, contains_head, contains_tail}
use Rattle.mp_task.proofs.Agreeing.{same_number}
use Rattle.mp_search.specs.AgentState.{others_are_met}
use Rattle.mp_world.specs.AgentWords.{AgentTask, IsWithinLimits, is_met, goals_hold, private_of, Event, AgentRecord}
use Rattle.mp_world.specs.SearchWords.{Tag, holds, Root, empty, AgentState, is_goal_state, no_tag, start_state, own_value}
use Rattle.mp_world.specs.Events.{agent_of}
use Rattle.mp_world.specs.Joint.{joint}
use Rattle.mp_world.specs.Steps.{IsStepOf}
use Rattle.mp_world.specs.Team.{AreTeamTasks, IsTeam, Team}
use Rattle.mp_world.specs.Values.{Values}
use Rattle.mp_world.specs.World.{IsTeamWorld, World, agent_at, start_world}
use Rattle.mp_world.proofs.Agents.{agree_numbered, task_there}
use Rattle.mp_team_states.specs.Room.{AreSmall, HasSmallValues}
use Rattle.mp_team_states.specs.Sound.{AreStatesSound, IsStateOf, tag_of}
use Rattle.mp_team_states.proofs.ReachedEntries.{has_it}
use Rattle.mp_team_states.proofs.StartReached.{task_is}
use Rattle.mp_team_states.proofs.StepsSound.{limits_of}
use Rattle.mp_team_states.specs.Estimates.{AreGoalsFlagged}
use Rattle.mp_team_states.proofs.Continuing.{HaveFlags, offered_continues}
use Rattle.mp_team_states.proofs.SoundWorlds.{agents_are, me_is, other_there, states_known, task_in}
use Rattle.mp_team_states.proofs.Joint.{met_is, own_private, tag_there}
use Rattle.mp_team_states.proofs.Stepping.{HasStepped, event_stepped}

all_from : {X : Type 0} (test : X → Bool) (xs : List X) → ((x : X) → Contains xs x → test x ≡ true) → list_all test xs ≡ true
all_from test [] each = refl
all_from test (x ∷ xs) each =
    and_from (test x) (list_all test xs) (each x (contains_head x xs)) (all_from test xs (λ y here. each y (contains_tail x xs y here)))

one_truth : (a b : Bool) → (a ≡ true → b ≡ true) → (b ≡ true → a ≡ true) → a ≡ b
one_truth true b there back = sym (there refl)
one_truth false true there back = back refl
one_truth false false there back = refl

not_left : (a b : Bool) → a ≡ false → (a || b) ≡ true → b ≡ true
not_left true b is either = absurd (false≢true (sym is))
not_left false b is either = either

module _ (tasks : List AgentTask) (are : AreTeamTasks tasks) where
  module _ (w : World) (team : IsTeamWorld tasks w) (agent : ℕ) (r : AgentRecord) (there : agent_at w agent ≡ Some r) (s : AgentState) (is : IsStateOf w r.task s) where
    t : AgentTask
    t = r.task

    fit : IsWithinLimits t
    unfolding t
    fit = limits_of tasks are w team agent r there

    here : Contains tasks t
    unfolding t
    here = task_in tasks are w team agent r there

    goal_there : is_goal_state t s ≡ true → goals_hold tasks (joint w t.me s) ≡ true
    unfolding t
    goal_there goal = all_from (λ u. holds s.publics u.goal_pub && is_met u (private_of (joint w t.me s) u.me)) tasks (λ u u_here. each u u_here (cases_eq u.me t.me))
      where
        parts : (holds s.publics t.goal_pub ≡ true) × ((is_met t s.mine && others_are_met t s) ≡ true)
        parts = and_parts (holds s.publics t.goal_pub) (is_met t s.mine && others_are_met t s) goal

        private : (is_met t s.mine ≡ true) × (others_are_met t s ≡ true)
        private = and_parts (is_met t s.mine) (others_are_met t s) parts.1

        publics : (u : AgentTask) → Contains tasks u → holds s.publics u.goal_pub ≡ true
        publics u u_here = ap (holds s.publics) (are.agree.alike u t u_here here).goal_pub ∙ parts.0

        each : (u : AgentTask) → Contains tasks u → (u.me ≡ t.me) ⊎ (u.me ≡ t.me → ⊥) → (holds s.publics u.goal_pub && is_met u (private_of (joint w t.me s) u.me)) ≡ true
        each u u_here (inl same) =
            let one : t ≡ u = same_number tasks are.agree.numbered t u here u_here (sym same) in
            let mine : is_met t (private_of (joint w t.me s) t.me) ≡ true = ap (is_met t) (own_private w t fit s is.number) ∙ private.0 in
            and_from (holds s.publics u.goal_pub) (is_met u (private_of (joint w t.me s) u.me)) (publics u u_here)
            (subst (λ (v : AgentTask). is_met v (private_of (joint w t.me s) v.me) ≡ true) one mine)
        each u u_here (inr other) =
            let found = task_there tasks (agree_numbered tasks are.agree) w team u u_here in
            let its = All-contains IsWithinLimits tasks u are.within u_here in
            let many = agents_are tasks are w team agent r there in
            let its_many = agents_are tasks are w team u.me found.0 found.1 in
            let same_task = ap (λ (x : AgentTask). x.agents) found.2 in
            let in_team = its.in_team in
            let tag = tag_of s.tags u.me in
            let told = all_at (λ x. x.0 == t.me || x.1.met) (enumerate_from 1 s.tags) (u.me, tag) private.1 (tag_there w t fit s is.number u.me its.from_1 (omega arith)) in
            let met : tag.met ≡ true = not_left (u.me == t.me) tag.met (ne_eqb u.me t.me other) told in
            let says = met_is w t fit s is.number is.others found.0 u.me its.from_1 (omega arith) other found.1 in
            and_from (holds s.publics u.goal_pub) (is_met u (private_of (joint w t.me s) u.me)) (publics u u_here)
            (ap (λ (v : AgentTask). is_met v (private_of (joint w t.me s) u.me)) (sym found.2) ∙ sym says ∙ met)

    goal_back : goals_hold tasks (joint w t.me s) ≡ true → is_goal_state t s ≡ true
    unfolding t
    goal_back goals =
        and_from (holds s.publics t.goal_pub) (is_met t s.mine && others_are_met t s) mine.0
        (and_from (is_met t s.mine) (others_are_met t s) (sym (ap (is_met t) (own_private w t fit s is.number)) ∙ mine.1)
        (all_from (λ x. x.0 == t.me || x.1.met) (enumerate_from 1 s.tags) each))
      where
        of_task : (u : AgentTask) → Contains tasks u → (holds s.publics u.goal_pub ≡ true) × (is_met u (private_of (joint w t.me s) u.me) ≡ true)
        of_task u u_here =
            and_parts (holds s.publics u.goal_pub) (is_met u (private_of (joint w t.me s) u.me))
            (all_at (λ u. holds s.publics u.goal_pub && is_met u (private_of (joint w t.me s) u.me)) tasks u goals u_here)

        mine : (holds s.publics t.goal_pub ≡ true) × (is_met t (private_of (joint w t.me s) t.me) ≡ true)
        mine = of_task t here

        by : (k : ℕ) → k < length s.tags → (x : ℕ × Tag) → (1 + k, tag_of s.tags (1 + k)) ≡ x → (x.0 ≡ t.me) ⊎ (x.0 ≡ t.me → ⊥) → (x.0 == t.me || x.1.met) ≡ true
        by k inside x x_is (inl same) = or_left (x.0 == t.me) x.1.met (eq-eqb x.0 t.me same)
        by k inside x x_is (inr other) =
            let number = is.number in
            let a : 1 + k ≡ x.0 = ap (λ (y : ℕ × Tag). y.0) x_is in
            let apart : 1 + k ≢ t.me = λ same. other (sym a ∙ same) in
            let found = other_there tasks are w team agent r there (1 + k) (omega arith) (omega arith) in
            let u = found.1 in
            let u_me = me_is tasks are w team (1 + k) u found.2 in
            let met = (of_task u.task (task_in tasks are w team (1 + k) u found.2)).1 in
            let says = met_is w t fit s is.number is.others u (1 + k) (omega arith) (omega arith) apart found.2 in
            or_right (x.0 == t.me) x.1.met
            (ap (λ (y : ℕ × Tag). y.1.met) (sym x_is) ∙ says ∙ ap (λ (b : ℕ). is_met u.task (private_of (joint w t.me s) b)) (sym u_me) ∙ met)

        each : (x : ℕ × Tag) → Contains (enumerate_from 1 s.tags) x → (x.0 == t.me || x.1.met) ≡ true
        each x (k, inside, at) =
            let many = length-enumerate_from 1 s.tags in
            let within : k < length s.tags = omega arith in
            let place : 1 + k - 1 ≡ k = omega arith in
            let tag : get_or s.tags k x.1 ≡ tag_of s.tags (1 + k) = get_or_default s.tags k x.1 no_tag within ∙ ap (λ (i : ℕ). get_or s.tags i no_tag) (sym place) in
            let x_is : (1 + k, tag_of s.tags (1 + k)) ≡ x = ap (λ (y : Tag). (1 + k, y)) (sym tag) ∙ sym (get_or-enumerate_from 1 s.tags k x within) ∙ at in
            by k within x x_is (cases_eq x.0 t.me)

    pub goal_is : is_goal_state r.task s ≡ goals_hold tasks (joint w agent s)
    unfolding t
    goal_is =
        one_truth (is_goal_state r.task s) (goals_hold tasks (joint w r.task.me s)) goal_there goal_back
        ∙ ap (λ (a : ℕ). goals_hold tasks (joint w a s)) (me_is tasks are w team agent r there)

  -- ---- in all worlds

  -- each entry's flag is the one of its state
  abbrev pub HaveAllFlags : World → Type 0
  HaveAllFlags w = (agent : ℕ) (r : AgentRecord) → agent_at w agent ≡ Some r → HaveFlags r.task r.search.kept

  pub flags_of_joint : (w : World) → IsTeamWorld tasks w → AreStatesSound tasks w → HaveAllFlags w → AreGoalsFlagged tasks w
  flags_of_joint w team sound flags agent n e has =
      let h = has_it w agent n e has in
      flags agent h.agent_is h.there n e h.at
      ∙ goal_is w team agent h.agent_is h.there e.key (states_known tasks are w team sound agent n h.agent_is e h.there h.at)

  module _ (value : Values) where
    pub event_flags : (w : World) → IsTeamWorld tasks w → AreStatesSound tasks w → AreSmall w → HasSmallValues value tasks → (next : World) (event : Event) (is : IsStepOf value w event next)
        → HaveAllFlags w → HaveAllFlags next
    event_flags w team sound small values next event is flags agent r there = by (cases_eq agent (agent_of event))
      where
        stepped : HasStepped (value is.agent.task) is.agent is.step
        stepped = event_stepped tasks are w team sound value next small values event is

        by : (agent ≡ agent_of event) ⊎ (agent ≡ agent_of event → ⊥) → HaveFlags r.task r.search.kept
        by (inl same) =
            let r_is : is.step.after ≡ r = same_Some is.step.after r (sym is.after ∙ ap (agent_at next) (sym same) ∙ there) in
            subst (λ (r : AgentRecord). HaveFlags r.task r.search.kept) r_is
            (subst (λ (t : AgentTask). HaveFlags t is.step.after.search.kept) (sym stepped.task) (stepped.done.flags (flags (agent_of event) is.agent is.there)))
        by (inr other) = flags agent r (sym (is.others agent other) ∙ there)

module _ (team : Team) (is_team : IsTeam team) where
  open team use {tasks, value}

  pub start_flags : HaveAllFlags tasks is_team.tasks (start_world team)
  start_flags agent r there =
      let of = task_is team is_team agent r there in
      let t = of.0 in
      subst (λ (r : AgentRecord). HaveFlags r.task r.search.kept) (sym of.2)
      ((offered_continues t (start_state t) 0 Root empty (own_value t (value t) (start_state t))).flags (λ n e at. absurd (none-some e at)))
