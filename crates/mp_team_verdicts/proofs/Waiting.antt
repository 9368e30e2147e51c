-- Messages of the end of a search that are under way after an event: those that were, but for the one that was taken, and those
-- that went out. No two are under way from one agent to another.
use Rattle.mp_world.proofs.Basics.{◌≡◌, ◌≢◌, ℕ, ◌≤◌, ◌<◌, ◌^◌, Bool, true, false, ◌&&◌, List, [], ◌∷◌, ◌++◌, length, All, refl, sym, ap, subst, ◌∙◌, arith, ◌⊎◌, inl, inr, ◌==◌, Ok, filter, if◌then◌else◌, length-append}
use Rattle.mp_world.specs.AgentWords.{Event, Expand, Take, Start, Message, Pick, Trace, Length, Done, is_going, took_message}
use Rattle.mp_world.specs.Events.{agent_of, taken}
use Rattle.mp_world.specs.Steps.{IsStepOf}
use Rattle.mp_world.specs.Team.{IsTeam, Team}
use Rattle.mp_world.specs.World.{World}
use Rattle.mp_world.proofs.Agents.{agent_there}
use Rattle.mp_team_snapshots.specs.Snapshots.{one_if_due}
use Rattle.mp_team_snapshots.specs.Team.{HasRoom, IsTeamOf}
use Rattle.mp_team_snapshots.proofs.Changes.{left, messages_before}
use Rattle.mp_team_snapshots.proofs.Protocol.{IsOf, Sound, pair}
use Rattle.mp_team_snapshots.proofs.Room.{event_roomy}
use Rattle.mp_team_snapshots.proofs.Worlds.{note_at, note_of, team_numbers, to_view, view}
use Rattle.mp_team_states.proofs.WorldsGrow.{IsTaking, taking}
use Rattle.mp_team_verdicts.specs.Ending.{Stage, due, end_messages, is_of_end}
use Rattle.mp_team_verdicts.specs.Ending.Stage.{over, picking, searching, walking, without_plan}
use Rattle.mp_team_verdicts.proofs.EndMessages.{ends_to}
use Rattle.mp_team_verdicts.proofs.Fitting.{AllFit, ends_next}
use Rattle.mp_team_verdicts.proofs.Frames.{IsKnownWorld, end_others, end_taken, ends_left}
use Rattle.mp_team_verdicts.proofs.Stays.{event_comes}
use Rattle.mp_team_verdicts.proofs.Calm.{Reached}
use Rattle.mp_team_verdicts.proofs.ReachedWorlds.{known}
use Rattle.mp_team_verdicts.proofs.Stuck.{ends, is_agent}

-- ---- one message at most

none_of : (ms : List Message) → length ms ≡ 0 → ms ≡ []
none_of [] none = refl
none_of (m ∷ ms) none = absurd (omega arith)

at_most_one : (test : Bool) (m : Message) → length (one_if_due test m) ≤ 1
at_most_one true m = omega arith
at_most_one false m = omega arith

one_is_due : (stage : Stage) (i j : ℕ) (going : Bool) → length (due stage i j going) ≤ 1
one_is_due searching i j going = omega arith
one_is_due (without_plan kind) i j going = at_most_one (i == 1 && going) (Done kind)
one_is_due (picking agent number plan) i j going = at_most_one (i == 1 && agent == j) (Pick number)
one_is_due (walking from to sent earlier later) i j going = at_most_one (i == from && to == j) (Trace sent (length later))
one_is_due (over by plan) i j going = at_most_one (i == by && going) (Length (length plan))

-- of one message at most there is no other one
pub alone : (ms before after : List Message) (m : Message) → length ms ≤ 1 → ms ≡ before ++ m ∷ after → ms ≡ m ∷ []
alone ms before after m few is =
    let long = ap length is in
    let parts = length-append before (m ∷ after) in
    let none = none_of before (omega arith) in
    let none_too = none_of after (omega arith) in
    is ∙ (λ k. none k ++ m ∷ none_too k)

module _ (team : Team) (is_team : IsTeam team) (publics : ℕ) (of_team : IsTeamOf publics team.tasks) where
  open team use {tasks, value}

  abbrev n : ℕ
  n = length tasks

  abbrev At : World → Type 0
  At = Reached team is_team publics of_team

  pub is_known : (w : World) → At w → IsKnownWorld publics tasks w
  is_known = known team is_team publics of_team

  -- from one agent to another one is under way at most
  pub few_ends : (w : World) → At w → (i j : ℕ) → IsOf n i → IsOf n j → length (end_messages publics w i j) ≤ 1
  few_ends w at i j is_i is_j =
      let e = ends team is_team publics of_team w at in
      let who = agent_there w j (is_agent team is_team publics of_team w at j is_j) in
      let few = one_is_due e.stage i j (is_going who.0.ending) in
      let same = ap length (e.is.mail i j who.0 (is_agent team is_team publics of_team w at i is_i) who.1) in
      omega arith

  -- what goes out in an event fits
  module _ (w next : World) (event : Event) (at : At w) (at_next : At next) (step : IsStepOf value w event next) where
    room : All (λ x. HasRoom x.message) step.step.out
    room =
        let k = is_known w at in
        let sound = k.in_runs.sound in
        let seen : Sound (length tasks) (view publics w) = to_view publics tasks of_team w (team_numbers publics tasks of_team w k.team) sound in
        let small : (note_at w 1).number < 2 ^ 60 =
        subst (λ s. s.number < 2 ^ 60) (sym (note_of w 1 sound.first sound.first_there)) (k.in_runs.room 1 sound.first sound.first_there).number in
        (event_roomy value publics tasks of_team w k.team seen small event next step (k.in_runs.room (agent_of event) step.agent step.there)).sends.fits

    fits : AllFit (length tasks) publics step.step.out
    fits =
        let e = ends team is_team publics of_team w at in
        let later = ends team is_team publics of_team next at_next in
        (event_comes value publics tasks is_team.tasks of_team w next (is_known w at) (is_known next at_next) later.goals event step room e.stage e.is).fits

    -- what is left of the messages from one agent to another
    abbrev pub left_of : ℕ → ℕ → List Message
    left_of i j = filter is_of_end (left value publics tasks of_team w (is_known w at).team event next step i j)

    pub ends_after : (i j : ℕ) → IsOf n i → IsOf n j
        → end_messages publics next i j ≡ left_of i j ++ (if i == agent_of event then ends_to j step.step.out else [])
    ends_after = ends_next value publics tasks of_team w (is_known w at).team event next step fits

    -- the event's agent takes a message of the end from another one
    pub record TakesEnd (i j : ℕ) : Type 0 where
      pub agent_is : j ≡ agent_of event
      pub message : Message
      pub took : took_message (value step.agent.task) step.agent i message ≡ Ok step.step
      pub first : end_messages publics w i j ≡ message ∷ left_of i j

  -- all are left, or the first of them is taken
  pub left_or_taken : (w next : World) (event : Event) (at : At w) (at_next : At next) (step : IsStepOf value w event next) (i j : ℕ) → IsOf n i → IsOf n j
      → (left_of w next event at at_next step i j ≡ end_messages publics w i j) ⊎ TakesEnd w next event at at_next step i j
  left_or_taken w next (Expand agent) at at_next step i j is_i is_j =
      inl (ap (filter is_of_end) (sym (messages_before value publics tasks of_team w (is_known w at).team (Expand agent) next step i j)))
  left_or_taken w next Start at at_next step i j is_i is_j =
      inl (ap (filter is_of_end) (sym (messages_before value publics tasks of_team w (is_known w at).team Start next step i j)))
  left_or_taken w next (Take b a) at at_next step i j is_i is_j = by (is_of_end t.message) refl (pair i j a b)
    where
      t : IsTaking (value step.agent.task) step.agent a (taken w (Take b a)) step.step
      t = taking (value step.agent.task) step.agent a (taken w (Take b a)) step.step step.local

      by : (end : Bool) → is_of_end t.message ≡ end → ((i ≡ a) × (j ≡ b)) ⊎ ((i ≢ a) ⊎ (j ≢ b))
          → (left_of w next (Take b a) at at_next step i j ≡ end_messages publics w i j) ⊎ TakesEnd w next (Take b a) at at_next step i j
      by false other p = inl (ends_left value publics tasks of_team w (is_known w at).team b a next step t.message t.reads other i j is_i is_j)
      by true is_end (inr apart) = inl (end_others value publics tasks of_team w (is_known w at).team b a next step t.message t.reads i j is_i is_j apart)
      by true is_end (inl same) = inr (record {
        agent_is = same.1;
        message = t.message;
        took = subst (λ (k : ℕ). took_message (value step.agent.task) step.agent k t.message ≡ Ok step.step) (sym same.0) t.took;
        first =
            subst (λ (k : ℕ). end_messages publics w k j ≡ t.message ∷ left_of w next (Take b a) at at_next step k j) (sym same.0)
            (subst (λ (k : ℕ). end_messages publics w a k ≡ t.message ∷ left_of w next (Take b a) at at_next step a k) (sym same.1)
            (end_taken value publics tasks of_team w (is_known w at).team b a next step t.message t.reads is_end));
      })

  -- a message that is not taken is still the only one
  pub still_waits : (w next : World) (event : Event) (at : At w) (at_next : At next) (step : IsStepOf value w event next) (i j : ℕ) → IsOf n i → IsOf n j
      → (m : Message) → end_messages publics w i j ≡ m ∷ [] → left_of w next event at at_next step i j ≡ end_messages publics w i j
      → end_messages publics next i j ≡ m ∷ []
  still_waits w next event at at_next step i j is_i is_j m waits kept =
      let out = if i == agent_of event then ends_to j step.step.out else [] in
      alone (end_messages publics next i j) [] out m (few_ends next at_next i j is_i is_j)
      (ends_after w next event at at_next step i j is_i is_j ∙ ap (λ (ms : List Message). ms ++ out) (kept ∙ waits))
