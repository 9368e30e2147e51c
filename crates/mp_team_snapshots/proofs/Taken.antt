-- What an agent of a world does at an event, as far as snapshots go.
use Rattle.mp_world.proofs.Basics.{◌≡◌, ◌≢◌, ℕ, ◌+◌, ◌<◌, ◌^◌, true, List, ◌∷◌, length, Some, refl, sym, ap, subst, ◌∙◌, arith, ◌⊎◌, inl, inr, filter_map, leb-true, All-contains}
use Rattle.mp_world.specs.AgentWords.{AgentTask, Event, Expand, Take, Start, Marker, message_of, spelling, begun, has, AgentRecord, with_search, others, findings, started}
use Rattle.mp_world.specs.SearchWords.{expanded}
use Rattle.mp_world.specs.Events.{agent_of, taken}
use Rattle.mp_world.specs.Steps.{IsStepOf}
use Rattle.mp_world.specs.Values.{Values}
use Rattle.mp_world.specs.World.{IsTeamWorld, World, agent_at, under_way}
use Rattle.mp_world.proofs.Agents.{member_of}
use Rattle.mp_team_snapshots.specs.Messages.{marker_of, markers}
use Rattle.mp_team_snapshots.specs.Snapshots.{AreNotesOf}
use Rattle.mp_team_snapshots.specs.Team.{IsTeamOf}
use Rattle.mp_team_snapshots.proofs.Changes.{note_before}
use Rattle.mp_team_snapshots.proofs.Due.{IsMarker, marker_there}
use Rattle.mp_team_snapshots.proofs.Effects.{same_step}
use Rattle.mp_team_snapshots.proofs.InRuns.{HoldsInRuns}
use Rattle.mp_team_snapshots.proofs.Protocol.{IsOf, Sound}
use Rattle.mp_team_snapshots.proofs.Reading.{read_first}
use Rattle.mp_team_snapshots.proofs.TakingFirst.{apart, is_receiver, is_sender}
use Rattle.mp_team_snapshots.proofs.Worlds.{is_of_there, note_at, team_numbers, to_view, view}
use Rattle.mp_team_snapshots.specs.Found.{messages_in}
use Rattle.mp_team_snapshots.proofs.Acting.{Begins, Keeps, Starts, TookBytes, start_begins, start_starts, took_bytes}
use Rattle.mp_team_snapshots.proofs.Acting.{took_passes}
use Rattle.mp_team_snapshots.proofs.Both.{Both, Cutting, recorded}
use Rattle.mp_team_snapshots.proofs.Moving.{taken_front}
use Rattle.mp_team_snapshots.proofs.Readings.{bytes_f}

-- the cut of a team at the snapshot of a number, in a world and in the one after the cut
abbrev pub cutting : ℕ → ℕ → ℕ → Cutting
cutting agents publics k = record {
  number = k;
  marker = spelling (Marker k);
  cost = bytes_f agents publics;
  others = λ j. others j agents;
  size = agents;
}

abbrev pub both : World → World → (ℕ → ℕ → List (List ℕ)) → Both
both w c counted = record {
  note = note_at w;
  first = under_way w;
  second = under_way c;
  counted = counted;
}

module _ (value : Values) (publics : ℕ) (tasks : List AgentTask)
    (team : IsTeamOf publics tasks) (w : World)
    (is : IsTeamWorld tasks w) (holds : HoldsInRuns publics w) where
  pub sound_view : Sound (length tasks) (view publics w)
  sound_view = to_view publics tasks team w (team_numbers publics tasks team w is) holds.sound

  module _ (event : Event) (next : World) (step : IsStepOf value w event next) where
    pub is_its : IsOf (length tasks) (agent_of event)
    is_its =
        is_of_there publics tasks team w (team_numbers publics tasks team w is) (agent_of event) step.agent step.there

    pub its_notes : AreNotesOf (length tasks) (agent_of event) step.agent.snapshot
    its_notes =
        subst (AreNotesOf (length tasks) (agent_of event)) (note_before value publics tasks team w is event next step)
        (sound_view.notes (agent_of event) is_its)

  -- an agent expands
  pub expansion_keeps : (agent : ℕ) (next : World) (step : IsStepOf value w (Expand agent) next)
      → Keeps step.agent step.step.after × (step.step.after.snapshot ≡ step.agent.snapshot)
  expansion_keeps agent next step =
      let r = step.agent in
      let made = expanded r.task (value r.task) r.search in
      subst (λ s. Keeps r s.after × (s.after.snapshot ≡ r.snapshot))
      (same_step (with_search r made) step.step step.local)
      (record { limit = refl; number = refl; noted = refl; goal = refl; least = refl; cost = refl; spent = refl }, refl)

  -- agent 1 starts a snapshot
  pub starting : (next : World) (step : IsStepOf value w Start next)
      → Begins step.agent (step.agent.snapshot.number + 1)
      (begun step.agent.snapshot (step.agent.snapshot.number + 1) (findings step.agent)) step.step
  starting next step =
      let r = step.agent in
      subst (Begins r (r.snapshot.number + 1) (begun r.snapshot (r.snapshot.number + 1) (findings r)))
      (same_step (started r) step.step step.local) (start_begins r)

  -- an agent takes a message
  module _ (b a : ℕ) (next : World) (step : IsStepOf value w (Take b a) next) where
    pub is_a : IsOf (length tasks) a
    is_a = is_sender value publics tasks team w is b a next step

    pub is_b : IsOf (length tasks) b
    is_b = is_receiver value publics tasks team w is b a next step

    pub a_b : a ≢ b
    a_b = apart value publics tasks team w is b a next step

    pub taking : TookBytes (length tasks) b team.agents step.agent (its_notes (Take b a) next step) is_b
        (value step.agent.task) a is_a a_b (taken w (Take b a)) step.step
    taking =
        took_bytes (length tasks) b team.agents step.agent (its_notes (Take b a) next step) is_b
        (value step.agent.task) a is_a a_b (taken w (Take b a)) step.step step.local

    -- the receiver reads messages as those of its team
    pub read_in_team : message_of (length tasks) publics (taken w (Take b a)) ≡ Some taking.message
    read_in_team =
        let of = member_of tasks team.numbered w is b step.agent step.there in
        let alike = All-contains (λ t. t.publics ≡ publics) tasks step.agent.task team.alike of.task in
        let agents = of.agents in
        sym (λ i. message_of (agents i) (alike i) (taken w (Take b a))) ∙ taking.read

    -- a marker that is taken is the only one, and that of the last snapshot
    pub only_marker : (number : ℕ) → taking.message ≡ Marker number
        → IsMarker (note_at w 1).number (note_at w a).number (note_at w b).number number (has (note_at w b).marked a)
        (filter_map marker_of (messages_in (length tasks) publics (under_way next a b)))
    only_marker number is_marker =
        let x = taken w (Take b a) in
        let rest = under_way next a b in
        let size = (team_numbers publics tasks team w is).size in
        let front : markers publics w a b ≡ number ∷ filter_map marker_of (messages_in (length tasks) publics rest) =
        ap (λ m. filter_map marker_of (messages_in m publics (under_way w a b))) size
        ∙ ap (λ ms. filter_map marker_of (messages_in (length tasks) publics ms))
        (taken_front value publics tasks team w is b a next step)
        ∙ ap (filter_map marker_of)
        (read_first (length tasks) publics x rest (Marker number) (read_in_team ∙ ap Some is_marker)) in
        marker_there (note_at w 1).number (note_at w a).number (note_at w b).number number (has (note_at w b).marked a)
        (filter_map marker_of (messages_in (length tasks) publics rest))
        (sym front ∙ sound_view.marker a b is_a is_b a_b)

  -- the last snapshot of an agent stays, or a new one begins
  pub passes : (event : Event) (next : World) (step : IsStepOf value w event next)
      → Keeps step.agent step.step.after ⊎ Starts step.agent step.step.after
  passes (Expand agent) next step = inl (expansion_keeps agent next step).0
  passes (Take b a) next step =
      let t = taking b a next step in
      took_passes (length tasks) b team.agents step.agent (its_notes (Take b a) next step) (is_b b a next step)
      (value step.agent.task) a (is_a b a next step) (a_b b a next step) t.message step.step t.took
  passes Start next step =
      inr (start_starts (length tasks) 1 team.agents step.agent (its_notes Start next step)
      (is_its Start next step) step.step (starting next step))

  -- a number of a snapshot that an agent has recorded is such as messages have room for
  pub small_number : (k : ℕ) (agent : ℕ) (r : AgentRecord) → agent_at w agent ≡ Some r → recorded k r.snapshot ≡ true
      → k < 2 ^ 60
  small_number k agent r there is_recorded =
      let low = leb-true k r.snapshot.number is_recorded in
      let high = (holds.room agent r there).number in
      omega arith
