-- The numbers of all agents stay such as messages have room for, and so are the markers and the reports that go out.
use Rattle.mp_world.proofs.Basics.{◌≡◌, ℕ, ◌+◌, ◌≤◌, ◌<◌, ◌^◌, Bool, true, false, List, ◌∷◌, length, Some, refl, sym, ap, subst, ◌∙◌, arith, inl, inr, if◌then◌else◌, filter_map, and_parts}
use Rattle.mp_messages.specs.declared.message.Message.TheVariants.{State as AState}
use Rattle.mp_snapshot.specs.Rules.{with_state}
use Rattle.mp_machine.proofs.NotesLemmas.{own_begun, own_fits_state, own_reported}
use Rattle.mp_machine.proofs.StepLemmas.{start_parts}
use Rattle.mp_world.specs.AgentWords.{AgentTask, Event, Expand, Take, Start, Findings, Message, Marker, Report, Pick, Trace, Length, Done, message_of, AreFindings, Notes, after_report, after_state, begun, is_counted, own, with_marker, AgentRecord, is_going, may_start}
use Rattle.mp_world.specs.AgentWords.{with_search, Step, findings, started}
use Rattle.mp_world.specs.SearchWords.{expanded}
use Rattle.mp_world.specs.Events.{taken}
use Rattle.mp_world.specs.Steps.{IsStepOf}
use Rattle.mp_world.specs.Values.{Values}
use Rattle.mp_world.specs.World.{IsTeamWorld, World}
use Rattle.mp_team_snapshots.specs.Messages.{marker_of, markers}
use Rattle.mp_team_snapshots.specs.Snapshots.{AreNotesOf}
use Rattle.mp_team_snapshots.specs.Team.{IsTeamOf, SendsFitting}
use Rattle.mp_team_snapshots.proofs.Changes.{left, note_before}
use Rattle.mp_team_snapshots.proofs.Costs.{AreSmall, expanded_small, found_small}
use Rattle.mp_team_snapshots.proofs.Due.{marker_there}
use Rattle.mp_team_snapshots.proofs.Effects.{Effect, IsBegun, IsMarkedOn, IsReported, same_step, took_effect}
use Rattle.mp_team_snapshots.proofs.Protocol.{IsOf, Sound}
use Rattle.mp_team_snapshots.proofs.Quiet.{IsQuiet, expansion_quiet}
use Rattle.mp_team_snapshots.proofs.ReadCosts.{read_small}
use Rattle.mp_team_snapshots.proofs.Started.{IsStarted, start_effect}
use Rattle.mp_team_snapshots.proofs.TakingFirst.{apart, is_receiver, is_sender, taken_first}
use Rattle.mp_team_snapshots.proofs.Worlds.{is_of_there, note_at, team_numbers, view}

-- the number of an agent's snapshot, what it found and the costs of its entries are such as messages have room for
pub record IsRoomy (r : AgentRecord) : Type 0 where
  pub number : r.snapshot.number < 2 ^ 60
  pub own : AreFindings (own r.snapshot)
  pub entries : AreSmall r.search.kept

-- so it is after a step, and what went out has room
pub record StaysRoomy (s : Step) : Type 0 where
  pub after : IsRoomy s.after
  pub sends : SendsFitting s

counted_number : (s : Notes) (from f : ℕ) → (after_state s from f).number ≡ s.number
counted_number s from f = by (is_counted s from)
  where
    by : (b : Bool) → (if b then with_state s f else s).number ≡ s.number
    by true = refl
    by false = refl

-- an agent with other notes and the same search
roomy : (r s : AgentRecord) (notes : Notes) → s.snapshot ≡ notes → s.search ≡ r.search → IsRoomy r → notes.number < 2 ^ 60
    → AreFindings (own notes) → IsRoomy s
roomy r s notes snapshot search room number found = record {
  number = subst (λ t. t.number < 2 ^ 60) (sym snapshot) number;
  own = subst (λ t. AreFindings (own t)) (sym snapshot) found;
  entries = subst (λ t. AreSmall t.kept) (sym search) room.entries;
}

quiet_roomy : (r : AgentRecord) (s : Step) → IsRoomy r → IsQuiet r s → StaysRoomy s
quiet_roomy r s room quiet = record {
  after = roomy r s.after r.snapshot quiet.snapshot quiet.search room room.number room.own;
  sends = record { fits = quiet.silent.room };
}

-- ---- markers and reports

module _ (agents : ℕ) (small : agents ≤ 16) (r : AgentRecord) (b : ℕ) (notes : AreNotesOf agents b r.snapshot) (is_b : IsOf agents b) (room : IsRoomy r) where
  low : 1 ≤ r.snapshot.me
  low = let me = notes.me in let from_1 = is_b.from_1 in omega arith

  high : r.snapshot.me ≤ 16
  high = let me = notes.me in let at_most = is_b.at_most in omega arith

  new_findings : (number : ℕ) → number < 2 ^ 60 → AreFindings (own (begun r.snapshot number (findings r)))
  new_findings number fits =
      subst AreFindings (sym (own_begun r.snapshot number (findings r) low high)) (found_small r.limit number r.search room.entries fits)

  pub marked_on_roomy : (from number : ℕ) (s : Step) → IsMarkedOn r from number s → StaysRoomy s
  marked_on_roomy from number s effect =
      let after = roomy r s.after (with_marker r.snapshot from) effect.snapshot effect.search room room.number room.own in
      record { after = after; sends = record { fits = effect.room after.own } }

  pub begun_roomy : (from number : ℕ) (s : Step) → number < 2 ^ 60 → IsBegun r from number s → StaysRoomy s
  begun_roomy from number s fits effect =
      let notes = with_marker (begun r.snapshot number (findings r)) from in
      let after = roomy r s.after notes effect.snapshot effect.search room fits (new_findings number fits) in
      record { after = after; sends = record { fits = effect.room fits after.own } }

  pub started_roomy : (s : Step) → r.snapshot.number + 1 < 2 ^ 60 → IsStarted r s → StaysRoomy s
  started_roomy s fits effect =
      let number = r.snapshot.number + 1 in
      record {
        after = roomy r s.after (begun r.snapshot number (findings r)) effect.snapshot effect.search room fits (new_findings number fits);
        sends = record { fits = effect.room fits };
      }

-- ---- any event

module _ (value : Values) (publics : ℕ) (tasks : List AgentTask) (team : IsTeamOf publics tasks) (w : World)
    (is : IsTeamWorld tasks w) (before : Sound (length tasks) (view publics w)) (first : (note_at w 1).number < 2 ^ 60) where
  expansion_roomy : (agent : ℕ) (next : World) (step : IsStepOf value w (Expand agent) next) → IsRoomy step.agent → StaysRoomy step.step
  expansion_roomy agent next step room =
      let r = step.agent in
      let made = expanded r.task (value r.task) r.search in
      subst StaysRoomy (same_step (with_search r made) step.step step.local) (record {
        after = record { number = room.number; own = room.own; entries = expanded_small r.task (value r.task) r.search room.entries };
        sends = record { fits = (expansion_quiet r made).silent.room };
      })

  start_roomy : (next : World) (step : IsStepOf value w Start next) → IsRoomy step.agent → StaysRoomy step.step
  start_roomy next step room =
      let r = step.agent in
      let is_1 = is_of_there publics tasks team w (team_numbers publics tasks team w is) 1 r step.there in
      let notes = subst (AreNotesOf (length tasks) 1) (note_before value publics tasks team w is Start next step) (before.notes 1 is_1) in
      subst StaysRoomy (same_step (started r) step.step step.local)
      (started_roomy (length tasks) team.agents r 1 notes is_1 room (started r)
      (start_parts r (and_parts (is_going r.ending) (may_start r) step.may).1).room (start_effect r))

  module _ (b a : ℕ) (next : World) (step : IsStepOf value w (Take b a) next) (room : IsRoomy step.agent) where
    is_a : IsOf (length tasks) a
    is_a = is_sender value publics tasks team w is b a next step

    is_b : IsOf (length tasks) b
    is_b = is_receiver value publics tasks team w is b a next step

    notes : AreNotesOf (length tasks) b step.agent.snapshot
    notes = subst (AreNotesOf (length tasks) b) (note_before value publics tasks team w is (Take b a) next step) (before.notes b is_b)

    abbrev Reads : Message → Type 0
    Reads m = message_of step.agent.task.agents step.agent.task.publics (taken w (Take b a)) ≡ Some m

    -- the marker that begins a snapshot is that of agent 1's last one
    marker_small : (number : ℕ) → Reads (Marker number) → number < 2 ^ 60
    marker_small number read =
        let rest = filter_map marker_of (left value publics tasks team w is (Take b a) next step a b) in
        let front : markers publics w a b ≡ number ∷ rest =
        ap (filter_map marker_of) (taken_first value publics tasks team w is b a next step (Marker number) read) in
        let there = marker_there (note_at w 1).number (note_at w a).number (note_at w b).number number _ rest
        (sym front ∙ before.marker a b is_a is_b (apart value publics tasks team w is b a next step)) in
        subst (λ n. n < 2 ^ 60) (sym there.number) first

    reported_roomy : (found : Findings) → IsReported step.agent a found step.step → StaysRoomy step.step
    reported_roomy found effect =
        let r = step.agent in
        let me = notes.me in
        let same =
        own_reported r.snapshot a found (low (length tasks) team.agents r b notes is_b room) is_a.from_1
        (λ same. apart value publics tasks team w is b a next step (same ∙ me))
        in
        record {
          after =
              roomy r step.step.after (after_report r.snapshot a found) effect.snapshot effect.search room room.number
              (subst AreFindings (sym same) room.own);
          sends = record { fits = effect.silent.room };
        }

    message_roomy : (m : Message) → Reads m → Effect step.agent a m step.step → StaysRoomy step.step
    message_roomy (AState m) read effect =
        let r = step.agent in
        let f_small = read_small r.task.agents r.task.publics (taken w (Take b a)) m read in
        record {
          after = record {
            number = subst (λ t. t.number < 2 ^ 60) (sym effect.snapshot) (subst (λ n. n < 2 ^ 60) (sym (counted_number r.snapshot a (m.g + m.h))) room.number);
            own = subst (λ t. AreFindings (own t)) (sym effect.snapshot) (own_fits_state r.snapshot a (m.g + m.h) f_small room.own);
            entries = effect.small room.entries;
          };
          sends = record { fits = effect.silent.room };
        }
    message_roomy (Marker number) read (inl on) = marked_on_roomy (length tasks) team.agents step.agent b notes is_b room a number step.step on
    message_roomy (Marker number) read (inr begins) =
        begun_roomy (length tasks) team.agents step.agent b notes is_b room a number step.step (marker_small number read) begins
    message_roomy (Report found) read effect = reported_roomy found effect
    message_roomy (Pick number) read quiet = quiet_roomy step.agent step.step room quiet
    message_roomy (Trace sent back) read quiet = quiet_roomy step.agent step.step room quiet
    message_roomy (Length plan) read quiet = quiet_roomy step.agent step.step room quiet
    message_roomy (Done kind) read quiet = quiet_roomy step.agent step.step room quiet

    take_roomy : StaysRoomy step.step
    take_roomy =
        let it = took_effect (value step.agent.task) step.agent a (taken w (Take b a)) step.step step.local in
        message_roomy it.message it.read it.effect

  pub event_roomy : (event : Event) (next : World) (step : IsStepOf value w event next) → IsRoomy step.agent → StaysRoomy step.step
  event_roomy (Expand agent) next step room = expansion_roomy agent next step room
  event_roomy (Take b a) next step room = take_roomy b a next step room
  event_roomy Start next step room = start_roomy next step room
