-- What an event does to the notes and to the search of its agent.
use Rattle.mp_world.proofs.Basics.{◌≡◌, ◌≢◌, ℕ, ◌+◌, ◌-◌, ◌≤◌, ◌<◌, true, false, List, replicate, refl, sym, ap, subst, ◌∙◌, arith, ◌⊎◌, inl, inr, None, Option, Some, slice_set, cases_eq, length-replicate, none-some}
use Rattle.mp_messages.specs.declared.message.Message.TheVariants.{State as AState}
use Rattle.mp_world.specs.AgentWords.{AgentTask, Event, Expand, Take, Start, Findings, Message, Marker, Report, Pick, Trace, Length, Done, State, message_of, Notes, after_report, after_state, begun, has, with_marker, AgentRecord, with_search, Step, findings, started}
use Rattle.mp_world.specs.SearchWords.{expanded}
use Rattle.mp_world.specs.Events.{agent_of, taken}
use Rattle.mp_world.specs.Steps.{IsStepOf}
use Rattle.mp_world.specs.Values.{Values}
use Rattle.mp_world.specs.World.{IsTeamWorld, World}
use Rattle.mp_team_snapshots.specs.Snapshots.{AreNotesOf}
use Rattle.mp_team_snapshots.specs.Team.{IsTeamOf}
use Rattle.mp_team_snapshots.proofs.Effects.{Effect, IsBegun, IsMarkedOn, same_step, took_effect}
use Rattle.mp_team_snapshots.proofs.NotePlaces.{has_set_other, has_set_same}
use Rattle.mp_team_snapshots.proofs.Protocol.{IsOf}
use Rattle.mp_team_snapshots.proofs.Started.{start_effect}
use Rattle.mp_team_snapshots.proofs.TakingFirst.{apart, is_sender}
use Rattle.mp_team_verdicts.proofs.CountedStates.{counted_has}

-- How the notes of an agent change, where it took a message or none: not at all, by a state that is counted, by a marker of
-- the snapshot that is under way, by a report of another agent, or a snapshot begins, by a marker or by itself.
pub data Moves (agent : ℕ) (message : Option Message) (r s : AgentRecord) : Type 0 where
  stays : s.snapshot ≡ r.snapshot → Moves agent message r s
  counts :
      (from : ℕ) (m : State) → message ≡ Some (AState m)
      → s.snapshot ≡ after_state r.snapshot from (m.g + m.h)
      → Moves agent message r s
  marks : (from : ℕ) → 1 ≤ from → s.snapshot ≡ with_marker r.snapshot from → Moves agent message r s
  reports :
      (from : ℕ) (found : Findings) → 1 ≤ from → from ≢ agent
      → s.snapshot ≡ after_report r.snapshot from found
      → Moves agent message r s
  begins :
      (from : ℕ) → r.snapshot.me ≢ 1
      → s.snapshot ≡ with_marker (begun r.snapshot (r.snapshot.number + 1) (findings r)) from
      → Moves agent message r s
  starts : s.snapshot ≡ begun r.snapshot (r.snapshot.number + 1) (findings r) → Moves agent message r s

message_moves : (agent : ℕ) (r : AgentRecord) (from : ℕ) (m : Message) (s : Step) → 1 ≤ from → from ≢ agent → Effect r from m s
    → Moves agent (Some m) r s.after
message_moves agent r from (AState m) s low off effect = counts from m refl effect.snapshot
message_moves agent r from (Marker number) s low off effect = by effect
  where
    by : IsMarkedOn r from number s ⊎ IsBegun r from number s → Moves agent (Some (Marker number)) r s.after
    by (inl on) = marks from low on.snapshot
    by (inr new) =
        begins from new.other
        (new.snapshot ∙ ap (λ n. with_marker (begun r.snapshot n (findings r)) from) new.next)
message_moves agent r from (Report found) s low off effect = reports from found low off effect.snapshot
message_moves agent r from (Pick number) s low off effect = stays effect.snapshot
message_moves agent r from (Trace sent back) s low off effect = stays effect.snapshot
message_moves agent r from (Length plan) s low off effect = stays effect.snapshot
message_moves agent r from (Done kind) s low off effect = stays effect.snapshot

-- the event takes a message
abbrev pub Takes : Event → Type 0
Takes (Expand agent) = ⊥
Takes (Take by from) = Unit {0}
Takes Start = ⊥

-- what an event does to the notes of its agent, and the message that it takes, if it takes one
pub record HasMoved
    (value : Values)
    (w : World)
    (event : Event)
    (next : World)
    (step : IsStepOf value w event next)
    : Type 0 where
  pub message : Option Message
  pub moves : Moves (agent_of event) message step.agent step.step.after
  pub reads :
      (m : Message) → message ≡ Some m
      → Takes event × (message_of step.agent.task.agents step.agent.task.publics (taken w event) ≡ Some m)

module _ (value : Values) (publics : ℕ) (tasks : List AgentTask)
    (team : IsTeamOf publics tasks) (w : World) (is : IsTeamWorld tasks w) where
  pub moved : (event : Event) (next : World) (step : IsStepOf value w event next) → HasMoved value w event next step
  moved (Expand agent) next step =
      let r = step.agent in
      record {
        message = None;
        moves = stays (ap (λ (s : Step). s.after.snapshot)
            (sym (same_step (with_search r (expanded r.task (value r.task) r.search)) step.step step.local)));
        reads = λ m is_m. absurd (none-some m is_m);
      }
  moved (Take b a) next step =
      let r = step.agent in
      let took = took_effect (value r.task) r a (taken w (Take b a)) step.step step.local in
      record {
        message = Some took.message;
        moves = message_moves b r a took.message step.step (is_sender value publics tasks team w is b a next step).from_1
            (apart value publics tasks team w is b a next step) took.effect;
        reads = λ m is_m. (tt, took.read ∙ is_m);
      }
  moved Start next step =
      let r = step.agent in
      record {
        message = None;
        moves = starts (ap (λ (s : Step). s.after.snapshot) (sym (same_step (started r) step.step step.local))
            ∙ (start_effect r).snapshot);
        reads = λ m is_m. absurd (none-some m is_m);
      }

-- ---- agent 1 has its own findings

-- an agent that has begun a snapshot has its own findings
pub record ListsItself (s : Notes) : Type 0 where
  pub listed : 0 < s.number → has s.reported s.me ≡ true

module _ (agents me : ℕ) (small : agents ≤ 16) (is_me : IsOf agents me) where
  low_me : 1 ≤ me
  low_me = is_me.from_1

  high_me : me ≤ 16
  high_me = let high = is_me.at_most in omega arith

  begun_listed : (s : Notes) (number : ℕ) (mine : Findings) → AreNotesOf agents me s → has (begun s number mine).reported s.me ≡ true
  begun_listed s number mine notes =
      let is = notes.me in
      let low = low_me in
      let high = high_me in
      has_set_same (replicate 16 false) s.me (omega arith) (omega arith) (length-replicate 16 false)

  report_listed : (s : Notes) (from : ℕ) → 1 ≤ from → AreNotesOf agents me s → has s.reported s.me ≡ true
      → has (slice_set s.reported (from - 1) true) s.me ≡ true
  report_listed s from low notes before = by (cases_eq s.me from)
    where
      low_s : 1 ≤ s.me
      low_s = let is = notes.me in let low = low_me in omega arith

      high_s : s.me ≤ 16
      high_s = let is = notes.me in let high = high_me in omega arith

      by : (s.me ≡ from) ⊎ (s.me ≡ from → ⊥) → has (slice_set s.reported (from - 1) true) s.me ≡ true
      by (inl same) =
          subst (λ k. has (slice_set s.reported (k - 1) true) s.me ≡ true) same
          (has_set_same s.reported s.me low_s high_s notes.reported)
      by (inr other) = has_set_other s.reported s.me from low_s low other ∙ before

  listed_counted : (s : Notes) (from f : ℕ) → ListsItself s → ListsItself (after_state s from f)
  listed_counted s from f old = counted_has ListsItself s from f old (record { listed = old.listed })

  pub lists_itself : (o : Option Message) (r s : AgentRecord) → AreNotesOf agents me r.snapshot → Moves me o r s → ListsItself r.snapshot → ListsItself s.snapshot
  lists_itself o r s notes (stays is) old = subst ListsItself (sym is) old
  lists_itself o r s notes (counts from m state is) old = subst ListsItself (sym is) (listed_counted r.snapshot from (m.g + m.h) old)
  lists_itself o r s notes (marks from low is) old = subst ListsItself (sym is) (record { listed = old.listed })
  lists_itself o r s notes (reports from found low off is) old =
      subst ListsItself (sym is)
      (record { listed = λ some. report_listed r.snapshot from low notes (old.listed some) })
  lists_itself o r s notes (begins from other is) old =
      subst ListsItself (sym is)
      (record { listed = λ some. begun_listed r.snapshot (r.snapshot.number + 1) (findings r) notes })
  lists_itself o r s notes (starts is) old =
      subst ListsItself (sym is)
      (record { listed = λ some. begun_listed r.snapshot (r.snapshot.number + 1) (findings r) notes })
