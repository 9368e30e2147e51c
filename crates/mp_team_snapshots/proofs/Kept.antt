-- Snapshots are sound at the start, and each event keeps them so.
use Rattle.mp_world.proofs.Basics.{◌≡◌, ℕ, zero, suc, ◌+◌, ◌-◌, false, List, [], length, replicate, Some, None, refl, sym, ap, subst, ◌∙◌, arith, inl, inr, nat_lt, slice_index_or, filter_map, and_left, get_or-replicate, length-replicate}
use Rattle.mp_messages.specs.declared.message.Message.TheVariants.{State as AState}
use Rattle.mp_world.specs.AgentWords.{AgentTask, Event, Expand, Take, Start, Message, Marker, Report, Pick, Trace, Length, Done, message_of, before_all, has, is_whole, nothing, own, with_search}
use Rattle.mp_world.specs.SearchWords.{expanded}
use Rattle.mp_world.specs.Events.{taken}
use Rattle.mp_world.specs.Steps.{IsStepOf}
use Rattle.mp_world.specs.Team.{Team}
use Rattle.mp_world.specs.Values.{Values}
use Rattle.mp_world.specs.World.{IsTeamWorld, World, start_world, under_way}
use Rattle.mp_world.proofs.Agents.{agent_there, member_of}
use Rattle.mp_world.proofs.LogOfRun.{new_at}
use Rattle.mp_world.proofs.Stepping.{start_is_team}
use Rattle.mp_team_snapshots.specs.Messages.{marker_of, messages, report_of}
use Rattle.mp_team_snapshots.specs.Snapshots.{AreNotesOf, AreSnapshotsSound}
use Rattle.mp_team_snapshots.specs.Team.{IsTeamOf, SendsFitting}
use Rattle.mp_team_snapshots.proofs.Changes.{left, messages_before, note_before, numbers_next}
use Rattle.mp_team_snapshots.proofs.Counting.{Counts, counts_nothing}
use Rattle.mp_team_snapshots.proofs.Due.{apart_bools, no_marker_begun, no_report_done, none_begun}
use Rattle.mp_team_snapshots.proofs.Effects.{Effect, same_step, took_effect}
use Rattle.mp_team_snapshots.proofs.Protocol.{IsOf, Sound}
use Rattle.mp_team_snapshots.proofs.Quiet.{IsQuiet, IsSearched, expansion_quiet}
use Rattle.mp_team_snapshots.proofs.Quietly.{counts_state, quietly_sound}
use Rattle.mp_team_snapshots.proofs.Started.{start_sound}
use Rattle.mp_team_snapshots.proofs.TakenMarker.{begins_sound, marked_on_sound}
use Rattle.mp_team_snapshots.proofs.TakenReport.{report_taken_sound}
use Rattle.mp_team_snapshots.proofs.TakingFirst.{is_receiver, is_sender, markers_left, reports_left}
use Rattle.mp_team_snapshots.proofs.Worlds.{from_view, is_agent_of, note_at, note_of, team_numbers, to_view, view}

module _ (value : Values) (publics : ℕ) (tasks : List AgentTask) (team : IsTeamOf publics tasks) (w : World)
    (is : IsTeamWorld tasks w) (before : Sound (length tasks) (view publics w)) where
  expansion_keeps : (agent : ℕ) (next : World) (step : IsStepOf value w (Expand agent) next) → SendsFitting step.step
      → Sound (length tasks) (view publics next)
  expansion_keeps agent next step fits =
      quietly_sound value publics tasks team w is (Expand agent) next step fits before quiet.silent
      (counts_nothing step.agent.snapshot step.step.after.snapshot quiet.snapshot)
      (λ i j is_i is_j. ap (filter_map marker_of) (same i j)) (λ i j is_i is_j. ap (filter_map report_of) (same i j))
    where
      quiet : IsSearched step.agent step.step
      quiet =
          let made = expanded step.agent.task (value step.agent.task) step.agent.search in
          subst (IsSearched step.agent) (same_step (with_search step.agent made) step.step step.local) (expansion_quiet step.agent made)

      same : (i j : ℕ) → left value publics tasks team w is (Expand agent) next step i j ≡ messages publics w i j
      same i j = sym (messages_before value publics tasks team w is (Expand agent) next step i j)

  module _ (b a : ℕ) (next : World) (step : IsStepOf value w (Take b a) next) (fits : SendsFitting step.step) where
    abbrev Reads : Message → Type 0
    Reads m = message_of step.agent.task.agents step.agent.task.publics (taken w (Take b a)) ≡ Some m

    quiet_keeps : (m : Message) → Reads m → marker_of m ≡ None → report_of m ≡ None → IsQuiet step.agent step.step → Sound (length tasks) (view publics next)
    quiet_keeps m read no_marker no_report quiet =
        quietly_sound value publics tasks team w is (Take b a) next step fits before quiet.silent
        (counts_nothing step.agent.snapshot step.step.after.snapshot quiet.snapshot)
        (markers_left value publics tasks team w is b a next step m read no_marker)
        (reports_left value publics tasks team w is b a next step m read no_report)

    receiver_notes : AreNotesOf (length tasks) b step.agent.snapshot
    receiver_notes =
        subst (AreNotesOf (length tasks) b) (note_before value publics tasks team w is (Take b a) next step)
        (before.notes b (is_receiver value publics tasks team w is b a next step))

    message_keeps : (m : Message) → Reads m → Effect step.agent a m step.step → Sound (length tasks) (view publics next)
    message_keeps (AState m) read effect =
        quietly_sound value publics tasks team w is (Take b a) next step fits before effect.silent
        (subst (Counts step.agent.snapshot) (sym effect.snapshot)
        (counts_state (length tasks) team.agents step.agent.snapshot b a (m.g + m.h) receiver_notes (is_receiver value publics tasks team w is b a next step) (is_sender value publics tasks team w is b a next step)))
        (markers_left value publics tasks team w is b a next step (AState m) read refl)
        (reports_left value publics tasks team w is b a next step (AState m) read refl)
    message_keeps (Marker number) read (inl on) = marked_on_sound value publics tasks team w is b a next step fits before number read on
    message_keeps (Marker number) read (inr first) = begins_sound value publics tasks team w is b a next step fits before number read first
    message_keeps (Report found) read effect = report_taken_sound value publics tasks team w is b a next step fits before found read effect
    message_keeps (Pick number) read quiet = quiet_keeps (Pick number) read refl refl quiet
    message_keeps (Trace sent back) read quiet = quiet_keeps (Trace sent back) read refl refl quiet
    message_keeps (Length plan) read quiet = quiet_keeps (Length plan) read refl refl quiet
    message_keeps (Done kind) read quiet = quiet_keeps (Done kind) read refl refl quiet

    take_keeps : Sound (length tasks) (view publics next)
    take_keeps =
        let it = took_effect (value step.agent.task) step.agent a (taken w (Take b a)) step.step step.local in
        message_keeps it.message it.read it.effect

  event_keeps : (event : Event) (next : World) (step : IsStepOf value w event next) → SendsFitting step.step
      → Sound (length tasks) (view publics next)
  event_keeps (Expand agent) next step fits = expansion_keeps agent next step fits
  event_keeps (Take b a) next step fits = take_keeps b a next step fits
  event_keeps Start next step fits = start_sound value publics tasks team w is next step fits before

pub sound_kept : (value : Values) (publics : ℕ) (tasks : List AgentTask) → IsTeamOf publics tasks
    → (w : World) (event : Event) (next : World) → IsTeamWorld tasks w → (step : IsStepOf value w event next) → SendsFitting step.step
    → AreSnapshotsSound publics w → AreSnapshotsSound publics next
sound_kept value publics tasks team w event next is step fits sound =
    from_view publics tasks team next (numbers_next value publics tasks team w is event next step)
    (event_keeps value publics tasks team w is (to_view publics tasks team w (team_numbers publics tasks team w is) sound) event next step fits)

-- ---- the start

abbrev no_bytes : List (List ℕ)
no_bytes = []

none_in : (k n : ℕ) → slice_index_or (replicate n no_bytes) k [] ≡ []
none_in k zero = refl
none_in zero (suc n) = refl
none_in (suc k) (suc n) = none_in k n

module _ (team : Team) (publics : ℕ) (of_team : IsTeamOf publics team.tasks) where
  open team use {tasks}

  abbrev w : World
  w = start_world team

  is_team : IsTeamWorld tasks w
  is_team = start_is_team team

  note_new : (i : ℕ) → IsOf (length tasks) i → note_at w i ≡ before_all i (length tasks)
  note_new i is =
      let found = agent_there w i (is_agent_of publics tasks of_team w (team_numbers publics tasks of_team w is_team) i is) in
      let r = found.0 in
      let of = member_of tasks of_team.numbered w is_team i r found.1 in
      let me = of.me in
      let agents = of.agents in
      note_of w i r found.1 ∙ ap (λ x. x.snapshot) (new_at team i r found.1) ∙ (λ k. before_all (me k) (agents k))

  nothing_under_way : (i j : ℕ) → under_way w i j ≡ []
  nothing_under_way i j = row (i - 1) (length tasks) (length tasks)
    where
      row : (k n m : ℕ) → slice_index_or (slice_index_or (replicate n (replicate m no_bytes)) k []) (j - 1) [] ≡ []
      row k zero m = refl
      row zero (suc n) m = none_in (j - 1) m
      row (suc k) (suc n) m = row k n m

  pub no_messages : (i j : ℕ) → messages publics w i j ≡ []
  no_messages i j = ap (filter_map (message_of (length w.agents) publics)) (nothing_under_way i j)

  is_first : IsOf (length tasks) 1
  is_first = record { from_1 = omega arith; at_most = of_team.some }

  last_new : (note_at w 1).number ≡ 0
  last_new = ap (λ s. s.number) (note_new 1 is_first)

  none_last : nat_lt 0 (note_at w 1).number ≡ false
  none_last = ap (nat_lt 0) last_new

  new_number : (i : ℕ) → IsOf (length tasks) i → (own (before_all i (length tasks))).number ≡ 0
  new_number i is =
      let low = is.from_1 in
      let high = is.at_most in
      let small = of_team.agents in
      ap (λ f. f.number) (get_or-replicate 16 (i - 1) nothing nothing (omega arith))

  new_sound : Sound (length tasks) (view publics w)
  new_sound = record {
    notes = λ i is. subst (AreNotesOf (length tasks) i) (sym (note_new i is)) (record {
      me = refl;
      agents = refl;
      marked = length-replicate 16 false;
      reported = length-replicate 16 false;
      found = length-replicate 16 nothing;
      own_number = new_number i is;
    });
    follows = λ i is. record {
      number = inl (ap (λ s. s.number) (note_new i is) ∙ sym last_new);
      itself = λ begun. absurd (apart_bools _ begun (none_begun (note_at w 1).number (note_at w i).number last_new));
    };
    sent = λ i j is_i is_j off taken.
        absurd (apart_bools _ taken (and_left _ (has (note_at w j).marked i) (none_begun (note_at w 1).number (note_at w j).number last_new)));
    marker = λ i j is_i is_j off.
        ap (filter_map marker_of) (no_messages i j)
        ∙ sym (no_marker_begun (note_at w 1).number (note_at w i).number (note_at w j).number (has (note_at w j).marked i)
        (none_begun (note_at w 1).number (note_at w i).number last_new));
    report = λ i is off.
        ap (filter_map report_of) (no_messages i 1)
        ∙ sym (no_report_done (note_at w 1).number (note_at w i).number (is_whole (note_at w i)) (has (note_at w 1).reported i) (own (note_at w i))
        (and_left _ (is_whole (note_at w i)) (none_begun (note_at w 1).number (note_at w i).number last_new)));
    reported = λ i is off here. absurd (apart_bools _ here (and_left _ (has (note_at w 1).reported i) none_last));
  }

  pub start_snapshots : AreSnapshotsSound publics w
  start_snapshots = from_view publics tasks of_team w (team_numbers publics tasks of_team w is_team) new_sound
