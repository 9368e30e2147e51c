-- Events by which no snapshot begins and no marker and no report is taken or sent: expansions, and states and messages of a
-- walk back that are taken.
use Rattle.mp_world.proofs.Basics.{◌≡◌, ℕ, ◌-◌, ◌≤◌, ◌<◌, Bool, true, false, List, length, Some, refl, sym, ap, subst, ◌∙◌, arith, inr, nat_lt, not, if◌then◌else◌, filter_map, and_parts, false_from_ne_true, get_or-set_other, get_or-set_same, length-set}
use Rattle.mp_snapshot.specs.Rules.{with_state}
use Rattle.mp_world.specs.AgentWords.{AgentTask, Event, lesser, Notes, after_state, has, is_counted, is_whole, nothing, own}
use Rattle.mp_world.specs.Events.{agent_of}
use Rattle.mp_world.specs.Steps.{IsStepOf}
use Rattle.mp_world.specs.Values.{Values}
use Rattle.mp_world.specs.World.{IsTeamWorld, World}
use Rattle.mp_team_snapshots.specs.Messages.{marker_of, markers, report_of, reports}
use Rattle.mp_team_snapshots.specs.Snapshots.{AreNotesOf}
use Rattle.mp_team_snapshots.specs.Team.{IsTeamOf, SendsFitting}
use Rattle.mp_team_snapshots.proofs.Changes.{left, markers_part, note_after, note_before, note_other, reports_part, unsent}
use Rattle.mp_team_snapshots.proofs.Counting.{Counts, counted_sound, counts_nothing}
use Rattle.mp_team_snapshots.proofs.Due.{apart_bools, not_true}
use Rattle.mp_team_snapshots.proofs.NotePlaces.{whole_has}
use Rattle.mp_team_snapshots.proofs.Protocol.{IsOf, Sound, each, first_of}
use Rattle.mp_team_snapshots.proofs.Sendings.{IsSilent}
use Rattle.mp_team_snapshots.proofs.Worlds.{note_at, view}

-- a state that is taken counts where a marker is awaited
pub counts_state : (agents : ℕ) → agents ≤ 16 → (s : Notes) (b from f : ℕ) → AreNotesOf agents b s → IsOf agents b → IsOf agents from → Counts s (after_state s from f)
counts_state agents small s b from f notes is_b is = by (is_counted s from) refl
  where
    place : s.me - 1 < length s.found
    place =
        let low = is_b.from_1 in
        let high = is_b.at_most in
        let me = notes.me in
        let many = notes.found in
        omega arith

    counted : is_counted s from ≡ true → Counts s (with_state s f)
    counted test = let inside : s.me - 1 < length s.found = place in record {
      me = refl;
      agents = refl;
      number = refl;
      marked = refl;
      reported = refl;
      places = length-set s.found (s.me - 1) (record (own s) { under_way = lesser (own s).under_way (Some f) });
      others = λ k other. get_or-set_other s.found (s.me - 1) k (record (own s) { under_way = lesser (own s).under_way (Some f) }) nothing other;
      own_findings = inr (false_from_ne_true (is_whole s) (λ whole.
          apart_bools (has s.marked from) (whole_has s agents from notes.agents notes.marked is.from_1 is.at_most small whole)
          (not_true (has s.marked from) (and_parts (nat_lt 0 s.number) (not (has s.marked from)) test).1)));
      own_number =
          ap (λ g. g.number)
          (get_or-set_same s.found (s.me - 1) (record (own s) { under_way = lesser (own s).under_way (Some f) }) nothing inside);
    }

    by : (b : Bool) → is_counted s from ≡ b → Counts s (if b then with_state s f else s)
    by true test = counted test
    by false test = counts_nothing s s refl

module _ (value : Values) (publics : ℕ) (tasks : List AgentTask) (team : IsTeamOf publics tasks) (w : World)
    (is : IsTeamWorld tasks w) (event : Event) (next : World) (step : IsStepOf value w event next) (fits : SendsFitting step.step)
    (before : Sound (length tasks) (view publics w))
    (silent : IsSilent step.step.out)
    (counts : Counts step.agent.snapshot step.step.after.snapshot)
    (left_markers : (i j : ℕ) → IsOf (length tasks) i → IsOf (length tasks) j
    → filter_map marker_of (left value publics tasks team w is event next step i j) ≡ markers publics w i j)
    (left_reports : (i j : ℕ) → IsOf (length tasks) i → IsOf (length tasks) j
    → filter_map report_of (left value publics tasks team w is event next step i j) ≡ reports publics w i j) where
  counts_each : (i : ℕ) → IsOf (length tasks) i → Counts (note_at w i) (note_at next i)
  counts_each =
      each (length tasks) (agent_of event) (λ i. Counts (note_at w i) (note_at next i))
      (subst (λ s. Counts s (note_at next (agent_of event))) (sym (note_before value publics tasks team w is event next step))
      (subst (Counts step.agent.snapshot) (sym (note_after value publics tasks team w is event next step)) counts))
      (λ i is_i off. counts_nothing (note_at w i) (note_at next i) (note_other value publics tasks team w is event next step i off))

  pub quietly_sound : Sound (length tasks) (view publics next)
  quietly_sound =
      counted_sound (length tasks) (view publics w) (view publics next) before counts_each
      (λ i j is_i is_j off.
      unsent value publics tasks team w is event next step fits marker_of markers_part i j is_i is_j (λ here. silent.markers j)
      ∙ left_markers i j is_i is_j)
      (λ i is_i off.
      let is_1 = first_of (length tasks) i is_i in
      unsent value publics tasks team w is event next step fits report_of reports_part i 1 is_i is_1 (λ here. silent.reports 1)
      ∙ left_reports i 1 is_i is_1)
