-- Agent 1 starts a snapshot in a world.
use Rattle.mp_world.proofs.Basics.{◌≡◌, ◌≢◌, ℕ, ◌+◌, ◌≤◌, ◌<◌, ◌^◌, Bool, true, false, ◌&&◌, List, [], ◌∷◌, ◌++◌, length, refl, sym, ap, subst, ◌∙◌, append-nil, arith, ◌⊎◌, inl, inr, All, ◌==◌, nat_lt, not, if◌then◌else◌, filter_map, and_parts, eq-eqb, ltb-false}
use Rattle.mp_world.proofs.Basics.{ltb-true}
use Rattle.mp_world.specs.AgentWords.{AgentTask, Start, Marker, Notes, begun, is_complete, is_under_way, is_whole, AgentRecord, is_going, may_start, Step, others, to_others, findings, judged, started, with_notes}
use Rattle.mp_world.specs.Steps.{IsStepOf}
use Rattle.mp_world.specs.Values.{Values}
use Rattle.mp_world.specs.World.{IsTeamWorld, World}
use Rattle.mp_machine.proofs.StepLemmas.{start_parts}
use Rattle.mp_world.proofs.Agents.{member_of}
use Rattle.mp_world.proofs.LocalCases.{both_such, each_such}
use Rattle.mp_team_snapshots.specs.Messages.{marker_of, markers, messages, report_of}
use Rattle.mp_team_snapshots.specs.Team.{HasRoom, IsTeamOf, SendsFitting}
use Rattle.mp_team_snapshots.proofs.Changes.{left, markers_from_it, markers_from_others, me_before, messages_before, note_after, note_before, note_other, reports_from_others}
use Rattle.mp_team_snapshots.proofs.Effects.{not_false, same_step}
use Rattle.mp_team_snapshots.proofs.Protocol.{IsOf, Sound}
use Rattle.mp_team_snapshots.proofs.Quiet.{judged_quiet}
use Rattle.mp_team_snapshots.proofs.Sendings.{markers_to, markers_to-append, others_get}
use Rattle.mp_team_snapshots.proofs.Starting.{IsOver, started_sound}
use Rattle.mp_team_snapshots.proofs.Worlds.{is_of_there, note_at, team_numbers, view}

-- where no snapshot is under way at agent 1, there was none or its findings are complete
pub is_over_of : (s : Notes) → s.me ≡ 1 → is_under_way s ≡ false → (s.number ≡ 0) ⊎ ((0 < s.number) × (is_complete s ≡ true))
is_over_of s me idle = by (nat_lt 0 s.number) refl (s.me == 1) (eq-eqb s.me 1 me) idle
  where
    by : (p : Bool) → nat_lt 0 s.number ≡ p → (q : Bool) → q ≡ true → (p && not (if q then is_complete s else is_whole s)) ≡ false
        → (s.number ≡ 0) ⊎ ((0 < s.number) × (is_complete s ≡ true))
    by false none q is idle = let low = ltb-false 0 s.number none in inl (omega arith)
    by true some true is idle = inr (ltb-true 0 s.number some, not_false (is_complete s) idle)
    by true some false is idle = absurd cc

-- what a start does
pub record IsStarted (r : AgentRecord) (s : Step) : Type 0 where
  pub search : s.after.search ≡ r.search
  pub room : r.snapshot.number + 1 < 2 ^ 60 → All (λ x. HasRoom x.message) s.out
  pub snapshot : s.after.snapshot ≡ begun r.snapshot (r.snapshot.number + 1) (findings r)
  pub markers : (to : ℕ) → markers_to to s.out ≡ markers_to to (to_others r.task (Marker (r.snapshot.number + 1)))

pub start_effect : (r : AgentRecord) → IsStarted r (started r)
start_effect r =
    let after = with_notes (begun r.snapshot (r.snapshot.number + 1) (findings r)) r in
    let quiet = judged_quiet after in
    let first = to_others r.task (Marker (r.snapshot.number + 1)) in
    record {
      search = quiet.search;
      room = λ small.
          both_such HasRoom first (judged after).out (each_such HasRoom (Marker (r.snapshot.number + 1)) small (others r.task.me r.task.agents)) quiet.silent.room;
      snapshot = quiet.snapshot;
      markers = λ to.
          markers_to-append to first (judged after).out ∙ ap (λ ms. markers_to to first ++ ms) (quiet.silent.markers to) ∙ append-nil (markers_to to first);
    }

module _ (value : Values) (publics : ℕ) (tasks : List AgentTask) (team : IsTeamOf publics tasks) (w : World)
    (is : IsTeamWorld tasks w) (next : World) (step : IsStepOf value w Start next) (fits : SendsFitting step.step)
    (before : Sound (length tasks) (view publics w)) where
  effect : IsStarted step.agent step.step
  effect = subst (IsStarted step.agent) (same_step (started step.agent) step.step step.local) (start_effect step.agent)

  is_1 : IsOf (length tasks) 1
  is_1 = is_of_there publics tasks team w (team_numbers publics tasks team w is) 1 step.agent step.there

  was : note_at w 1 ≡ step.agent.snapshot
  was = note_before value publics tasks team w is Start next step

  idle : is_under_way step.agent.snapshot ≡ false
  idle = (start_parts step.agent (and_parts (is_going step.agent.ending) (may_start step.agent) step.may).1).free

  over : IsOver (length tasks) team.agents (view publics w) before
  over = is_over_of (note_at w 1) (before.notes 1 is_1).me (ap is_under_way was ∙ idle)

  left_same : (i j : ℕ) → left value publics tasks team w is Start next step i j ≡ messages publics w i j
  left_same i j = sym (messages_before value publics tasks team w is Start next step i j)

  gets : (j : ℕ) → IsOf (length tasks) j → 1 ≢ j → markers_to j step.step.out ≡ ((note_at w 1).number + 1) ∷ []
  gets j is_j off =
      let many = (member_of tasks team.numbered w is 1 step.agent step.there).agents in
      let me = me_before value publics tasks team w is Start next step in
      effect.markers j
      ∙ ap (filter_map marker_of)
      (others_get (Marker (step.agent.snapshot.number + 1)) step.agent.task.me step.agent.task.agents j is_j.from_1 (subst (λ n. j ≤ n) (sym many) is_j.at_most)
      (λ same. off (sym (same ∙ me))))
      ∙ sym (ap (λ s. (s.number + 1) ∷ []) was)

  pub start_sound : Sound (length tasks) (view publics next)
  start_sound =
      started_sound (length tasks) team.agents (view publics w) (view publics next) before (findings step.agent) over is_1
      (note_after value publics tasks team w is Start next step ∙ effect.snapshot ∙ sym (ap (λ s. begun s (s.number + 1) (findings step.agent)) was))
      (λ j is_j off. note_other value publics tasks team w is Start next step j off)
      (λ i j is_i is_j off off_1. markers_from_others value publics tasks team w is Start next step fits i j is_i is_j off_1 ∙ ap (filter_map marker_of) (left_same i j))
      (λ j is_j off. markers_from_it value publics tasks team w is Start next step fits 1 j is_1 is_j refl
      ∙ ap (λ ms. ms ++ markers_to j step.step.out) (ap (filter_map marker_of) (left_same 1 j))
      ∙ ap (λ ms. markers publics w 1 j ++ ms) (gets j is_j off))
      (λ i is_i off. reports_from_others value publics tasks team w is Start next step fits i 1 is_i is_1 off ∙ ap (filter_map report_of) (left_same i 1))
