-- A report is taken in a world.
use Rattle.mp_world.proofs.Basics.{◌≡◌, ◌≢◌, ℕ, List, ◌∷◌, length, Some, refl, sym, ap, subst, ◌∙◌, inl, filter_map}
use Rattle.mp_world.specs.AgentWords.{AgentTask, Take, Findings, Message, Report, message_of, after_report}
use Rattle.mp_world.specs.Events.{taken}
use Rattle.mp_world.specs.Steps.{IsStepOf}
use Rattle.mp_world.specs.Values.{Values}
use Rattle.mp_world.specs.World.{IsTeamWorld, World}
use Rattle.mp_team_snapshots.specs.Messages.{marker_of, markers, report_of, reports}
use Rattle.mp_team_snapshots.specs.Team.{IsTeamOf, SendsFitting}
use Rattle.mp_team_snapshots.proofs.Changes.{left, markers_part, note_after, note_before, note_other, reports_from_others, unsent}
use Rattle.mp_team_snapshots.proofs.Effects.{IsReported}
use Rattle.mp_team_snapshots.proofs.Protocol.{IsOf, Sound, first_of}
use Rattle.mp_team_snapshots.proofs.Reporting.{reported_sound}
use Rattle.mp_team_snapshots.proofs.TakingFirst.{apart, is_receiver, is_sender, left_others, markers_left, taken_first}
use Rattle.mp_team_snapshots.proofs.Worlds.{note_at, view}

module _ (value : Values) (publics : ℕ) (tasks : List AgentTask) (team : IsTeamOf publics tasks) (w : World)
    (is : IsTeamWorld tasks w) (b a : ℕ) (next : World) (step : IsStepOf value w (Take b a) next) (fits : SendsFitting step.step)
    (before : Sound (length tasks) (view publics w))
    (found : Findings) (read : message_of step.agent.task.agents step.agent.task.publics (taken w (Take b a)) ≡ Some (Report found))
    (effect : IsReported step.agent a found step.step) where
  abbrev left_ : ℕ → ℕ → List Message
  left_ = left value publics tasks team w is (Take b a) next step

  is_a : IsOf (length tasks) a
  is_a = is_sender value publics tasks team w is b a next step

  is_b : IsOf (length tasks) b
  is_b = is_receiver value publics tasks team w is b a next step

  is_1 : IsOf (length tasks) 1
  is_1 = first_of (length tasks) a is_a

  was : note_at w b ≡ step.agent.snapshot
  was = note_before value publics tasks team w is (Take b a) next step

  -- the receiver is agent 1
  first : b ≡ 1
  first = sym (before.notes b is_b).me ∙ ap (λ s. s.me) was ∙ effect.first

  not_first : a ≢ 1
  not_first same = apart value publics tasks team w is b a next step (same ∙ sym first)

  front : reports publics w a 1 ≡ found ∷ filter_map report_of (left_ a 1)
  front =
      subst (λ k. reports publics w a k ≡ found ∷ filter_map report_of (left_ a k)) first
      (ap (filter_map report_of) (taken_first value publics tasks team w is b a next step (Report found) read))

  reports_now : (i : ℕ) → IsOf (length tasks) i → i ≢ 1 → reports publics next i 1 ≡ filter_map report_of (left_ i 1)
  reports_now i is_i off = reports_from_others value publics tasks team w is (Take b a) next step fits i 1 is_i is_1 (λ same. off (same ∙ first))

  note_it : note_at next b ≡ after_report (note_at w b) a found
  note_it =
      note_after value publics tasks team w is (Take b a) next step ∙ effect.snapshot ∙ sym (ap (λ s. after_report s a found) was)

  markers_same : (i j : ℕ) → IsOf (length tasks) i → IsOf (length tasks) j → i ≢ j → markers publics next i j ≡ markers publics w i j
  markers_same i j is_i is_j off =
      unsent value publics tasks team w is (Take b a) next step fits marker_of markers_part i j is_i is_j (λ here. effect.silent.markers j)
      ∙ markers_left value publics tasks team w is b a next step (Report found) read refl i j is_i is_j

  pub report_taken_sound : Sound (length tasks) (view publics next)
  report_taken_sound =
      reported_sound (length tasks) team.agents (view publics w) (view publics next) before a found (filter_map report_of (left_ a 1)) is_a not_first front
      (reports_now a is_a not_first)
      (subst (λ k. note_at next k ≡ after_report (note_at w k) a found) first note_it)
      (λ j is_j off. note_other value publics tasks team w is (Take b a) next step j (λ same. off (same ∙ first)))
      markers_same
      (λ i is_i off apart_a. reports_now i is_i off
      ∙ ap (filter_map report_of) (left_others value publics tasks team w is b a next step (Report found) read i 1 is_i is_1 (inl apart_a)))
