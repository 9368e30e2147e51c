-- A marker is taken in a world.
use Rattle.mp_world.proofs.Basics.{◌≡◌, ◌≢◌, ℕ, ◌+◌, ◌≤◌, List, [], ◌∷◌, ◌++◌, length, Some, refl, sym, ap, subst, ◌∙◌, ◌⊎◌, inr, filter_map}
use Rattle.mp_world.specs.AgentWords.{AgentTask, Take, Findings, Message, Marker, message_of, begun, is_whole, own, with_marker, to_others, findings}
use Rattle.mp_world.specs.Events.{taken}
use Rattle.mp_world.specs.Steps.{IsStepOf}
use Rattle.mp_world.specs.Values.{Values}
use Rattle.mp_world.specs.World.{IsTeamWorld, World}
use Rattle.mp_world.proofs.Agents.{member_of}
use Rattle.mp_team_snapshots.specs.Messages.{marker_of, markers, report_of, reports}
use Rattle.mp_team_snapshots.specs.Snapshots.{one_if_due}
use Rattle.mp_team_snapshots.specs.Team.{IsTeamOf, SendsFitting}
use Rattle.mp_team_snapshots.proofs.Beginning.{begun_sound}
use Rattle.mp_team_snapshots.proofs.Changes.{left, markers_from_it, markers_from_others, markers_part, me_before, note_after, note_before, note_other, reports_from_it, reports_from_others, unsent}
use Rattle.mp_team_snapshots.proofs.Effects.{IsBegun, IsMarkedOn}
use Rattle.mp_team_snapshots.proofs.Marking.{marked_sound}
use Rattle.mp_team_snapshots.proofs.Protocol.{IsOf, Sound, first_of}
use Rattle.mp_team_snapshots.proofs.Sendings.{markers_to, messages_to, others_get, reports_to}
use Rattle.mp_team_snapshots.proofs.TakingFirst.{apart, is_receiver, is_sender, left_others, reports_left, taken_first}
use Rattle.mp_team_snapshots.proofs.Worlds.{note_at, view}

module _ (value : Values) (publics : ℕ) (tasks : List AgentTask) (team : IsTeamOf publics tasks) (w : World)
    (is : IsTeamWorld tasks w) (b a : ℕ) (next : World) (step : IsStepOf value w (Take b a) next) (fits : SendsFitting step.step)
    (before : Sound (length tasks) (view publics w))
    (number : ℕ) (read : message_of step.agent.task.agents step.agent.task.publics (taken w (Take b a)) ≡ Some (Marker number)) where
  abbrev left_ : ℕ → ℕ → List Message
  left_ = left value publics tasks team w is (Take b a) next step

  is_a : IsOf (length tasks) a
  is_a = is_sender value publics tasks team w is b a next step

  is_b : IsOf (length tasks) b
  is_b = is_receiver value publics tasks team w is b a next step

  a_b : a ≢ b
  a_b = apart value publics tasks team w is b a next step

  was : note_at w b ≡ step.agent.snapshot
  was = note_before value publics tasks team w is (Take b a) next step

  now : note_at next b ≡ step.step.after.snapshot
  now = note_after value publics tasks team w is (Take b a) next step

  others : (j : ℕ) → IsOf (length tasks) j → j ≢ b → note_at next j ≡ note_at w j
  others j is_j off = note_other value publics tasks team w is (Take b a) next step j off

  front : markers publics w a b ≡ number ∷ filter_map marker_of (left_ a b)
  front = ap (filter_map marker_of) (taken_first value publics tasks team w is b a next step (Marker number) read)

  behind : markers publics next a b ≡ filter_map marker_of (left_ a b)
  behind = markers_from_others value publics tasks team w is (Take b a) next step fits a b is_a is_b a_b

  markers_left : (i j : ℕ) → IsOf (length tasks) i → IsOf (length tasks) j → (i ≢ a) ⊎ (j ≢ b) → filter_map marker_of (left_ i j) ≡ markers publics w i j
  markers_left i j is_i is_j other =
      ap (filter_map marker_of) (left_others value publics tasks team w is b a next step (Marker number) read i j is_i is_j other)

  markers_others : (i j : ℕ) → IsOf (length tasks) i → IsOf (length tasks) j → i ≢ b → (i ≢ a) ⊎ (j ≢ b) → markers publics next i j ≡ markers publics w i j
  markers_others i j is_i is_j off other =
      markers_from_others value publics tasks team w is (Take b a) next step fits i j is_i is_j off ∙ markers_left i j is_i is_j other

  reports_others : (i : ℕ) → IsOf (length tasks) i → i ≢ 1 → i ≢ b → reports publics next i 1 ≡ reports publics w i 1
  reports_others i is_i other off =
      let is_1 = first_of (length tasks) i is_i in
      reports_from_others value publics tasks team w is (Take b a) next step fits i 1 is_i is_1 off
      ∙ reports_left value publics tasks team w is b a next step (Marker number) read refl i 1 is_i is_1

  report_it : (sent : List Findings) → reports_to 1 step.step.out ≡ sent → reports publics next b 1 ≡ reports publics w b 1 ++ sent
  report_it sent is_sent =
      let is_1 = first_of (length tasks) b is_b in
      reports_from_it value publics tasks team w is (Take b a) next step fits b 1 is_b is_1 refl
      ∙ ap (λ ms. ms ++ reports_to 1 step.step.out) (reports_left value publics tasks team w is b a next step (Marker number) read refl b 1 is_b is_1)
      ∙ ap (λ ms. reports publics w b 1 ++ ms) is_sent

  me : step.agent.task.me ≡ b
  me = me_before value publics tasks team w is (Take b a) next step

  in_now : one_if_due (is_whole step.step.after.snapshot) (own step.step.after.snapshot) ≡ one_if_due (is_whole (note_at next b)) (own (note_at next b))
  in_now = sym (ap (λ s. one_if_due (is_whole s) (own s)) now)

  pub marked_on_sound : IsMarkedOn step.agent a number step.step → Sound (length tasks) (view publics next)
  marked_on_sound effect =
      marked_sound (length tasks) team.agents (view publics w) (view publics next) before a b number (filter_map marker_of (left_ a b)) is_a is_b a_b front behind
      (ap (λ s. s.number) was ∙ effect.same)
      (now ∙ effect.snapshot ∙ sym (ap (λ s. with_marker s a) was))
      others markers_now reports_others
      (λ other. report_it (one_if_due (is_whole (note_at next b)) (own (note_at next b))) (effect.reports (λ first. other (sym me ∙ first)) ∙ in_now))
    where
      markers_now : (i j : ℕ) → IsOf (length tasks) i → IsOf (length tasks) j → i ≢ j → (i ≢ a) ⊎ (j ≢ b) → markers publics next i j ≡ markers publics w i j
      markers_now i j is_i is_j off other =
          unsent value publics tasks team w is (Take b a) next step fits marker_of markers_part i j is_i is_j (λ here. effect.markers j)
          ∙ markers_left i j is_i is_j other

  -- each other agent is sent a marker, and agent 1 no report before that of the receiver
  gets : (j : ℕ) → IsOf (length tasks) j → j ≢ b → messages_to j (to_others step.agent.task (Marker number)) ≡ Marker number ∷ []
  gets j is_j off =
      let many = (member_of tasks team.numbered w is b step.agent step.there).agents in
      others_get (Marker number) step.agent.task.me step.agent.task.agents j is_j.from_1 (subst (λ n. j ≤ n) (sym many) is_j.at_most) (λ same. off (same ∙ me))

  pub begins_sound : IsBegun step.agent a number step.step → Sound (length tasks) (view publics next)
  begins_sound effect =
      begun_sound (length tasks) team.agents (view publics w) (view publics next) before a b number (findings step.agent) (filter_map marker_of (left_ a b)) is_a is_b a_b
      not_first front behind
      (effect.next ∙ sym (ap (λ s. s.number + 1) was))
      (now ∙ effect.snapshot ∙ sym (ap (λ s. with_marker (begun s number (findings step.agent)) a) was))
      others (λ i j is_i is_j off off_b other. markers_others i j is_i is_j off_b other) sends reports_others
      (report_it (one_if_due (is_whole (note_at next b)) (own (note_at next b)))
      (effect.reports (λ first. not_first (sym me ∙ first))
      ∙ ap (λ ms. filter_map report_of ms ++ one_if_due (is_whole step.step.after.snapshot) (own step.step.after.snapshot))
      (gets 1 (first_of (length tasks) b is_b) (λ first. not_first (sym first)))
      ∙ in_now))
    where
      not_first : b ≢ 1
      not_first first = effect.other (sym (ap (λ s. s.me) was) ∙ (before.notes b is_b).me ∙ first)

      sends : (j : ℕ) → IsOf (length tasks) j → b ≢ j → markers publics next b j ≡ markers publics w b j ++ number ∷ []
      sends j is_j off =
          markers_from_it value publics tasks team w is (Take b a) next step fits b j is_b is_j refl
          ∙ ap (λ ms. ms ++ markers_to j step.step.out) (markers_left b j is_b is_j (inr (λ same. off (sym same))))
          ∙ ap (λ ms. markers publics w b j ++ ms) (effect.markers j ∙ ap (filter_map marker_of) (gets j is_j (λ same. off (sym same))))
