-- What an event changes in the notes of agents and in the messages under way.
use Rattle.mp_world.proofs.Basics.{◌≡◌, ◌≢◌, ℕ, suc, Bool, true, false, eqb, List, [], ◌∷◌, ◌++◌, length, Option, Some, refl, sym, ap, subst, ◌∙◌, append-nil, ◌==◌, if◌then◌else◌, slice_get, filter_map, option_map_or, eq-eqb, eqb-false, eqb-true, filter_map-append}
use Rattle.mp_world.proofs.Basics.{same_Some}
use Rattle.std.specs.Prelude.{is_some}
use Rattle.mp_world.specs.AgentWords.{AgentTask, Event, Message, message_of, before_all, AgentRecord}
use Rattle.mp_world.specs.Events.{agent_of, local_of, sent_in, taken, without_taken}
use Rattle.mp_world.specs.Steps.{IsStepOf, sent_to}
use Rattle.mp_world.specs.Values.{Values}
use Rattle.mp_world.specs.World.{IsTeamWorld, World, agent_at, under_way}
use Rattle.mp_world.proofs.Tasks.{local_keeps_task}
use Rattle.mp_team_snapshots.specs.Messages.{marker_of, markers, messages, report_of, reports}
use Rattle.mp_team_snapshots.specs.Team.{IsTeamOf, SendsFitting}
use Rattle.mp_team_snapshots.proofs.Protocol.{IsOf}
use Rattle.mp_team_snapshots.proofs.Reading.{IsPart, sent_read}
use Rattle.mp_team_snapshots.proofs.Sendings.{markers_to, messages_to, reports_to}
use Rattle.mp_team_snapshots.proofs.Worlds.{HasNumbers, is_agent_of, note_at, note_of, team_numbers}

-- lists with items in the same places are as long
same_length : (xs ys : List AgentRecord) → ((k : ℕ) → is_some (slice_get xs k) ≡ is_some (slice_get ys k)) → length xs ≡ length ys
same_length [] [] same = refl
same_length [] (y ∷ ys) same = let e = same 0 in absurd (let impossible : ⊥ = cc in impossible)
same_length (x ∷ xs) [] same = let e = same 0 in absurd (let impossible : ⊥ = cc in impossible)
same_length (x ∷ xs) (y ∷ ys) same = ap suc (same_length xs ys (λ k. same (suc k)))

pub markers_part : IsPart marker_of
markers_part = record { state = λ s. refl; pick = λ n. refl; trace = λ sent back. refl; length = λ n. refl }

pub reports_part : IsPart report_of
reports_part = record { state = λ s. refl; pick = λ n. refl; trace = λ sent back. refl; length = λ n. refl }

module _ (value : Values) (publics : ℕ) (tasks : List AgentTask) (team : IsTeamOf publics tasks) (w : World)
    (is : IsTeamWorld tasks w) (event : Event) (next : World) (step : IsStepOf value w event next) where
  -- ---- agents

  numbers : HasNumbers tasks w
  numbers = team_numbers publics tasks team w is

  size_next : length next.agents ≡ length w.agents
  size_next = same_length next.agents w.agents (λ k. by k (eqb (suc k) (agent_of event)) refl)
    where
      by : (k : ℕ) (b : Bool) → eqb (suc k) (agent_of event) ≡ b → is_some (slice_get next.agents k) ≡ is_some (slice_get w.agents k)
      by k true test =
          let here = eqb-true (suc k) (agent_of event) test in
          let after : agent_at next (suc k) ≡ Some step.step.after = subst (λ i. agent_at next i ≡ Some step.step.after) (sym here) step.after in
          let before : agent_at w (suc k) ≡ Some step.agent = subst (λ i. agent_at w i ≡ Some step.agent) (sym here) step.there in
          ap is_some after ∙ sym (ap is_some before)
      by k false test =
          let other : agent_at next (suc k) ≡ agent_at w (suc k) = step.others (suc k) (eqb-false (suc k) (agent_of event) test) in
          ap is_some other

  task_same : step.step.after.task ≡ step.agent.task
  task_same = local_keeps_task (value step.agent.task) step.agent (local_of event) (taken w event) step.step step.local

  pub me_before : step.agent.task.me ≡ agent_of event
  me_before = numbers.me (agent_of event) step.agent step.there

  pub numbers_next : HasNumbers tasks next
  numbers_next = record { size = size_next ∙ numbers.size; me = me }
    where
      me : (i : ℕ) (r : AgentRecord) → agent_at next i ≡ Some r → r.task.me ≡ i
      me i r there = by (eqb i (agent_of event)) refl
        where
          by : (b : Bool) → eqb i (agent_of event) ≡ b → r.task.me ≡ i
          by true test =
              let here = eqb-true i (agent_of event) test in
              let same : step.step.after ≡ r = same_Some step.step.after r (sym step.after ∙ sym (ap (agent_at next) here) ∙ there) in
              ap (λ x. x.task.me) (sym same) ∙ ap (λ t. t.me) task_same ∙ me_before ∙ sym here
          by false test = numbers.me i r (sym (step.others i (eqb-false i (agent_of event) test)) ∙ there)

  pub note_before : note_at w (agent_of event) ≡ step.agent.snapshot
  note_before = note_of w (agent_of event) step.agent step.there

  pub note_after : note_at next (agent_of event) ≡ step.step.after.snapshot
  note_after = note_of next (agent_of event) step.step.after step.after

  pub note_other : (j : ℕ) → j ≢ agent_of event → note_at next j ≡ note_at w j
  note_other j off = ap (λ o. option_map_or (λ (r : AgentRecord). r.snapshot) o (before_all 0 0)) (step.others j off)

  -- ---- messages

  -- those that are left once one is taken
  abbrev pub left : ℕ → ℕ → List Message
  left i j = filter_map (message_of (length tasks) publics) (under_way (without_taken w event) i j)

  pub messages_before : (i j : ℕ) → messages publics w i j ≡ filter_map (message_of (length tasks) publics) (under_way w i j)
  messages_before i j = ap (λ n. filter_map (message_of n publics) (under_way w i j)) numbers.size

  -- the bytes under way are those left and those sent
  bytes_next : (i j : ℕ) → IsOf (length tasks) i → IsOf (length tasks) j
      → messages publics next i j
      ≡ left i j ++ filter_map (message_of (length tasks) publics) (if i == agent_of event then sent_to j (sent_in step.step) else [])
  bytes_next i j is_i is_j =
      ap (λ n. filter_map (message_of n publics) (under_way next i j)) numbers_next.size
      ∙ ap (filter_map (message_of (length tasks) publics)) (step.mail i j (is_agent_of publics tasks team w numbers i is_i) (is_agent_of publics tasks team w numbers j is_j))
      ∙ filter_map-append (message_of (length tasks) publics) (under_way (without_taken w event) i j) (if i == agent_of event then sent_to j (sent_in step.step) else [])

  module _ (fits : SendsFitting step.step) where
    -- any part of messages, as markers, that states and messages of a walk back do not have
    module _ {X : Type 0} (part : Message → Option X) (is_part : IsPart part) where
      parts_next : (i j : ℕ) → IsOf (length tasks) i → IsOf (length tasks) j
          → filter_map part (messages publics next i j)
          ≡ filter_map part (left i j) ++ (if i == agent_of event then filter_map part (messages_to j step.step.out) else [])
      parts_next i j is_i is_j =
          ap (filter_map part) (bytes_next i j is_i is_j)
          ∙ filter_map-append part (left i j) (filter_map (message_of (length tasks) publics) (if i == agent_of event then sent_to j (sent_in step.step) else []))
          ∙ ap (λ xs. filter_map part (left i j) ++ xs) (by (i == agent_of event))
        where
          by : (b : Bool) → filter_map part (filter_map (message_of (length tasks) publics) (if b then sent_to j (sent_in step.step) else []))
              ≡ (if b then filter_map part (messages_to j step.step.out) else [])
          by true = sent_read part is_part (length tasks) publics team.facts j step.step.out fits.fits
          by false = refl

      -- where none of these goes out, those are under way that were left
      pub unsent : (i j : ℕ) → IsOf (length tasks) i → IsOf (length tasks) j
          → (i ≡ agent_of event → filter_map part (messages_to j step.step.out) ≡ [])
          → filter_map part (messages publics next i j) ≡ filter_map part (left i j)
      unsent i j is_i is_j none = parts_next i j is_i is_j ∙ by (i == agent_of event) refl
        where
          by : (b : Bool) → (i == agent_of event) ≡ b
              → filter_map part (left i j) ++ (if b then filter_map part (messages_to j step.step.out) else [])
              ≡ filter_map part (left i j)
          by true test =
              ap (λ xs. filter_map part (left i j) ++ xs) (none (eqb-true i (agent_of event) test))
              ∙ append-nil (filter_map part (left i j))
          by false test = append-nil (filter_map part (left i j))

      from_others : (i j : ℕ) → IsOf (length tasks) i → IsOf (length tasks) j → i ≢ agent_of event
          → filter_map part (messages publics next i j) ≡ filter_map part (left i j)
      from_others i j is_i is_j off = unsent i j is_i is_j (λ same. absurd (off same))

      pub from_it : (i j : ℕ) → IsOf (length tasks) i → IsOf (length tasks) j → i ≡ agent_of event
          → filter_map part (messages publics next i j) ≡ filter_map part (left i j) ++ filter_map part (messages_to j step.step.out)
      from_it i j is_i is_j same =
          parts_next i j is_i is_j
          ∙ ap (λ (b : Bool). filter_map part (left i j) ++ (if b then filter_map part (messages_to j step.step.out) else [])) (eq-eqb i (agent_of event) same)

    pub markers_from_others : (i j : ℕ) → IsOf (length tasks) i → IsOf (length tasks) j → i ≢ agent_of event
        → markers publics next i j ≡ filter_map marker_of (left i j)
    markers_from_others = from_others marker_of markers_part

    pub reports_from_others : (i j : ℕ) → IsOf (length tasks) i → IsOf (length tasks) j → i ≢ agent_of event
        → reports publics next i j ≡ filter_map report_of (left i j)
    reports_from_others = from_others report_of reports_part

    pub markers_from_it : (i j : ℕ) → IsOf (length tasks) i → IsOf (length tasks) j → i ≡ agent_of event
        → markers publics next i j ≡ filter_map marker_of (left i j) ++ markers_to j step.step.out
    markers_from_it = from_it marker_of markers_part

    pub reports_from_it : (i j : ℕ) → IsOf (length tasks) i → IsOf (length tasks) j → i ≡ agent_of event
        → reports publics next i j ≡ filter_map report_of (left i j) ++ reports_to j step.step.out
    reports_from_it = from_it report_of reports_part
