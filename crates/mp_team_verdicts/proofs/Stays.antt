-- Each event leads the end of a search on.
use Rattle.mp_world.proofs.Basics.{◌≡◌, ◌≢◌, ℕ, ◌+◌, ◌≤◌, true, false, List, [], ◌∷◌, length, Option, Some, None, All, refl, sym, ap, subst, ◌∙◌, arith, inl, inr, Ok, ◌==◌, filter, if◌then◌else◌, filter_map, and_parts, cases_eq, eq-eqb, false≢true, none-some}
use Rattle.mp_world.proofs.Basics.{same_Some}
use Rattle.mp_messages.specs.declared.message.Message.TheVariants.{State as AState}
use Rattle.mp_machine.specs.Snapshots.{reported}
use Rattle.mp_machine.proofs.NotesLemmas.{report_fair, state_changes_nothing}
use Rattle.mp_world.specs.AgentWords.{AgentTask, Event, Expand, Take, Start, Message, Marker, Report, Pick, Trace, Length, Done, State, message_of, Verdict, Notes, after_report, after_state, begun, is_under_way, verdict, with_marker, AgentRecord, given_verdict}
use Rattle.mp_world.specs.AgentWords.{is_going, may_start, with_search, Step, without_messages, findings, goal_entry, judged, judged_or_reported, started, with_notes, took_message, with_state, is_deciding}
use Rattle.mp_world.specs.SearchWords.{expanded}
use Rattle.mp_world.specs.Events.{agent_of, taken}
use Rattle.mp_world.specs.Steps.{IsStepOf}
use Rattle.mp_world.specs.Team.{AreTeamTasks}
use Rattle.mp_world.specs.Values.{Values}
use Rattle.mp_world.specs.World.{World, agent_at}
use Rattle.mp_world.proofs.LocalCases.{message_holds, same_step}
use Rattle.mp_team_snapshots.specs.Messages.{marker_of, markers}
use Rattle.mp_team_snapshots.specs.Snapshots.{AreNotesOf, AreTwo}
use Rattle.mp_team_snapshots.specs.Team.{HasRoom, IsTeamOf}
use Rattle.mp_team_snapshots.proofs.Changes.{left, messages_before}
use Rattle.mp_team_snapshots.proofs.Consequences.{verdict_is_over}
use Rattle.mp_team_snapshots.proofs.Protocol.{IsOf}
use Rattle.mp_team_snapshots.proofs.TakingFirst.{apart, is_sender, taken_first}
use Rattle.mp_team_snapshots.proofs.Worlds.{is_agent_of, team_numbers}
use Rattle.mp_team_states.proofs.WorldsGrow.{taking}
use Rattle.mp_team_verdicts.specs.Ending.{IsAt, Stage, end_messages, is_of_end}
use Rattle.mp_team_verdicts.specs.Ending.Stage.{over, picking, searching, walking, without_plan}
use Rattle.mp_team_verdicts.proofs.CountedStates.{counted_has}
use Rattle.mp_team_verdicts.proofs.Calmly.{IsSameVerdict, calm_comes}
use Rattle.mp_team_verdicts.proofs.Frames.{IsKnownWorld, NotesItsGoal, agent_before, ends_left, me_before}
use Rattle.mp_team_verdicts.proofs.Goals.{place_of}
use Rattle.mp_team_verdicts.proofs.Judging.{judged_comes}
use Rattle.mp_team_verdicts.proofs.Proving.{end_decides}
use Rattle.mp_team_verdicts.proofs.EndSteps.{IsCalm, IsJudged, counted_none, expansion_calm, gives_over, noted_calm, start_judged, state_calm, state_goal, state_snapshot, told_calm}
use Rattle.mp_team_verdicts.proofs.TakenEnds.{end_comes}
use Rattle.mp_team_verdicts.proofs.WalkOn.{ComesTo}

-- ---- a state that is taken leaves the verdict

state_verdict : (s : Notes) (from f : ℕ) → length s.marked ≡ 16 → s.agents ≤ 16 → 1 ≤ from → from ≤ s.agents → verdict (after_state s from f) ≡ verdict s
state_verdict s from f many few low high = by (verdict s) refl
  where
    by : (o : Option Verdict) → verdict s ≡ o → verdict (after_state s from f) ≡ verdict s
    by None is = counted_none s from f is ∙ sym is
    by (Some v) is = ap verdict (state_changes_nothing s from f many few low high (λ none. none-some v (sym none ∙ is)))

-- no verdict is given by another agent
other_verdict : (r s : AgentRecord) → s.task ≡ r.task → verdict s.snapshot ≡ verdict r.snapshot → given_verdict s ≡ given_verdict r
other_verdict r s task same = λ k. if (task k).me == 1 then same k else None

module _ (value : Values) (publics : ℕ) (tasks : List AgentTask) (are : AreTeamTasks tasks)
    (team : IsTeamOf publics tasks) (w next : World) (known : IsKnownWorld publics tasks w) (known_next : IsKnownWorld publics tasks next)
    (goals : (i : ℕ) (r : AgentRecord) → agent_at next i ≡ Some r → NotesItsGoal r) where
  -- a verdict is given: the search went on before
  judging : (event : Event) (step : IsStepOf value w event next) → All (λ x. HasRoom x.message) step.step.out → IsJudged step.agent step.step
      → ((i j : ℕ) → IsOf (length tasks) i → IsOf (length tasks) j
      → filter is_of_end (left value publics tasks team w known.team event next step i j) ≡ end_messages publics w i j)
      → (stage : Stage) → IsAt publics w stage → ComesTo publics tasks step.step.out next
  judging event step room judges left_same stage old = by stage old undecided
    where
      b_is : agent_of event ≡ 1
      b_is = sym (me_before value publics tasks team w known.team event next step (agent_of event) step.agent step.there) ∙ judges.me

      undecided : (first : AgentRecord) → agent_at w 1 ≡ Some first → is_deciding (given_verdict first) ≡ true → ⊥
      undecided first there deciding =
          let one : step.agent ≡ first = same_Some step.agent first (sym step.there ∙ ap (agent_at w) b_is ∙ there) in
          false≢true (sym judges.undecided ∙ ap (λ (r : AgentRecord). is_deciding (given_verdict r)) one ∙ deciding)

      by : (stage : Stage) (old : IsAt publics w stage) → ((first : AgentRecord) → agent_at w 1 ≡ Some first → is_deciding (given_verdict first) ≡ true → ⊥)
          → ComesTo publics tasks step.step.out next
      by searching old never =
          judged_comes value publics tasks are team w next known known_next event step room goals judges old.agents
          (λ i j is_i is_j.
          let x = agent_before value publics tasks team w known.team event next step j is_j in
          left_same i j is_i is_j ∙ old.mail i j x.0 (is_agent_of publics tasks team w (team_numbers publics tasks team w known.team) i is_i) x.1)
      by (without_plan kind) old never = absurd (never old.first old.there (end_decides (given_verdict old.first) kind old.verdict.verdict))
      by (picking agent number plan) old never = absurd (never old.first old.there (ap is_deciding old.verdict.proved.verdict))
      by (walking sender receiver sent earlier later) old never = absurd (never old.first old.there (ap is_deciding old.verdict.proved.verdict))
      by (over by_agent plan) old never = absurd (never old.first old.there (ap is_deciding old.verdict.proved.verdict))

  module _ (b a : ℕ) (step : IsStepOf value w (Take b a) next) (room : All (λ x. HasRoom x.message) step.step.out) (stage : Stage) (old : IsAt publics w stage) where
    abbrev Reading : Message → Type 0
    Reading m = message_of step.agent.task.agents step.agent.task.publics (taken w (Take b a)) ≡ Some m

    abbrev r : AgentRecord
    r = step.agent

    abbrev Comes : Type 0
    Comes = ComesTo publics tasks step.step.out next

    me : r.task.me ≡ b
    me = me_before value publics tasks team w known.team (Take b a) next step b r step.there

    notes_me : r.snapshot.me ≡ r.task.me
    notes_me = (place_of value publics tasks are team w next known known_next (Take b a) step b r step.there).1

    notes : AreNotesOf (length w.agents) r.task.me r.snapshot
    notes = known.in_runs.sound.notes r (ap (agent_at w) me ∙ step.there)

    is_a : IsOf (length tasks) a
    is_a = is_sender value publics tasks team w known.team b a next step

    -- a state
    state_comes : (m : State) → Reading (AState m) → without_messages (with_state (value r.task) r a m) ≡ step.step → Comes
    state_comes m read same =
        let size = (team_numbers publics tasks team w known.team).size in
        let few = team.agents in
        let agents = notes.agents in
        let of = is_a in
        let low = of.from_1 in
        let high = of.at_most in
        let verdict_same : verdict (with_state (value r.task) r a m).snapshot ≡ verdict r.snapshot =
        ap verdict (state_snapshot (value r.task) r a m) ∙ state_verdict r.snapshot a (m.g + m.h) notes.marked (omega arith) low (omega arith) in
        let calm = state_calm (value r.task) r a m in
        calm_comes value publics tasks are team w next known known_next (Take b a) step room
        (λ first. subst (λ (s : Step). IsSameVerdict r s.after) same (record {
          verdict = other_verdict r (with_state (value r.task) r a m) calm.task verdict_same;
          number = ap (λ (s : Notes). s.number) (state_snapshot (value r.task) r a m) ∙ counted_has (λ t. t.number ≡ r.snapshot.number) r.snapshot a (m.g + m.h) refl refl;
        }))
        stage old
        (λ deciding. subst (λ (s : Step). s.after.goal ≡ r.goal) same
        (state_goal (value r.task) r a m (place_of value publics tasks are team w next known known_next (Take b a) step b r step.there).0).goal)
        (subst (IsCalm r) same calm) (ends_left value publics tasks team w known.team b a next step (AState m) read refl)

    -- no marker is under way once a verdict is given
    no_marker : (number : ℕ) → Reading (Marker number) → (first : AgentRecord) → agent_at w 1 ≡ Some first → is_deciding (given_verdict first) ≡ true → ⊥
    no_marker number read first there deciding = by (given_verdict first) refl deciding
      where
        sender : (r : AgentRecord) × (agent_at w a ≡ Some r)
        sender = agent_before value publics tasks team w known.team (Take b a) next step a is_a

        sender_me : sender.0.task.me ≡ a
        sender_me = me_before value publics tasks team w known.team (Take b a) next step a sender.0 sender.1

        two : AreTwo w sender.0 r
        two = record {
          one = ap (agent_at w) sender_me ∙ sender.1;
          other = ap (agent_at w) me ∙ step.there;
          different = λ same. apart value publics tasks team w known.team b a next step (sym sender_me ∙ same ∙ me);
        }

        no_item : (x : ℕ) (xs : List ℕ) → x ∷ xs ≡ [] → ⊥
        no_item x xs e = cc

        by : (o : Option Verdict) → given_verdict first ≡ o → is_deciding o ≡ true → ⊥
        by None given test = false≢true test
        by (Some v) given test =
            let none = (verdict_is_over publics tasks team w known.team known.in_runs.sound first v there given).no_marker sender.0 r two in
            let here : markers publics w a b ≡ [] = (λ k. markers publics w (sym sender_me k) (sym me k)) ∙ none in
            no_item number (filter_map marker_of (left value publics tasks team w known.team (Take b a) next step a b))
            (sym (ap (filter_map marker_of) (taken_first value publics tasks team w known.team b a next step (Marker number) read)) ∙ here)

    -- agent 1 gives its verdict by other notes, while its snapshot is under way
    gives : (m : Message) → is_of_end m ≡ false → Reading m → (new : Notes) → r.snapshot.me ≡ 1 → is_under_way r.snapshot ≡ true
        → judged (record r { snapshot = new }) ≡ step.step → Comes
    gives m other read new first on same =
        judging (Take b a) step room (gives_over r new step.step first (sym notes_me ∙ first) on same)
        (ends_left value publics tasks team w known.team b a next step m read other) stage old

    -- another agent does nothing for the end
    calm_marker : (number : ℕ) → Reading (Marker number) → r.task.me ≢ 1 → IsCalm r step.step → Comes
    calm_marker number read other calm =
        calm_comes value publics tasks are team w next known known_next (Take b a) step room (λ first. absurd (other (me ∙ first)))
        stage old (λ deciding. absurd (no_marker number read old.first old.there deciding)) calm
        (ends_left value publics tasks team w known.team b a next step (Marker number) read refl)

    abbrev Takes : Message → Type 0
    Takes m = took_message (value r.task) r a m ≡ Ok step.step

    end_taken : (m : Message) → is_of_end m ≡ true → Reading m → Takes m → Comes
    end_taken m is_end read took = end_comes value publics tasks are team w next known known_next b a step room stage m is_end old read took

    take_comes : Comes
    take_comes =
        let t = taking (value r.task) r a (taken w (Take b a)) step.step step.local in
        message_holds (value r.task) r a (λ m s. s ≡ step.step → Reading m → Takes m → Comes) (record {
          state = λ m given right same read took. state_comes m read same;
          on = λ number goes same read took.
              let notes = with_marker r.snapshot a in
              let new : AgentRecord = record r { snapshot = notes } in
              elim (cases_eq r.task.me 1) [
                | inl first ↦
                    gives (Marker number) refl read notes (notes_me ∙ first) goes.on
                    (sym (λ j. if eq-eqb r.task.me 1 first j then judged new else reported new) ∙ same)
                | inr other ↦ calm_marker number read other (subst (IsCalm r) same (noted_calm r notes r.noted r.goal other))
              ];
          begins = λ number begins same read took.
              let new = with_marker (begun r.snapshot number (findings r)) a in
              let other = λ (first : r.task.me ≡ 1). begins.other (notes_me ∙ first) in
              let calm = noted_calm r new (length r.search.kept.entries) (goal_entry r.search.kept) other in
              calm_marker number read other (subst (IsCalm r) same (told_calm r number (judged_or_reported (with_notes new r)) calm));
          report = λ found good same read took.
              let fair = report_fair r.snapshot a found good in
              gives (Report found) refl read (after_report r.snapshot a found) fair.0 fair.1 same;
          pick = λ number good same. end_taken (Pick number) refl;
          trace = λ sent back entry there good same. end_taken (Trace sent back) refl;
          length = λ plan good same. end_taken (Length plan) refl;
          done = λ kind first same. end_taken (Done kind) refl;
        }) t.message step.step t.took refl t.reads t.took

  pub event_comes : (event : Event) (step : IsStepOf value w event next) → All (λ x. HasRoom x.message) step.step.out → (stage : Stage) → IsAt publics w stage
      → ComesTo publics tasks step.step.out next
  event_comes (Expand agent) step room stage old =
      let r = step.agent in
      let made = expanded r.task (value r.task) r.search in
      let same = same_step (with_search r made) step.step step.local in
      calm_comes value publics tasks are team w next known known_next (Expand agent) step room
      (λ first. subst (λ (s : Step). IsSameVerdict r s.after) same (record { verdict = refl; number = refl }))
      stage old (λ deciding. subst (λ (s : Step). s.after.goal ≡ r.goal) same refl)
      (subst (IsCalm r) same (expansion_calm r made))
      (λ i j is_i is_j. ap (filter is_of_end) (sym (messages_before value publics tasks team w known.team (Expand agent) next step i j)))
  event_comes (Take b a) step room stage old = take_comes b a step room stage old
  event_comes Start step room stage old =
      let r = step.agent in
      let same = same_step (started r) step.step step.local in
      judging Start step room (subst (IsJudged r) same (start_judged r (and_parts (is_going r.ending) (may_start r) step.may).1))
      (λ i j is_i is_j. ap (filter is_of_end) (sym (messages_before value publics tasks team w known.team Start next step i j)))
      stage old
