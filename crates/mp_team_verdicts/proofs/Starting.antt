-- In silence, where no snapshot is under way and the search is not decided, agent 1 starts the next snapshot in a round.
use Rattle.mp_world.proofs.Basics.{◌≡◌, ◌≢◌, ℕ, ◌+◌, ◌≤◌, Bool, true, ◌&&◌, List, [], ◌∷◌, ◌++◌, length, Some, refl, sym, ap, subst, ◌∙◌, arith, ◌⊎◌, inl, inr, filter, filter_map, and_from, cases_eq, false≢true, same_Some}
use Rattle.mp_runs.proofs.Runs.{run-none, run_parts}
use Rattle.mp_messages.specs.declared.message.Message.TheVariants.{State as AState}
use Rattle.mp_world.specs.AgentWords.{Event, Expand, Take, Start, Message, Marker, Report, Pick, Trace, Length, Done, message_of, Notes, is_complete, is_whole, own, is_going, may_start, Step, started}
use Rattle.mp_world.specs.Events.{after_event, agent_may, is_legal, taken}
use Rattle.mp_world.specs.Steps.{IsStepOf}
use Rattle.mp_world.specs.Team.{IsTeam, Team}
use Rattle.mp_world.specs.World.{World}
use Rattle.mp_world.proofs.Agents.{member_of}
use Rattle.mp_team_snapshots.specs.Messages.{marker_of, markers, messages, report_of, reports}
use Rattle.mp_team_snapshots.specs.Team.{IsTeamOf}
use Rattle.mp_team_snapshots.proofs.Changes.{left, note_after, note_before}
use Rattle.mp_team_snapshots.proofs.Due.{no_marker_begun, no_report_done, none_begun}
use Rattle.mp_team_snapshots.proofs.Effects.{IsTaken, same_step, took_effect}
use Rattle.mp_team_snapshots.proofs.Protocol.{IsOf, Sound}
use Rattle.mp_team_snapshots.proofs.Started.{start_effect}
use Rattle.mp_team_snapshots.proofs.Starting.{no_marker_left, no_report_left}
use Rattle.mp_team_snapshots.proofs.TakingFirst.{apart, is_receiver, is_sender, taken_first}
use Rattle.mp_team_snapshots.proofs.Worlds.{is_agent_of, note_at, note_of, team_numbers, view}
use Rattle.mp_team_verdicts.specs.Ending.{IsAt, end_messages, is_of_end}
use Rattle.mp_team_verdicts.specs.Ending.Stage.{searching}
use Rattle.mp_team_verdicts.proofs.Frames.{IsKnownWorld, end_taken}
use Rattle.mp_team_verdicts.proofs.InRuns.{ends_so_far}
use Rattle.mp_team_verdicts.proofs.Calm.{Goes, IsQuietRound, Reached, number_at, rises}
use Rattle.mp_team_verdicts.proofs.Fresh.{IsSilent, quiet_in_silence}
use Rattle.mp_team_verdicts.proofs.Points.{GoesThrough, TriesToStart, first_starts, round_runs}
use Rattle.mp_team_verdicts.proofs.ReachedWorlds.{known, reached_next, step_of}
use Rattle.mp_team_verdicts.proofs.Silence.{takes_other}
use Rattle.mp_team_verdicts.proofs.Stuck.{HasNumberLeft, first_may_start, idle, is_first, may_at, sound_view}

no_item : {X : Type 0} (x : X) (xs : List X) → x ∷ xs ≡ [] → ⊥
no_item x xs is = let impossible : ⊥ = cc in impossible

module _ (team : Team) (is_team : IsTeam team) (publics : ℕ) (of_team : IsTeamOf publics team.tasks) where
  open team use {tasks, value}

  abbrev n : ℕ
  n = length tasks

  abbrev At : World → Type 0
  At = Reached team is_team publics of_team

  abbrev Leads : World → List Event → World → Type 0
  Leads = Goes team is_team publics of_team

  abbrev num : World → ℕ → ℕ
  num = number_at team is_team publics of_team

  is_known : (w : World) → At w → IsKnownWorld publics tasks w
  is_known = known team is_team publics of_team

  seen : (w : World) → At w → Sound n (view publics w)
  seen = sound_view team is_team publics of_team

  -- a start gives the next number
  pub start_number : (w next : World) → At w → IsStepOf value w Start next → num next 1 ≡ num w 1 + 1
  start_number w next at step =
      let is = (is_known w at).team in
      let r = step.agent in
      ap (λ (s : Notes). s.number) (note_after value publics tasks of_team w is Start next step)
      ∙ ap (λ (s : Step). s.after.snapshot.number) (sym (same_step (started r) step.step step.local))
      ∙ ap (λ (s : Notes). s.number) (start_effect r).snapshot
      ∙ ap (λ (s : Notes). s.number + 1) (sym (note_before value publics tasks of_team w is Start next step))

  -- A world in silence, in which the search goes on and no snapshot is under way.
  pub record IsIdle (w : World) : Type 0 where
    pub at : At w
    pub silent : IsSilent n publics w
    pub searches : IsAt publics w searching
    pub over : (num w 1 ≡ 0) ⊎ (is_complete (note_at w 1) ≡ true)

  module _ (w : World) (i : IsIdle w) where
    is : IsKnownWorld publics tasks w
    is = is_known w i.at

    one : IsOf n 1
    one = is_first team is_team publics of_team w i.at

    no_marker : (a b : ℕ) → IsOf n a → IsOf n b → a ≢ b → markers publics w a b ≡ []
    no_marker a b is_a is_b off = by (cases_eq (num w 1) 0) i.over
      where
        by : ((num w 1 ≡ 0) ⊎ (num w 1 ≡ 0 → ⊥)) → (num w 1 ≡ 0) ⊎ (is_complete (note_at w 1) ≡ true) → markers publics w a b ≡ []
        by (inl none) over =
            (seen w i.at).marker a b is_a is_b off
            ∙ no_marker_begun (num w 1) (num w a) (num w b) _ (none_begun (num w 1) (num w a) none)
        by (inr some) (inl none) = absurd (some none)
        by (inr some) (inr complete) =
            no_marker_left n of_team.agents (view publics w) (seen w i.at) (omega (arith, some)) complete a b is_a is_b off

    no_report : (a : ℕ) → IsOf n a → a ≢ 1 → reports publics w a 1 ≡ []
    no_report a is_a off = by (cases_eq (num w 1) 0) i.over
      where
        by : ((num w 1 ≡ 0) ⊎ (num w 1 ≡ 0 → ⊥)) → (num w 1 ≡ 0) ⊎ (is_complete (note_at w 1) ≡ true) → reports publics w a 1 ≡ []
        by (inl none) over =
            (seen w i.at).report a is_a off
            ∙ no_report_done (num w 1) (num w a) (is_whole (note_at w a)) _ (own (note_at w a))
            (ap (λ (b : Bool). b && is_whole (note_at w a)) (none_begun (num w 1) (num w a) none))
        by (inr some) (inl none) = absurd (some none)
        by (inr some) (inr complete) =
            no_report_left n of_team.agents (view publics w) (seen w i.at) (omega (arith, some)) complete a is_a off

    -- no message is taken
    no_take : (b a : ℕ) (next : World) → IsStepOf value w (Take b a) next → ⊥
    no_take b a next step = by took.message took.read
      where
        took : IsTaken step.agent a (taken w (Take b a)) step.step
        took = took_effect (value step.agent.task) step.agent a (taken w (Take b a)) step.step step.local

        is_a : IsOf n a
        is_a = is_sender value publics tasks of_team w (is_known w i.at).team b a next step

        is_b : IsOf n b
        is_b = is_receiver value publics tasks of_team w (is_known w i.at).team b a next step

        off : a ≢ b
        off = apart value publics tasks of_team w (is_known w i.at).team b a next step

        rest : List Message
        rest = left value publics tasks of_team w (is_known w i.at).team (Take b a) next step a b

        front : (m : Message) → message_of step.agent.task.agents step.agent.task.publics (taken w (Take b a)) ≡ Some m
            → messages publics w a b ≡ m ∷ left value publics tasks of_team w (is_known w i.at).team (Take b a) next step a b
        front m read = taken_first value publics tasks of_team w (is_known w i.at).team b a next step m read

        no_report_to : reports publics w a b ≡ []
        no_report_to = by (cases_eq b 1)
          where
            by : (b ≡ 1) ⊎ (b ≡ 1 → ⊥) → reports publics w a b ≡ []
            by (inl same) =
                subst (λ k. reports publics w a k ≡ []) (sym same) (no_report a is_a (λ e. off (e ∙ sym same)))
            by (inr other) =
                (ends_so_far team is_team publics of_team i.at.schedule w i.at.ran).reports a b is_a is_b other

        no_end : end_messages publics w a b ≡ []
        no_end =
            i.searches.mail a b step.agent
            (is_agent_of publics tasks of_team w (team_numbers publics tasks of_team w (is_known w i.at).team) a is_a) step.there

        no_end_taken : (m : Message) → is_of_end m ≡ true → message_of step.agent.task.agents step.agent.task.publics (taken w (Take b a)) ≡ Some m → ⊥
        no_end_taken m is_end read =
            no_item m (filter is_of_end rest) (sym (end_taken value publics tasks of_team w (is_known w i.at).team b a next step m read is_end) ∙ no_end)

        by : (m : Message) → message_of step.agent.task.agents step.agent.task.publics (taken w (Take b a)) ≡ Some m → ⊥
        by (AState s) read =
            takes_other value publics tasks of_team w (is_known w i.at).team b a next step (i.silent.no_states a b is_a is_b off) (AState s) read
        by (Marker k) read =
            no_item k (filter_map marker_of rest) (sym (ap (filter_map marker_of) (front (Marker k) read)) ∙ no_marker a b is_a is_b off)
        by (Report f) read =
            no_item f (filter_map report_of rest) (sym (ap (filter_map report_of) (front (Report f) read)) ∙ no_report_to)
        by (Pick k) read = no_end_taken (Pick k) refl read
        by (Trace sent back) read = no_end_taken (Trace sent back) refl read
        by (Length plan) read = no_end_taken (Length plan) refl read
        by (Done kind) read = no_end_taken (Done kind) refl read

    -- agent 1 may start a snapshot
    start_legal : HasNumberLeft w → is_legal w Start ≡ true
    start_legal room =
        let first = i.searches.first in
        let there = i.searches.there in
        let going = (i.searches.agents 1 first there).walked.going in
        let me = (member_of tasks of_team.numbered w (is_known w i.at).team 1 first there).me in
        let noted : note_at w 1 ≡ first.snapshot = note_of w 1 first there in
        let notes_me : first.snapshot.me ≡ 1 = ap (λ (s : Notes). s.me) (sym noted) ∙ ((seen w i.at).notes 1 one).me in
        let free = idle first.snapshot notes_me
        (subst (λ (s : Notes). (s.number ≡ 0) ⊎ (is_complete s ≡ true)) noted i.over) in
        let start = first_may_start first me (i.silent.idle 1 first there) free i.searches.verdict (room first there) in
        and_from (agent_may w Start) true (may_at w Start first there ∙ and_from (is_going first.ending) (may_start first) going start) refl

    -- the first event is a start
    begins_with : (event : Event) (next : World) → after_event value w event ≡ Some next → num next 1 ≡ num w 1 + 1
    begins_with event next leads = by event next (step_of team is_team publics of_team w next event i.at leads)
      where
        by : (event : Event) (next : World) → IsStepOf value w event next → num next 1 ≡ num w 1 + 1
        by (Expand agent) next step =
            absurd (false≢true (quiet_in_silence value publics tasks of_team w (is_known w i.at).team (is_known w i.at).in_runs i.silent (Expand agent) next step))
        by (Take b a) next step = absurd (no_take b a next step)
        by Start next step = start_number w next i.at step

    module _ (v : World) (q : IsQuietRound team is_team publics of_team w v) (room : HasNumberLeft w) where
      later : (event : Event) (es : List Event) (u last : World) → At u → after_event value w event ≡ Some u → Leads u es last
          → num w 1 + 1 ≤ num last 1
      later event es u last at_u leads goes =
          let first = begins_with event u leads in
          let more = rises team is_team publics of_team 1 es u last at_u goes in
          omega arith

      first_event : (events : List Event) → Leads w events v → (events ≡ [] → ⊥) → num w 1 + 1 ≤ num v 1
      first_event [] goes some = absurd (some refl)
      first_event (e ∷ es) goes some =
          let parts = run_parts (after_event value) w v e es goes in
          later e es parts.0 v (reached_next team is_team publics of_team w parts.0 e i.at parts.1) parts.1 parts.2

      -- so agent 1 has started a snapshot after the round
      pub starts_next : num w 1 + 1 ≤ num v 1
      starts_next = by p.before p.is p.ran
        where
          p : GoesThrough value (TriesToStart value) w q.events v
          p = first_starts value n w v q.events q.quiet q.round one

          runs : Leads w q.events v
          runs = round_runs value n w v q.events q.round

          by : (before : List Event) → q.events ≡ before ++ p.after → Leads w before p.at → num w 1 + 1 ≤ num v 1
          by [] is ran = tries p.holds
            where
              same : w ≡ p.at
              same = same_Some w p.at (sym (run-none (after_event value) w) ∙ ran)

              tries : TriesToStart value p.at p.after → num w 1 + 1 ≤ num v 1
              tries (inl not_legal) =
                  absurd (false≢true (sym not_legal ∙ ap (λ u. is_legal u Start) (sym same) ∙ start_legal room))
              tries (inr (more, starts)) =
                  first_event q.events runs (λ none. no_item Start more (sym starts ∙ sym is ∙ none))
          by (e ∷ es) is ran = first_event q.events runs (λ none. no_item e (es ++ p.after) (sym is ∙ none))
