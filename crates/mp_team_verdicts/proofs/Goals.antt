-- Each agent keeps the goal entry whose cost it found in its last snapshot.
use Rattle.mp_world.proofs.Basics.{◌≡◌, ◌≢◌, ℕ, ◌+◌, ◌≤◌, ◌<◌, ◌^◌, true, List, length, Option, Some, None, refl, sym, ap, subst, ◌∙◌, arith, IfSome, Ok}
use Rattle.mp_machine.proofs.NotesLemmas.{own_reported}
use Rattle.mp_world.specs.AgentWords.{AgentTask, Event, Expand, Take, Start, Findings, Message, after_report, begun, own, with_marker, AgentRecord, with_search, Step, findings, goal_entry, judged, judged_or_reported, started, with_notes, took_message, walked}
use Rattle.mp_world.specs.AgentWords.{walked_from_goal}
use Rattle.mp_world.specs.SearchWords.{Numbers, expanded, SearchRecord, bound}
use Rattle.mp_world.specs.Events.{agent_of, taken}
use Rattle.mp_world.specs.Steps.{IsStepOf}
use Rattle.mp_world.specs.Team.{AreTeamTasks}
use Rattle.mp_world.specs.Values.{Values}
use Rattle.mp_world.specs.World.{World, agent_at}
use Rattle.mp_world.proofs.LocalCases.{message_holds, same_step}
use Rattle.mp_team_snapshots.specs.Team.{IsTeamOf}
use Rattle.mp_team_snapshots.proofs.TakingFirst.{apart, is_sender}
use Rattle.mp_team_states.proofs.WorldsGrow.{taking}
use Rattle.mp_team_verdicts.specs.Ending.{HasGoal}
use Rattle.mp_team_verdicts.proofs.Few.{keeps_few}
use Rattle.mp_team_states.proofs.EachAgent.{each_agent}
use Rattle.mp_team_verdicts.proofs.Frames.{IsKnownWorld, NotesItsGoal, goal_stays, me_before, of_before}
use Rattle.mp_team_verdicts.proofs.Proving.{goal_noted}
use Rattle.mp_team_verdicts.proofs.EndSteps.{GoalAfter, HasPlace, NotesGoal, begun_goal, either_keeps, from_goal_keeps, goal_begun, goal_kept, judged_keeps, state_goal, walked_keeps}
use Rattle.mp_team_verdicts.proofs.EndSteps.GoalAfter.{keeps, notes}

message_goal : (value : Numbers → Numbers → Option ℕ) (r : AgentRecord) (from : ℕ) → HasPlace r.snapshot → 1 ≤ from → from ≢ r.snapshot.me
    → (m : Message) (s : Step) → took_message value r from m ≡ Ok s → GoalAfter r s.after
message_goal value r from place low other =
    message_holds value r from (λ m s. GoalAfter r s.after) (record {
      state = λ m given right. keeps (state_goal value r from m place);
      on = λ number goes.
          let new : AgentRecord = record r { snapshot = with_marker r.snapshot from } in
          goal_kept r new (judged_or_reported new).after (either_keeps new) refl refl;
      begins = λ number begins.
          let new = with_marker (begun r.snapshot number (findings r)) from in
          goal_begun r new (judged_or_reported (with_notes new r)).after (either_keeps (with_notes new r)) (begun_goal r number place);
      report = λ found good.
          let new : AgentRecord = record r { snapshot = after_report r.snapshot from found } in
          goal_kept r new (judged new).after (judged_keeps new) refl
          (ap (λ (x : Findings). x.goal) (own_reported r.snapshot from found place.low low other));
      pick = λ number good.
          let new : AgentRecord = record r { picked = true } in
          goal_kept r new (walked_from_goal new).after (from_goal_keeps new) refl refl;
      trace = λ sent back entry there good. goal_kept r r (walked r entry back).after (walked_keeps r entry back) refl refl;
      length = λ plan good. keeps (record { goal = refl; own = refl });
      done = λ kind first. keeps (record { goal = refl; own = refl });
    })

module _ (value : Values) (publics : ℕ) (tasks : List AgentTask) (are : AreTeamTasks tasks)
    (team : IsTeamOf publics tasks) (w next : World) (known : IsKnownWorld publics tasks w) (known_next : IsKnownWorld publics tasks next) where
  -- an agent has a place in its notes
  pub place_of : (event : Event) → IsStepOf value w event next → (i : ℕ) (r : AgentRecord) → agent_at w i ≡ Some r → HasPlace r.snapshot × (r.snapshot.me ≡ r.task.me)
  place_of event step i r there =
      let me = me_before value publics tasks team w known.team event next step i r there in
      let notes = known.in_runs.sound.notes r (ap (agent_at w) me ∙ there) in
      let of = of_before value publics tasks team w known.team event next step i r there in
      let few = team.agents in
      let low = of.from_1 in
      let high = of.at_most in
      let mine = notes.me in
      (record { low = omega arith; high = omega arith; many = notes.found }, notes.me)

  goal_after : (event : Event) (step : IsStepOf value w event next) → GoalAfter step.agent step.step.after
  goal_after (Expand agent) step =
      let r = step.agent in
      let made = expanded r.task (value r.task) r.search in
      subst (λ (s : Step). GoalAfter r s.after) (same_step (with_search r made) step.step step.local) (keeps (record { goal = refl; own = refl }))
  goal_after Start step =
      let r = step.agent in
      let number = r.snapshot.number + 1 in
      let new = begun r.snapshot number (findings r) in
      subst (λ (s : Step). GoalAfter r s.after) (same_step (started r) step.step step.local) (goal_begun r new (judged (with_notes new r)).after (judged_keeps (with_notes new r)) (begun_goal r number (place_of Start step 1 r step.there).0))
  goal_after (Take b a) step =
      let r = step.agent in
      let t = taking (value r.task) r a (taken w (Take b a)) step.step step.local in
      let place = place_of (Take b a) step b r step.there in
      let is_a = is_sender value publics tasks team w known.team b a next step in
      let me = me_before value publics tasks team w known.team (Take b a) next step b r step.there in
      message_goal (value r.task) r a place.0 is_a.from_1
      (λ same. apart value publics tasks team w known.team b a next step (same ∙ place.1 ∙ me)) t.message step.step t.took

  pub goals_next : (event : Event) (step : IsStepOf value w event next) → ((i : ℕ) (r : AgentRecord) → agent_at w i ≡ Some r → NotesItsGoal r)
      → (i : ℕ) (r : AgentRecord) → agent_at next i ≡ Some r → NotesItsGoal r
  goals_next event step old =
      each_agent value w event next step (λ i r. NotesItsGoal r) (here (goal_after event step)) (λ i r there other. old i r there)
    where
      few : length step.step.after.search.kept.entries < 2 ^ 60
      few = let small = keeps_few tasks are next known_next.team known_next.so_far (agent_of event) step.step.after step.after in omega arith

      -- a goal that was noted before
      stays : step.step.after.goal ≡ step.agent.goal → (o : Option ℕ) → IfSome o (λ cost. (number : ℕ) × HasGoal step.agent number cost)
          → IfSome o (λ cost. (number : ℕ) × HasGoal step.step.after number cost)
      stays same None has = tt
      stays same (Some cost) has = (has.0, goal_stays value publics tasks team w known.team event next step step.agent step.step.after (agent_of event) has.0 cost step.there step.after same has.1)

      new : NotesGoal step.agent step.step.after → (o : Option ℕ) → (own step.step.after.snapshot).goal ≡ o → IfSome o (λ cost. (number : ℕ) × HasGoal step.step.after number cost)
      new n None is = tt
      new n (Some cost) is =
          goal_noted step.step.after cost few (n.goal ∙ ap (λ (x : SearchRecord). goal_entry x.kept) (sym n.search))
          (ap (λ (x : SearchRecord). bound x.kept) n.search ∙ sym n.own ∙ is)

      here : GoalAfter step.agent step.step.after → NotesItsGoal step.step.after
      here (keeps k) =
          subst (λ (o : Option ℕ). IfSome o (λ cost. (number : ℕ) × HasGoal step.step.after number cost)) (sym k.own)
          (stays k.goal (own step.agent.snapshot).goal (old (agent_of event) step.agent step.there))
      here (notes n) = new n (own step.step.after.snapshot).goal refl
