-- The answer of a team is right.
use Rattle.mp_world.proofs.Basics.{◌≡◌, ℕ, zero, suc, true, List, Option, Some, None, refl, sym, ap, subst, ◌∙◌, arith, Contains, if◌then◌else◌, not, option_map_or, false≢true, AllPass-from_list_all, get_or_from_slice_get, none-some, same_Some, slice_get_within}
use Rattle.mp_world.specs.AgentWords.{AgentTask, Event, Verdict, Proved, NoPlan, Spent, Continue, AgentRecord, given_verdict, is_going, is_deciding}
use Rattle.mp_world.specs.declared.answer.Answer.TheVariants as answers
use Rattle.mp_world.specs.Answers.{answer_by, answer_of}
use Rattle.mp_world.specs.Events.{run}
use Rattle.mp_world.specs.RoundRobin.{is_over}
use Rattle.mp_world.specs.Team.{IsTeam, Team}
use Rattle.mp_world.specs.World.{World, agent_at}
use Rattle.mp_world.proofs.Agents.{agent_there}
use Rattle.mp_world.proofs.Runs.{run_of_team}
use Rattle.mp_world.proofs.Stepping.{team_size}
use Rattle.mp_team_snapshots.proofs.Agreeing.{are_of_team}
use Rattle.mp_team_states.proofs.SoundWorlds.{IsHeuristic}
use Rattle.mp_team_verdicts.specs.Ending.{IsAt, Stage}
use Rattle.mp_team_verdicts.specs.Ending.Stage.{over, picking, searching, walking, without_plan}
use Rattle.mp_team_verdicts.specs.Shares.{IsOutcome}
use Rattle.mp_team_verdicts.proofs.InRuns.{ends_so_far}
use Rattle.mp_team_verdicts.proofs.Proving.{end_decides}
use Rattle.mp_team_verdicts.proofs.Sharing.{shares_in_runs}
use Rattle.mp_team_verdicts.specs.Right.{IsOptimal, IsRightAnswer, IsUndecided, IsUnsolvable}
use Rattle.mp_team_verdicts.proofs.Verdicts.{verdict_right}

-- an agent of a world that is over has ended
ended_in : (w : World) → is_over w ≡ true → (i : ℕ) (r : AgentRecord) → agent_at w i ≡ Some r → is_going r.ending ≡ true → ⊥
ended_in w finished zero r there going = none-some r there
ended_in w finished (suc k) r there going =
    let inside = slice_get_within w.agents k r there in
    let all = AllPass-from_list_all (λ (r : AgentRecord). not (is_going r.ending)) w.agents finished k r inside in
    false≢true (sym (ap not going) ∙ ap (λ (x : AgentRecord). not (is_going x.ending)) (sym (get_or_from_slice_get w.agents k r r there)) ∙ all)

-- where all agents have ended, the verdict decides
deciding_stage : (publics : ℕ) (w : World) (finished : is_over w ≡ true) (stage : Stage) (at : IsAt publics w stage) → is_deciding (given_verdict at.first) ≡ true
deciding_stage publics w finished searching at = absurd (ended_in w finished 1 at.first at.there (at.agents 1 at.first at.there).walked.going)
deciding_stage publics w finished (without_plan kind) at = end_decides (given_verdict at.first) kind at.verdict.verdict
deciding_stage publics w finished (picking agent number plan) at = absurd (ended_in w finished 1 at.first at.there (at.agents 1 at.first at.there).walked.going)
deciding_stage publics w finished (walking from to sent earlier later) at = absurd (ended_in w finished 1 at.first at.there (at.agents 1 at.first at.there).going)
deciding_stage publics w finished (over by plan) at = ap is_deciding at.verdict.proved.verdict

module _ (team : Team) (is_team : IsTeam team) (heuristic : IsHeuristic team.value team.tasks) (t : AgentTask)
    (member : Contains team.tasks t) (schedule : List Event) (w : World) (ran : run team schedule ≡ Some w)
    (finished : is_over w ≡ true) where
  open team use {tasks, value, limit}

  deciding : (first : AgentRecord) → agent_at w 1 ≡ Some first → is_deciding (given_verdict first) ≡ true
  deciding first there =
      let of_team = are_of_team tasks t is_team.tasks member in
      let ends = ends_so_far team is_team t.publics of_team schedule w ran in
      ap (λ (x : AgentRecord). is_deciding (given_verdict x)) (same_Some first ends.is.first (sym there ∙ ends.is.there))
      ∙ deciding_stage t.publics w finished ends.stage ends.is

  module _ (first : AgentRecord) (there : agent_at w 1 ≡ Some first) where
    answer_is : (o : Option Verdict) → given_verdict first ≡ o → answer_of w ≡ answer_by first.ending o
    answer_is o given =
        (λ k. if finished k then option_map_or (λ r. answer_by r.ending (given_verdict r)) (there k) answers.Nothing else answers.Nothing)
        ∙ ap (answer_by first.ending) given

    by_verdict : (o : Option Verdict) → given_verdict first ≡ o → is_deciding o ≡ true → IsRightAnswer team schedule w (answer_of w)
    by_verdict None given decides = absurd (false≢true decides)
    by_verdict (Some Continue) given decides = absurd (false≢true decides)
    by_verdict (Some (Proved agent cost)) given decides =
        let right : IsOptimal tasks cost = verdict_right team is_team heuristic t member schedule w ran first there (Proved agent cost) given in
        let outcome : IsOutcome tasks w cost = shares_in_runs team is_team schedule w ran finished first agent cost there given in
        subst (IsRightAnswer team schedule w) (sym outcome.answer)
        (record { outcome = outcome; steps_are = refl; least = right.least })
    by_verdict (Some NoPlan) given decides =
        let right : IsUnsolvable tasks = verdict_right team is_team heuristic t member schedule w ran first there NoPlan given in
        subst (IsRightAnswer team schedule w) (sym (answer_is (Some NoPlan) given)) right
    by_verdict (Some (Spent agent)) given decides =
        let right : IsUndecided team schedule w first.snapshot.number agent =
        verdict_right team is_team heuristic t member schedule w ran first there (Spent agent) given in
        subst (IsRightAnswer team schedule w) (sym (answer_is (Some (Spent agent)) given))
        (record { first = first; there = there; agent = agent; undecided = right })

  pub answer_right : IsRightAnswer team schedule w (answer_of w)
  answer_right =
      let inside = member.1 in
      let size = team_size tasks w (run_of_team team schedule w ran) in
      let one = agent_there w 1 (record { from_1 = omega arith; at_most = omega arith }) in
      by_verdict one.0 one.1 (given_verdict one.0) refl (deciding one.0 one.1)
