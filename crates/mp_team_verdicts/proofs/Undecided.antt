-- The search goes on where agent 1 has not decided it.
use Rattle.mp_world.proofs.Basics.{◌≡◌, ℕ, true, false, Option, Some, sym, ap, subst, ◌∙◌, IfSome, false≢true}
use Rattle.mp_world.specs.AgentWords.{AgentRecord, given_verdict, is_deciding}
use Rattle.mp_world.specs.Team.{IsTeam, Team}
use Rattle.mp_world.specs.World.{World, agent_at}
use Rattle.mp_team_snapshots.specs.Team.{IsTeamOf}
use Rattle.mp_team_verdicts.specs.Ending.{IsAt, Stage}
use Rattle.mp_team_verdicts.specs.Ending.Stage.{over, picking, searching, walking, without_plan}
use Rattle.mp_team_verdicts.proofs.InRuns.{ends_so_far}
use Rattle.mp_team_verdicts.proofs.Proving.{end_decides}
use Rattle.mp_team_verdicts.specs.Quiet.{IsUndecided}
use Rattle.mp_team_verdicts.proofs.ReachedWorlds.{IsReached}

module _ (team : Team) (is_team : IsTeam team) (publics : ℕ) (of_team : IsTeamOf publics team.tasks) (w : World)
    (at : IsReached team w) (undecided : IsUndecided w) where
  not_decided : (first : AgentRecord) → agent_at w 1 ≡ Some first → is_deciding (given_verdict first) ≡ true → ⊥
  not_decided first there decides =
      false≢true (sym (subst (λ (o : Option AgentRecord). IfSome o (λ r. is_deciding (given_verdict r) ≡ false)) there undecided) ∙ decides)

  by_stage : (stage : Stage) → IsAt publics w stage → IsAt publics w searching
  by_stage searching a = a
  by_stage (without_plan kind) a = absurd (not_decided a.first a.there (end_decides (given_verdict a.first) kind a.verdict.verdict))
  by_stage (picking agent number plan) a = absurd (not_decided a.first a.there (ap is_deciding a.verdict.proved.verdict))
  by_stage (walking from to sent earlier later) a = absurd (not_decided a.first a.there (ap is_deciding a.verdict.proved.verdict))
  by_stage (over by plan) a = absurd (not_decided a.first a.there (ap is_deciding a.verdict.proved.verdict))

  pub searches_still : IsAt publics w searching
  searches_still =
      let ends = ends_so_far team is_team publics of_team at.schedule w at.ran in
      by_stage ends.stage ends.is
