-- What follows in a world whose snapshots are sound.
use Rattle.mp_world.proofs.Basics.{◌≡◌, ℕ, false, List, length, map, Some, sym, ap, ◌∙◌, Contains}
use Rattle.mp_world.specs.AgentWords.{AgentTask, Findings, Verdict, is_strange_marker, is_strange_report, own, verdict_of, AgentRecord, given_verdict}
use Rattle.mp_world.specs.World.{IsTeamWorld, World, agent_at}
use Rattle.mp_team_snapshots.specs.Messages.{markers, reports}
use Rattle.mp_team_snapshots.specs.Snapshots.{AreSnapshotsSound, AreTwo, IsSnapshotOver}
use Rattle.mp_team_snapshots.specs.Team.{IsTeamOf}
use Rattle.mp_team_snapshots.proofs.NotStrange.{marker_not_strange, report_not_strange}
use Rattle.mp_team_snapshots.proofs.Over.{snapshot_over, verdict_by_rule, verdict_there}
use Rattle.mp_team_snapshots.proofs.Protocol.{Sound}
use Rattle.mp_team_snapshots.proofs.Worlds.{HasNumbers, is_of_there, note_of, team_numbers, to_view, view}

module _ (publics : ℕ) (tasks : List AgentTask) (team : IsTeamOf publics tasks) (w : World) (is : IsTeamWorld tasks w) (sound : AreSnapshotsSound publics w) where
  numbers : HasNumbers tasks w
  numbers = team_numbers publics tasks team w is

  seen : Sound (length tasks) (view publics w)
  seen = to_view publics tasks team w numbers sound

  pub marker_is_good : (a b : AgentRecord) (number : ℕ) → AreTwo w a b → Contains (markers publics w a.task.me b.task.me) number
      → is_strange_marker b.snapshot a.task.me number ≡ false
  marker_is_good a b number two among =
      ap (λ s. is_strange_marker s a.task.me number) (sym (note_of w b.task.me b two.other))
      ∙ marker_not_strange (length tasks) team.agents (view publics w) seen a.task.me b.task.me number
      (is_of_there publics tasks team w numbers a.task.me a two.one) (is_of_there publics tasks team w numbers b.task.me b two.other) two.different among

  pub report_is_good : (first r : AgentRecord) (found : Findings) → first.task.me ≡ 1 → AreTwo w first r → Contains (reports publics w r.task.me 1) found
      → is_strange_report first.snapshot r.task.me found ≡ false
  report_is_good first r found number two among =
      ap (λ s. is_strange_report s r.task.me found) (sym (note_of w 1 first (sym (ap (agent_at w) number) ∙ two.one)))
      ∙ report_not_strange (length tasks) team.agents (view publics w) seen r.task.me found
      (is_of_there publics tasks team w numbers r.task.me r two.other) (λ same. two.different (number ∙ sym same)) among

  pub verdict_is_over : (first : AgentRecord) (v : Verdict) → agent_at w 1 ≡ Some first → given_verdict first ≡ Some v → IsSnapshotOver publics w first
  verdict_is_over first v there given = snapshot_over publics tasks team w numbers seen first there v (verdict_there first v given)

  pub verdict_is_rule : (first : AgentRecord) (v : Verdict) → agent_at w 1 ≡ Some first → given_verdict first ≡ Some v
      → verdict_of (map (λ r. own r.snapshot) w.agents) ≡ v
  verdict_is_rule first v there given = verdict_by_rule publics tasks team w numbers seen first there v (verdict_there first v given)
