-- Nine rounds without an expansion, as they are told.
use Rattle.mp_world.proofs.Basics.{◌≡◌, ℕ, ◌+◌, ◌<◌, ◌^◌, length, Some, sym, ap, ◌∙◌, arith}
use Rattle.mp_world.specs.AgentWords.{Notes, AgentRecord}
use Rattle.mp_world.specs.Team.{IsTeam, Team}
use Rattle.mp_world.specs.World.{World, agent_at}
use Rattle.mp_team_snapshots.specs.Team.{IsTeamOf}
use Rattle.mp_team_snapshots.proofs.Worlds.{note_of}
use Rattle.mp_team_verdicts.specs.Quiet.{AreQuietRounds, IsQuietRound}
use Rattle.mp_team_verdicts.proofs.Calm.{goes_reached}
use Rattle.mp_team_verdicts.proofs.Calm.{IsQuietRound as IsQuiet}
use Rattle.mp_team_verdicts.proofs.Nine.{never_nine}
use Rattle.mp_team_verdicts.proofs.Points.{round_runs}
use Rattle.mp_team_verdicts.proofs.ReachedWorlds.{IsReached}
use Rattle.mp_team_verdicts.proofs.Undecided.{searches_still}

module _ (team : Team) (is_team : IsTeam team) (publics : ℕ) (of_team : IsTeamOf publics team.tasks) where
  open team use {tasks, value}

  abbrev At : World → Type 0
  At w = IsReached team w

  abbrev Quiet : World → World → Type 0
  Quiet = IsQuiet team is_team publics of_team

  as_quiet : (w v : World) → IsQuietRound value (length tasks) w v → Quiet w v
  as_quiet w v q = record { events = q.events; quiet = q.quiet; round = q.round }

  reach : (w v : World) → At w → IsQuietRound value (length tasks) w v → At v
  reach w v at q =
      goes_reached team is_team publics of_team q.events w v at (round_runs value (length tasks) w v q.events q.round)

  pub none_of_nine : (w last : World) (first : AgentRecord) → At w → AreQuietRounds value (length tasks) 9 w last
      → agent_at last 1 ≡ Some first → first.snapshot.number + 1 < 2 ^ 60 → ⊥
  none_of_nine w last first at (w1, q1, (w2, q2, (w3, q3, (w4, q4, (w5, q5, (w6, q6, (w7, q7, (w8, q8, (w9, q9, same))))))))) there room =
      let at1 = reach w w1 at q1 in
      let at2 = reach w1 w2 at1 q2 in
      let at3 = reach w2 w3 at2 q3 in
      let at4 = reach w3 w4 at3 q4 in
      let at5 = reach w4 w5 at4 q5 in
      let at6 = reach w5 w6 at5 q6 in
      let at7 = reach w6 w7 at6 q7 in
      let at8 = reach w7 w8 at7 q8 in
      let at9 = reach w8 w9 at8 q9 in
      let number = ap (λ (s : Notes). s.number) (note_of w9 1 first (ap (λ (v : World). agent_at v 1) (sym same) ∙ there)) in
      never_nine team is_team publics of_team w w1 w2 w3 w4 w5 w6 w7 w8 w9 at
      (as_quiet w w1 q1) (as_quiet w1 w2 q2) (as_quiet w2 w3 q3) (as_quiet w3 w4 q4) (as_quiet w4 w5 q5) (as_quiet w5 w6 q6)
      (as_quiet w6 w7 q7) (as_quiet w7 w8 q8) (as_quiet w8 w9 q9)
      (searches_still team is_team publics of_team w2 at2 q2.undecided)
      (searches_still team is_team publics of_team w5 at5 q5.undecided)
      (searches_still team is_team publics of_team w9 at9 q9.undecided)
      (omega arith)
