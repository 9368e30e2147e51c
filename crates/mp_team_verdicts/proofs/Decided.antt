-- The search goes on over few rounds.
use Rattle.mp_world.proofs.Basics.{◌≡◌, ℕ, zero, suc, ◌+◌, ◌*◌, ◌-◌, ◌≤◌, ◌<◌, ◌^◌, Bool, true, false, length, Some, refl, sym, ap, subst, arith, ◌⊎◌, inl, inr, nat_lt, cases_eq, ltb-false, ltb-true}
use Rattle.mp_world.specs.AgentWords.{Notes, AgentRecord}
use Rattle.mp_world.specs.Team.{IsTeam, Team}
use Rattle.mp_world.specs.Values.{Values}
use Rattle.mp_world.specs.World.{World, agent_at}
use Rattle.mp_world.proofs.Agents.{agent_there}
use Rattle.mp_team_snapshots.specs.Team.{IsTeamOf}
use Rattle.mp_team_snapshots.proofs.Worlds.{note_at, note_of}
use Rattle.mp_team_states.specs.Room.{expanded_by_all}
use Rattle.mp_team_verdicts.specs.Quiet.{AreQuietRounds, AreSearchRounds, IsQuietRound, IsSearchRound, are_quiet}
use Rattle.mp_team_verdicts.proofs.Calm.{Reached, goes_reached, rises}
use Rattle.mp_team_verdicts.proofs.Counting.{counts_rise, few_counts, one_counts}
use Rattle.mp_team_verdicts.proofs.NineRounds.{none_of_nine}
use Rattle.mp_team_verdicts.proofs.Points.{round_runs}
use Rattle.mp_team_verdicts.proofs.Stuck.{is_agent, is_first}

module _ (value : Values) (agents : ℕ) where
  -- one quiet round more
  quiet_more : (rounds : ℕ) (u w v : World) → AreQuietRounds value agents rounds u w → IsQuietRound value agents w v
      → AreQuietRounds value agents (suc rounds) u v
  quiet_more zero u w v same q = (v, subst (λ x. IsQuietRound value agents x v) same q, refl)
  quiet_more (suc rounds) u w v (next, first, rest) q = (next, first, quiet_more rounds next w v rest q)

module _ (team : Team) (is_team : IsTeam team) (publics : ℕ) (of_team : IsTeamOf publics team.tasks) where
  open team use {tasks, value}

  abbrev n : ℕ
  n = length tasks

  abbrev At : World → Type 0
  At = Reached team is_team publics of_team

  reach : (w v : World) → At w → IsSearchRound value n w v → At v
  reach w v at q = goes_reached team is_team publics of_team q.events w v at (round_runs value n w v q.events q.round)

  -- numbers of agent 1's snapshots rise over the rounds
  rise : (rounds : ℕ) (w last : World) → At w → AreSearchRounds value n rounds w last → (note_at w 1).number ≤ (note_at last 1).number
  rise zero w last at same = let is : (note_at last 1).number ≡ (note_at w 1).number = ap (λ (v : World). (note_at v 1).number) same in omega arith
  rise (suc rounds) w last at (next, q, rest) =
      let first = rises team is_team publics of_team 1 q.events w next at (round_runs value n w next q.events q.round) in
      let later = rise rounds next last (reach w next at q) rest in
      omega arith

  -- nine quiet rounds do not lead to a world from which there is room
  no_nine : (u w : World) → At u → AreQuietRounds value n 9 u w → At w → (note_at w 1).number + 1 < 2 ^ 60 → ⊥
  no_nine u w at_u quiet at_w room =
      let found = agent_there w 1 (is_agent team is_team publics of_team w at_w 1 (is_first team is_team publics of_team w at_w)) in
      none_of_nine team is_team publics of_team u w found.0 at_u quiet found.1
      (subst (λ (s : Notes). s.number + 1 < 2 ^ 60) (note_of w 1 found.0 found.1) room)

  -- The rounds from a world on are few, where so many before it were quiet.
  few_from : (rounds : ℕ) (w last : World) → At w → AreSearchRounds value n rounds w last → (note_at last 1).number + 1 < 2 ^ 60
      → (before : ℕ) (u : World) → before ≤ 9 → At u → AreQuietRounds value n before u w
      → 9 * (160000000 - expanded_by_all w) + (9 - before) ≤ rounds → ⊥
  few_from zero w last at same room before u small at_u quiet many =
      let nine : before ≡ 9 = omega arith in
      no_nine u w at_u (subst (λ k. AreQuietRounds value n k u w) nine quiet) at
      (subst (λ (v : World). (note_at v 1).number + 1 < 2 ^ 60) same room)
  few_from (suc rounds) w last at (next, q, rest) room before u small at_u quiet many =
      by (cases_eq before 9) (are_quiet q.events) refl (few_from rounds next last (reach w next at q) rest room)
    where
      Later : Type 0
      Later = (before : ℕ) (u : World) → before ≤ 9 → At u → AreQuietRounds value n before u next
          → 9 * (160000000 - expanded_by_all next) + (9 - before) ≤ rounds → ⊥

      low : (note_at w 1).number ≤ (note_at last 1).number
      low = rise (suc rounds) w last at (next, q, rest)

      by : (before ≡ 9) ⊎ (before ≡ 9 → ⊥) → (b : Bool) → are_quiet q.events ≡ b
          → ((before : ℕ) (u : World) → before ≤ 9 → At u → AreQuietRounds value n before u next
          → 9 * (160000000 - expanded_by_all next) + (9 - before) ≤ rounds → ⊥)
          → ⊥
      by (inl nine) b test later =
          let least = low in
          no_nine u w at_u (subst (λ k. AreQuietRounds value n k u w) nine quiet) at (omega arith)
      by (inr fewer) true test later =
          let more = counts_rise team is_team publics of_team q.events w next at (round_runs value n w next q.events q.round) in
          later (suc before) u (omega (arith, fewer)) at_u
          (quiet_more value n before u w next quiet (record { events = q.events; round = q.round; quiet = test; undecided = q.undecided }))
          (omega (arith, fewer))
      by (inr fewer) false test later =
          let more = one_counts team is_team publics of_team q.events w next at (round_runs value n w next q.events q.round) test in
          let few = few_counts team is_team publics of_team next (reach w next at q) in
          later 0 next (omega arith) (reach w next at q) refl (omega arith)

  pub few_rounds : (rounds : ℕ) (w last : World) (first : AgentRecord) → At w → AreSearchRounds value n rounds w last
      → agent_at last 1 ≡ Some first → first.snapshot.number + 1 < 2 ^ 60 → rounds < 1440000009
  few_rounds rounds w last first at searched there room = by (nat_lt rounds 1440000009) refl
    where
      space : (note_at last 1).number + 1 < 2 ^ 60
      space = subst (λ (s : Notes). s.number + 1 < 2 ^ 60) (sym (note_of last 1 first there)) room

      by : (b : Bool) → nat_lt rounds 1440000009 ≡ b → rounds < 1440000009
      by true test = ltb-true rounds 1440000009 test
      by false test =
          let high = ltb-false rounds 1440000009 test in
          absurd (few_from rounds w last at searched space 0 w (omega arith) at refl (omega arith))
