-- Round robin takes few rounds.
use Rattle.std.proofs.Common.{◌≡◌, ℕ, suc, ◌+◌, ◌≤◌, ◌<◌, ◌^◌, List, length, Some, refl, sym, subst, arith}
use Rattle.mp_messages.specs.declared.history.Event.{Event}
use Rattle.mp_machine.specs.AgentRecord.{AgentRecord}
use Rattle.mp_world.specs.RoundRobin.{Rounds}
use Rattle.mp_world.specs.RoundRobin.Rounds.{over, round}
use Rattle.mp_world.specs.Values.{Values}
use Rattle.mp_world.specs.World.{World, agent_at}
use Rattle.mp_team_verdicts.specs.Going.{AreGoingRounds, TakesFewRounds}
use Rattle.mp_schedule.specs.TeamRun.{HasDone, IsLogged, IsSameTeam, MayRun, TeamRun}
use Rattle.mp_schedule.proofs.MoreEvents.{first_there}

-- a team that is the same as another one
pub same_back : (a b : TeamRun) → IsSameTeam a b → IsSameTeam b a
same_back a b same = record { tasks = sym same.tasks; limit = sym same.limit }

-- the rounds of a schedule
rounds_of : (value : Values) (agents : ℕ) (w last : World) (events : List Event)
    → Rounds value agents w events last → (rounds : ℕ) × AreGoingRounds value agents rounds w last
rounds_of value agents w last events (over _ test) = (0, refl)
rounds_of value agents w last events (round _ next _ these later on does rest) =
    let more = rounds_of value agents next last later rest in
    (suc more.0, (next, record { on = on; events = these; round = does }, more.1))

-- they are few, where so many would be too many
pub few_rounds : (value : Values) (agents : ℕ) (a b : TeamRun) → agents ≡ length a.tasks
    → MayRun b → IsLogged value b → length b.schedule < 2 ^ 59 → HasDone (Rounds value agents) a b
    → ((first : AgentRecord) → agent_at b.world 1 ≡ Some first → first.snapshot.number ≤ length b.schedule)
    → ((rounds : ℕ) (first : AgentRecord) → AreGoingRounds value (length a.tasks) rounds a.world b.world
    → agent_at b.world 1 ≡ Some first → first.snapshot.number + 1 < 2 ^ 60 → rounds < 2 ^ 51)
    → TakesFewRounds value (length a.tasks) a.world b.world
few_rounds value agents a b size team is few done numbers law =
    let all = rounds_of value agents a.world b.world done.events done.done in
    let goes = subst (λ (n : ℕ). AreGoingRounds value n all.0 a.world b.world) size all.1 in
    let first = first_there value b team is in
    let small = numbers first.0 first.1 in
    record { rounds = all.0; few = law all.0 first.0 goes first.1 (omega arith); goes = goes }
