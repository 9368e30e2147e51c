-- A round of a team that is not over is more events, and a log in memory has room for few.
use Rattle.std.proofs.Common.{◌≡◌, ◌≢◌, ◌+◌, ◌-◌, ◌≤◌, ◌<◌, ◌^◌, List, [], ◌∷◌, length, Option, Some, None}
use Rattle.std.proofs.Common.{refl, ap, ◌∙◌, arith}
use Rattle.std.specs.List.{cons_option, filter_map}
use Rattle.std.proofs.lemmas.List.{length-append}
use Rattle.mp_messages.specs.declared.history.Entry.{Entry}
use Rattle.mp_messages.specs.declared.history.Event.{Event}
use Rattle.mp_messages.specs.History.{event_of, schedule as schedule_of}
use Rattle.mp_machine.specs.AgentRecord.{AgentRecord}
use Rattle.mp_world.specs.RoundRobin.{Round}
use Rattle.mp_world.specs.Values.{Values}
use Rattle.mp_world.specs.World.{agent_at}
use Rattle.mp_world.proofs.Agents.{agent_there}
use Rattle.mp_world.proofs.Runs.{run_of_team}
use Rattle.mp_world.proofs.Stepping.{team_size}
use Rattle.mp_schedule.specs.TeamRun.{HasDone, IsLogged, MayRun, TeamRun, team_in}

-- what is made of some items is no more than these are
made_of_some : {X Y : Type 0} (h : X → Option Y) (xs : List X) → length (filter_map h xs) ≤ length xs
made_of_some h [] = omega arith
made_of_some {X} {Y} h (x ∷ xs) = by (h x) (made_of_some h xs)
  where
    none : (ys : List Y) → length ys ≤ length xs → length ys ≤ length (x ∷ xs)
    none ys rest = omega arith

    one : (y : Y) (ys : List Y) → length ys ≤ length xs → length (y ∷ ys) ≤ length (x ∷ xs)
    one y ys rest = omega arith

    by : (o : Option Y) → length (filter_map h xs) ≤ length xs → length (cons_option o (filter_map h xs)) ≤ length (x ∷ xs)
    by None rest = none (filter_map h xs) rest
    by (Some y) rest = one y (filter_map h xs) rest

-- a log has no more events than entries
pub few_events : (log : List Entry) → length log < 2 ^ 59 → length (schedule_of log) < 2 ^ 59
few_events log few = let fewer = made_of_some event_of log in omega arith

-- there is an agent 1
pub first_there : (value : Values) (r : TeamRun) → MayRun r → IsLogged value r
    → (first : AgentRecord) × (agent_at r.world 1 ≡ Some first)
first_there value r team is =
    let size = team_size r.tasks r.world (run_of_team (team_in value r) r.schedule r.world is.leads) in
    let some = team.from_1 in
    agent_there r.world 1 (record { from_1 = omega arith; at_most = omega arith })

module _ (value : Values) (r s : TeamRun) (team : MayRun r) (is : IsLogged value r)
    (few : length r.schedule < 2 ^ 59) (done : HasDone (Round value (length r.tasks)) r s)
  where
    more : (events : List Event) → events ≢ [] → length s.schedule ≡ length r.schedule + length events
        → 2 ^ 59 - length s.schedule < 2 ^ 59 - length r.schedule
    more [] some long = absurd (some refl)
    more (e ∷ events) some long = let less = few in omega arith

    -- the room that is left for events gets less
    pub less_room :
        ((first : AgentRecord) → agent_at r.world 1 ≡ Some first → first.snapshot.number ≤ length r.schedule)
        → ((first : AgentRecord) → agent_at r.world 1 ≡ Some first → first.snapshot.number + 1 < 2 ^ 60 → done.events ≢ [])
        → 2 ^ 59 - length s.schedule < 2 ^ 59 - length r.schedule
    less_room numbers does =
        let first = first_there value r team is in
        let small = numbers first.0 first.1 in
        let less = few in
        let room : first.0.snapshot.number + 1 < 2 ^ 60 = omega arith in
        more done.events (does first.0 first.1 room) (ap length done.appended ∙ length-append r.schedule done.events)
