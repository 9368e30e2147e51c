use Rattle.std.proofs.Common.{◌+◌, [], ◌∷◌}
use Rattle.std.specs.List.{range_with_len}
use Rattle.mp_schedule.proofs.Onward.{each_done, nothing_done, one_done, one_more}
use Rattle.mp_world.specs.RoundRobin.{Turn}
use Rattle.mp_schedule.proofs.team.World.round.Goals as goal

pub loop-before-init : goal.loop-before-init
loop-before-init g c = nothing_done c.args.self.now

pub loop-before-preserved : goal.loop-before-preserved
loop-before-preserved g c =
    let turns = Turn g.H.Heuristic.value c.args.agents in
    let last = c.loop-before.before + 1 in
    each_done turns (range_with_len 1 c.loop-before.before) (last ∷ []) (range_with_len 1 last)
    c.args.self.now c.loop-before.self c.turn_of.new.self (one_more c.loop-before.before)
    c.loop-before.invariant (one_done turns last c.loop-before.self c.turn_of.new.self c.in_ok-turn_of.ensures.done)
