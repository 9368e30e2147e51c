use Rattle.std.proofs.Common.{◌-◌, drop, take}
use Rattle.mp_certify.specs.Made.{AreMade}
use Rattle.mp_certify.proofs.bounds.turned_bounds.Given as goal

abbrev pub invariant-loop-later : goal.invariant-loop-later
invariant-loop-later g l =
    AreMade l.machines l.me l.cost (drop (l.count - l.later) (take l.count l.machine.done.search.kept.entries)) l.met.keys l.made.items
