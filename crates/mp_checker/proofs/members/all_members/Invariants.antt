use Rattle.std.proofs.Common.{◌≡◌, map, take}
use Rattle.mp_checker.specs.Numbering.{member_flags}
use Rattle.mp_checker.proofs.members.all_members.Given as goal

abbrev pub invariant-loop-param : goal.invariant-loop-param
invariant-loop-param l = l.made ≡ map (member_flags l.factor) (take l.param-index l.params)
