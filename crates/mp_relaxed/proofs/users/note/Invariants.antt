use Rattle.std.proofs.Common.{take}
use Rattle.mp_relaxed.specs.Users.{Takes}
use Rattle.mp_relaxed.proofs.users.note.Given as goal

abbrev pub invariant-loop-x : goal.invariant-loop-x
invariant-loop-x l = Takes l.initial.lists.items (take l.x-index l.pre) l.operator l.lists.items
