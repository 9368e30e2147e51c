use Rattle.mp_typing.proofs.Basics.{take, HasLower}
use Rattle.mp_typing.proofs.hierarchy.lower_of.Given as goal

abbrev pub invariant-loop-declared : goal.invariant-loop-declared
invariant-loop-declared l = HasLower (take l.declared-index l.types) l.lower.entries
