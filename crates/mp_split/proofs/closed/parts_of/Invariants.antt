use Rattle.mp_split.proofs.Basics.{drop, option_copied, sorted_parts}
use Rattle.mp_split.proofs.Repeated.{AreShown, shown}
use Rattle.mp_split.proofs.closed.parts_of.Given as goal

abbrev pub invariant-loop-act : goal.invariant-loop-act
invariant-loop-act l = AreShown l.table (sorted_parts (shown l.table l.acts)) l.parts.items (drop l.act-index l.acts) (option_copied l.last)
