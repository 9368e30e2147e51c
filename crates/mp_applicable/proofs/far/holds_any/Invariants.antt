use Rattle.std.proofs.Common.{◌≡◌, drop}
use Rattle.std.specs.List.{list_any}
use Rattle.mp_sets.specs.Numbers.{holds}
use Rattle.mp_applicable.proofs.far.holds_any.Given as goal

abbrev pub invariant-loop-list : goal.invariant-loop-list
invariant-loop-list l = list_any (holds l.publics.members) (drop l.list-index l.lists) ≡ list_any (holds l.publics.members) l.lists
