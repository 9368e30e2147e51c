use Rattle.std.proofs.Common.{◌≡◌, ◌||◌, All, drop}
use Rattle.std.specs.List.{list_any}
use Rattle.mp_sets.specs.Numbers.{Numbers, holds}
use Rattle.mp_task.specs.Limits.{AllLess}
use Rattle.mp_applicable.specs.Far.{may_act}
use Rattle.mp_applicable.proofs.far.preconditions_of.Given as goal

abbrev pub invariant-loop-part : goal.invariant-loop-part
invariant-loop-part l = record {
  tells : (s : Numbers) → (list_any (holds s) l.set.keys || may_act (drop l.part-index l.task.far) l.agent s) ≡ may_act l.task.far l.agent s;
  fits : All (AllLess l.task.publics) l.set.keys;
}
