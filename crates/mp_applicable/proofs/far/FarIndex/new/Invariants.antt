use Rattle.std.proofs.Common.{◌≡◌, ℕ, ◌+◌, length}
use Rattle.std.specs.Prelude.{IfSome, slice_get}
use Rattle.mp_applicable.specs.Far.{ArePreconditionsOf}
use Rattle.mp_applicable.proofs.far.FarIndex.new.Given as goal

abbrev pub invariant-loop-before : goal.invariant-loop-before
invariant-loop-before l = record {
  agents : length l.lists.items ≡ l.before;
  lists : (k : ℕ) → IfSome (slice_get l.lists.items k) (λ set. ArePreconditionsOf l.task (k + 1) set.keys);
}
