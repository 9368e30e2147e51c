use Rattle.std.proofs.Common.{◌≡◌, [], length, All}
use Rattle.mp_relaxed.proofs.users.empty_lists.Given as goal

abbrev pub invariant-loop-size : goal.invariant-loop-size
invariant-loop-size l = (length l.lists.items ≡ l.size-index) × All (λ x. x ≡ []) l.lists.items
