-- What holds of the entries in their order holds of the log.
use Rattle.std.proofs.Common.{sym, subst, List}
use Rattle.std.specs.Prelude.{IfOk, Result}
use Rattle.std.proofs.lemmas.Result.{IfOk-weaker}
use Rattle.mp_messages.specs.declared.history.Entry.{Entry}
use Rattle.mp_stamps.specs.Lists.{entries}
use Rattle.mp_stamps.specs.Sorting.{AreSorted, IsInOrderOf}
use Rattle.mp_stamps.specs.declared.stamped.Stamped.{Stamped}
use Rattle.mp_stamps.proofs.Parts.{flat}

pub of_log : {E : Type 0} (lists : List (List Stamped)) (P : List Entry → Type 0) (r : Result (List Entry) E)
    → ((order : List Stamped) → AreSorted (flat lists) order → P (entries order)) → IfOk r (λ log. IsInOrderOf lists log) → IfOk r P
of_log lists P r holds is = IfOk-weaker r (λ log. IsInOrderOf lists log) P (λ log h. subst P (sym h.log_is) (holds h.order h.sorted)) is
