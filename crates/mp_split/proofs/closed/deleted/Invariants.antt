use Rattle.mp_split.proofs.Basics.{◌≡◌, not, take, filter, is_number_in, texts_at}
use Rattle.mp_split.proofs.closed.deleted.Given as goal

abbrev pub invariant-loop-delete : goal.invariant-loop-delete
invariant-loop-delete l = l.texts ≡ texts_at l.table (filter (λ n. not (is_number_in l.add n)) (take l.delete-index l.del))
