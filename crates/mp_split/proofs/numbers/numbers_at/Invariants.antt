use Rattle.mp_split.proofs.Basics.{◌≡◌, map, take, slice_index_or}
use Rattle.mp_split.proofs.numbers.numbers_at.Given as goal

abbrev pub invariant-loop-place : goal.invariant-loop-place
invariant-loop-place l = l.out ≡ map (λ n. slice_index_or l.all n 0) (take l.place-index l.place-items)
