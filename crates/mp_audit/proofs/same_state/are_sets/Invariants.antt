use Rattle.std.proofs.Common.{◌≡◌, ◌≤◌, length, drop}
use Rattle.mp_audit.proofs.SameLemmas.{are_one}
use Rattle.mp_audit.proofs.same_state.are_sets.Given as goal

abbrev pub invariant-loop-place : goal.invariant-loop-place
invariant-loop-place l = record {
  inside : l.place ≤ length l.bound.privates;
  left : are_one (drop l.place l.bound.privates) (drop l.place l.sets) ≡ are_one l.bound.privates l.sets;
}
