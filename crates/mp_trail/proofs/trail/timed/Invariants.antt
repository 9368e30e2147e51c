use Rattle.std.proofs.Common.{◌≡◌, ◌++◌, true, length}
use Rattle.mp_trail.specs.Share.{fits, share}
use Rattle.mp_trail.proofs.trail.timed.Given as goal

abbrev pub invariant-loop-rest : goal.invariant-loop-rest
invariant-loop-rest l = record {
  fits : fits l.length l.rest ≡ true;
  timed : l.timed ++ share l.length l.rest ≡ share l.length l.noted;
}

abbrev pub decreases-loop-rest : goal.decreases-loop-rest
decreases-loop-rest l = length l.rest
