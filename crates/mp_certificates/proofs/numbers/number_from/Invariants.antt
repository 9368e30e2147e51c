use Rattle.std.proofs.Common.{◌≡◌, ◌<◌, length}
use Rattle.mp_certificates.specs.Reading.{number_from}
use Rattle.mp_certificates.proofs.numbers.number_from.Given as goal

-- the number so far and what is left make the whole
abbrev pub invariant-loop-rest : goal.invariant-loop-rest
invariant-loop-rest l = record {
  read : number_from l.bound l.number l.rest ≡ number_from l.bound l.first l.text;
  below : l.number < l.bound;
}

abbrev pub decreases-loop-rest : goal.decreases-loop-rest
decreases-loop-rest l = length l.rest
