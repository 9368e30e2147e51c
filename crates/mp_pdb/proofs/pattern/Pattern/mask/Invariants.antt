use Rattle.std.proofs.Common.{◌+◌, map, take}
use Rattle.mp_pdb.specs.Masks.{Shows}
use Rattle.mp_pdb.specs.Pattern.{is_in}
use Rattle.mp_pdb.proofs.pattern.Pattern.mask.Given as goal

abbrev pub invariant-loop-k : goal.invariant-loop-k
invariant-loop-k l = Shows l.self.facts (is_in (map (λ k. l.offset + k) (take l.k-index l.facts))) l.mask
