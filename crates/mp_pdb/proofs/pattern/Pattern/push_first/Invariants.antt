use Rattle.std.proofs.Common.{◌≡◌, ◌+◌, ◌++◌, length, map, take}
use Rattle.mp_pdb.proofs.pattern.Pattern.push_first.Given as goal

abbrev pub invariant-loop-k : goal.invariant-loop-k
invariant-loop-k l = record {
  size : l.self.size ≡ l.fn.self.size;
  left : l.room + length l.self.facts ≡ 12;
  facts : l.self.facts ≡ l.fn.self.facts ++ map (λ k. l.offset + k) (take l.k-index l.facts);
}
