use Rattle.std.proofs.Common.{◌≡◌, ◌+◌, true, vec_len}
use Rattle.std.specs.Io.KnownBytes.{Consumes}
use Rattle.mp_outside.specs.Acts.{Does}
use Rattle.mp_outside.proofs.Acts.{HaveTaken}
use Rattle.mp_outside.proofs.reading.read_front.Given as goal

-- what was taken so far is the beginning of what was left, and the room and it make up the whole room
abbrev pub invariant-loop-room : goal.invariant-loop-room
invariant-loop-room g l = record {
  held : g.S.Source.held l.source ≡ g.S.Source.held l.fn.source;
  no_fault : g.S.Source.faults l.source ≡ g.S.Source.faults l.fn.source;
  is_begun : g.S.Source.is_begun l.source ≡ true;
  begun : g.S.Source.begun l.source ≡ g.S.Source.begun l.fn.source;
  took : Consumes (g.S.Source.left l.fn.source) (g.S.Source.left l.source) l.bytes.items;
  room : vec_len l.bytes + l.room ≡ l.fn.most;
  acts : Does (HaveTaken (vec_len l.bytes)) (g.S.Source.acts l.fn.source) (g.S.Source.acts l.source);
}

abbrev pub decreases-loop-room : goal.decreases-loop-room
decreases-loop-room g l = l.room
