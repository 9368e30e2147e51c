use Rattle.std.proofs.Common.{◌≡◌, take}
use Rattle.std.specs.Io.KnownBytes.{Appends}
use Rattle.std.specs.List.{flat_map}
use Rattle.mp_outside.proofs.writing.put_all.Given as goal

-- the texts so far were written whole
abbrev pub invariant-loop-text : goal.invariant-loop-text
invariant-loop-text g l = record {
  grew : Appends (g.K.Sink.written l.fn.sink) (g.K.Sink.written l.sink) (flat_map (λ t. t.now) (take l.text-index l.texts));
  no_fault : g.K.Sink.faults l.sink ≡ g.K.Sink.faults l.fn.sink;
}
