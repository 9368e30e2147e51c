use Rattle.std.proofs.Common.{◌≡◌, ◌+◌, All, take, vec_len}
use Rattle.mp_estimates.specs.Estimates.{AtMost, Values}
use Rattle.mp_pdb.specs.declared.moves.Move.{Move}
use Rattle.mp_estimates.specs.Lowering.{AreBelow, HaveFallen, known}
use Rattle.mp_pdb.specs.Table.{AreLow, AreReached}
use Rattle.mp_pdb.proofs.table.relax_all.Given as goal

abbrev pub invariant-loop-found : goal.invariant-loop-found
invariant-loop-found l = record {
  len : vec_len l.numbers ≡ vec_len l.initial.numbers;
  fallen : HaveFallen l.initial.numbers.items l.initial.queue l.numbers.items l.queue;
  reached : All (λ (m : Move). AreReached (vec_len l.initial.numbers) l.numbers.items m l.to (m.cost + l.number)) (take l.found-index l.moves);
  below : (values : Values) → AreLow (vec_len l.initial.numbers) l.moves values → AtMost (values l.to) (known l.number) → AreBelow values l.initial.numbers.items → AreBelow values l.numbers.items;
}
