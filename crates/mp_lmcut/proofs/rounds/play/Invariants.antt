use Rattle.std.proofs.Common.{◌≡◌, ◌+◌, ◌-◌, ◌*◌, ◌≤◌, length}
use Rattle.mp_relaxed.specs.Relaxed.{state_of}
use Rattle.mp_relaxed.specs.Search.{AreValues}
use Rattle.mp_lmcut.specs.Cut.{cuts}
use Rattle.mp_lmcut.specs.Sides.{costless}
use Rattle.mp_lmcut.proofs.rounds.play.Given as goal

abbrev pub invariant-loop : goal.invariant-loop
invariant-loop l = record {
  total :
      l.total + cuts (length l.initial.problem.operators - l.counter) l.problem.operators l.problem.goals (state_of l.problem l.publics.members l.privates.members)
      ≡ cuts (length l.initial.problem.operators) l.initial.problem.operators l.initial.problem.goals (state_of l.initial.problem l.publics.members l.privates.members);
  values : AreValues l.problem l.publics.members l.privates.members l.search.numbers;
  small : l.total ≤ l.counter * 16000000;
  kept : costless l.problem ≡ costless l.initial.problem;
  counted : l.search.operators ≡ l.initial.search.operators;
  sized : length l.search.numbers ≡ length l.initial.search.numbers;
}
