use Rattle.std.specs.Bool.{one_answer}
use Rattle.mp_sets.proofs.ComparedLemmas.{Decides-sized_eq}
use Rattle.mp_sets.proofs.compared.BitsViewPartialEq.eq.Goals as goal

pub returns-then-size : goal.returns-then-size
returns-then-size c = one_answer c.equal.result _ c.equal.ensures (Decides-sized_eq c.args.self.now c.args.other.now)
