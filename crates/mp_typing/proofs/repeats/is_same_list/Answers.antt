use Rattle.mp_typing.proofs.RepeatLemmas.{of_other_length}
use Rattle.mp_typing.proofs.repeats.is_same_list.Goals as goal

pub returns-then-a-b : goal.returns-then-a-b
returns-then-a-b c = of_other_length c.args.a.now c.args.b.now c.if-a-b.true
