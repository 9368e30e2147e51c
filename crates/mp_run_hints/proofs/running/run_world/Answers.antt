use Rattle.std.proofs.Common.{subst}
use Rattle.std.specs.Prelude.{IfOk}
use Rattle.mp_run_hints.specs.Answered.{IsAnswerOf}
use Rattle.mp_solve.specs.declared.telling.ToldAnswer.{ToldAnswer}
use Rattle.mp_run_hints.proofs.running.run_world.Goals as goal

pub returns : goal.returns
returns g c =
    let v = g.H.Heuristic.value in
    let same = c.take_turns.ensures.same in
    let told = c.told_of.result in
    subst (λ n. IfOk told (λ (t : ToldAnswer). IsAnswerOf v n c.args.world.now.tasks t.answer)) same.limit
    (subst (λ ts. IfOk told (λ (t : ToldAnswer). IsAnswerOf v c.take_turns.new.world.limit ts t.answer)) same.tasks c.told_of.ensures)
