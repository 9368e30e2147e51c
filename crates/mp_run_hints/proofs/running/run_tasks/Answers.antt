use Rattle.std.proofs.Common.{subst}
use Rattle.mp_schedule.specs.TeamRun.{TeamRun}
use Rattle.mp_solve.proofs.Begins.{may_begin}
use Rattle.mp_run_hints.specs.Answered.{IsAnswerOf}
use Rattle.mp_run_hints.proofs.AnswerLemmas.{is_answered}
use Rattle.mp_run_hints.proofs.running.run_tasks.Goals as goal

pub begun-requires : goal.begun-requires
begun-requires g c =
    let stands = c.tasks_stand_for_files.ensures c.args.factors.now c.args.given c.checked_factors_are_checked.ensures c.requires.tasks in
    may_begin c.args.limit c.args.factors.now stands.0 c.args.given.tasks stands.2 c.requires.from_1 c.requires.limit c.requires.some c.requires.at_most

pub returns : goal.returns
returns g c =
    let v = g.H.Heuristic.value in
    let answer = c.in_ok-answered.answered.answer in
    is_answered v c.args.limit c.args.factors.now c.args.given c.answers_are_right_for_files.ensures
    c.checked_factors_are_checked.ensures c.requires.some c.requires.tasks c.in_ok-world.ensures.within c.requires.limit answer
    (subst (λ (r : TeamRun). IsAnswerOf v r.limit r.tasks answer) c.in_ok-world.ensures.start c.in_ok-answered.ensures)
