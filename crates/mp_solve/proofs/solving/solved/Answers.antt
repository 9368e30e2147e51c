use Rattle.std.proofs.Common.{◌≡◌, subst}
use Rattle.std.specs.Prelude.{IfOk}
use Rattle.mp_text.specs.Outcome.{outcome_text}
use Rattle.mp_world.specs.Answers.{outcome_of}
use Rattle.mp_outcome.specs.Names.{names_of}
use Rattle.mp_solutions.specs.declared.solution.Solution.{Solution}
use Rattle.mp_solve.proofs.Begins.{may_begin}
use Rattle.mp_solve.proofs.Ends.{of_itself}
use Rattle.mp_solve.proofs.Found.{AnswersAreRight}
use Rattle.mp_solve.proofs.Solutions.{if_solution}
use Rattle.mp_solve.proofs.solving.solved.Goals as goal

pub ended-requires : goal.ended-requires
ended-requires g c =
    let stands = c.tasks_stand_for_files.ensures c.args.factors.now c.args.given c.checked_factors_are_checked.ensures c.requires.tasks in
    may_begin c.args.limit c.args.factors.now stands.0 c.args.given.tasks stands.2 c.requires.from_1 c.requires.limit c.requires.some c.requires.at_most

pub solution_of-requires : goal.solution_of-requires
solution_of-requires g c =
    let r = c.in_ok-world.world in
    record {
      team = c.requires.at_most;
      done = of_itself g.H.Heuristic.value c.args.limit c.args.given.tasks r.schedule r c.in_ok-world.ensures.done;
    }

pub returns : goal.returns
returns g c =
    let law : AnswersAreRight g.H.Heuristic.value = c.answers_are_right_for_files.ensures in
    let r = c.in_ok-world.world in
    if_solution g.H.Heuristic.value c.args.limit c.args.factors.now c.args.given r law c.checked_factors_are_checked.ensures
    c.requires.some c.requires.tasks c.requires.limit
    c.in_ok-world.ensures
    c.solution_of.result c.solution_of.ensures.views c.solution_of.ensures.log c.solution_of.ensures.answer
    (subst (λ steps. IfOk c.solution_of.result (λ (s : Solution). s.text
    ≡ outcome_text (outcome_of r.world) (names_of c.args.factors.now steps) r.log)) c.as_slice.ensures
    c.solution_of.ensures.text)
