use Rattle.std.proofs.Common.{◌≡◌, map, subst}
use Rattle.std.specs.Prelude.{IfOk}
use Rattle.mp_text.specs.Outcome.{outcome_text}
use Rattle.mp_world.specs.Answers.{outcome_of}
use Rattle.mp_world.specs.World.{World}
use Rattle.mp_outcome.specs.Names.{names_of}
use Rattle.mp_solutions.specs.declared.solution.Solution.{Solution}
use Rattle.mp_solve.proofs.Begins.{may_begin}
use Rattle.mp_solve.proofs.Found.{AnswersAreRight}
use Rattle.mp_team.specs.Finished.{HasFinished}
use Rattle.mp_top.proofs.Workers.{are_of_run, by_given, if_to_end}
use Rattle.mp_top.proofs.by_workers.found.Goals as goal

pub new_team-requires : goal.new_team-requires
new_team-requires g c =
    let stands = c.tasks_stand_for_files.ensures c.args.team.now c.args.given c.checked_factors_are_checked.ensures c.requires.tasks in
    may_begin c.args.limit c.args.team.now stands.0 c.args.given.tasks stands.2 c.requires.from_1 c.requires.limit c.requires.some c.requires.at_most

pub solution_of-requires : goal.solution_of-requires
solution_of-requires g c =
    let stands = c.tasks_stand_for_files.ensures c.args.team.now c.args.given c.checked_factors_are_checked.ensures c.requires.tasks in
    let made = c.in_ok-machines.ensures in
    let f : HasFinished g.H.Heuristic.value c.args.limit c.args.given.tasks c.in_ok-finished.finished =
    by_given c.in_ok-machines.machines.items c.args.limit c.args.given.tasks made.limit made.tasks
    (λ limit tasks. HasFinished g.H.Heuristic.value limit tasks c.in_ok-finished.finished) c.in_ok-finished.ensures in
    record {
      team = c.requires.at_most;
      run =
          are_of_run g.H.Heuristic.value c.args.limit c.args.given.tasks c.requires.limit
          c.in_ok-finished.finished.machines.items c.in_ok-finished.finished.log f.last f.leads f.agents (record { agree = stands.2.agree; within = made.within });
    }

pub returns : goal.returns
returns g c =
    let law : AnswersAreRight g.H.Heuristic.value = c.answers_are_right_for_files.ensures in
    let made = c.in_ok-machines.ensures in
    let f : HasFinished g.H.Heuristic.value c.args.limit c.args.given.tasks c.in_ok-finished.finished =
    by_given c.in_ok-machines.machines.items c.args.limit c.args.given.tasks made.limit made.tasks
    (λ limit tasks. HasFinished g.H.Heuristic.value limit tasks c.in_ok-finished.finished) c.in_ok-finished.ensures in
    let machines = c.in_ok-finished.finished.machines.items in
    let log = c.in_ok-finished.finished.log in
    if_to_end g.H.Heuristic.value c.args.limit c.args.team.now c.args.given law c.checked_factors_are_checked.ensures
    c.requires.some c.requires.tasks made.within c.requires.limit machines log f.last f.leads f.agents
    f.is_log f.over c.solution_of.result c.solution_of.ensures.views c.solution_of.ensures.log c.solution_of.ensures.answer
    (subst (λ steps. IfOk c.solution_of.result (λ (s : Solution). (w : World) → w.agents ≡ map (λ m. m.done) machines
    → s.text ≡ outcome_text (outcome_of w) (names_of c.args.team.now steps) log)) c.as_slice.ensures
    c.solution_of.ensures.text)
