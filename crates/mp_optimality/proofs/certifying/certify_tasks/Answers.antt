use Rattle.std.proofs.Common.{◌≡◌, refl, subst, sym}
use Rattle.mp_outcome.specs.Names.{names_of}
use Rattle.mp_solve.proofs.Begins.{may_begin}
use Rattle.mp_solve.proofs.Ends.{of_itself}
use Rattle.mp_solve.proofs.Finds.{are_of_run}
use Rattle.mp_text.specs.Outcome.{outcome_text}
use Rattle.mp_world.specs.Answers.{outcome_of}
use Rattle.mp_team_states.specs.Expansions.{nothing_known}
use Rattle.mp_optimality.proofs.CertifiedRuns.{certified_by}
use Rattle.mp_optimality.proofs.certifying.certify_tasks.Goals as goal

pub ended-requires : goal.ended-requires
ended-requires c =
    let stands = c.tasks_stand_for_files.ensures c.args.factors.now c.args.given c.checked_factors_are_checked.ensures c.requires.tasks in
    may_begin c.args.limit c.args.factors.now stands.0 c.args.given.tasks stands.2 c.requires.from_1 c.requires.limit c.requires.some c.requires.at_most

pub told-requires : goal.told-requires
told-requires c =
    let r = c.in_ok-world.world in
    record {
      team = c.requires.at_most;
      run = are_of_run nothing_known r
          (of_itself nothing_known c.args.limit c.args.given.tasks r.schedule r c.in_ok-world.ensures.done)
          c.machines.result.now c.machines.ensures.agents;
    }

pub told_answer-requires-clause-answer : goal.told_answer-requires-clause-answer
told_answer-requires-clause-answer c = c.in_ok-found.ensures.answer c.in_ok-world.world.world (sym c.machines.ensures.agents)

pub returns : goal.returns
returns c =
    let r = c.in_ok-world.world in
    let given = c.args.given in
    certified_by c.args.limit c.args.factors.now given r c.in_ok-world.ensures c.answers_are_right_for_files.ensures
    c.checked_factors_are_checked.ensures c.requires.some c.requires.tasks c.requires.limit
    (record {
      views = given.views;
      log = c.into_log.result;
      answer = c.in_ok-found.found.answer;
      text = c.in_ok-found.found.text;
    })
    c.in_ok-text.text refl
    c.into_log.ensures
    (c.in_ok-found.ensures.answer r.world (sym c.machines.ensures.agents))
    (subst (λ steps. c.in_ok-found.found.text ≡ outcome_text (outcome_of r.world) (names_of c.args.factors.now steps) r.log) c.as_slice.ensures
    (subst (λ log. c.in_ok-found.found.text ≡ outcome_text (outcome_of r.world) (names_of c.args.factors.now c.as_slice.result.now) log) c.log.ensures
    (c.in_ok-found.ensures.text r.world (sym c.machines.ensures.agents))))
    c.in_ok-text.ensures

pub told_answer-requires-clause-free : goal.told_answer-requires-clause-free
told_answer-requires-clause-free c = c.in_ok-world.ensures.done.free
