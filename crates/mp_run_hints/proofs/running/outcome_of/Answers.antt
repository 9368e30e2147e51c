use Rattle.std.proofs.Common.{sym, ◌∙◌}
use Rattle.mp_run_hints.proofs.AnswerLemmas.{are_of_run, has_answered}
use Rattle.mp_run_hints.proofs.running.outcome_of.Goals as goal

pub told-requires : goal.told-requires
told-requires g c =
    let r = c.args.world.now in
    let ran = c.comes_from_a_run.ensures.run (sym c.has_failed.ensures ∙ c.if-has_failed.false) in
    record {
      team = c.requires.team;
      run = are_of_run g.H.Heuristic.value r c.comes_from_a_run.ensures.team ran c.machines.result.now c.machines.ensures.agents;
    }

pub returns : goal.returns
returns g c =
    let r = c.args.world.now in
    let ran = c.comes_from_a_run.ensures.run (sym c.has_failed.ensures ∙ c.if-has_failed.false) in
    has_answered g.H.Heuristic.value r ran c.requires.over c.in_ok-found.found.answer
    (c.in_ok-found.ensures.answer r.world (sym c.machines.ensures.agents))
