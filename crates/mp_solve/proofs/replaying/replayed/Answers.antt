use Rattle.std.proofs.Common.{◌≡◌, List, ap, length, map, subst, sym, ◌∙◌}
use Rattle.std.specs.Prelude.{All}
use Rattle.mp_messages.specs.declared.history.Event.{Event}
use Rattle.mp_schedule.specs.Happening.{IsOfTeam}
use Rattle.mp_text.specs.Outcome.{outcome_text}
use Rattle.mp_text.specs.declared.schedule.EventLine.{EventLine}
use Rattle.mp_world.specs.Answers.{outcome_of}
use Rattle.mp_outcome.specs.Names.{names_of}
use Rattle.mp_solve.specs.Ended.{HasDoneAll}
use Rattle.mp_world.specs.Team.{team_with}
use Rattle.mp_solve.proofs.Begins.{may_begin}
use Rattle.mp_solve.proofs.Ends.{done_for}
use Rattle.mp_solve.proofs.Found.{AnswersAreRight}
use Rattle.mp_solve.proofs.Solutions.{found_in_turn}
use Rattle.mp_solve.proofs.replaying.replayed.Goals as goal

pub begun-requires : goal.begun-requires
begun-requires g c =
    let stands = c.tasks_stand_for_files.ensures c.args.factors.now c.args.given c.checked_factors_are_checked.ensures c.requires.tasks in
    may_begin c.args.limit c.args.factors.now stands.0 c.args.given.tasks stands.2 c.requires.from_1 c.requires.limit c.requires.some c.requires.at_most

pub happen_all-requires-clause-of_team : goal.happen_all-requires-clause-of_team
happen_all-requires-clause-of_team g c =
    let stands = c.tasks_stand_for_files.ensures c.args.factors.now c.args.given c.checked_factors_are_checked.ensures c.requires.tasks in
    let size : length c.in_ok-world.world.tasks ≡ length c.args.factors.now =
    ap length c.in_ok-world.ensures.team.tasks_are ∙ stands.2.one_each in
    subst (λ n. All (λ (line : EventLine). IsOfTeam n line.event) c.args.lines.now) (sym size) c.requires.of_team

pub returns-in-Ok-clause-found : goal.returns-in-Ok-clause-found
returns-in-Ok-clause-found g c =
    let value = g.H.Heuristic.value in
    let law : AnswersAreRight value = c.answers_are_right_for_files.ensures in
    let begun = c.in_ok-world.world in
    let r = c.happen_all.new.world in
    let schedule : List Event = map (λ (line : EventLine). line.event) c.args.lines.now in
    let done : HasDoneAll (team_with value c.args.limit c.args.given.tasks) schedule r =
    done_for value c.args.limit begun.limit c.args.given.tasks begun.tasks schedule r c.in_ok-world.ensures.team.limit_is
    c.in_ok-world.ensures.team.tasks_are c.in-Ok.ensures.done in
    let s = c.in_ok-solution_of-in-Ok.field-0 in
    let told = c.in_ok-solution_of-in-Ok.ensures in
    found_in_turn value c.args.limit c.args.factors.now c.args.given schedule r law c.checked_factors_are_checked.ensures
    c.requires.some c.requires.tasks c.requires.limit done s told.answer told.log
    (subst (λ steps. s.text ≡ outcome_text (outcome_of r.world) (names_of c.args.factors.now steps) r.log)
    c.as_slice.ensures told.text)
    told.views
