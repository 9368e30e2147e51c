use Rattle.std.proofs.Common.{◌≡◌, Ok, subst}
use Rattle.mp_text.specs.Schedule.{schedule_in}
use Rattle.mp_solve.proofs.Schedules.{of_schedule}
use Rattle.mp_solve.proofs.replaying.schedule_of.Goals as goal

pub returns-in-Ok-clause-of_team : goal.returns-in-Ok-clause-of_team
returns-in-Ok-clause-of_team c =
    of_schedule c.args.agents c.requires.some c.args.text.items c.in-Ok.lines
    (subst (λ text. schedule_in c.args.agents text ≡ Ok c.in-Ok.lines) c.as_slice.ensures.value c.in-Ok.ensures.found)
