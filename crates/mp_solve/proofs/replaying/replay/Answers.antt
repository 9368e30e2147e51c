use Rattle.std.proofs.Common.{◌≡◌, Ok, length, subst, sym}
use Rattle.mp_text.specs.Schedule.{schedule_in}
use Rattle.mp_solve.proofs.Refusals.{if_stopped, unread}
use Rattle.mp_solve.proofs.replaying.replay.Goals as goal

pub returns-in-Ok-schedule_of-clause-refused : goal.returns-in-Ok-schedule_of-clause-refused
returns-in-Ok-schedule_of-clause-refused g c =
    if_stopped g.H.Heuristic.value c.args.limit c.args.factors.now c.args.text.items c.requires.some
    c.in-Ok.ensures.within c.in-Ok.given c.in-Ok.ensures.tasks c.as_slice.result.now
    (subst (λ lines. schedule_in (length c.args.factors.now) c.args.text.items ≡ Ok lines) (sym c.as_slice.ensures)
    c.in-Ok-schedule_of.ensures.read)
    c.replayed.result c.replayed.ensures.refused

pub returns-in-Err-schedule_of-clause-refused : goal.returns-in-Err-schedule_of-clause-refused
returns-in-Err-schedule_of-clause-refused g c =
    unread g.H.Heuristic.value c.args.limit c.args.factors.now c.args.text.items c.requires.some
    c.in-Ok.ensures.within c.in-Err-schedule_of.refusal c.in-Err-schedule_of.ensures.refused
