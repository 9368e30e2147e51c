use Rattle.std.proofs.Common.{sym, ◌∙◌}
use Rattle.mp_schedule.proofs.Ended.{first_ends}
use Rattle.mp_schedule.proofs.Outcomes.{found_is}
use Rattle.mp_schedule.proofs.found.outcome.Goals as goal

pub answer-requires : goal.answer-requires
answer-requires g c =
    first_ends g.H.Heuristic.value c.args.machines.now c.requires (sym c.have_ended.ensures ∙ c.if-not-have_ended.false)

pub returns : goal.returns
returns g c = λ last same.
    found_is c.args.machines.now last same c.answer.result c.in_ok-shares.field-0
    (sym c.have_ended.ensures ∙ c.if-not-have_ended.false) c.answer.ensures c.in_ok-shares.ensures
