use Rattle.std.proofs.Common.{sym, ◌∙◌}
use Rattle.std.proofs.lemmas.Bool.{eqb-true}
use Rattle.mp_messages.specs.declared.history.Event.TheVariants.{Start}
use Rattle.mp_schedule.proofs.Onward.{if_it_may, starts_first}
use Rattle.mp_schedule.proofs.team.World.start_if_first.Goals as goal

pub returns-in_ok-happens-clause-done : goal.returns-in_ok-happens-clause-done
returns-in_ok-happens-clause-done g c =
    starts_first g.H.Heuristic.value c.args.agent c.args.self.now c.happens.new.self (eqb-true c.args.agent 1
    (sym c.is_first.ensures ∙ c.if-is_first.true))
    (if_it_may g.H.Heuristic.value Start c.args.self.now c.happens.new.self c.in_ok-happens.field-0
    c.in_ok-happens.ensures.did)
