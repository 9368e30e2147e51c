use Rattle.std.proofs.Common.{sym, subst}
use Rattle.mp_messages.specs.declared.history.Event.TheVariants.{Take}
use Rattle.mp_schedule.specs.GoingOn.{HappensIf, TakesAll}
use Rattle.mp_schedule.proofs.Fewer.{fewer}
use Rattle.mp_schedule.proofs.Onward.{leads_itself, takes_no_more, takes_on}
use Rattle.mp_world.proofs.Agents.{agree_numbered}
use Rattle.mp_world.specs.World.{AreNumbered}
use Rattle.mp_schedule.proofs.team.World.take_all.Goals as goal

pub messages-init : goal.messages-init
messages-init g c = leads_itself (TakesAll g.H.Heuristic.value c.args.by c.args.from) c.args.self.now

pub messages-preserved : goal.messages-preserved
messages-preserved g c =
    let event = Take c.args.by c.args.from in
    takes_on g.H.Heuristic.value event c.args.self.now c.messages.self c.takes.new.self c.messages.invariant
    (subst (λ did. HappensIf g.H.Heuristic.value c.messages.self event did c.takes.new.self)
    c.if-not-branch.false c.in_ok-takes.ensures.did)

pub messages-smaller : goal.messages-smaller
messages-smaller g c =
    let event = Take c.args.by c.args.from in
    let did = subst (λ did. HappensIf g.H.Heuristic.value c.messages.self event did c.takes.new.self)
    c.if-not-branch.false c.in_ok-takes.ensures.did in
    fewer g.H.Heuristic.value c.messages.self.tasks
    (subst AreNumbered (sym c.messages.invariant.same.tasks)
    (agree_numbered c.args.self.now.tasks c.comes_from_a_run.ensures.team.tasks.agree))
    c.messages.self.world did.team c.args.by c.args.from c.takes.new.self.world did.happened.leads

pub returns-then-not-branch-clause-done : goal.returns-then-not-branch-clause-done
returns-then-not-branch-clause-done g c =
    let event = Take c.args.by c.args.from in
    takes_no_more g.H.Heuristic.value event c.args.self.now c.messages.self c.takes.new.self c.messages.invariant
    (subst (λ did. HappensIf g.H.Heuristic.value c.messages.self event did c.takes.new.self)
    c.if-not-branch.true c.in_ok-takes.ensures.did)
