use Rattle.std.proofs.Common.{◌≡◌, ap, false, sym, subst, ◌∙◌}
use Rattle.std.specs.Prelude.{None, Ok}
use Rattle.std.proofs.lemmas.Option.{none-some}
use Rattle.mp_messages.specs.History.{schedule as schedule_of}
use Rattle.mp_schedule.specs.Happening.{IsAnswer, refusal_of}
use Rattle.mp_schedule.specs.Laws.{KeepsLaws}
use Rattle.mp_schedule.specs.Machines.{team_run, world_of}
use Rattle.mp_schedule.specs.TeamRun.{TeamRun, team_in}
use Rattle.mp_team_states.specs.Expansions.{ExpandsOne}
use Rattle.mp_schedule.proofs.Answering.{answer_ok, fails, goes_on, nothing_against}
use Rattle.mp_schedule.proofs.Keeping.{expanded, kept}
use Rattle.mp_schedule.proofs.team.World.event.Goals as goal

pub invariant_of-self : goal.invariant_of-self
invariant_of-self g c =
    let s = c.self.inside in
    let h = c.happen.new in
    goes_on g.H.Heuristic.value s.machines.items h.machines.items s.mail h.mail s.log h.log c.args.event s.failed
    c.if-self.false
    c.in-Ok.ensures.tasks c.in-Ok.ensures.limit c.in-Ok.ensures.done c.self.invariant

pub invariant_of-self-in-Err : goal.invariant_of-self-in-Err
invariant_of-self-in-Err g c =
    let s = c.self.inside in
    let h = c.happen.new in
    fails g.H.Heuristic.value s.machines.items h.machines.items s.mail h.mail s.log h.log c.args.event s.failed
    c.if-self.false
    c.happen.ensures.tasks c.happen.ensures.limit c.self.invariant

pub happen-requires-clause-legal : goal.happen-requires-clause-legal
happen-requires-clause-legal g c =
    let s = c.self.inside in
    let none : refusal_of (world_of s.machines.items s.mail) c.args.event ≡ None =
    ap (λ ms. refusal_of (world_of ms s.mail) c.args.event) (sym c.deref.ensures.value)
    ∙ sym c.refusal_of.ensures ∙ c.in_default.is in
    nothing_against (world_of s.machines.items s.mail) c.args.event none

pub returns-in-Some-clause-laws : goal.returns-in-Some-clause-laws
returns-in-Some-clause-laws g c = λ works.
    let s = c.self.inside in
    subst (KeepsLaws g.H.Heuristic.value) c.self.view_is
    (kept g.H.Heuristic.value s.machines.items s.mail s.log s.failed c.self.invariant c.if-self.false
    c.runs_keep_laws.ensures.laws)

pub returns-in-Ok-clause-answer : goal.returns-in-Ok-clause-answer
returns-in-Ok-clause-answer g c =
    let s = c.self.inside in
    let h = c.happen.new in
    let none : refusal_of (world_of s.machines.items s.mail) c.args.event ≡ None =
    ap (λ ms. refusal_of (world_of ms s.mail) c.args.event) (sym c.deref.ensures.value)
    ∙ sym c.refusal_of.ensures ∙ c.in_default.is in
    subst (λ (r : TeamRun). IsAnswer g.H.Heuristic.value {A = Unit {0}} r c.args.event (Ok tt)
    (team_run h.machines.items h.mail h.log s.failed)) c.self.view_is
    (answer_ok g.H.Heuristic.value s.machines.items h.machines.items s.mail h.mail s.log h.log c.args.event
    s.failed c.if-self.false
    c.in-Ok.ensures.tasks c.in-Ok.ensures.limit c.in-Ok.ensures.done none)

pub returns-in-Ok-clause-laws : goal.returns-in-Ok-clause-laws
returns-in-Ok-clause-laws g c = λ works.
    let s = c.self.inside in
    let h = c.happen.new in
    kept g.H.Heuristic.value h.machines.items h.mail h.log s.failed
    (goes_on g.H.Heuristic.value s.machines.items h.machines.items s.mail h.mail s.log h.log c.args.event s.failed
    c.if-self.false
    c.in-Ok.ensures.tasks c.in-Ok.ensures.limit c.in-Ok.ensures.done c.self.invariant) works
    c.runs_keep_laws.ensures.laws

pub returns-in-Ok-clause-one : goal.returns-in-Ok-clause-one
returns-in-Ok-clause-one g c = λ agent is.
    let s = c.self.inside in
    let h = c.happen.new in
    subst (λ (r : TeamRun). ExpandsOne r.world agent (world_of h.machines.items h.mail)) c.self.view_is
    (expanded g.H.Heuristic.value s.machines.items s.mail s.log s.failed c.self.invariant c.if-self.false
    c.runs_keep_laws.ensures.one h.machines.items h.mail h.log c.args.event c.in-Ok.ensures.done agent is)

pub unreachable-requires : goal.unreachable-requires
unreachable-requires g c =
    let s = c.self.inside in
    let w = world_of s.machines.items s.mail in
    let none : refusal_of w c.args.event ≡ None =
    ap (λ ms. refusal_of (world_of ms s.mail) c.args.event) (sym c.deref.ensures.value)
    ∙ sym c.refusal_of.ensures ∙ c.in_default.is in
    let now = team_run s.machines.items s.mail s.log false in
    let team = c.self.invariant.team in
    let run = (c.self.invariant.going c.if-self.false).run in
    let clauses = rw c.in-Err-Bad.field-0-is at c.in-Err-Bad.ensures in
    let next = c.no_message_is_bad.ensures.events (team_in g.H.Heuristic.value now) (schedule_of s.log) w c.args.event
    (record { is_team = record { tasks = team.tasks; most = team.most }; leads = run.leads }) (nothing_against w c.args.event none) in
    none-some next.0 (sym clauses.done ∙ next.1)
