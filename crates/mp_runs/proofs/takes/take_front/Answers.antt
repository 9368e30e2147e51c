use Rattle.std.proofs.Common.{◌≡◌, ℕ, ◌+◌, ◌<◌, List, length, get_or, take, Option, Some, refl, sym, ap, ◌∙◌, arith}
use Rattle.mp_runs.specs.Run.{run}
use Rattle.mp_runs.proofs.Runs.{run-none, run-take}
use Rattle.mp_runs.proofs.takes.take_front.Goals as goal

-- the event at the number of those that were taken is the next one
next : {S E : Type 0} (step : S → E → Option S) (s t : S) (events : List E) (taken i : ℕ) (e : E) → taken ≡ i → i < length events → e ≡ get_or events i e → run step s (take taken events) ≡ Some t → run step s (take (taken + 1) events) ≡ step t e
next step s t events taken i e same within is ran =
    let at : e ≡ get_or events taken e = is ∙ ap (λ k. get_or events k e) (sym same) in
    run-take step s t events taken e (omega arith) at ran

pub loop-event-init : goal.loop-event-init
loop-event-init g c = record { counted = refl; reached = run-none g.S.Takes.step c.args.state.now }

pub returns-then-not-take-clause-stopped : goal.returns-then-not-take-clause-stopped
returns-then-not-take-clause-stopped g c = λ _.
    next g.S.Takes.step c.args.state.now c.loop-event.state c.args.events.now c.loop-event.taken c.loop-event.event-index c.event-item.result c.loop-event.invariant.counted c.loop-event-test.true c.event-item.is c.loop-event.invariant.reached
    ∙ c.if-not-take.ensures.taken

pub loop-event-preserved : goal.loop-event-preserved
loop-event-preserved g c = record {
  counted = omega (arith, c.loop-event.invariant.counted);
  reached =
      next g.S.Takes.step c.args.state.now c.loop-event.state c.args.events.now c.loop-event.taken c.loop-event.event-index c.event-item.result c.loop-event.invariant.counted c.loop-event-test.true c.event-item.is c.loop-event.invariant.reached
      ∙ c.if-not-take.ensures.taken;
}
