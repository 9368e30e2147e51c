use Rattle.std.proofs.Common.{ℕ, Option, Some, sym, ap, ◌∙◌}
use Rattle.mp_search.specs.Offering.{offered_at, own_value}
use Rattle.mp_search.specs.StateKeys.{reached_state}
use Rattle.mp_search.proofs.KnownStates.{best_offered, known_stays, record_offered}
use Rattle.mp_search.proofs.expansion.offer_new.Goals as goal

pub returns-then-is_as_cheap-clause-kept : goal.returns-then-is_as_cheap-clause-kept
returns-then-is_as_cheap-clause-kept g c =
    let t = c.args.task.now in
    let s = reached_state c.args.reached.now in
    known_stays t s c.args.g c.args.origin c.args.progress.now.states.kept (sym (c.is_as_cheap.ensures s c.best-found.ensures.best) ∙ c.if-is_as_cheap.true)
    (own_value t (g.H.Heuristic.value t) s)

pub returns-in-None-clause-kept : goal.returns-in-None-clause-kept
returns-in-None-clause-kept g c =
    let t = c.args.task.now in
    let s = reached_state c.args.reached.now in
    let value = own_value t (g.H.Heuristic.value t) in
    ap (λ (o : Option ℕ). (offered_at t s c.args.g o c.args.origin c.args.progress.now.states.kept).1)
    (sym c.in-None.is ∙ c.in_ok-value.ensures.value t c.requires.heuristic ∙ ap value c.best-found.ensures.state)

pub returns-in_ok-received-in-Some-clause-kept : goal.returns-in_ok-received-in-Some-clause-kept
returns-in_ok-received-in-Some-clause-kept g c =
    let t = c.args.task.now in
    let s = reached_state c.args.reached.now in
    let value = own_value t (g.H.Heuristic.value t) in
    record_offered t (reached_state c.best-found.new.state) s c.args.g (Some c.in-Some.h) (value s) c.args.origin
    c.in_ok-received-in-Some.received c.args.progress.now.states.kept c.offer_found.new.states.kept
    c.best-found.ensures.state (sym c.in-Some.is ∙ c.in_ok-value.ensures.value t c.requires.heuristic ∙ ap value c.best-found.ensures.state)
    c.in_ok-received-in-Some.ensures.offered

pub returns-in_ok-received-in-Some-clause-best : goal.returns-in_ok-received-in-Some-clause-best
returns-in_ok-received-in-Some-clause-best g c =
    c.best_after.ensures
    ∙ best_offered c.args.task.now (reached_state c.best-found.new.state) (reached_state c.args.reached.now) c.args.g (Some c.in-Some.h) c.args.origin
    c.best-found.result c.in_ok-received-in-Some.received c.args.progress.now.states.kept c.offer_found.new.states.kept
    c.best-found.ensures.state c.best-found.ensures.best c.in_ok-received-in-Some.ensures.offered
