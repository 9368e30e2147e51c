use Rattle.std.proofs.Common.{◌≡◌, List, ◌++◌, sym, ap, subst, ◌∙◌}
use Rattle.std.specs.Prelude.{All, Ok}
use Rattle.std.specs.List.{flat_map}
use Rattle.mp_search.specs.declared.answer.Sending.{Sending}
use Rattle.mp_search.specs.Memory.{lacks_memory}
use Rattle.mp_machine.specs.MemberFields.{SendingFits, sent_state}
use Rattle.mp_machine.proofs.SearchSteps.{expanded_stepped, ready_expanded, sendings_fit}
use Rattle.mp_machine.proofs.states.expand.Goals as goal

pub send_states-requires : goal.send_states-requires
send_states-requires g c =
    let s = c.args.search.now in
    let new = c.expand.new.self in
    let is : c.expand.result ≡ Ok c.in-Ok.sendings = c.in-Ok.is in
    let enough = ap lacks_memory is in
    subst (λ (xs : List Sending). All SendingFits xs) (sym c.as_slice.ensures)
    (sendings_fit s new c.args.member.now (g.H.Heuristic.value s.task) c.in-Ok.sendings c.requires.ready c.requires.may c.expand.ensures.task
    c.expand.ensures.limit (c.expand.ensures.failed ∙ enough) ((λ j. (sym is j, new.done)) ∙ c.expand.ensures.by_definition enough))

pub returns-in_ok-send_states-in-Ok-clause-step : goal.returns-in_ok-send_states-in-Ok-clause-step
returns-in_ok-send_states-in-Ok-clause-step g c =
    let s = c.args.search.now in
    let new = c.expand.new.self in
    let is : c.expand.result ≡ Ok c.in-Ok.sendings = c.in-Ok.is in
    let enough = ap lacks_memory is in
    expanded_stepped s new c.args.member.now (g.H.Heuristic.value s.task) c.in-Ok.sendings c.requires.ready c.requires.may c.expand.ensures.task
    c.expand.ensures.limit (c.expand.ensures.failed ∙ enough) ((λ j. (sym is j, new.done)) ∙ c.expand.ensures.by_definition enough)
    c.args.outs.now c.send_states.new.outs
    (c.in_ok-send_states-in-Ok.ensures ∙ ap (λ (xs : List Sending). c.args.outs.now ++ flat_map sent_state xs) c.as_slice.ensures)

pub returns-in_ok-send_states-in-Ok-clause-ready :
    goal.returns-in_ok-send_states-in-Ok-clause-ready
returns-in_ok-send_states-in-Ok-clause-ready g c =
    let s = c.args.search.now in
    let new = c.expand.new.self in
    let is : c.expand.result ≡ Ok c.in-Ok.sendings = c.in-Ok.is in
    let enough = ap lacks_memory is in
    ready_expanded s new c.args.member.now (g.H.Heuristic.value s.task) c.in-Ok.sendings c.requires.ready c.requires.may c.expand.ensures.task
    c.expand.ensures.limit (c.expand.ensures.failed ∙ enough) ((λ j. (sym is j, new.done)) ∙ c.expand.ensures.by_definition enough)
