use Rattle.std.proofs.Common.{◌≡◌, sym, ap, subst, ◌∙◌, arith}
use Rattle.std.specs.Prelude.{Ok, Err}
use Rattle.mp_search.specs.declared.answer.ReceiveRefusal.{ReceiveRefusal}
use Rattle.mp_search.specs.Memory.{lacks_memory_for}
use Rattle.mp_machine.proofs.SearchSteps.{ready_received, state_taken, state_unknown, state_wrong, was_received, was_unknown, was_wrong}
use Rattle.mp_machine.proofs.states.take_state.Goals as goal

pub returns-in-Ok-clause-step : goal.returns-in-Ok-clause-step
returns-in-Ok-clause-step g c =
    let s = c.args.search.now in
    let value = g.H.Heuristic.value s.task in
    let is : c.receive.result ≡ Ok c.in-Ok.field-0 = c.in-Ok.is in
    let enough = ap lacks_memory_for is in
    let was =
    was_received s.task value c.args.from c.args.state s.done c.in-Ok.field-0 c.receive.new.self.done
    ((λ j. (sym is j, c.receive.new.self.done)) ∙ c.receive.ensures.by_definition enough)
    in
    state_taken s c.receive.new.self c.args.member.now value c.args.from c.args.state c.receive.ensures.task c.receive.ensures.limit
    c.requires.ready c.requires.state (c.receive.ensures.failed ∙ enough) was c.state_seen.new.self c.state_seen.ensures.notes

pub returns-in-Ok-clause-ready : goal.returns-in-Ok-clause-ready
returns-in-Ok-clause-ready g c =
    let s = c.args.search.now in
    let value = g.H.Heuristic.value s.task in
    let is : c.receive.result ≡ Ok c.in-Ok.field-0 = c.in-Ok.is in
    let enough = ap lacks_memory_for is in
    let was =
    was_received s.task value c.args.from c.args.state s.done c.in-Ok.field-0 c.receive.new.self.done
    ((λ j. (sym is j, c.receive.new.self.done)) ∙ c.receive.ensures.by_definition enough)
    in
    ready_received s c.receive.new.self c.args.member.now value c.args.from c.args.state c.receive.ensures.task c.receive.ensures.limit
    c.requires.ready c.requires.state (c.receive.ensures.failed ∙ enough) was c.state_seen.new.self c.state_seen.ensures.notes c.requires.another.from_1
    (let team = c.requires.ready.member.notes_agents in let high = c.requires.another.in_team in omega arith)

pub returns-in-Err-UnknownToken-clause-step : goal.returns-in-Err-UnknownToken-clause-step
returns-in-Err-UnknownToken-clause-step g c =
    let s = c.args.search.now in
    let value = g.H.Heuristic.value s.task in
    let is = subst (λ (e : ReceiveRefusal). c.receive.result ≡ Err e) c.in-Err-UnknownToken.field-0-is c.in-Err-UnknownToken.is in
    let was =
    was_unknown s.task value c.args.from c.args.state s.done c.receive.new.self.done
    ((λ j. (sym is j, c.receive.new.self.done)) ∙ c.receive.ensures.by_definition (ap lacks_memory_for is))
    in
    λ _.
    state_unknown s c.receive.new.self c.args.member.now value c.args.from c.args.state c.receive.ensures.task c.receive.ensures.limit was

pub returns-in-Err-WrongByte-clause-step : goal.returns-in-Err-WrongByte-clause-step
returns-in-Err-WrongByte-clause-step g c =
    let s = c.args.search.now in
    let value = g.H.Heuristic.value s.task in
    let is = subst (λ (e : ReceiveRefusal). c.receive.result ≡ Err e) c.in-Err-WrongByte.field-0-is c.in-Err-WrongByte.is in
    let was =
    was_wrong s.task value c.args.from c.args.state s.done c.receive.new.self.done
    ((λ j. (sym is j, c.receive.new.self.done)) ∙ c.receive.ensures.by_definition (ap lacks_memory_for is))
    in
    λ _.
    state_wrong s c.receive.new.self c.args.member.now value c.args.from c.args.state c.receive.ensures.task c.receive.ensures.limit was
