use Rattle.std.proofs.Common.{ℕ, ◌≤◌, sym, ap, subst, ◌∙◌, arith}
use Rattle.std.specs.Prelude.{Option, Result, Ok, Err}
use Rattle.mp_search.specs.declared.answer.Received.{Received}
use Rattle.mp_search.specs.declared.answer.ReceiveRefusal.{ReceiveRefusal}
use Rattle.mp_search.specs.Answers.{IsReceiptOfBytes}
use Rattle.mp_search.specs.Search.{AgentSearch}
use Rattle.mp_machine.specs.MemberFields.{IsReady, IsTaken, record_of}
use Rattle.mp_machine.specs.Taking.{took}
use Rattle.mp_machine.proofs.BytesTaken.{bytes_taken, bytes_unknown, bytes_wrong, nothing_taken, ready_taken}
use Rattle.mp_machine.proofs.acting.take.Goals as goal

pub returns-in-Ok-Some-clause-step : goal.returns-in-Ok-Some-clause-step
returns-in-Ok-Some-clause-step g c =
    let s = c.args.search.now in
    let value = g.H.Heuristic.value s.task in
    let received =
    subst (λ (answer : Result (Option (Received × ℕ)) ReceiveRefusal). IsReceiptOfBytes value s c.args.from c.args.bytes.now answer c.receive_bytes.new.self)
    (c.in-Ok-Some.is ∙ ap (λ (o : Option (Received × ℕ)). Ok o) c.in-Ok-Some.field-0-is) c.receive_bytes.ensures
    in
    bytes_taken s c.receive_bytes.new.self c.args.member.now value c.args.from c.args.bytes.now c.requires.ready
    c.in-Ok-Some.field-0-0-0 c.in-Ok-Some.f received c.state_seen.new.self c.state_seen.ensures.notes c.args.outs.now

pub returns-in-Ok-Some-clause-ready : goal.returns-in-Ok-Some-clause-ready
returns-in-Ok-Some-clause-ready g c =
    let s = c.args.search.now in
    let value = g.H.Heuristic.value s.task in
    let received =
    subst (λ (answer : Result (Option (Received × ℕ)) ReceiveRefusal). IsReceiptOfBytes value s c.args.from c.args.bytes.now answer c.receive_bytes.new.self)
    (c.in-Ok-Some.is ∙ ap (λ (o : Option (Received × ℕ)). Ok o) c.in-Ok-Some.field-0-is) c.receive_bytes.ensures
    in
    let high : c.args.from ≤ s.task.agents =
    let team = c.requires.ready.member.notes_agents in let within = c.requires.another.in_team in omega arith
    in
    ready_taken s c.receive_bytes.new.self c.args.member.now value c.args.from c.args.bytes.now c.requires.ready
    c.in-Ok-Some.field-0-0-0 c.in-Ok-Some.f received c.state_seen.new.self c.state_seen.ensures.notes c.requires.another.from_1 high

pub take_decoded-requires-clause-ready : goal.take_decoded-requires-clause-ready
take_decoded-requires-clause-ready g c =
    let s = c.args.search.now in
    let value = g.H.Heuristic.value s.task in
    let received =
    subst (λ (answer : Result (Option (Received × ℕ)) ReceiveRefusal). IsReceiptOfBytes value s c.args.from c.args.bytes.now answer c.receive_bytes.new.self)
    (c.in-Ok-None.is ∙ ap (λ (o : Option (Received × ℕ)). Ok o) c.in-Ok-None.field-0-is) c.receive_bytes.ensures
    in
    let same = nothing_taken s c.receive_bytes.new.self c.args.member.now value c.args.from c.args.bytes.now c.requires.ready received in
    subst (λ (x : AgentSearch). IsReady x c.args.member.now) (sym same) c.requires.ready

pub returns-in-Ok-None-clause-step : goal.returns-in-Ok-None-clause-step
returns-in-Ok-None-clause-step g c =
    let s = c.args.search.now in
    let value = g.H.Heuristic.value s.task in
    let received =
    subst (λ (answer : Result (Option (Received × ℕ)) ReceiveRefusal). IsReceiptOfBytes value s c.args.from c.args.bytes.now answer c.receive_bytes.new.self)
    (c.in-Ok-None.is ∙ ap (λ (o : Option (Received × ℕ)). Ok o) c.in-Ok-None.field-0-is) c.receive_bytes.ensures
    in
    let same = nothing_taken s c.receive_bytes.new.self c.args.member.now value c.args.from c.args.bytes.now c.requires.ready received in
    subst
    (λ (x : AgentSearch).
    IsTaken c.take_decoded.result (took (g.H.Heuristic.value x.task) (record_of x c.args.member.now) c.args.from c.args.bytes.now) c.args.outs.now
    c.take_decoded.new.outs (record_of x c.args.member.now) (record_of c.take_decoded.new.search c.take_decoded.new.member)) same c.take_decoded.ensures.step

pub returns-in-Err-UnknownToken-clause-step : goal.returns-in-Err-UnknownToken-clause-step
returns-in-Err-UnknownToken-clause-step g c =
    let s = c.args.search.now in
    let value = g.H.Heuristic.value s.task in
    let received =
    subst (λ (answer : Result (Option (Received × ℕ)) ReceiveRefusal). IsReceiptOfBytes value s c.args.from c.args.bytes.now answer c.receive_bytes.new.self)
    (c.in-Err-UnknownToken.is ∙ ap (λ (e : ReceiveRefusal). Err e) c.in-Err-UnknownToken.field-0-is) c.receive_bytes.ensures
    in
    bytes_unknown s c.receive_bytes.new.self c.args.member.now value c.args.from c.args.bytes.now c.requires.ready received

pub returns-in-Err-WrongByte-clause-step : goal.returns-in-Err-WrongByte-clause-step
returns-in-Err-WrongByte-clause-step g c =
    let s = c.args.search.now in
    let value = g.H.Heuristic.value s.task in
    let received =
    subst (λ (answer : Result (Option (Received × ℕ)) ReceiveRefusal). IsReceiptOfBytes value s c.args.from c.args.bytes.now answer c.receive_bytes.new.self)
    (c.in-Err-WrongByte.is ∙ ap (λ (e : ReceiveRefusal). Err e) c.in-Err-WrongByte.field-0-is) c.receive_bytes.ensures
    in
    bytes_wrong s c.receive_bytes.new.self c.args.member.now value c.args.from c.args.bytes.now c.requires.ready received
