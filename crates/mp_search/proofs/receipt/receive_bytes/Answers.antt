use Rattle.std.proofs.Common.{◌≡◌, ℕ, ◌+◌, ◌^◌, ◌<◌, ◌≤◌, Some, None, Ok, refl, subst, ◌∙◌, arith}
use Rattle.std.specs.Option.{option_map}
use Rattle.std.specs.Prelude.{Option, Result}
use Rattle.mp_task.specs.AgentTask.{AgentTask}
use Rattle.mp_messages.specs.declared.message.StateNumbers.{StateNumbers}
use Rattle.mp_messages.specs.Parts.{IsStateReading, parts}
use Rattle.mp_search.specs.declared.answer.Received.{Received}
use Rattle.mp_search.specs.declared.answer.ReceiveRefusal.{ReceiveRefusal}
use Rattle.mp_search.specs.Search.{SearchRecord}
use Rattle.mp_search.proofs.Receiving.{found_for, nothing_read, read_received, read_refused, lacks_alike}
use Rattle.mp_search.proofs.receipt.receive_bytes.Goals as goal

pub returns-in_default-clause-receipt : goal.returns-in_default-clause-receipt
returns-in_default-clause-receipt g c = λ expansions enough.
    let t = c.args.task.now in
    let read : IsStateReading t.agents t.publics c.args.bytes.now (option_map (λ x. parts x c.decode_state_into.new.facts.members c.decode_state_into.new.tags) None) =
    found_for t c.task.inside.agents c.args.state.now.key.publics.size c.args.bytes.now (option_map (λ x. parts x c.decode_state_into.new.facts.members c.decode_state_into.new.tags) None) (λ j. (c.task.view_is j).agents) c.requires.sizes.publics_size
    (subst
    (λ (n : Option StateNumbers). IsStateReading c.task.inside.agents c.args.state.now.key.publics.size c.args.bytes.now
    (option_map (λ x. parts x c.decode_state_into.new.facts.members c.decode_state_into.new.tags) n)) c.in_default.is c.in_ok-numbers.ensures.read) in
    nothing_read t (g.H.Heuristic.value t) c.args.from c.args.bytes.now (record { kept = c.args.progress.now.states.kept; expansions = expansions }) read

pub returns-in-Ok-clause-receipt : goal.returns-in-Ok-clause-receipt
returns-in-Ok-clause-receipt g c = λ expansions enough.
    let t = c.args.task.now in
    let few : t.publics < 2 ^ 32 = let limit : t.publics ≤ 1048560 = subst (λ (u : AgentTask). u.publics ≤ 1048560) c.task.view_is c.task.invariant.publics in omega arith in
    let read : IsStateReading t.agents t.publics c.args.bytes.now (option_map (λ x. parts x c.decode_state_into.new.facts.members c.decode_state_into.new.tags) (Some c.in-Some.numbers)) =
    found_for t c.task.inside.agents c.args.state.now.key.publics.size c.args.bytes.now (option_map (λ x. parts x c.decode_state_into.new.facts.members c.decode_state_into.new.tags) (Some c.in-Some.numbers)) (λ j. (c.task.view_is j).agents) c.requires.sizes.publics_size
    (subst
    (λ (n : Option StateNumbers). IsStateReading c.task.inside.agents c.args.state.now.key.publics.size c.args.bytes.now
    (option_map (λ x. parts x c.decode_state_into.new.facts.members c.decode_state_into.new.tags) n)) c.in-Some.is c.in_ok-numbers.ensures.read) in
    let new : SearchRecord = record { kept = c.receive_read.new.progress.states.kept; expansions = expansions } in
    let sums : ◌≡◌ {A = Result (Option (Received × ℕ)) ReceiveRefusal × SearchRecord}
    (Ok (Some (c.in-Ok.answer, c.in-Some.numbers.g + c.in-Some.numbers.h)), new) (Ok (Some (c.in-Ok.answer, read.0.g + read.0.h)), new) =
    λ j. (Ok (Some (c.in-Ok.answer, (read.2 j).g + (read.2 j).h)), new) in
    sums
    ∙ read_received t (g.H.Heuristic.value t) c.args.from c.args.bytes.now (record { kept = c.args.progress.now.states.kept; expansions = expansions }) read.0
    few read.1 c.in-Ok.answer new (c.in-Ok.ensures.receipt read.0 read.2 expansions refl)

pub returns-in-Err-clause-receipt : goal.returns-in-Err-clause-receipt
returns-in-Err-clause-receipt g c = λ expansions enough.
    let t = c.args.task.now in
    let few : t.publics < 2 ^ 32 = let limit : t.publics ≤ 1048560 = subst (λ (u : AgentTask). u.publics ≤ 1048560) c.task.view_is c.task.invariant.publics in omega arith in
    let read : IsStateReading t.agents t.publics c.args.bytes.now (option_map (λ x. parts x c.decode_state_into.new.facts.members c.decode_state_into.new.tags) (Some c.in-Some.numbers)) =
    found_for t c.task.inside.agents c.args.state.now.key.publics.size c.args.bytes.now (option_map (λ x. parts x c.decode_state_into.new.facts.members c.decode_state_into.new.tags) (Some c.in-Some.numbers)) (λ j. (c.task.view_is j).agents) c.requires.sizes.publics_size
    (subst
    (λ (n : Option StateNumbers). IsStateReading c.task.inside.agents c.args.state.now.key.publics.size c.args.bytes.now
    (option_map (λ x. parts x c.decode_state_into.new.facts.members c.decode_state_into.new.tags) n)) c.in-Some.is c.in_ok-numbers.ensures.read) in
    read_refused t (g.H.Heuristic.value t) c.args.from c.args.bytes.now (record { kept = c.args.progress.now.states.kept; expansions = expansions }) read.0
    few read.1 c.in-Err.refusal (record { kept = c.receive_read.new.progress.states.kept; expansions = expansions })
    (c.in-Err.ensures.receipt read.0 read.2 expansions (lacks_alike Received (Option (Received × ℕ)) c.in-Err.refusal ∙ enough))

pub returns-in-Err-clause-states : goal.returns-in-Err-clause-states
returns-in-Err-clause-states g c = λ enough. c.in-Err.ensures.states (lacks_alike Received (Option (Received × ℕ)) c.in-Err.refusal ∙ enough)
