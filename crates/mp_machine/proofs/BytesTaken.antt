-- What an agent does with bytes, by what its search did with them.
use Rattle.std.proofs.Common.{◌≡◌, ℕ, ◌+◌, ◌≤◌, List, Some, None, refl, sym, ap, subst, ◌∙◌}
use Rattle.std.specs.Prelude.{Option, Result, Ok, Err}
use Rattle.mp_sets.specs.Numbers.{Numbers}
use Rattle.mp_messages.specs.declared.message.Message.TheVariants as kinds
use Rattle.mp_messages.specs.declared.message.State.{State}
use Rattle.mp_search.specs.declared.answer.Received.{Received}
use Rattle.mp_search.specs.declared.answer.ReceiveRefusal.{ReceiveRefusal}
use Rattle.mp_search.specs.declared.answer.ReceiveRefusal.TheVariants as receipts
use Rattle.mp_search.specs.Answers.{IsReceiptOfBytes}
use Rattle.mp_search.specs.Receipt.{IsStateFor, receipt}
use Rattle.mp_search.specs.Search.{AgentSearch, SearchRecord}
use Rattle.mp_search.specs.Spelled.{message_of}
use Rattle.mp_search.proofs.Receiving.{was_nothing, was_refused, was_state}
use Rattle.mp_search.proofs.Spelled.{message_is_spelled}
use Rattle.mp_snapshot.specs.Notes.{Notes}
use Rattle.mp_snapshot.specs.Rules.{after_state}
use Rattle.mp_machine.specs.declared.member.Member.{Member}
use Rattle.mp_machine.specs.declared.outgoing.Out.{Out}
use Rattle.mp_machine.specs.declared.refusal.BadKind.{BadKind}
use Rattle.mp_machine.specs.declared.refusal.BadKind.TheVariants as bad
use Rattle.mp_machine.specs.MemberFields.{HasTaken, IsReady, record_of}
use Rattle.mp_machine.specs.Outgoing.{Step}
use Rattle.mp_machine.specs.Taking.{took}
use Rattle.mp_machine.proofs.SearchSteps.{WasReceived, ready_received, state_taken, state_unknown, state_wrong, was_received, was_unknown, was_wrong}
use Rattle.mp_machine.proofs.TakingLemmas.{took_read}

module _ (s new : AgentSearch) (m : Member) (value : Numbers → Numbers → Option ℕ) (from : ℕ) (bytes : List ℕ) (ready : IsReady s m) where
  -- bytes of a state that was received
  module _ (x : Received) (f : ℕ) (received : IsReceiptOfBytes value s from bytes (Ok (Some (x, f))) new) (notes : Notes)
      (seen : notes ≡ after_state m.snapshot from f) where
    read : (state : State) × (message_of s.task.agents s.task.publics bytes ≡ Some (kinds.State state)) × (f ≡ state.g + state.h)
        × ◌≡◌ {A = Result Received ReceiveRefusal × SearchRecord} (Ok x, new.done) (receipt s.task value from state s.done)
    read = was_state s.task value from bytes s.done x f new.done (received.by_definition refl)

    fitting : IsStateFor s.task read.0
    fitting = (message_is_spelled s.task.agents s.task.publics bytes (kinds.State read.0) read.1).fits

    was : WasReceived s.task value from read.0 s.done new.done
    was = was_received s.task value from read.0 s.done x new.done read.3

    noted : notes ≡ after_state m.snapshot from (read.0.g + read.0.h)
    noted = seen ∙ ap (after_state m.snapshot from) read.2

    pub bytes_taken : (outs : List Out) → HasTaken (took value (record_of s m) from bytes) outs outs (record_of new (record m { snapshot = notes }))
    bytes_taken outs =
        subst (λ (w : Result Step BadKind). HasTaken w outs outs (record_of new (record m { snapshot = notes })))
        (took_read value (record_of s m) from bytes read.0 read.1)
        (state_taken s new m value from read.0 received.task received.limit ready fitting received.failed was notes noted outs)

    pub ready_taken : 1 ≤ from → from ≤ s.task.agents → IsReady new (record m { snapshot = notes })
    ready_taken low high =
        ready_received s new m value from read.0 received.task received.limit ready fitting received.failed was notes noted low high

  -- bytes that spell no state
  pub nothing_taken : IsReceiptOfBytes value s from bytes (Ok None) new → new ≡ s
  nothing_taken received =
      let done = was_nothing s.task value from bytes s.done new.done (received.by_definition refl) in
      let failed = received.failed ∙ sym ready.search.works in
      λ j. record { task = received.task j; limit = received.limit j; done = done j; failed = failed j }

  -- bytes of a state that was refused
  pub bytes_unknown : IsReceiptOfBytes value s from bytes (Err receipts.UnknownToken) new
      → (took value (record_of s m) from bytes ≡ Err bad.UnknownToken) × (record_of new m ≡ record_of s m)
  bytes_unknown received =
      let read = was_refused s.task value from bytes s.done receipts.UnknownToken new.done (received.by_definition refl) in
      let refused =
      state_unknown s new m value from read.0 received.task received.limit (was_unknown s.task value from read.0 s.done new.done read.2)
      in
      (sym (took_read value (record_of s m) from bytes read.0 read.1) ∙ refused.0, refused.1)

  pub bytes_wrong : IsReceiptOfBytes value s from bytes (Err receipts.WrongByte) new
      → (took value (record_of s m) from bytes ≡ Err bad.WrongByte) × (record_of new m ≡ record_of s m)
  bytes_wrong received =
      let read = was_refused s.task value from bytes s.done receipts.WrongByte new.done (received.by_definition refl) in
      let refused =
      state_wrong s new m value from read.0 received.task received.limit (was_wrong s.task value from read.0 s.done new.done read.2)
      in
      (sym (took_read value (record_of s m) from bytes read.0 read.1) ∙ refused.0, refused.1)
