-- Messages that are added one after another.
use Rattle.std.proofs.Common.{◌≡◌, ℕ, ◌+◌, Bool, List, [], ◌∷◌, ◌++◌, map, refl, sym, ap, ◌∙◌}
use Rattle.std.specs.List.{filter, range_with_len}
use Rattle.std.proofs.lemmas.List.{append_assoc, map-append}
use Rattle.mp_messages.specs.declared.message.Message.{Message}
use Rattle.mp_messages.specs.Spelling.{spelling}
use Rattle.mp_search.specs.Concern.{one_if}
use Rattle.mp_search.proofs.SendingSteps.{numbers_more}
use Rattle.mp_machine.specs.declared.outgoing.Out.{Out}
use Rattle.mp_machine.specs.Outgoing.{Outgoing, copies, in_bytes, to_each}

pub both_sent : (old mid new : List Out) (a b : List Outgoing) → mid ≡ old ++ map in_bytes a → new ≡ mid ++ map in_bytes b → new ≡ old ++ map in_bytes (a ++ b)
both_sent old mid new a b first second =
    second
    ∙ ap (λ (xs : List Out). xs ++ map in_bytes b) first
    ∙ append_assoc old (map in_bytes a) (map in_bytes b)
    ∙ ap (λ (xs : List Out). old ++ xs) (sym (map-append in_bytes a b))

-- copies of the bytes of a message
pub copied : (agents : List ℕ) (m : Message) → copies agents (spelling m) ≡ map in_bytes (to_each agents m)
copied [] m = refl
copied (agent ∷ agents) m = ap (λ (xs : List Out). record { to = agent; bytes = spelling m } ∷ xs) (copied agents m)

-- a message to one agent more that passes a test
pub sent_more : (old mid new : List Out) (p : ℕ → Bool) (n : ℕ) (m : Message)
    → mid ≡ old ++ map in_bytes (to_each (filter p (range_with_len 1 n)) m)
    → new ≡ mid ++ map in_bytes (to_each (one_if (p (n + 1)) (n + 1)) m)
    → new ≡ old ++ map in_bytes (to_each (filter p (range_with_len 1 (n + 1))) m)
sent_more old mid new p n m first second =
    let some = filter p (range_with_len 1 n) in
    let one = one_if (p (n + 1)) (n + 1) in
    both_sent old mid new (to_each some m) (to_each one m) first second
    ∙ ap (λ (xs : List Outgoing). old ++ map in_bytes xs)
    (sym (map-append (λ (agent : ℕ). let out : Outgoing = record { to = agent; message = m } in out) some one)
    ∙ ap (λ (xs : List ℕ). to_each xs m) (sym (numbers_more p n)))
