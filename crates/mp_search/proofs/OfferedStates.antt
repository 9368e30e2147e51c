-- What an offer of a key answers is answered of its state.
use Rattle.std.proofs.Common.{◌≡◌, ℕ, List, length, All, Result, Ok, Err, sym, ap, subst, ◌∙◌}
use Rattle.std.specs.Prelude.{IfOk, OnErr, Bool}
use Rattle.mp_list.specs.declared.memory.OutOfMemory.{OutOfMemory}
use Rattle.mp_sets.specs.Numbers.{Numbers}
use Rattle.mp_tokens.specs.Order.{AreDifferent, with_set}
use Rattle.mp_tokens.proofs.Places.{different_with}
use Rattle.mp_store.specs.declared.entry.Entry.{Entry}
use Rattle.mp_store.specs.declared.entry.Offer.{Offer}
use Rattle.mp_store.specs.declared.entry.Origin.{Origin}
use Rattle.mp_store.specs.declared.key.Key.{Key}
use Rattle.mp_store.specs.Keys.{same_key}
use Rattle.mp_store.specs.Named.{named}
use Rattle.mp_store.specs.Record.{Record, new_entry, offered}
use Rattle.mp_store.proofs.Naming.{offered-named}
use Rattle.mp_search.specs.AgentState.{AgentState, same_state}
use Rattle.mp_search.specs.StateKeys.{IsKeyOf, state_of_key}
use Rattle.mp_search.proofs.KeyedStates.{apart, keyed_with, named_with, offered_all}

module _ (publics : ℕ) (sets grown : List Numbers) (more : Numbers) (different : AreDifferent sets) (is : grown ≡ with_set sets more)
    (old : Record Key) (keyed : All (λ e. IsKeyOf publics (length sets) e.key) old.entries) where
  pub keyed_grown : All (λ e. IsKeyOf publics (length grown) e.key) old.entries
  keyed_grown = subst (λ (xs : List Numbers). All (λ (e : Entry Key). IsKeyOf publics (length xs) e.key) old.entries) (sym is) (keyed_with sets more publics old keyed)

  pub different_grown : AreDifferent grown
  different_grown = subst AreDifferent (sym is) (different_with sets more different)

  pub named_grown : named (state_of_key grown) old ≡ named (state_of_key sets) old
  named_grown = ap (λ (xs : List Numbers). named (state_of_key xs) old) is ∙ named_with sets more publics old keyed

module _ (publics : ℕ) (sets : List Numbers) (different : AreDifferent sets) (old : Record Key) (keyed : All (λ e. IsKeyOf publics (length sets) e.key) old.entries)
    (key : Key) (of_key : IsKeyOf publics (length sets) key) (g h : ℕ) (origin : Origin) (goal : Bool) (res : Result Offer OutOfMemory) (new : Record Key) where
  pub keyed_offered : IfOk res (λ answer. (answer, new) ≡ offered same_key (new_entry key g h origin goal) old) → OnErr res (new ≡ old)
      → All (λ e. IsKeyOf publics (length sets) e.key) new.entries
  keyed_offered answer kept = by res answer kept
    where
      by : (o : Result Offer OutOfMemory) → IfOk o (λ a. (a, new) ≡ offered same_key (new_entry key g h origin goal) old) → OnErr o (new ≡ old)
          → All (λ e. IsKeyOf publics (length sets) e.key) new.entries
      by (Ok a) answer kept =
          subst (λ (r : Record Key). All (λ (e : Entry Key). IsKeyOf publics (length sets) e.key) r.entries) (sym (ap (λ (p : Offer × Record Key). p.1) answer))
          (offered_all same_key (IsKeyOf publics (length sets)) (new_entry key g h origin goal) old of_key keyed)
      by (Err e) answer kept = subst (λ (r : Record Key). All (λ (e : Entry Key). IsKeyOf publics (length sets) e.key) r.entries) (sym kept) keyed

  pub seen_offered : (s : AgentState) → state_of_key sets key ≡ s → (now : Record AgentState) → named (state_of_key sets) old ≡ now
      → IfOk res (λ answer. (answer, new) ≡ offered same_key (new_entry key g h origin goal) old)
      → IfOk res (λ answer. (answer, named (state_of_key sets) new) ≡ offered same_state (new_entry s g h origin goal) now)
  seen_offered s is_s now is_now answer = by res answer
    where
      by : (o : Result Offer OutOfMemory) → IfOk o (λ a. (a, new) ≡ offered same_key (new_entry key g h origin goal) old)
          → IfOk o (λ a. (a, named (state_of_key sets) new) ≡ offered same_state (new_entry s g h origin goal) now)
      by (Ok a) answer =
          ap (λ (p : Offer × Record Key). (p.0, named (state_of_key sets) p.1)) answer
          ∙ sym (offered-named (state_of_key sets) same_key same_state (IsKeyOf publics (length sets)) (apart publics sets different) (new_entry key g h origin goal) of_key old keyed)
          ∙ (λ j. offered same_state (new_entry (is_s j) g h origin goal) (is_now j))
      by (Err e) answer = tt
