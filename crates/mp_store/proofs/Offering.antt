-- What an offer over numbers answers is answered over their keys.
use Rattle.std.proofs.Common.{◌≡◌, ℕ, ◌+◌, ◌<◌, Bool, eqb, List, [], ◌∷◌, ◌++◌, length, All, Result, Ok, Err, sym, ap, subst, ◌∙◌, arith}
use Rattle.std.specs.Prelude.{IfOk, OnOk}
use Rattle.mp_rows.specs.Apart.{AreOnce}
use Rattle.std.proofs.lemmas.List.{length_push}
use Rattle.std.proofs.lemmas.List.Elements.{All-weaker}
use Rattle.mp_list.specs.declared.memory.OutOfMemory.{OutOfMemory}
use Rattle.mp_store.specs.declared.entry.Offer.{Offer}
use Rattle.mp_store.specs.declared.entry.Origin.{Origin}
use Rattle.mp_store.specs.declared.key.Key.{Key}
use Rattle.mp_store.specs.Keys.{same_key}
use Rattle.mp_store.specs.Named.{named}
use Rattle.mp_store.specs.Record.{Record, new_entry, offered}
use Rattle.mp_store.specs.KeyRows.{key_at, no_key}
use Rattle.mp_store.proofs.KeyPlaces.{apart, key_at_last, named_longer}
use Rattle.mp_store.proofs.Naming.{offered-named}

module _ (g h : ℕ) (origin : Origin) (goal : Bool) where
  -- of a key that has a place
  pub offered_known : (keys : List Key) → AreOnce no_key keys → (r : Record ℕ) → All (λ e. e.key < length keys) r.entries
      → (key : Key) (place : ℕ) → place < length keys → key_at keys place ≡ key → (now : Record Key) → named (key_at keys) r ≡ now
      → (res : Result Offer OutOfMemory) (new : Record ℕ) → IfOk res (λ answer. (answer, new) ≡ offered eqb (new_entry place g h origin goal) r)
      → IfOk res (λ answer. (answer, named (key_at keys) new) ≡ offered same_key (new_entry key g h origin goal) now)
  offered_known keys once r keyed key place inside is now seen (Ok a) new answer =
      ap (λ (p : Offer × Record ℕ). (p.0, named (key_at keys) p.1)) answer
      ∙ sym (offered-named (key_at keys) eqb same_key (λ k. k < length keys) (apart keys once) (new_entry place g h origin goal) inside r keyed)
      ∙ (λ j. offered same_key (new_entry (is j) g h origin goal) (seen j))
  offered_known keys once r keyed key place inside is now seen (Err x) new answer = tt

  -- of a key that is new
  pub offered_first : (keys longer : List Key) → AreOnce no_key longer → (r : Record ℕ) → All (λ e. e.key < length keys) r.entries
      → (key : Key) (now : Record Key) → named (key_at keys) r ≡ now
      → (res : Result Offer OutOfMemory) (new : Record ℕ) → OnOk res (longer ≡ keys ++ key ∷ []) → IfOk res (λ answer. (answer, new) ≡ offered eqb (new_entry (length keys) g h origin goal) r)
      → IfOk res (λ answer. (answer, named (key_at longer) new) ≡ offered same_key (new_entry key g h origin goal) now)
  offered_first keys longer once r keyed key now seen (Ok a) new grown answer =
      let all = keys ++ key ∷ [] in
      let len : length all ≡ length keys + 1 = length_push keys key in
      let over_all =
      offered_known all (subst (AreOnce no_key) grown once) r
      (All-weaker (λ e. e.key < length keys) (λ e. e.key < length all) (λ e h. omega arith) r.entries keyed)
      key (length keys) (omega arith) (key_at_last keys key) now (named_longer keys key r keyed ∙ seen) (Ok a) new answer in
      (λ j. (a, named (key_at (grown j)) new)) ∙ over_all
  offered_first keys longer once r keyed key now seen (Err x) new grown answer = tt
