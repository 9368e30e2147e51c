-- Each key of a store has an entry, whatever is offered, closed and sent.
use Rattle.std.proofs.Common.{◌≡◌, ℕ, ◌+◌, ◌<◌, eqb, true, List, [], ◌∷◌, ◌++◌, All, length, Option, None, Result, Ok, Err, refl, sym, ap, subst, ◌∙◌, inl, inr, arith}
use Rattle.std.specs.Prelude.{IfOk, OnErr, OnOk}
use Rattle.std.proofs.lemmas.Bool.{cases_eq, eq-eqb, false≢true}
use Rattle.std.proofs.lemmas.List.{length_push}
use Rattle.mp_list.specs.declared.memory.OutOfMemory.{OutOfMemory}
use Rattle.mp_rows.specs.Apart.{AreOnce}
use Rattle.mp_store.specs.declared.entry.Entry.{Entry}
use Rattle.mp_store.specs.declared.entry.Offer.{Offer}
use Rattle.mp_store.specs.declared.key.Key.{Key}
use Rattle.mp_store.specs.KeyRows.{key_at, no_key}
use Rattle.mp_store.specs.Keys.{same_key}
use Rattle.mp_store.specs.Minima.{best, popped}
use Rattle.mp_store.specs.Named.{named}
use Rattle.mp_store.specs.Numbered.{NumberedRecord}
use Rattle.mp_store.specs.Record.{Record, is_known, offered}
use Rattle.mp_store.specs.Sent.{mark_sent}
use Rattle.mp_store.specs.StoreFields.{HaveEntries, IsStore}
use Rattle.mp_store.proofs.BestLemmas.{unknown}
use Rattle.mp_store.proofs.Growing.{known_marked, known_new, known_offered, known_popped}
use Rattle.mp_store.proofs.KeyPlaces.{apart}
use Rattle.mp_store.proofs.Naming.{is_known-named}

module _ (keys : ℕ) (old : NumberedRecord) (have : HaveEntries keys old.kept) (new : NumberedRecord) where
  -- what is known of each key stays known
  have_still : ((k g : ℕ) → is_known eqb k g old.kept.entries ≡ true → is_known eqb k g new.kept.entries ≡ true) → HaveEntries keys new.kept
  have_still stays = λ k below. let e = have k below in (e.0, stays k e.0 e.1)

  pub have_popped : (o : Option ℕ) → (o, new.kept) ≡ popped old.kept → HaveEntries keys new.kept
  have_popped o pops =
      have_still (λ k g known. ap (λ (p : Option ℕ × Record ℕ). is_known eqb k g p.1.entries) pops ∙ known_popped eqb k g old.kept ∙ known)

  pub have_marked : (n : ℕ) (res : Result (Option ℕ) OutOfMemory) → IfOk res (λ number. (number, new.kept) ≡ mark_sent eqb n old.kept) → OnErr res (new ≡ old)
      → HaveEntries keys new.kept
  have_marked n (Ok number) marked nothing =
      have_still (λ k g known. ap (λ (p : Option ℕ × Record ℕ). is_known eqb k g p.1.entries) marked ∙ known_marked eqb k g n old.kept ∙ known)
  have_marked n (Err x) marked nothing = subst (λ (r : NumberedRecord). HaveEntries keys r.kept) (sym nothing) have

  pub have_offered : (e : Entry ℕ) (res : Result Offer OutOfMemory) → IfOk res (λ answer. (answer, new.kept) ≡ offered eqb e old.kept) → OnErr res (new ≡ old)
      → HaveEntries keys new.kept
  have_offered e (Ok answer) is nothing =
      have_still (λ k g known. ap (λ (p : Offer × Record ℕ). is_known eqb k g p.1.entries) is ∙ known_offered eqb k g e old.kept known)
  have_offered e (Err x) is nothing = subst (λ (r : NumberedRecord). HaveEntries keys r.kept) (sym nothing) have

-- the key that comes has the entry that comes with it
have_next : (keys : ℕ) (r : Record ℕ) → HaveEntries keys r → (e : Entry ℕ) → e.key ≡ keys → HaveEntries (keys + 1) (offered eqb e r).1
have_next keys r have e is = λ k below.
    elim (cases_eq k e.key) [
      | inl same ↦ (e.g, ap (λ (x : ℕ). is_known eqb x e.g (offered eqb e r).1.entries) same ∙ known_new eqb e r (eq-eqb e.key e.key refl))
      | inr other ↦ let old = have k (omega (arith, below, other, is)) in (old.0, known_offered eqb k old.0 e r old.1)
    ]

-- a key is kept with its first entry, or nothing happens
pub have_first : (keys longer : List Key) (key : Key) (old : NumberedRecord) (new : NumberedRecord) (e : Entry ℕ) (res : Result Offer OutOfMemory)
    → HaveEntries (length keys) old.kept → e.key ≡ length keys → OnOk res (longer ≡ keys ++ key ∷ [])
    → IfOk res (λ answer. (answer, new.kept) ≡ offered eqb e old.kept) → OnErr res ((longer ≡ keys) × (new ≡ old)) → HaveEntries (length longer) new.kept
have_first keys longer key old new e (Ok answer) have is grown kept nothing =
    subst (λ (n : ℕ). HaveEntries n new.kept) (let l = length_push keys key in let g = ap (λ (ks : List Key). length ks) grown in let whole : length keys + 1 ≡ length longer = omega arith in whole)
    (subst (HaveEntries (length keys + 1)) (ap (λ (p : Offer × Record ℕ). p.1) (sym kept)) (have_next (length keys) old.kept have e is))
have_first keys longer key old new e (Err x) have is grown kept nothing =
    subst (λ (ks : List Key). HaveEntries (length ks) new.kept) (sym nothing.0)
    (subst (λ (n : NumberedRecord). HaveEntries (length keys) n.kept) (sym nothing.1) have)

-- a key without an entry is nowhere
pub nowhere : (keys : List Key) → AreOnce no_key keys → (r : Record ℕ) → All (λ e. e.key < length keys) r.entries → HaveEntries (length keys) r
    → (key : Key) (now : Record Key) → named (key_at keys) r ≡ now → best same_key key now ≡ None → (n : ℕ) → n < length keys → key_at keys n ≡ key → ⊥
nowhere keys once r keyed have key now seen none n below is =
    let known = have n below in
    false≢true
    (sym (unknown same_key key now known.0 none)
    ∙ (λ j. is_known same_key (sym is j) known.0 (sym seen j).entries)
    ∙ is_known-named (key_at keys) eqb same_key (λ k. k < length keys) (apart keys once) n known.0 below r.entries keyed
    ∙ known.1)

-- a store whose keys are the same
pub same_keys : (keys : List Key) (old new : NumberedRecord) → length keys ≡ old.keys → AreOnce no_key keys → new.keys ≡ old.keys
    → All (λ e. e.key < new.keys) new.kept.entries → HaveEntries (length keys) new.kept → IsStore (record { keys = keys; numbers = new })
same_keys keys old new count once same keyed have = record {
  count = count ∙ sym same;
  once = once;
  keyed = subst (λ (n : ℕ). All (λ (e : Entry ℕ). e.key < n) new.kept.entries) (same ∙ sym count) keyed;
  have = have;
}
