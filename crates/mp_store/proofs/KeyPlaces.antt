-- The keys of a store, and the places that stand for them.
use Rattle.std.proofs.Common.{◌≡◌, ℕ, ◌<◌, eqb, List, [], ◌∷◌, ◌++◌, length, map, get_or, None, All, refl, sym, ap, ◌∙◌, arith, inl, inr}
use Rattle.std.specs.Prelude.{option_map}
use Rattle.std.proofs.lemmas.Bool.{cases_eq, eq-eqb, false_from_ne_true, ne_eqb}
use Rattle.std.proofs.lemmas.List.{get_or-map, get_or_append_left, get_or_push, length-map}
use Rattle.mp_rows.specs.Apart.{AreOnce}
use Rattle.mp_store.specs.declared.entry.Entry.{Entry}
use Rattle.mp_store.specs.declared.key.Key.{Key}
use Rattle.mp_store.specs.Keys.{same_key}
use Rattle.mp_store.specs.Minima.{Numbered, best, is_cheaper, those}
use Rattle.mp_store.specs.Named.{named, named_entry}
use Rattle.mp_store.specs.NumberFields.{nothing}
use Rattle.mp_store.specs.Record.{Record}
use Rattle.mp_store.specs.KeyRows.{key_at, no_key}
use Rattle.mp_store.specs.KeyLaws.{Decides-key}
use Rattle.mp_store.proofs.Mapped.{map-agree}
use Rattle.mp_store.proofs.RankLemmas.{IsThat, none_found, those_have}

-- keys at different places are different
pub apart : (keys : List Key) → AreOnce no_key keys → (a b : ℕ) → a < length keys → b < length keys → same_key (key_at keys a) (key_at keys b) ≡ eqb a b
apart keys once a b a_in b_in =
    elim (cases_eq a b) [
      | inl same ↦ (Decides-key (key_at keys a) (key_at keys b)).1 (ap (key_at keys) same) ∙ sym (eq-eqb a b same)
      | inr other ↦
          false_from_ne_true (same_key (key_at keys a) (key_at keys b)) (λ e. other (once a b a_in b_in ((Decides-key (key_at keys a) (key_at keys b)).0 e)))
          ∙ sym (ne_eqb a b other)
    ]

-- no entry has a key that is nowhere
pub no_best : (keys : List Key) (key : Key) (r : Record ℕ) → All (λ e. e.key < length keys) r.entries → ((n : ℕ) → n < length keys → key_at keys n ≡ key → ⊥) → best same_key key (named (key_at keys) r) ≡ None
no_best keys key r keyed none =
    ap (option_map (λ x. x.0))
    (none_found is_cheaper (those (λ e. same_key e.key key) (map (named_entry (key_at keys)) r.entries))
    (λ x found. nowhere x (those_have (λ e. same_key e.key key) (map (named_entry (key_at keys)) r.entries) x found)))
  where
    nowhere : (x : Numbered Key) → IsThat (λ e. same_key e.key key) (map (named_entry (key_at keys)) r.entries) x → ⊥
    nowhere x that =
        let len = length-map r.entries (named_entry (key_at keys)) in
        let inside : x.0 < length r.entries = let h = that.inside in omega arith in
        let e = get_or r.entries x.0 nothing in
        let is : named_entry (key_at keys) e ≡ x.1 = sym (get_or-map (named_entry (key_at keys)) r.entries x.0 nothing x.1 inside) ∙ that.is in
        none e.key (keyed x.0 nothing inside) (ap (λ (y : Entry Key). y.key) is ∙ (Decides-key x.1.key key).0 that.passes)

-- with one key more the entries are seen as before
pub named_longer : (keys : List Key) (key : Key) (r : Record ℕ) → All (λ e. e.key < length keys) r.entries → named (key_at (keys ++ key ∷ [])) r ≡ named (key_at keys) r
named_longer keys key r keyed =
    λ j. record {
      entries = map-agree (named_entry (key_at (keys ++ key ∷ []))) (λ e. e.key < length keys) (named_entry (key_at keys))
          (λ e h i. record { key = get_or_append_left keys (key ∷ []) no_key e.key h i; g = e.g; h = e.h; mark = e.mark; origin = e.origin; goal = e.goal })
          r.entries keyed j;
      sent = r.sent;
    }

pub key_at_last : (keys : List Key) (key : Key) → key_at (keys ++ key ∷ []) (length keys) ≡ key
key_at_last keys key = get_or_push keys key no_key (length keys) refl
