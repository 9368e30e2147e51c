-- What was known and what was sent stays so.
use Rattle.std.proofs.Common.{◌≡◌, ℕ, Bool, true, false, ◌&&◌, ◌||◌, List, [], ◌∷◌, ◌++◌, length, map, Option, Some, None, refl, sym, ap, ◌∙◌, arith}
use Rattle.std.specs.Prelude.{filter_map, nat_le, slice_get, slice_set}
use Rattle.std.specs.List.{cons_option, list_any}
use Rattle.std.specs.Option.{option_map_or}
use Rattle.std.proofs.lemmas.Bool.{and_from, or_left, or_right, le-leb}
use Rattle.std.proofs.lemmas.List.{length-map}
use Rattle.std.proofs.lemmas.List.Elements.{filter_map-append}
use Rattle.std.proofs.lemmas.List.Folds.{list_any-append}
use Rattle.mp_store.specs.declared.entry.Entry.{Entry}
use Rattle.mp_store.specs.declared.entry.Mark.TheVariants.{Expanded}
use Rattle.mp_store.specs.Laws.{IsSound}
use Rattle.mp_store.specs.Minima.{closed, least_open, popped}
use Rattle.mp_store.specs.Record.{Record, gives_way, is_known, kept, offered}
use Rattle.mp_store.specs.Sent.{mark_sent, sent_entries, sent_if_new, was_sent}
use Rattle.mp_store.proofs.Mapped.{any-map, sent-append}
use Rattle.mp_store.proofs.Marks.{SameButMarks, closing_marks, giving_way_marks, sent_through, unmarked}
use Rattle.mp_store.proofs.Sound.{offer_if, sent_if}

module _ {K : Type 0} (same : K → K → Bool) (key : K) (g : ℕ) where
  abbrev is_cheap : Entry K → Bool
  is_cheap e = same e.key key && nat_le e.g g

  -- ---- what is known

  known_unmarked : (es : List (Entry K)) → is_known same key g (map unmarked es) ≡ is_known same key g es
  known_unmarked es = any-map unmarked (λ e. Unit {0}) is_cheap is_cheap (λ e h. refl) es (λ k d h. tt)

  pub known_through : (es others : List (Entry K)) → SameButMarks es others → is_known same key g es ≡ is_known same key g others
  known_through es others alike = sym (known_unmarked es) ∙ ap (is_known same key g) alike.same ∙ known_unmarked others

  known_kept : (e : Entry K) (r : Record K) → is_known same key g (kept same e r).entries ≡ (is_known same key g r.entries || (is_cheap e || false))
  known_kept e r =
      list_any-append is_cheap (map (gives_way same e.key) r.entries) (e ∷ [])
      ∙ ap (λ b. b || (is_cheap e || false)) (sym (known_through r.entries (map (gives_way same e.key) r.entries) (giving_way_marks same e.key r.entries)))

  pub known_offered : (e : Entry K) (r : Record K) → is_known same key g r.entries ≡ true → is_known same key g (offered same e r).1.entries ≡ true
  known_offered e r known = by (is_known same e.key e.g r.entries)
    where
      by : (b : Bool) → is_known same key g (offer_if same b e r).1.entries ≡ true
      by true = known
      by false = known_kept e r ∙ or_left (is_known same key g r.entries) (is_cheap e || false) known

  known_closed : (n : ℕ) (r : Record K) → is_known same key g (closed n r).entries ≡ is_known same key g r.entries
  known_closed n r = by (slice_get r.entries n) refl
    where
      by : (o : Option (Entry K)) → slice_get r.entries n ≡ o
          → is_known same key g (option_map_or (λ e. record r { entries = slice_set r.entries n (record e { mark = Expanded }) }) o r).entries ≡ is_known same key g r.entries
      by None is = refl
      by (Some e) is = sym (known_through r.entries (slice_set r.entries n (record e { mark = Expanded })) (closing_marks r.entries n e is))

  pub known_popped : (r : Record K) → is_known same key g (popped r).1.entries ≡ is_known same key g r.entries
  known_popped r = by (least_open r)
    where
      by : (o : Option ℕ) → is_known same key g (option_map_or (λ n. closed n r) o r).entries ≡ is_known same key g r.entries
      by None = refl
      by (Some n) = known_closed n r

  pub known_marked : (n : ℕ) (r : Record K) → is_known same key g (mark_sent same n r).1.entries ≡ is_known same key g r.entries
  known_marked n r = by (slice_get r.entries n)
    where
      chosen : (b : Bool) → is_known same key g (sent_if b n r).1.entries ≡ is_known same key g r.entries
      chosen true = refl
      chosen false = refl

      by : (o : Option (Entry K)) → is_known same key g (option_map_or (λ e. sent_if_new same n e r) o (None, r)).1.entries ≡ is_known same key g r.entries
      by None = refl
      by (Some e) = chosen (was_sent same e.key e.g r)

  -- ---- what was sent

  -- one sent state more
  sent_more : (n : ℕ) (e : Entry K) (r : Record K) → slice_get r.entries n ≡ Some e
      → was_sent same key g (record { entries = r.entries; sent = r.sent ++ n ∷ [] }) ≡ (was_sent same key g r || (is_cheap e || false))
  sent_more n e r at =
      ap (list_any is_cheap) (filter_map-append (slice_get r.entries) r.sent (n ∷ []))
      ∙ list_any-append is_cheap (sent_entries r) (filter_map (slice_get r.entries) (n ∷ []))
      ∙ ap (λ o. was_sent same key g r || list_any is_cheap (cons_option o [])) at

  pub sent_marked : (n : ℕ) (r : Record K) → was_sent same key g r ≡ true → was_sent same key g (mark_sent same n r).1 ≡ true
  sent_marked n r was = by (slice_get r.entries n) refl
    where
      chosen : (b : Bool) (e : Entry K) → slice_get r.entries n ≡ Some e → was_sent same key g (sent_if b n r).1 ≡ true
      chosen true e at = was
      chosen false e at = sent_more n e r at ∙ or_left (was_sent same key g r) (is_cheap e || false) was

      by : (o : Option (Entry K)) → slice_get r.entries n ≡ o → was_sent same key g (option_map_or (λ e. sent_if_new same n e r) o (None, r)).1 ≡ true
      by None is = was
      by (Some e) is = chosen (was_sent same e.key e.g r) e is

  sent_kept : (e : Entry K) (r : Record K) → IsSound same r → was_sent same key g (kept same e r) ≡ was_sent same key g r
  sent_kept e r sound =
      let given = map (gives_way same e.key) r.entries in
      let len : length given ≡ length r.entries = length-map r.entries (gives_way same e.key) in
      ap (list_any is_cheap) (sent-append given (e ∷ []) r.sent (λ i d h. let below = sound.sent i d h in omega arith))
      ∙ sym (sent_through same key g r.entries given r.sent (giving_way_marks same e.key r.entries))

  pub sent_offered : (e : Entry K) (r : Record K) → IsSound same r → was_sent same key g (offered same e r).1 ≡ was_sent same key g r
  sent_offered e r sound = by (is_known same e.key e.g r.entries)
    where
      by : (b : Bool) → was_sent same key g (offer_if same b e r).1 ≡ was_sent same key g r
      by true = refl
      by false = sent_kept e r sound

  sent_closed : (n : ℕ) (r : Record K) → was_sent same key g (closed n r) ≡ was_sent same key g r
  sent_closed n r = by (slice_get r.entries n) refl
    where
      by : (o : Option (Entry K)) → slice_get r.entries n ≡ o
          → was_sent same key g (option_map_or (λ e. record r { entries = slice_set r.entries n (record e { mark = Expanded }) }) o r) ≡ was_sent same key g r
      by None is = refl
      by (Some e) is = sym (sent_through same key g r.entries (slice_set r.entries n (record e { mark = Expanded })) r.sent (closing_marks r.entries n e is))

  pub sent_popped : (r : Record K) → was_sent same key g (popped r).1 ≡ was_sent same key g r
  sent_popped r = by (least_open r)
    where
      by : (o : Option ℕ) → was_sent same key g (option_map_or (λ n. closed n r) o r) ≡ was_sent same key g r
      by None = refl
      by (Some n) = sent_closed n r

module _ {K : Type 0} (same : K → K → Bool) where
  -- the state that is offered is known at its cost
  pub known_new : (e : Entry K) (r : Record K) → same e.key e.key ≡ true → is_known same e.key e.g (offered same e r).1.entries ≡ true
  known_new e r itself = by (is_known same e.key e.g r.entries) refl
    where
      cheap : (same e.key e.key && nat_le e.g e.g) ≡ true
      cheap = and_from (same e.key e.key) (nat_le e.g e.g) itself (le-leb e.g e.g (omega arith))

      by : (b : Bool) → is_known same e.key e.g r.entries ≡ b → is_known same e.key e.g (offer_if same b e r).1.entries ≡ true
      by true known = known
      by false new =
          known_kept same e.key e.g e r
          ∙ or_right (is_known same e.key e.g r.entries) ((same e.key e.key && nat_le e.g e.g) || false) (or_left (same e.key e.key && nat_le e.g e.g) false cheap)

  -- the state of an entry that is sent was sent at its cost
  pub sent_new : (n : ℕ) (e : Entry K) (r : Record K) → slice_get r.entries n ≡ Some e → same e.key e.key ≡ true → was_sent same e.key e.g (mark_sent same n r).1 ≡ true
  sent_new n e r at itself =
      ap (λ o. was_sent same e.key e.g (option_map_or (λ x. sent_if_new same n x r) o (None, r)).1) at ∙ by (was_sent same e.key e.g r) refl
    where
      cheap : (same e.key e.key && nat_le e.g e.g) ≡ true
      cheap = and_from (same e.key e.key) (nat_le e.g e.g) itself (le-leb e.g e.g (omega arith))

      by : (b : Bool) → was_sent same e.key e.g r ≡ b → was_sent same e.key e.g (sent_if b n r).1 ≡ true
      by true was = was
      by false new =
          sent_more same e.key e.g n e r at
          ∙ or_right (was_sent same e.key e.g r) ((same e.key e.key && nat_le e.g e.g) || false) (or_left (same e.key e.key && nat_le e.g e.g) false cheap)
