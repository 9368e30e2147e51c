-- The state of an entry is sent: what the record is then, and its indices.
use Rattle.std.proofs.Common.{◌≡◌, ℕ, ◌<◌, Bool, true, false, cond, ◌&&◌, ◌||◌, eqb, List, [], ◌∷◌, ◌++◌, length, get_or, Option, Some, None, refl, sym, ap, subst, ◌∙◌, arith, inl, inr}
use Rattle.std.specs.Prelude.{filter_map, nat_le, slice_get, slice_set}
use Rattle.std.specs.List.{cons_option, list_any}
use Rattle.std.specs.Option.{option_map_or}
use Rattle.std.proofs.lemmas.Bool.{cases_eq, eq-eqb, ne_eqb}
use Rattle.std.proofs.lemmas.Bool.Decides.{nat_tests}
use Rattle.std.proofs.lemmas.List.{get_or-set_other, get_or-set_same, get_or_default, length-set}
use Rattle.std.proofs.lemmas.List.Elements.{filter_map-append}
use Rattle.std.proofs.lemmas.List.Folds.{list_any-append}
use Rattle.std.proofs.lemmas.Option.{slice_get-get_or}
use Rattle.mp_store.specs.declared.entry.Entry.{Entry}
use Rattle.mp_store.specs.declared.number_store.Known.{Known}
use Rattle.mp_store.specs.declared.rank.Rank.{Rank}
use Rattle.mp_store.specs.NumberFields.{IsIndexed, IsLastOf, entry_at, is_at_most, known_at, nothing}
use Rattle.mp_store.specs.Record.{Record}
use Rattle.mp_store.specs.Sent.{mark_sent, sent_if_new, was_sent}
use Rattle.mp_store.proofs.Sound.{sent_sound}

-- what is known of a key whose state is sent at a cost
abbrev pub sent_at : List Known → ℕ → ℕ → List Known
sent_at known k g = slice_set known k (record (known_at known k) { sent = Some g })

module _ (r : Record ℕ) (known : List Known) (ranks : List Rank) (goal : Option (ℕ × ℕ)) (indexed : IsIndexed r known ranks goal)
    (n : ℕ) (inside : n < length r.entries) where
  abbrev this : Entry ℕ
  this = entry_at r.entries n

  pub key_known : (entry_at r.entries n).key < length known
  key_known = indexed.keyed n nothing inside

  is_sent : was_sent eqb this.key this.g r ≡ is_at_most (known_at known this.key).sent this.g
  is_sent = indexed.sents this.key this.g key_known

  at : slice_get r.entries n ≡ Some this
  at = slice_get-get_or r.entries n nothing inside

  marking : mark_sent eqb n r ≡ sent_if_new eqb n this r
  marking = ap (λ o. option_map_or (λ e. sent_if_new eqb n e r) o (None, r)) at

  pub sent_before : is_at_most (known_at known (entry_at r.entries n).key).sent (entry_at r.entries n).g ≡ true → (None, r) ≡ mark_sent eqb n r
  sent_before old =
      sym (marking ∙ ap (λ b. cond b (None, r) (Some (length r.sent), record { entries = r.entries; sent = r.sent ++ n ∷ [] })) (is_sent ∙ old))

  pub sent_now : is_at_most (known_at known (entry_at r.entries n).key).sent (entry_at r.entries n).g ≡ false
      → (Some (length r.sent), record { entries = r.entries; sent = r.sent ++ n ∷ [] }) ≡ mark_sent eqb n r
  sent_now new =
      sym (marking ∙ ap (λ b. cond b (None, r) (Some (length r.sent), record { entries = r.entries; sent = r.sent ++ n ∷ [] })) (is_sent ∙ new))

  -- one sent state more
  sent_more : (k g : ℕ) → was_sent eqb k g (record { entries = r.entries; sent = r.sent ++ n ∷ [] }) ≡ (was_sent eqb k g r || ((eqb this.key k && nat_le this.g g) || false))
  sent_more k g =
      let passes : Entry ℕ → Bool = λ e. eqb e.key k && nat_le e.g g in
      ap (list_any passes) (filter_map-append (slice_get r.entries) r.sent (n ∷ []))
      ∙ list_any-append passes (filter_map (slice_get r.entries) r.sent) (filter_map (slice_get r.entries) (n ∷ []))
      ∙ ap (λ o. list_any passes (filter_map (slice_get r.entries) r.sent) || list_any passes (cons_option o [])) at

  lesser : (old : Option ℕ) (c g : ℕ) → is_at_most old c ≡ false → (is_at_most old g || (nat_le c g || false)) ≡ nat_le c g
  lesser None c g new = by (nat_le c g)
    where
      by : (b : Bool) → (false || (b || false)) ≡ b
      by true = refl
      by false = refl
  lesser (Some d) c g new = by d c g new
    where
      by : (d c g : ℕ) → nat_le d c ≡ false → (nat_le d g || (nat_le c g || false)) ≡ nat_le c g
      by d c g h = grind (arith, nat_tests)

  unlike : (b c : Bool) → (b || ((false && c) || false)) ≡ b
  unlike true c = refl
  unlike false c = refl

  sents_now : is_at_most (known_at known this.key).sent this.g ≡ false → (k g : ℕ) → k < length known
      → was_sent eqb k g (record { entries = r.entries; sent = r.sent ++ n ∷ [] }) ≡ is_at_most (known_at (sent_at known this.key this.g) k).sent g
  sents_now new k g h =
      sent_more k g
      ∙ (elim (cases_eq k this.key) [
        | inl same ↦
            (λ j. indexed.sents k g h j || ((eq-eqb this.key k (sym same) j && nat_le this.g g) || false))
            ∙ ap (λ m. is_at_most (known_at known m).sent g || (nat_le this.g g || false)) same
            ∙ lesser (known_at known this.key).sent this.g g new
            ∙ sym (ap (λ (x : Known). is_at_most x.sent g)
            (ap (known_at (sent_at known this.key this.g)) same ∙ get_or-set_same known this.key (record (known_at known this.key) { sent = Some this.g }) (record { best = 0; sent = None }) key_known))
        | inr other ↦
            (λ j. was_sent eqb k g r || ((ne_eqb this.key k (λ e. other (sym e)) j && nat_le this.g g) || false))
            ∙ unlike (was_sent eqb k g r) (nat_le this.g g)
            ∙ indexed.sents k g h
            ∙ sym (ap (λ (x : Known). is_at_most x.sent g) (get_or-set_other known this.key k (record (known_at known this.key) { sent = Some this.g }) (record { best = 0; sent = None }) other))
      ])

  best_stays : (k : ℕ) → (known_at (sent_at known this.key this.g) k).best ≡ (known_at known k).best
  best_stays k =
      elim (cases_eq k this.key) [
        | inl same ↦
            ap (λ (x : Known). x.best) (ap (known_at (sent_at known this.key this.g)) same ∙ get_or-set_same known this.key (record (known_at known this.key) { sent = Some this.g }) (record { best = 0; sent = None }) key_known)
            ∙ ap (λ m. (known_at known m).best) (sym same)
        | inr other ↦ ap (λ (x : Known). x.best) (get_or-set_other known this.key k (record (known_at known this.key) { sent = Some this.g }) (record { best = 0; sent = None }) other)
      ]

  pub sent_indexed : is_at_most (known_at known (entry_at r.entries n).key).sent (entry_at r.entries n).g ≡ false
      → IsIndexed (record { entries = r.entries; sent = r.sent ++ n ∷ [] }) (sent_at known (entry_at r.entries n).key (entry_at r.entries n).g) ranks goal
  sent_indexed new =
      let len : length (sent_at known this.key this.g) ≡ length known = length-set known this.key (record (known_at known this.key) { sent = Some this.g }) in
      record {
        sound = sent_sound eqb n r inside indexed.sound;
        keyed = λ i d h. subst (λ m. (get_or r.entries i d).key < m) (sym len) (indexed.keyed i d h);
        bests = λ k h. subst (IsLastOf r.entries k) (sym (best_stays k)) (indexed.bests k (omega arith));
        sents = λ k g h. sents_now new k g (omega arith);
        ranked = indexed.ranked;
        fresh = indexed.fresh;
        least = indexed.least;
      }

  -- ---- what the code reads and writes

  module _ (x : Entry ℕ) (x_is : x ≡ get_or r.entries n x) (m : Known) (m_is : m ≡ get_or known x.key m) where
    pub read_entry : x ≡ entry_at r.entries n
    read_entry = x_is ∙ get_or_default r.entries n x nothing inside

    pub read_key : x.key < length known
    read_key = subst (λ (e : Entry ℕ). e.key < length known) (sym read_entry) key_known

    read_known : m ≡ known_at known (entry_at r.entries n).key
    read_known =
        m_is ∙ get_or_default known x.key m (record { best = 0; sent = None }) read_key
        ∙ ap (λ (e : Entry ℕ). known_at known e.key) read_entry

    pub asked : (b : Bool) → b ≡ is_at_most m.sent x.g → is_at_most (known_at known (entry_at r.entries n).key).sent (entry_at r.entries n).g ≡ b
    asked b is = sym (is ∙ (λ j. is_at_most (read_known j).sent (read_entry j).g))

    pub written : slice_set known x.key (record { best = m.best; sent = Some x.g }) ≡ sent_at known (entry_at r.entries n).key (entry_at r.entries n).g
    written = λ j. slice_set known (read_entry j).key (record { best = (read_known j).best; sent = Some (read_entry j).g })
