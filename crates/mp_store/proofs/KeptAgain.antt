-- A cheaper entry of a known key is kept.
use Rattle.std.proofs.Common.{◌≡◌, ℕ, ◌<◌, ◌^◌, true, false, cond, ◌&&◌, eqb, List, [], ◌∷◌, ◌++◌, length, map, Option, None, sym, ap, ◌∙◌, arith, inl, inr}
use Rattle.std.specs.Prelude.{slice_set}
use Rattle.std.proofs.lemmas.Bool.{and_left, and_right, cases_eq, cases_order, eq-eqb, ne_eqb}
use Rattle.std.proofs.lemmas.List as lists
use Rattle.mp_store.specs.declared.entry.Entry.{Entry}
use Rattle.mp_store.specs.declared.entry.Mark.TheVariants.{Open, Replaced}
use Rattle.mp_store.specs.declared.number_store.Known.{Known}
use Rattle.mp_store.specs.declared.rank.Rank.{Rank}
use Rattle.mp_store.specs.Laws.{HasLastOpen, IsEarlier}
use Rattle.mp_store.specs.NumberFields.{AreRanks, IsIndexed, IsLastOf, better_goal, entry_at, given_way, is_at_most, is_fresh, known_at, nothing}
use Rattle.mp_store.specs.Ranks.{first_rank}
use Rattle.mp_store.specs.Record.{Record, f, gives_way, is_known, is_open, kept}
use Rattle.mp_store.proofs.Keeping.{kept_indexed}

-- what is known of a key that has a new entry
abbrev pub with_best : List Known → ℕ → ℕ → List Known
with_best known k n = slice_set known k (record (known_at known k) { best = n })

-- ---- the last entry of a key gives way, and no other

module _ (r : Record ℕ) (k b : ℕ) (last_open : HasLastOpen eqb r) (last : IsLastOf r.entries k b) where
  other_stays : (i : ℕ) → i < length r.entries → (i ≡ b → ⊥) → (eqb (entry_at r.entries i).key k && is_open (entry_at r.entries i).mark) ≡ false
  other_stays i inside other =
      let x = entry_at r.entries i in
      elim (cases_eq x.key k) [
        | inr unlike ↦ and_left (eqb x.key k) (is_open x.mark) (ne_eqb x.key k unlike)
        | inl same ↦
            elim (cases_order i b) [
              | inl is ↦ absurd (other is)
              | inr (inl before) ↦
                  and_right (eqb x.key k) (is_open x.mark)
                  (last_open i b nothing before last.inside (eq-eqb x.key (entry_at r.entries b).key (same ∙ sym last.is)))
              | inr (inr behind) ↦ absurd (last.last i behind inside same)
            ]
      ]

  stays : (i : ℕ) → i < length r.entries → (i ≡ b → ⊥) → gives_way eqb k (entry_at r.entries i) ≡ entry_at r.entries i
  stays i inside other =
      ap (λ c. cond c (record (entry_at r.entries i) { mark = Replaced }) (entry_at r.entries i)) (other_stays i inside other)

  gives : given_way (entry_at r.entries b) ≡ gives_way eqb k (entry_at r.entries b)
  gives = ap (λ c. cond (c && is_open (entry_at r.entries b).mark) (record (entry_at r.entries b) { mark = Replaced }) (entry_at r.entries b)) (sym (eq-eqb (entry_at r.entries b).key k last.is))

  replaced : slice_set r.entries b (given_way (entry_at r.entries b)) ≡ map (gives_way eqb k) r.entries
  replaced =
      let es = r.entries in
      let x = given_way (entry_at es b) in
      let len = lists.length-set es b x in
      lists.ext_get_or nothing (slice_set es b x) (map (gives_way eqb k) es) (len ∙ sym (lists.length-map es (gives_way eqb k)))
      (λ i h.
      let inside : i < length es = omega arith in
      (elim (cases_eq i b) [
        | inl same ↦ ap (entry_at (slice_set es b x)) same ∙ lists.get_or-set_same es b x nothing last.inside ∙ gives ∙ ap (λ m. gives_way eqb k (entry_at es m)) (sym same)
        | inr other ↦ lists.get_or-set_other es b i x nothing other ∙ sym (stays i inside other)
      ])
      ∙ sym (lists.get_or-map (gives_way eqb k) es i nothing nothing inside))

  -- and another one is behind it
  pub replaced_before : (e : Entry ℕ) → slice_set (r.entries ++ e ∷ []) b (given_way (entry_at r.entries b)) ≡ map (gives_way eqb k) r.entries ++ e ∷ []
  replaced_before e = lists.set-append_left r.entries (e ∷ []) b (given_way (entry_at r.entries b)) last.inside ∙ ap (λ xs. xs ++ e ∷ []) replaced

-- ---- the record with the entry

module _ (r : Record ℕ) (known : List Known) (ranks : List Rank) (goal : Option (ℕ × ℕ)) (indexed : IsIndexed r known ranks goal)
    (e : Entry ℕ) (key : e.key < length known) (fresh : is_known eqb e.key e.g r.entries ≡ false) (waiting : e.mark ≡ Open) (bounded : f e < 2 ^ 60) (earlier : IsEarlier (length r.entries) e.origin) where
  sent_stays : (k : ℕ) → (known_at (with_best known e.key (length r.entries)) k).sent ≡ (known_at known k).sent
  sent_stays k =
      let new : Known = record (known_at known e.key) { best = length r.entries } in
      let past : Known = record { best = 0; sent = None } in
      elim (cases_eq k e.key) [
        | inl same ↦
            ap (λ (x : Known). x.sent) (ap (known_at (with_best known e.key (length r.entries))) same ∙ lists.get_or-set_same known e.key new past key)
            ∙ ap (λ m. (known_at known m).sent) (sym same)
        | inr other ↦ ap (λ (x : Known). x.sent) (lists.get_or-set_other known e.key k new past other)
      ]

  pub again_indexed : (rest : List Rank) → AreRanks (map (gives_way eqb e.key) r.entries ++ e ∷ []) rest
      → is_fresh (map (gives_way eqb e.key) r.entries ++ e ∷ []) (first_rank rest) ≡ true
      → IsIndexed (kept eqb e r) (with_best known e.key (length r.entries)) rest (better_goal goal e.goal e.g (length r.entries))
  again_indexed rest ranked fresh_first =
      let new : Known = record (known_at known e.key) { best = length r.entries } in
      let past : Known = record { best = 0; sent = None } in
      let len : length (with_best known e.key (length r.entries)) ≡ length known = lists.length-set known e.key new in
      kept_indexed r known ranks goal indexed e fresh waiting bounded earlier (with_best known e.key (length r.entries)) rest
      (omega arith) (omega arith)
      (ap (λ (x : Known). x.best) (lists.get_or-set_same known e.key new past key))
      (λ k h other. ((let inside : k < length known = omega arith in inside), ap (λ (x : Known). x.best) (lists.get_or-set_other known e.key k new past other)))
      (λ k g h. indexed.sents k g (omega arith) ∙ ap (λ o. is_at_most o g) (sym (sent_stays k)))
      ranked fresh_first
