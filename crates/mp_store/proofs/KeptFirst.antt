-- The first entry of a new key is kept.
use Rattle.std.proofs.Common.{◌≡◌, ℕ, ◌+◌, ◌<◌, ◌^◌, true, false, cond, ◌&&◌, eqb, List, [], ◌∷◌, ◌++◌, length, map, get_or, Option, None, sym, ap, subst, ◌∙◌, arith, inl, inr}
use Rattle.std.specs.Prelude.{IsPermutation, nat_le}
use Rattle.std.proofs.lemmas.Bool.{and_left, cases_lt, ne_eqb}
use Rattle.std.proofs.lemmas.List.{get_or_append_left, get_or_push, length_push, map-id}
use Rattle.std.proofs.lemmas.List.Folds.{list_any_none}
use Rattle.mp_store.specs.declared.entry.Entry.{Entry}
use Rattle.mp_store.specs.declared.entry.Mark.TheVariants.{Open, Replaced}
use Rattle.mp_store.specs.declared.entry.Offer.TheVariants.{Kept, Worse}
use Rattle.mp_store.specs.declared.number_store.Known.{Known}
use Rattle.mp_store.specs.declared.rank.Rank.{Rank}
use Rattle.mp_store.specs.Laws.{IsEarlier}
use Rattle.mp_store.specs.NumberFields.{IsIndexed, better_goal, is_at_most, is_fresh, known_at}
use Rattle.mp_store.specs.Ranks.{first_rank, rank_of}
use Rattle.mp_store.specs.Record.{Record, f, gives_way, is_known, is_open, kept, offered}
use Rattle.mp_store.specs.Sent.{sent_entries, was_sent}
use Rattle.mp_store.proofs.Keeping.{kept_indexed, kept_ranks}
use Rattle.mp_store.proofs.Mapped.{map-agree}
use Rattle.mp_store.proofs.Naming.{all_sent}
use Rattle.mp_store.proofs.OpenRanks.{fresh_pushed}

-- what is known of the keys, and of a new one whose first entry has a number
abbrev pub with_key : List Known → ℕ → List Known
with_key known n = known ++ record { best = n; sent = None } ∷ []

module _ (r : Record ℕ) (known : List Known) (ranks : List Rank) (goal : Option (ℕ × ℕ)) (indexed : IsIndexed r known ranks goal)
    (e : Entry ℕ) (new : e.key ≡ length known) (waiting : e.mark ≡ Open) (bounded : f e < 2 ^ 60) (earlier : IsEarlier (length r.entries) e.origin) where
  abbrev unlike : Entry ℕ → Type 0
  unlike x = x.key < length known

  other_key : (x : Entry ℕ) → x.key < length known → eqb x.key e.key ≡ false
  other_key x h = ne_eqb x.key e.key (λ is. omega (arith, new))

  pub none_known : is_known eqb e.key e.g r.entries ≡ false
  none_known =
      list_any_none (λ x. eqb x.key e.key && nat_le x.g e.g) r.entries
      (λ i d h. and_left (eqb (get_or r.entries i d).key e.key) (nat_le (get_or r.entries i d).g e.g) (other_key (get_or r.entries i d) (indexed.keyed i d h)))

  none_gives_way : map (gives_way eqb e.key) r.entries ≡ r.entries
  none_gives_way =
      map-agree (gives_way eqb e.key) unlike (λ x. x)
      (λ x h. ap (λ b. cond (b && is_open x.mark) (record x { mark = Replaced }) x) (other_key x h)) r.entries indexed.keyed
      ∙ map-id r.entries

  keeping : kept eqb e r ≡ record { entries = r.entries ++ e ∷ []; sent = r.sent }
  keeping = λ j. record { entries = none_gives_way j ++ e ∷ []; sent = r.sent }

  pub first_offered : (Kept (length r.entries), record { entries = r.entries ++ e ∷ []; sent = r.sent }) ≡ offered eqb e r
  first_offered =
      (λ j. (Kept (length r.entries), sym keeping j))
      ∙ ap (λ b. cond b (Worse, r) (Kept (length r.entries), kept eqb e r)) (sym none_known)

  none_sent : (k g : ℕ) → k ≡ length known → was_sent eqb k g r ≡ false
  none_sent k g is =
      list_any_none (λ x. eqb x.key k && nat_le x.g g) (sent_entries r)
      (λ i d h.
      let x = get_or (sent_entries r) i d in
      let inside : x.key < length known = all_sent unlike r.entries indexed.keyed r.sent i d h in
      and_left (eqb x.key k) (nat_le x.g g) (ne_eqb x.key k (λ same. omega arith)))

  pub first_indexed : (rest : List Rank) → IsPermutation (rank_of (length r.entries, e) ∷ ranks) rest
      → IsIndexed (record { entries = r.entries ++ e ∷ []; sent = r.sent }) (with_key known (length r.entries)) rest (better_goal goal e.goal e.g (length r.entries))
  first_indexed rest moved =
      let this : Known = record { best = length r.entries; sent = None } in
      let past : Known = record { best = 0; sent = None } in
      let len : length (with_key known (length r.entries)) ≡ length known + 1 = length_push known this in
      let old : (k : ℕ) → k < length known → known_at (with_key known (length r.entries)) k ≡ known_at known k = λ k h. get_or_append_left known (this ∷ []) past k h in
      let last : (k : ℕ) → k ≡ length known → known_at (with_key known (length r.entries)) k ≡ this = λ k is. get_or_push known this past k (sym is) in
      subst (λ (s : Record ℕ). IsIndexed s (with_key known (length r.entries)) rest (better_goal goal e.goal e.g (length r.entries))) keeping
      (kept_indexed r known ranks goal indexed e none_known waiting bounded earlier (with_key known (length r.entries)) rest
      (omega arith) (omega (arith, new))
      (ap (λ (x : Known). x.best) (last e.key new))
      (λ k h other. let inside : k < length known = below k (length known) (omega arith) (λ is. other (is ∙ sym new)) in (inside, ap (λ (x : Known). x.best) (old k inside)))
      (λ k g h.
      elim (cases_lt k (length known)) [
        | inl inside ↦ indexed.sents k g inside ∙ ap (λ (x : Known). is_at_most x.sent g) (sym (old k inside))
        | inr behind ↦ let is : k ≡ length known = omega arith in none_sent k g is ∙ ap (λ (x : Known). is_at_most x.sent g) (sym (last k is))
      ])
      (kept_ranks r known ranks goal indexed e none_known waiting bounded earlier rest moved)
      (subst (λ xs. is_fresh (xs ++ e ∷ []) (first_rank rest) ≡ true) (sym none_gives_way)
      (fresh_pushed r.entries ranks indexed.ranked e rest moved (ap is_open waiting) indexed.fresh)))
    where
      below : (k n : ℕ) → k < n + 1 → (k ≡ n → ⊥) → k < n
      below k n h other = omega arith
