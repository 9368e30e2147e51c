-- An entry is kept: what the record is then, and its indices.
use Rattle.std.proofs.Common.{◌≡◌, ℕ, ◌+◌, ◌<◌, ◌≤◌, ◌^◌, Bool, true, false, cond, not, ◌&&◌, eqb, List, [], ◌∷◌, ◌++◌, length, map, Option, Some, None, refl, sym, ap, subst, ◌∙◌, arith, inl, inr}
use Rattle.std.specs.Prelude.{IsPermutation, nat_le, option_map}
use Rattle.std.specs.List.{list_any}
use Rattle.std.proofs.lemmas.Bool.{cases_eq, cases_lt, false≢true}
use Rattle.std.proofs.lemmas.List.{get_or-map, get_or_append_left, get_or_push, length-map, length_push}
use Rattle.std.proofs.lemmas.List.Elements.{All-push}
use Rattle.mp_list.specs.First.{leftmost}
use Rattle.mp_list.proofs.FirstLemmas.{found_first, leftmost_append}
use Rattle.mp_store.specs.declared.entry.Entry.{Entry}
use Rattle.mp_store.specs.declared.entry.Mark.TheVariants.{Open, Replaced}
use Rattle.mp_store.specs.declared.number_store.Known.{Known}
use Rattle.mp_store.specs.declared.rank.Rank.{Rank}
use Rattle.mp_store.specs.Laws.{IsEarlier}
use Rattle.mp_store.specs.Minima.{Numbered, is_cheaper, least_goal, those}
use Rattle.mp_store.specs.NumberFields.{AreRanks, IsIndexed, IsLastOf, better_goal, entry_at, is_at_most, is_fresh, known_at, nothing}
use Rattle.mp_store.specs.Ranks.{first_rank, rank_of}
use Rattle.mp_store.specs.Record.{Record, f, gives_way, is_known, is_open, kept}
use Rattle.mp_store.specs.Sent.{was_sent}
use Rattle.mp_store.proofs.Closing.{last_through}
use Rattle.mp_store.proofs.Marks.{all_through, giving_way_marks, goal_of, goal_through, sent_through, shown}
use Rattle.mp_store.proofs.OpenRanks.{ranks_moved, ranks_pushed, ranks_through}
use Rattle.mp_store.proofs.RankLemmas.{cheaper_later, cheaper_strict, those_have}
use Rattle.mp_store.proofs.Mapped.{sent-append, those-push}
use Rattle.mp_store.proofs.Sound.{kept_sound}

-- ---- one entry more at the end

module _ (es : List (Entry ℕ)) (e : Entry ℕ) where
  abbrev longer : List (Entry ℕ)
  longer = es ++ e ∷ []

  old_entry : (n : ℕ) → n < length es → entry_at (es ++ e ∷ []) n ≡ entry_at es n
  old_entry n inside = get_or_append_left es (e ∷ []) nothing n inside

  new_last : (n : ℕ) → n ≡ length es → entry_at (es ++ e ∷ []) n ≡ e
  new_last n is = get_or_push es e nothing n (sym is)

  last_pushed : (k n : ℕ) → (e.key ≡ k → ⊥) → IsLastOf es k n → IsLastOf (es ++ e ∷ []) k n
  last_pushed k n other last =
      let len : length (es ++ e ∷ []) ≡ length es + 1 = length_push es e in
      record {
        inside = let h = last.inside in omega arith;
        is = ap (λ (x : Entry ℕ). x.key) (old_entry n last.inside) ∙ last.is;
        last = λ m behind inside is.
            elim (cases_lt m (length es)) [
              | inl old ↦ last.last m behind old (ap (λ (x : Entry ℕ). x.key) (sym (old_entry m old)) ∙ is)
              | inr new ↦ other (ap (λ (x : Entry ℕ). x.key) (sym (new_last m (omega arith))) ∙ is)
            ];
      }

  last_new : (k n : ℕ) → e.key ≡ k → n ≡ length es → IsLastOf (es ++ e ∷ []) k n
  last_new k n is at =
      let len : length (es ++ e ∷ []) ≡ length es + 1 = length_push es e in
      record {
        inside = omega arith;
        is = ap (λ (x : Entry ℕ). x.key) (new_last n at) ∙ is;
        last = λ m behind inside same. absurd (omega arith);
      }

  -- the least goal is the one of before, unless the new one is cheaper
  goal_pushed : (ns : List ℕ) → better_goal (least_goal (record { entries = es; sent = ns })) e.goal e.g (length es) ≡ least_goal (record { entries = es ++ e ∷ []; sent = ns })
  goal_pushed ns =
      by e.goal (goal_of es) refl
      ∙ sym (ap (option_map shown)
      (ap (leftmost is_cheaper None) (those-push (λ x. x.goal) es e)
      ∙ leftmost_append is_cheaper None (those (λ x. x.goal) es) (cond e.goal ((length es, e) ∷ []) [])))
    where
      chosen : (b : Bool) (x : Numbered ℕ) → cond b (x.1.g, x.0) (e.g, length es) ≡ shown (cond (not b) (length es, e) x)
      chosen true x = refl
      chosen false x = refl

      by : (b : Bool) (o : Option (Numbered ℕ)) → goal_of es ≡ o → better_goal (option_map shown o) b e.g (length es) ≡ option_map shown (leftmost is_cheaper o (cond b ((length es, e) ∷ []) []))
      by false o is = refl
      by true None is = refl
      by true (Some x) is =
          let that = those_have (λ y. y.goal) es x (found_first is_cheaper cheaper_strict (those (λ y. y.goal) es) x is).among in
          ap Some (chosen (nat_le x.1.g e.g) x ∙ ap (λ b. shown (cond b (length es, e) x)) (sym (cheaper_later x (length es, e) that.inside)))

-- ---- the record with the entry

module _ (r : Record ℕ) (known : List Known) (ranks : List Rank) (goal : Option (ℕ × ℕ)) (indexed : IsIndexed r known ranks goal)
    (e : Entry ℕ) (fresh : is_known eqb e.key e.g r.entries ≡ false) (waiting : e.mark ≡ Open) (bounded : f e < 2 ^ 60) (earlier : IsEarlier (length r.entries) e.origin) where
  abbrev waiting_entries : List (Entry ℕ)
  waiting_entries = map (gives_way eqb e.key) r.entries

  same_len : length waiting_entries ≡ length r.entries
  same_len = length-map r.entries (gives_way eqb e.key)

  -- ranks to which its own came are the right ones
  pub kept_ranks : (new : List Rank) → IsPermutation (rank_of (length r.entries, e) ∷ ranks) new → AreRanks (map (gives_way eqb e.key) r.entries ++ e ∷ []) new
  kept_ranks new moved =
      ranks_moved (waiting_entries ++ e ∷ []) (rank_of (length r.entries, e) ∷ ranks) new moved
      (subst (λ n. AreRanks (waiting_entries ++ e ∷ []) (rank_of (n, e) ∷ ranks)) same_len
      (ranks_pushed waiting_entries ranks (ranks_through r.entries waiting_entries ranks (giving_way_marks eqb e.key r.entries) opened indexed.ranked) e))
    where
      if_open : (x : Entry ℕ) (b : Bool) → is_open (cond b (record x { mark = Replaced }) x).mark ≡ true → is_open x.mark ≡ true
      if_open x true h = absurd (false≢true h)
      if_open x false h = h

      opened : (n : ℕ) → n < length r.entries → is_open (entry_at (map (gives_way eqb e.key) r.entries) n).mark ≡ true → is_open (entry_at r.entries n).mark ≡ true
      opened n inside h =
          let x = entry_at r.entries n in
          if_open x (eqb x.key e.key && is_open x.mark)
          (ap (λ (y : Entry ℕ). is_open y.mark) (sym (get_or-map (gives_way eqb e.key) r.entries n nothing nothing inside)) ∙ h)

  -- the indices of the record, where those of keys and ranks took the entry up
  pub kept_indexed : (known' : List Known) (rest : List Rank) → length known ≤ length known' → e.key < length known'
      → (known_at known' e.key).best ≡ length r.entries
      → ((k : ℕ) → k < length known' → (k ≡ e.key → ⊥) → (k < length known) × ((known_at known' k).best ≡ (known_at known k).best))
      → ((k g : ℕ) → k < length known' → was_sent eqb k g r ≡ is_at_most (known_at known' k).sent g)
      → AreRanks (map (gives_way eqb e.key) r.entries ++ e ∷ []) rest
      → is_fresh (map (gives_way eqb e.key) r.entries ++ e ∷ []) (first_rank rest) ≡ true
      → IsIndexed (kept eqb e r) known' rest (better_goal goal e.goal e.g (length r.entries))
  kept_indexed known' rest more key best_new best_old sents ranked fresh_first =
      let alike = giving_way_marks eqb e.key r.entries in
      record {
        sound = kept_sound eqb e r indexed.sound fresh waiting bounded earlier;
        keyed =
            All-push (λ x. x.key < length known') waiting_entries e
            (all_through (λ x. x.key < length known') (λ x h. h) (λ x h. h) r.entries waiting_entries alike (λ i d h. let old = indexed.keyed i d h in omega arith)) key;
        bests = λ k h.
            elim (cases_eq k e.key) [
              | inl same ↦
                  last_new waiting_entries e k (known_at known' k).best (sym same)
                  (ap (λ m. (known_at known' m).best) same ∙ best_new ∙ sym same_len)
              | inr other ↦
                  let old = best_old k h other in
                  subst (IsLastOf (waiting_entries ++ e ∷ []) k) (sym old.1)
                  (last_pushed waiting_entries e k (known_at known k).best (λ is. other (sym is))
                  (last_through r.entries waiting_entries k (known_at known k).best alike (indexed.bests k old.0)))
            ];
        sents = λ k g h.
            ap (list_any (λ x. eqb x.key k && nat_le x.g g)) (sent-append waiting_entries (e ∷ []) r.sent (λ i d inside. let old = indexed.sound.sent i d inside in omega (arith, same_len)))
            ∙ sym (sent_through eqb k g r.entries waiting_entries r.sent alike)
            ∙ sents k g h;
        ranked = ranked;
        fresh = fresh_first;
        least =
            (λ j. better_goal (indexed.least j) e.goal e.g (length r.entries))
            ∙ (λ j. better_goal (goal_through r.entries waiting_entries r.sent alike j) e.goal e.g (sym same_len j))
            ∙ goal_pushed waiting_entries e r.sent;
      }
