-- The ranks of open entries, as entries and ranks come and go.
use Rattle.std.proofs.Common.{◌≡◌, ℕ, ◌+◌, ◌<◌, true, false, List, [], ◌∷◌, ◌++◌, length, get_or, Option, Some, None, refl, sym, ap, subst, ◌∙◌, arith, inl, inr}
use Rattle.std.specs.Prelude.{Contains, IfSome, IsPermutation}
use Rattle.std.proofs.lemmas.Bool.{cases_lt, false≢true}
use Rattle.std.proofs.lemmas.List.{get_or_append_left, get_or_push, length_push}
use Rattle.std.proofs.lemmas.List.Elements.{All-cons, All-contains, All-tail}
use Rattle.std.proofs.lemmas.List.Sorted.{All-permutation, Contains-permutation, IsPermutation-sym, length_permutation}
use Rattle.mp_list.proofs.FirstLemmas.{found_first}
use Rattle.mp_list.proofs.Members.{contains_cases, contains_head, contains_tail}
use Rattle.mp_store.specs.declared.entry.Entry.{Entry}
use Rattle.mp_store.specs.declared.rank.Rank.{Rank}
use Rattle.mp_store.specs.NumberFields.{AreRanks, IsRankIn, entry_at, is_fresh, nothing}
use Rattle.mp_store.specs.Ranks.{first_rank, is_sooner, rank_of}
use Rattle.mp_store.specs.Record.{is_open}
use Rattle.mp_store.proofs.Marks.{SameButMarks, same_at, same_length}
use Rattle.mp_store.proofs.RankLemmas.{first_rank_is, sooner_strict}

-- the same ranks in another order
pub ranks_moved : (es : List (Entry ℕ)) (xs ys : List Rank) → IsPermutation xs ys → AreRanks es xs → AreRanks es ys
ranks_moved es xs ys moved are = record {
  each = All-permutation (IsRankIn es) xs ys moved are.each;
  whole = λ n inside waiting. Contains-permutation xs ys (rank_of (n, entry_at es n)) moved (are.whole n inside waiting);
}

-- without that of an entry that is not open
without_stale : (es : List (Entry ℕ)) (q : Rank) (rest : List Rank) → is_open (entry_at es q.number).mark ≡ false → AreRanks es (q ∷ rest) → AreRanks es rest
without_stale es q rest stale are = record {
  each = All-tail (IsRankIn es) q rest are.each;
  whole = λ n inside waiting.
      elim (contains_cases q rest (rank_of (n, entry_at es n)) (are.whole n inside waiting)) [
        | inl is ↦ absurd (false≢true (sym stale ∙ ap (λ (p : Rank). is_open (entry_at es p.number).mark) is ∙ waiting))
        | inr there ↦ there
      ];
}

-- the first rank is taken out, where it is that of an entry that is not open
pub stale_gone : (es : List (Entry ℕ)) (ranks rest : List Rank) (o : Option Rank) → AreRanks es ranks → o ≡ first_rank ranks → is_fresh es (first_rank ranks) ≡ false
    → IfSome o (λ q. IsPermutation ranks (q ∷ rest)) → AreRanks es rest × (length rest < length ranks)
stale_gone es ranks rest None are is stale moved = absurd (false≢true (sym stale ∙ sym (ap (is_fresh es) is)))
stale_gone es ranks rest (Some q) are is stale moved =
    let shorter : length (q ∷ rest) ≡ length ranks = length_permutation ranks (q ∷ rest) moved in
    (without_stale es q rest (ap (is_fresh es) is ∙ stale) (ranks_moved es ranks (q ∷ rest) moved are), omega arith)

-- entries get other marks, and none is open that was not so
pub ranks_through : (es others : List (Entry ℕ)) (ranks : List Rank) → SameButMarks es others
    → ((n : ℕ) → n < length es → is_open (entry_at others n).mark ≡ true → is_open (entry_at es n).mark ≡ true) → AreRanks es ranks → AreRanks others ranks
ranks_through es others ranks alike opened are =
    let len = same_length es others alike in
    let same : (n : ℕ) → rank_of (n, entry_at es n) ≡ rank_of (n, entry_at others n) = λ n. ap (λ (e : Entry ℕ). rank_of (n, e)) (same_at es others alike n nothing) in
    record {
      each = λ i d h. let old = are.each i d h in record { inside = let inside = old.inside in omega arith; is = sym (same (get_or ranks i d).number) ∙ old.is };
      whole = λ n inside waiting.
          let old : n < length es = omega arith in
          subst (Contains ranks) (same n) (are.whole n old (opened n old waiting));
    }

-- ---- one entry more

module _ (es : List (Entry ℕ)) (ranks : List Rank) (are : AreRanks es ranks) (e : Entry ℕ) where
  abbrev longer : List (Entry ℕ)
  longer = es ++ e ∷ []

  old_entry : (n : ℕ) → n < length es → entry_at (es ++ e ∷ []) n ≡ entry_at es n
  old_entry n inside = get_or_append_left es (e ∷ []) nothing n inside

  last_entry : entry_at (es ++ e ∷ []) (length es) ≡ e
  last_entry = get_or_push es e nothing (length es) refl

  pub ranks_pushed : AreRanks (es ++ e ∷ []) (rank_of (length es, e) ∷ ranks)
  ranks_pushed =
      let len : length longer ≡ length es + 1 = length_push es e in
      let new = rank_of (length es, e) in
      record {
        each =
            All-cons (IsRankIn longer) new ranks
            (record { inside = omega arith; is = ap (λ (x : Entry ℕ). rank_of (length es, x)) last_entry })
            (λ i d h.
            let q = get_or ranks i d in
            let old = are.each i d h in
            record { inside = let inside = old.inside in omega arith; is = ap (λ (x : Entry ℕ). rank_of (q.number, x)) (old_entry q.number old.inside) ∙ old.is });
        whole = λ n inside waiting.
            elim (cases_lt n (length es)) [
              | inl before ↦
                  contains_tail new ranks (rank_of (n, entry_at longer n))
                  (subst (λ (x : Entry ℕ). Contains ranks (rank_of (n, x))) (sym (old_entry n before))
                  (are.whole n before (ap (λ (x : Entry ℕ). is_open x.mark) (sym (old_entry n before)) ∙ waiting)))
              | inr behind ↦
                  let at : length es ≡ n = omega arith in
                  subst (Contains (new ∷ ranks)) (λ j. rank_of (at j, (sym last_entry ∙ ap (entry_at longer) at) j)) (contains_head new ranks)
            ];
      }

  -- where the first rank is that of an open entry, it is so with that of an open entry more
  pub fresh_pushed : (new : List Rank) → IsPermutation (rank_of (length es, e) ∷ ranks) new → is_open e.mark ≡ true → is_fresh es (first_rank ranks) ≡ true
      → is_fresh (es ++ e ∷ []) (first_rank new) ≡ true
  fresh_pushed new moved waiting fresh = by (first_rank new) refl
    where
      by : (o : Option Rank) → first_rank new ≡ o → is_fresh (es ++ e ∷ []) o ≡ true
      by None is = refl
      by (Some q) is =
          let added = rank_of (length es, e) in
          let first = found_first is_sooner sooner_strict new q is in
          elim (contains_cases added ranks q (Contains-permutation new (added ∷ ranks) q (IsPermutation-sym (added ∷ ranks) new moved) first.among)) [
            | inl this ↦ ap (λ (p : Rank). is_open (entry_at longer p.number).mark) (sym this) ∙ ap (λ (x : Entry ℕ). is_open x.mark) last_entry ∙ waiting
            | inr there ↦
                let was : first_rank ranks ≡ Some q =
                first_rank_is ranks q (record {
                  among = there;
                  least = λ p found. first.least p (Contains-permutation (added ∷ ranks) new p moved (contains_tail added ranks p found));
                }) in
                ap (λ (x : Entry ℕ). is_open x.mark) (old_entry q.number (All-contains (IsRankIn es) ranks q are.each there).inside)
                ∙ ap (is_fresh es) (sym was) ∙ fresh
          ]
