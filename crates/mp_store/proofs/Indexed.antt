-- What the indices of a record say: the best entry of a key, the least open entry, whether a state was sent.
use Rattle.std.proofs.Common.{◌≡◌, ℕ, ◌<◌, Bool, true, eqb, List, length, get_or, Option, Some, None, refl, sym, ap, subst, ◌∙◌, arith}
use Rattle.std.specs.Prelude.{Contains, nat_le, option_map}
use Rattle.std.specs.Cmp.{IsEquivalence}
use Rattle.std.proofs.lemmas.Bool.{eq-eqb, eqb-true, ne_eqb}
use Rattle.std.proofs.lemmas.Bool.Decides.{nat_tests}
use Rattle.std.proofs.lemmas.List.{get_or_default}
use Rattle.std.proofs.lemmas.List.Elements.{All-contains}
use Rattle.std.proofs.lemmas.Option.{get_or_from_slice_get, slice_get-get_or, slice_get_within}
use Rattle.mp_list.proofs.FirstLemmas.{found_first, nothing_found}
use Rattle.mp_list.proofs.Members.{no_member}
use Rattle.mp_store.specs.declared.entry.Entry.{Entry}
use Rattle.mp_store.specs.declared.number_store.Known.{Known}
use Rattle.mp_store.specs.declared.rank.Rank.{Rank}
use Rattle.mp_store.specs.Laws.{HasFallingCosts, IsLastEntry}
use Rattle.mp_store.proofs.BestLemmas.{best_last, known_last}
use Rattle.mp_store.specs.Minima.{Numbered, best, first_open}
use Rattle.mp_store.specs.NumberFields.{AreRanks, IsIndexed, IsLastOf, IsRankIn, entry_at, is_fresh, known_at, nothing}
use Rattle.mp_store.specs.Ranks.{first_rank, is_sooner, rank_of}
use Rattle.mp_store.specs.Record.{Record, is_known, is_open}
use Rattle.mp_store.proofs.RankLemmas.{IsThat, first_open_found, first_open_none, sooner_strict}

-- ---- the best entry of a key

-- an entry of a list with its number is the one at that place
that_entry : (es : List (Entry ℕ)) (p : Entry ℕ → Bool) (x : Numbered ℕ) → IsThat p es x → entry_at es x.0 ≡ x.1
that_entry es p x that = get_or_default es x.0 nothing x.1 that.inside ∙ that.is

-- numbers are told apart
nat_eq_equiv : IsEquivalence eqb
nat_eq_equiv = record {
  refl = λ x. eq-eqb x x refl;
  symm = λ x y. turned x y;
  congr = λ x y z is. ap (λ n. eqb n z) (eqb-true x y is);
}
  where
    turned : (x y : ℕ) → eqb x y ≡ eqb y x
    turned x y = grind (arith, nat_tests)

-- the last entry of a key
last_entry : (r : Record ℕ) (k b : ℕ) → IsLastOf r.entries k b → IsLastEntry eqb k r b (entry_at r.entries b)
last_entry r k b last = record {
  at = slice_get-get_or r.entries b nothing last.inside;
  has = eq-eqb (entry_at r.entries b).key k last.is;
  last = λ m later behind at.
      ne_eqb later.key k
      (λ is. last.last m behind (slice_get_within r.entries m later at) (ap (λ (x : Entry ℕ). x.key) (get_or_from_slice_get r.entries m later nothing at) ∙ is));
}

pub best_found : (r : Record ℕ) (k b : ℕ) → HasFallingCosts eqb r → IsLastOf r.entries k b → best eqb k r ≡ Some b
best_found r k b falling last = best_last eqb nat_eq_equiv k r b (entry_at r.entries b) falling (last_entry r k b last)

pub known_by_last : (r : Record ℕ) (k b : ℕ) → HasFallingCosts eqb r → IsLastOf r.entries k b → (g : ℕ) → is_known eqb k g r.entries ≡ nat_le (entry_at r.entries b).g g
known_by_last r k b falling last = known_last eqb nat_eq_equiv k r b (entry_at r.entries b) falling (last_entry r k b last)

-- ---- the least open entry

module _ (es : List (Entry ℕ)) (ranks : List Rank) (are : AreRanks es ranks) where
  -- an open entry has its rank among them
  open_has_rank : (x : Numbered ℕ) → IsThat (λ e. is_open e.mark) es x → Contains ranks (rank_of x)
  open_has_rank x that =
      let at : entry_at es x.0 ≡ x.1 = that_entry es (λ e. is_open e.mark) x that in
      subst (λ (e : Entry ℕ). Contains ranks (rank_of (x.0, e))) at
      (are.whole x.0 that.inside (ap (λ (e : Entry ℕ). is_open e.mark) at ∙ that.passes))

  pub first_in : (q : Rank) → first_rank ranks ≡ Some q → IsRankIn es q
  first_in q is = All-contains (IsRankIn es) ranks q are.each (found_first is_sooner sooner_strict ranks q is).among

  -- the first rank is that of the first open entry
  first_ranked : is_fresh es (first_rank ranks) ≡ true → option_map rank_of (first_open es) ≡ first_rank ranks
  first_ranked fresh = by (first_rank ranks) refl fresh
    where
      by : (o : Option Rank) → first_rank ranks ≡ o → is_fresh es o ≡ true → option_map rank_of (first_open es) ≡ o
      by None is open_one =
          ap (option_map rank_of)
          (first_open_none es (λ x that. no_member (rank_of x) (subst (λ (qs : List Rank). Contains qs (rank_of x)) (nothing_found is_sooner ranks is) (open_has_rank x that))))
      by (Some q) is open_one =
          let at = first_in q is in
          let first = found_first is_sooner sooner_strict ranks q is in
          ap (option_map rank_of)
          (first_open_found es q.number nothing at.inside open_one
          (λ x that. ap (is_sooner (rank_of x)) at.is ∙ first.least (rank_of x) (open_has_rank x that)))
          ∙ ap Some at.is

  pub first_read : {X : Type 0} (read : Rank → X) → is_fresh es (first_rank ranks) ≡ true → option_map read (first_rank ranks) ≡ option_map (λ x. read (rank_of x)) (first_open es)
  first_read {X} read fresh = sym (ap (option_map read) (first_ranked fresh)) ∙ by (first_open es)
    where
      by : (o : Option (Numbered ℕ)) → option_map read (option_map rank_of o) ≡ option_map (λ x. read (rank_of x)) o
      by None = refl
      by (Some x) = refl

-- what the code reads of a known key tells whether an entry of it is as cheap
pub known_by_read : (r : Record ℕ) (known : List Known) (ranks : List Rank) (goal : Option (ℕ × ℕ)) → IsIndexed r known ranks goal
    → (k g : ℕ) → k < length known → (m : Known) → m ≡ get_or known k m → (x : Entry ℕ) → x ≡ get_or r.entries m.best x
    → (b : Bool) → nat_le x.g g ≡ b → is_known eqb k g r.entries ≡ b
known_by_read r known ranks goal indexed k g inside m m_is x x_is b asked =
    let best = (known_at known k).best in
    let last = indexed.bests k inside in
    let read : m ≡ known_at known k = m_is ∙ get_or_default known k m (record { best = 0; sent = None }) inside in
    let old : x ≡ entry_at r.entries best = x_is ∙ ap (λ (n : Known). get_or r.entries n.best x) read ∙ get_or_default r.entries best x nothing last.inside in
    known_by_last r k best indexed.sound.falling last g ∙ sym (ap (λ (y : Entry ℕ). nat_le y.g g) old) ∙ asked
