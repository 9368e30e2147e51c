-- The best entry of a key is its last one, where costs fall.
use Rattle.std.proofs.Common.{◌≡◌, ℕ, ◌<◌, ◌≤◌, Bool, true, false, ◌&&◌, List, length, get_or, Option, Some, None, refl, sym, ap, subst, ◌∙◌, arith, inl, inr}
use Rattle.std.specs.Prelude.{◌⊎◌, Contains, All, nat_le, option_map, slice_get}
use Rattle.std.specs.Cmp.{IsEquivalence}
use Rattle.std.proofs.lemmas.Bool.{and_from, and_left, and_right, cases_order, false≢true, false_from_ne_true, cases_Bool, leb-false, lt-leb}
use Rattle.std.proofs.lemmas.List.Folds.{list_any_at, list_any_none}
use Rattle.std.proofs.lemmas.Option.{get_or_from_slice_get, same_Some, slice_get-get_or, slice_get_within}
use Rattle.mp_list.specs.First.{IsFirst, leftmost}
use Rattle.mp_list.proofs.FirstLemmas.{found_first, nothing_found}
use Rattle.mp_list.proofs.Members.{no_member}
use Rattle.mp_store.specs.declared.entry.Entry.{Entry}
use Rattle.mp_store.specs.declared.entry.Mark.TheVariants.{Replaced}
use Rattle.mp_store.specs.Laws.{GaveWayToLater, HasFallingCosts, IsLastEntry}
use Rattle.mp_store.specs.Minima.{Numbered, best, is_cheaper, those}
use Rattle.mp_store.specs.Record.{Record, is_known}
use Rattle.mp_store.proofs.RankLemmas.{IsThat, cheaper_less, cheaper_strict, first_of, those_have, those_hold}

module _ {K : Type 0} (same : K → K → Bool) (laws : IsEquivalence same) (key : K) (r : Record K) where
  abbrev has_key : Entry K → Bool
  has_key e = same e.key key

  -- two entries of the key have one key
  one_key : (x y : Entry K) → same x.key key ≡ true → same y.key key ≡ true → same x.key y.key ≡ true
  one_key x y p q = laws.congr x.key key y.key p ∙ laws.symm key y.key ∙ q

  -- of two entries of the key the later one costs less
  later_less : HasFallingCosts same r → (m n : ℕ) (x y : Entry K) → m < n → slice_get r.entries m ≡ Some x → slice_get r.entries n ≡ Some y
      → same x.key key ≡ true → same y.key key ≡ true → y.g < x.g
  later_less falling m n x y before at_m at_n p q =
      let is_x : get_or r.entries m x ≡ x = get_or_from_slice_get r.entries m x x at_m in
      let is_y : get_or r.entries n x ≡ y = get_or_from_slice_get r.entries n y x at_n in
      let fell = falling m n x before (slice_get_within r.entries n y at_n) ((λ t. same (is_x t).key (is_y t).key) ∙ one_key x y p q) in
      subst (λ (z : Entry K). z.g < x.g) is_y (subst (λ (z : Entry K). (get_or r.entries n x).g < z.g) is_x fell)

  -- an entry of the key with its number
  that_at : (x : Numbered K) → IsThat has_key r.entries x → slice_get r.entries x.0 ≡ Some x.1
  that_at x that = slice_get-get_or r.entries x.0 x.1 that.inside ∙ ap Some that.is

  has_that : (n : ℕ) (e : Entry K) → slice_get r.entries n ≡ Some e → same e.key key ≡ true → Contains (those has_key r.entries) (n, e)
  has_that n e at has =
      let is : get_or r.entries n e ≡ e = get_or_from_slice_get r.entries n e e at in
      subst (λ (x : Entry K). Contains (those has_key r.entries) (n, x)) is
      (those_hold has_key r.entries n e (slice_get_within r.entries n e at) (ap has_key is ∙ has))

  module _ (n : ℕ) (e : Entry K) (falling : HasFallingCosts same r) (last : IsLastEntry same key r n e) where
    -- an entry of the key is the last one, or it costs more
    last_or_more : (m : ℕ) (x : Entry K) → slice_get r.entries m ≡ Some x → same x.key key ≡ true → (◌≡◌ {A = Numbered K} (m, x) (n, e)) ⊎ (e.g < x.g)
    last_or_more m x at has =
        elim (cases_order m n) [
          | inl is ↦ inl (λ j. (is j, same_Some x e (sym at ∙ ap (slice_get r.entries) is ∙ last.at) j))
          | inr (inl before) ↦ inr (later_less falling m n x e before at last.at has last.has)
          | inr (inr behind) ↦ absurd (false≢true (sym (last.last m x behind at) ∙ has))
        ]

    last_first : IsFirst is_cheaper (those has_key r.entries) (n, e)
    last_first = record {
      among = has_that n e last.at last.has;
      least = λ x found.
          let that = those_have has_key r.entries x found in
          elim (last_or_more x.0 x.1 (that_at x that) that.passes) [
            | inl is ↦ ap (λ y. is_cheaper y (n, e)) is ∙ cheaper_strict.itself (n, e)
            | inr more ↦ cheaper_strict.turns (n, e) x (cheaper_less (n, e) x more)
          ];
    }

    pub best_last : best same key r ≡ Some n
    best_last =
        ap (option_map (λ x. x.0))
        (first_of is_cheaper cheaper_strict (those has_key r.entries) (n, e) last_first
        (λ x found h j.
        let that = those_have has_key r.entries x found in
        elim (last_or_more x.0 x.1 (that_at x that) that.passes) [
          | inl is ↦ is
          | inr more ↦ absurd (false≢true (sym j ∙ cheaper_less (n, e) x more))
        ]))

    -- some entry of the key costs g or less where the last one does
    pub known_last : (g : ℕ) → is_known same key g r.entries ≡ nat_le e.g g
    known_last g = by (nat_le e.g g) refl
      where
        passes : Entry K → Bool
        passes x = same x.key key && nat_le x.g g

        each : nat_le e.g g ≡ false → (i : ℕ) (d : Entry K) → i < length r.entries → (same (get_or r.entries i d).key key && nat_le (get_or r.entries i d).g g) ≡ false
        each more i d inside =
            let x = get_or r.entries i d in
            let above : g < e.g = leb-false e.g g more in
            elim (cases_Bool (same x.key key)) [
              | inr other ↦ and_left (same x.key key) (nat_le x.g g) other
              | inl has ↦
                  let least : e.g ≤ x.g =
                  elim (last_or_more i x (slice_get-get_or r.entries i d inside) has) [
                    | inl is ↦ let cost : x.g ≡ e.g = ap (λ (y : Numbered K). y.1.g) is in omega arith
                    | inr costs ↦ omega arith
                  ] in
                  and_right (same x.key key) (nat_le x.g g) (lt-leb x.g g (omega arith))
            ]

        by : (c : Bool) → nat_le e.g g ≡ c → is_known same key g r.entries ≡ c
        by true within =
            let is : get_or r.entries n e ≡ e = get_or_from_slice_get r.entries n e e last.at in
            list_any_at (λ x. same x.key key && nat_le x.g g) r.entries n e (slice_get_within r.entries n e last.at)
            (ap (λ (x : Entry K). same x.key key && nat_le x.g g) is ∙ and_from (same e.key key) (nat_le e.g g) last.has within)
        by false more = list_any_none (λ x. same x.key key && nat_le x.g g) r.entries (each more)

    -- the last entry did not give way
    pub last_lives : GaveWayToLater same r → e.mark ≡ Replaced → ⊥
    last_lives gave_way replaced =
        let is : get_or r.entries n e ≡ e = get_or_from_slice_get r.entries n e e last.at in
        let later = gave_way n e (slice_get_within r.entries n e last.at) (ap (λ (x : Entry K). x.mark) is ∙ replaced) in
        let y = get_or r.entries later.0 e in
        let at : slice_get r.entries later.0 ≡ Some y = slice_get-get_or r.entries later.0 e later.2 in
        let has : same y.key key ≡ true =
        laws.symm y.key key ∙ sym (laws.congr e.key key y.key last.has) ∙ ap (λ (x : Entry K). same x.key y.key) (sym is) ∙ later.3 in
        false≢true (sym (last.last later.0 y later.1 at) ∙ has)

  -- what is best is last
  pub best_is_last : HasFallingCosts same r → (n : ℕ) → best same key r ≡ Some n → (e : Entry K) × IsLastEntry same key r n e
  best_is_last falling n found = by (leftmost is_cheaper None (those has_key r.entries)) refl found
    where
      at_first : (x : Numbered K) → leftmost is_cheaper None (those (λ e. same e.key key) r.entries) ≡ Some x → x.0 ≡ n → (e : Entry K) × IsLastEntry same key r n e
      at_first x is number =
          let first = found_first is_cheaper cheaper_strict (those has_key r.entries) x is in
          let that = those_have has_key r.entries x first.among in
          let at : slice_get r.entries n ≡ Some x.1 = ap (slice_get r.entries) (sym number) ∙ that_at x that in (
            x.1,
            record {
              at = at;
              has = that.passes;
              last = λ m later behind there.
                  false_from_ne_true (same later.key key)
                  (λ has.
                  let less = later_less falling n m x.1 later behind at there that.passes has in
                  false≢true (sym (first.least (m, later) (has_that m later there has)) ∙ cheaper_less (m, later) x less));
            },
          )

      by : (o : Option (Numbered K)) → leftmost is_cheaper None (those (λ e. same e.key key) r.entries) ≡ o → option_map (λ x. x.0) o ≡ Some n → (e : Entry K) × IsLastEntry same key r n e
      by None is number = absurd (let impossible : ⊥ = cc in impossible)
      by (Some x) is number = at_first x is (same_Some x.0 n number)

module _ {K : Type 0} (same : K → K → Bool) (key : K) (r : Record K) where
  -- where none is best, no entry has the key
  pub none_best : best same key r ≡ None → All (λ e. same e.key key ≡ false) r.entries
  none_best found = λ i d inside.
      false_from_ne_true (same (get_or r.entries i d).key key)
      (λ has. nowhere (leftmost is_cheaper None (those (λ e. same e.key key) r.entries)) refl found i d inside has)
    where
      nowhere : (o : Option (Numbered K)) → leftmost is_cheaper None (those (λ e. same e.key key) r.entries) ≡ o → option_map (λ x. x.0) o ≡ None
          → (i : ℕ) (d : Entry K) → i < length r.entries → same (get_or r.entries i d).key key ≡ true → ⊥
      nowhere None is none i d inside has =
          no_member (i, get_or r.entries i d)
          (subst (λ (xs : List (Numbered K)). Contains xs (i, get_or r.entries i d)) (nothing_found is_cheaper (those (λ e. same e.key key) r.entries) is)
          (those_hold (λ e. same e.key key) r.entries i d inside has))
      nowhere (Some x) is none i d inside has = absurd (let impossible : ⊥ = cc in impossible)

  -- and none is known
  pub unknown : (g : ℕ) → best same key r ≡ None → is_known same key g r.entries ≡ false
  unknown g none =
      list_any_none (λ e. same e.key key && nat_le e.g g) r.entries
      (λ i d inside. and_left (same (get_or r.entries i d).key key) (nat_le (get_or r.entries i d).g g) (none_best none i d inside))
