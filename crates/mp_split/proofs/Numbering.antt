-- The numbers of texts are their places in a table that is in the order of bytes.
use Rattle.mp_split.proofs.Basics.{arith, ◌≡◌, ℕ, ◌+◌, ◌-◌, ◌<◌, Bool, true, List, [], ◌∷◌, ◌++◌, map, length, take, drop, get_or, All, Contains, Some, cond, sym, ap, subst, ◌∙◌, inl, inr, append-nil, length-map, length-take-le, get_or-map}
use Rattle.mp_split.proofs.Basics.{get_or-take, cases_Bool, cases_lt, Less, slice_cmp, nat_cmp, nat_list_cmp_total, slice_get, slice_index_or, IsStrictlyIncreasing, IsStrictlySortedBy, sorted_from_strictly_increasing, bytes_eq, number_in}
use Rattle.mp_split.proofs.Basics.{numbers_where, Text, is_listed, AllLess, text_places_in}
use Rattle.std.specs.Ordering.{is_eq}
use Rattle.std.specs.Cmp.Lexicographic.{texts_ties}
use Rattle.std.proofs.Common.{Equal}
use Rattle.std.proofs.lemmas.Cmp.{nat_cmp_total, tied_itself}
use Rattle.std.proofs.lemmas.List.Elements.{All-contains, All-map, Contains-get_or}
use Rattle.std.proofs.lemmas.Map.Keys.{Less-from_sorted, below_from_sorted, sorted_from_all_adjacent}
use Rattle.std.proofs.lemmas.Option.{get_or_from_slice_get, slice_get-get_or, slice_get_within}
use Rattle.std.proofs.lemmas.Simd.{map-map}
use Rattle.mp_list.proofs.Members.{any_from, from_map, some_member, to_map}
use Rattle.mp_sets.specs.Numbers.{IsAboveLast}
use Rattle.mp_sexp.proofs.NamesAt.{name_at_number, number_below}
use Rattle.mp_sexp.proofs.Places.{equal}
use Rattle.mp_typing.proofs.Placing.{place_passes, placed, skipped}
use Rattle.mp_views.proofs.SortedLaws.{unchanged}
use Rattle.mp_grounder.proofs.Members.{map_on}
use Rattle.mp_grounder.proofs.Rising.{sorted_places}

-- a list of texts in the order of their bytes, each once
abbrev pub Rises : List Text → Type 0
Rises texts = IsStrictlySortedBy (slice_cmp nat_cmp) texts

-- each of these texts stands in a table
abbrev pub AreIn : List Text → List Text → Type 0
AreIn table texts = All (λ t. is_listed t table ≡ true) texts

abbrev pub text_at : List Text → ℕ → Text
text_at table n = slice_index_or table n []

pub same_text : (t : Text) → bytes_eq t t ≡ true
same_text t = texts_ties t t ∙ ap is_eq (tied_itself nat_list_cmp_total t)

-- a text among others is listed
pub listed : (t : Text) (texts : List Text) → Contains texts t → is_listed t texts ≡ true
listed t texts here = any_from (λ u. bytes_eq t u) texts t here (same_text t)

-- ---- numbers that rise

pub places_less : {X : Type 0} (test : X → Bool) (xs : List X) → AllLess (length xs) (numbers_where 0 test xs)
places_less test xs = λ k d less.
    let n = get_or (numbers_where 0 test xs) k d in
    let found = place_passes test xs n (Contains-get_or (numbers_where 0 test xs) k d less) in
    slice_get_within xs n found.0 found.1

-- what a function gives of the items of a list rises where it does so from each item to the next
pub increasing : {X : Type 0} (f : X → ℕ) (xs : List X) (d : X)
    → ((k : ℕ) → k + 1 < length xs → f (get_or xs k d) < f (get_or xs (k + 1) d)) → IsStrictlyIncreasing (map f xs)
increasing f xs d rises = λ k lt.
    let within : k + 1 < length xs = omega (arith, lt, length-map xs f) in
    omega (arith, get_or-map f xs k d 0 (omega arith), get_or-map f xs (k + 1) d 0 within, rises k within)

-- so each may follow those before it
pub may_follow : {X : Type 0} (f : X → ℕ) (xs : List X) (i : ℕ) (x : X) (made : List ℕ) → IsStrictlyIncreasing (map f xs)
    → i < length xs → x ≡ get_or xs i x
    → made ≡ map f (take i xs) → IsAboveLast made (f x)
may_follow f xs i x made rises lt is made_is some =
    let count : length made ≡ i = ap length made_is ∙ length-map (take i xs) f ∙ length-take-le i xs (omega arith) in
    let last : length made - 1 < i = omega arith in
    let next : (length made - 1) + 1 ≡ i = omega arith in
    let step : get_or (map f xs) (length made - 1) 0 < get_or (map f xs) ((length made - 1) + 1) 0 =
    rises (length made - 1) (omega (arith, length-map xs f)) in
    let before : get_or made (length made - 1) 0 ≡ get_or (map f xs) (length made - 1) 0 =
    ap (λ ns. get_or ns (length made - 1) 0) made_is
    ∙ get_or-map f (take i xs) (length made - 1) x 0 (omega (arith, length-take-le i xs (omega arith)))
    ∙ ap f (get_or-take i xs (length made - 1) x last) ∙ sym (get_or-map f xs (length made - 1) x 0 (omega arith)) in
    let here : get_or (map f xs) ((length made - 1) + 1) 0 ≡ f x =
    ap (λ n. get_or (map f xs) n 0) next ∙ get_or-map f xs i x 0 lt ∙ ap f (sym is) in
    omega arith

-- the places of what passes a test, where one more item is looked at
pub one_place : {X : Type 0} (test : X → Bool) (before now whole : List ℕ) (n i : ℕ) (xs : List X) (x : X) → i < length xs → x ≡ get_or xs i x
    → now ≡ before ++ cond (test x) (n ∷ []) [] → before ++ numbers_where n test (drop i xs) ≡ whole
    → now ++ numbers_where (n + 1) test (drop (i + 1) xs) ≡ whole
one_place test before now whole n i xs x lt is grown so_far =
    elim (cases_Bool (test x)) [
      | inl passes ↦
          ap (λ ns. ns ++ numbers_where (n + 1) test (drop (i + 1) xs)) (grown ∙ ap (λ b. before ++ cond b (n ∷ []) []) passes)
          ∙ placed test before whole n i xs x lt is passes so_far
      | inr fails ↦
          ap (λ ns. ns ++ numbers_where (n + 1) test (drop (i + 1) xs)) (grown ∙ ap (λ b. before ++ cond b (n ∷ []) []) fails ∙ append-nil before)
          ∙ skipped test before whole n i xs x lt is fails so_far
    ]

-- ---- texts of a table

no_order : (t : Text) → slice_cmp nat_cmp t t ≡ Less → ⊥
no_order t h = let same : Less ≡ Equal = sym h ∙ tied_itself nat_list_cmp_total t in cc

-- what holds of each text of a table holds of those at places
pub each_text_at : (P : Text → Type 0) (table : List Text) (ns : List ℕ) → All P table → AllLess (length table) ns → All P (map (text_at table) ns)
each_text_at P table ns h below = All-map P (text_at table) ns (λ k d lt. h (get_or ns k d) [] (below k d lt))

module _ (table : List Text) (rises : Rises table) where
  in_order : (i j : ℕ) → i < j → j < length table → slice_cmp nat_cmp (text_at table i) (text_at table j) ≡ Less
  in_order i j lt within = Less-from_sorted (slice_cmp nat_cmp) table i j [] rises lt within

  -- texts at rising places rise
  pub texts_at_rise : (ns : List ℕ) → IsStrictlyIncreasing ns → AllLess (length table) ns → Rises (map (text_at table) ns)
  texts_at_rise ns up below =
      sorted_from_all_adjacent nat_list_cmp_total (map (text_at table) ns) []
      (λ k lt.
      let within : k + 1 < length ns = omega (arith, lt, length-map ns (text_at table)) in
      subst (λ t. slice_cmp nat_cmp t (get_or (map (text_at table) ns) (k + 1) []) ≡ Less) (sym (get_or-map (text_at table) ns k 0 [] (omega arith)))
      (subst (λ t. slice_cmp nat_cmp (text_at table (get_or ns k 0)) t ≡ Less) (sym (get_or-map (text_at table) ns (k + 1) 0 [] within))
      (in_order (get_or ns k 0) (get_or ns (k + 1) 0) (up k within) (below (k + 1) 0 within))))

  -- the text at a place stands there alone, and the order of places is that of the texts
  apart : (i j : ℕ) → i < j → j < length table → text_at table i ≡ text_at table j → ⊥
  apart i j lt within same = no_order (text_at table j) (subst (λ t. slice_cmp nat_cmp t (text_at table j) ≡ Less) same (in_order i j lt within))

  one_there : (i j : ℕ) → i < length table → j < length table → text_at table i ≡ text_at table j → i ≡ j
  one_there i j here there same =
      elim (cases_lt i j) [
        | inl before ↦ absurd (apart i j before there same)
        | inr after ↦
            elim (cases_lt j i) [
              | inl before ↦ absurd (apart j i before here (sym same))
              | inr same ↦ omega arith
            ]
      ]

  before_it : (i j : ℕ) → i < length table → slice_cmp nat_cmp (text_at table i) (text_at table j) ≡ Less → i < j
  before_it i j here less =
      elim (cases_lt i j) [
        | inl before ↦ before
        | inr after ↦
            elim (cases_lt j i) [
              | inl before ↦
                  absurd (no_order (text_at table i)
                  (nat_list_cmp_total.trans (text_at table i) (text_at table j) (text_at table i) less (in_order j i before here)))
              | inr same ↦
                  let e : j ≡ i = omega arith in
                  absurd (no_order (text_at table i) (subst (λ n. slice_cmp nat_cmp (text_at table i) (text_at table n) ≡ Less) e less))
            ]
      ]

  module _ (texts : List Text) (these : Rises texts) (there : AreIn table texts) where
    -- the numbers of texts that stand in the table rise
    pub numbers_rise : IsStrictlyIncreasing (map (number_in table) texts)
    numbers_rise =
        increasing (number_in table) texts []
        (λ k lt.
        let t = get_or texts k [] in
        let u = get_or texts (k + 1) [] in
        before_it (number_in table t) (number_in table u) (number_below table t (there k [] (omega arith)))
        (subst (λ v. slice_cmp nat_cmp v (text_at table (number_in table u)) ≡ Less) (sym (name_at_number table t (there k [] (omega arith))))
        (subst (λ v. slice_cmp nat_cmp t v ≡ Less) (sym (name_at_number table u (there (k + 1) [] lt)))
        (Less-from_sorted (slice_cmp nat_cmp) texts k (k + 1) [] these (omega arith) lt))))

    -- and are their places
    pub numbered : map (number_in table) texts ≡ text_places_in table texts
    numbered =
        let ns = map (number_in table) texts in
        sym (unchanged nat_cmp_total ns (sorted_from_strictly_increasing ns numbers_rise))
        ∙ sorted_places (λ t. is_listed t texts) table ns
        (λ n found.
        let (t, here, is) = from_map (number_in table) texts n found in
        let known = All-contains (λ t. is_listed t table ≡ true) texts t there here in
        let at = slice_get-get_or table (number_in table t) [] (number_below table t known) ∙ ap Some (name_at_number table t known) in
        (t, subst (λ m. slice_get table m ≡ Some t) is at, listed t texts here))
        (λ n t at here.
        let (u, within, same) = some_member (λ v. bytes_eq t v) texts here in
        let known = All-contains (λ t. is_listed t table ≡ true) texts u there within in
        let is = one_there (number_in table u) n (number_below table u known) (slice_get_within table n t at)
        (name_at_number table u known ∙ sym (equal t u same) ∙ sym (get_or_from_slice_get table n t [] at)) in
        subst (Contains ns) is (to_map (number_in table) texts u within))

-- ---- an agent's own places in a table

-- own numbers by a list of the places of all own texts are the places of the texts that they stand for
pub renumbered : (table own : List Text) (places ns : List ℕ) → Rises table → Rises own → AreIn table own → places ≡ text_places_in table own
    → IsStrictlyIncreasing ns → AllLess (length own) ns
    → map (λ n. slice_index_or places n 0) ns ≡ text_places_in table (map (text_at own) ns)
renumbered table own places ns rises own_rises there are up below =
    let numbers : places ≡ map (number_in table) own = are ∙ sym (numbered table rises own own_rises there) in
    map_on (λ n. slice_index_or places n 0) (λ n. number_in table (text_at own n)) ns
    (λ n here. ap (λ ps. slice_index_or ps n 0) numbers ∙ get_or-map (number_in table) own n [] 0 (All-contains (λ m. m < length own) ns n below here))
    ∙ sym (map-map (number_in table) (text_at own) ns)
    ∙ numbered table rises (map (text_at own) ns) (texts_at_rise own own_rises ns up below)
    (each_text_at (λ t. is_listed t table ≡ true) own ns there below)

-- the numbers at rising places of a list that rises do
pub renumbered_rise : (numbers ns : List ℕ) → IsStrictlyIncreasing numbers → IsStrictlyIncreasing ns → AllLess (length numbers) ns
    → IsStrictlyIncreasing (map (λ n. slice_index_or numbers n 0) ns)
renumbered_rise numbers ns rises up below =
    increasing (λ n. slice_index_or numbers n 0) ns 0
    (λ k lt.
    below_from_sorted numbers (get_or ns k 0) (get_or ns (k + 1) 0) 0 (sorted_from_strictly_increasing numbers rises) (up k lt) (below (k + 1) 0 lt))
