-- Whether the facts of lists are the members of sets.
use Rattle.std.proofs.Common.{◌≡◌, ℕ, zero, suc, ◌+◌, ◌-◌, ◌<◌, ◌≤◌, Bool, true, false, ◌&&◌, eqb, List, [], ◌∷◌, ◌++◌, length, map, get_or, take, drop, Option, Some, None, slice_get, refl, sym, ap, ◌∙◌, subst, inl, inr, eq-eqb, eqb-true, drop-cons, arith}
use Rattle.std.specs.Prelude.{nat_le, ◌⊎◌}
use Rattle.std.proofs.lemmas.Bool.{cases_lt, false_from_ne_true, false≢true, le-leb, leb-true}
use Rattle.std.proofs.lemmas.Bool.Decides.{same_from_decides}
use Rattle.std.proofs.lemmas.List.{get_or_default, take_all, take_more}
use Rattle.std.proofs.lemmas.Option.{get_or_from_slice_get, slice_get-get_or, slice_get_within}
use Rattle.std.proofs.Math.ListN.{drop_of_length-le}
use Rattle.std.specs.Bool.{Decides}
use Rattle.std.specs.Cmp.Lexicographic.{pointwise}
use Rattle.std.specs.List.{list_any}
use Rattle.std.specs.List.Sorted.{IsStrictlyIncreasing}
use Rattle.std.specs.Option.{option_map_or}
use Rattle.std.specs.FinSet as set
use Rattle.mp_list.proofs.Members.{any_from, some_member}
use Rattle.mp_sets.specs.Numbers.{Numbers, SizedSet, HasNoneFrom, IsLeastFrom, members_before, same}
use Rattle.mp_sets.proofs.ListedLemmas.{from_list-listed, members_before-next}
use Rattle.mp_sets.proofs.SetLemmas.{Decides-same, same_not}
use Rattle.mp_audit.specs.Audited.{set_of}
use Rattle.mp_audit.specs.States.{members_of}

-- ---- the least member

-- there is one least member
least_is : (s : Numbers) (from x y : ℕ) → IsLeastFrom s from x → IsLeastFrom s from y → x ≡ y
least_is s from x y least other =
    elim (cases_lt x y) [
      | inl before ↦ absurd (false≢true (sym (other.least x least.above before) ∙ least.member))
      | inr behind ↦
          elim (cases_lt y x) [
            | inl after ↦ absurd (false≢true (sym (least.least y other.above after) ∙ other.member))
            | inr past ↦ omega (arith, behind, past)
          ]
    ]

pub least_decides : (s : Numbers) (from x fact : ℕ) → IsLeastFrom s from x → Decides (eqb x fact) (IsLeastFrom s from fact)
least_decides s from x fact least = (
  (λ e. subst (IsLeastFrom s from) (eqb-true x fact e) least),
  (λ other. eq-eqb x fact (least_is s from x fact least other)),
)

pub none_least : (s : Numbers) (from fact : ℕ) → HasNoneFrom s from → Decides false (IsLeastFrom s from fact)
none_least s from fact none = (
  (λ e. absurd (false≢true e)),
  (λ least. absurd (false≢true (sym (none fact least.above) ∙ least.member))),
)

pub some_from : (s : Numbers) (from x : ℕ) → IsLeastFrom s from x → Decides false (HasNoneFrom s from)
some_from s from x least = (
  (λ e. absurd (false≢true e)),
  (λ none. absurd (false≢true (sym (none x least.above) ∙ least.member))),
)

pub none_from : (s : Numbers) (from : ℕ) → HasNoneFrom s from → Decides true (HasNoneFrom s from)
none_from s from none = ((λ e. none), (λ n. refl))

-- ---- a list that rises, and a set

-- what stands later in it is greater
rises_to : (facts : List ℕ) → IsStrictlyIncreasing facts → (i n : ℕ) → i + suc n < length facts → get_or facts i 0 < get_or facts (i + suc n) 0
rises_to facts rises i zero within =
    let next : i + 1 ≡ i + suc 0 = omega arith in
    subst (λ (k : ℕ). get_or facts i 0 < get_or facts k 0) next (rises i (omega (arith, within)))
rises_to facts rises i (suc n) within =
    let before = rises_to facts rises i n (omega (arith, within)) in
    let next : i + suc n + 1 ≡ i + suc (suc n) = omega arith in
    let last : get_or facts (i + suc n) 0 < get_or facts (i + suc (suc n)) 0 =
    subst (λ (k : ℕ). get_or facts (i + suc n) 0 < get_or facts k 0) next (rises (i + suc n) (omega (arith, within))) in
    omega (arith, before, last)

rises_between : (facts : List ℕ) → IsStrictlyIncreasing facts → (i k : ℕ) → i < k → k < length facts → get_or facts i 0 < get_or facts k 0
rises_between facts rises i k before within =
    let there : i + suc (k - suc i) ≡ k = omega (arith, before) in
    subst (λ (n : ℕ). get_or facts i 0 < get_or facts n 0) there (rises_to facts rises i (k - suc i) (omega (arith, there, within)))

-- The first facts of a list are the members of a set below a number, and the others are not below it.
pub record IsWalked (facts : List ℕ) (members : Numbers) (i from : ℕ) : Type 0 where
  pub below : (k : ℕ) → k < i → k < length facts → get_or facts k 0 < from
  pub above : (k : ℕ) → i ≤ k → k < length facts → from ≤ get_or facts k 0
  pub taken : take i facts ≡ members_before members from

pub not_walked : (facts : List ℕ) (members : Numbers) → IsWalked facts members 0 0
not_walked facts members = record {
  below = λ k before within. absurd (omega (arith, before));
  above = λ k behind within. omega arith;
  taken = refl;
}

-- what stands in a list stands at a place
at_place : (facts : List ℕ) (y : ℕ) → list_any (λ x. eqb x y) facts ≡ true → (k : ℕ) × (k < length facts) × (get_or facts k 0 ≡ y)
at_place facts y here =
    let found = some_member (λ x. eqb x y) facts here in
    let place = found.1 in
    (place.0, place.1, get_or_default facts place.0 0 found.0 place.1 ∙ place.2 ∙ eqb-true found.0 y found.2)

module _ (facts : List ℕ) (members : Numbers) (rises : IsStrictlyIncreasing facts) (i from : ℕ) (walked : IsWalked facts members i from) where
  pub walked_on : i < length facts → IsLeastFrom members from (get_or facts i 0) → IsWalked facts members (i + 1) (get_or facts i 0 + 1)
  walked_on within least = record {
    below = λ k before inside. elim (cases_lt k i) [
      | inl lt ↦
          let low = walked.below k lt inside in
          let high = walked.above i (omega arith) within in
          omega (arith, low, high)
      | inr le ↦
          let here : i ≡ k = omega (arith, le, before) in
          subst (λ (n : ℕ). get_or facts n 0 < get_or facts i 0 + 1) here (omega arith)
    ];
    above = λ k behind inside.
        let greater = rises_between facts rises i k (omega (arith, behind)) inside in
        omega (arith, greater);
    taken =
        take_more facts i 0 within
        ∙ ap (λ (xs : List ℕ). xs ++ get_or facts i 0 ∷ []) walked.taken
        ∙ sym (members_before-next members from (get_or facts i 0) least);
  }

  -- the next fact is the least one of the list from there on
  least_of_list : i < length facts → IsLeastFrom (set_of facts) from (get_or facts i 0)
  least_of_list within =
      let fact = get_or facts i 0 in
      record {
        member =
            set.contains-from_list_nat facts fact
            ∙ any_from (λ x. eqb x fact) facts fact (i, within, get_or_default facts i fact 0 within) (eq-eqb fact fact refl);
        above = walked.above i (omega arith) within;
        least = λ y behind before. false_from_ne_true (set.contains (set_of facts) y) (λ here.
            let found = at_place facts y (sym (set.contains-from_list_nat facts y) ∙ here) in
            let is = found.2 in
            elim (cases_lt found.0 i) [
              | inl lt ↦
                  let low = walked.below found.0 lt found.1 in
                  absurd (omega (arith, low, is, behind))
              | inr le ↦
                  elim (cases_lt i found.0) [
                    | inl later ↦
                        let high = rises_between facts rises i found.0 later found.1 in
                        absurd (omega (arith, high, is, before))
                    | inr past ↦
                        let same_place : found.0 ≡ i = omega (arith, le, past) in
                        let same_fact = ap (λ (k : ℕ). get_or facts k 0) same_place in
                        absurd (omega (arith, same_fact, is, before))
                  ]
            ]);
      }

  pub differs : i < length facts → (IsLeastFrom members from (get_or facts i 0) → ⊥) → false ≡ same (set_of facts) members
  differs within other = sym (same_not (set_of facts) members (λ e. other (subst (λ (s : Numbers). IsLeastFrom s from (get_or facts i 0)) e (least_of_list within))))

  -- behind the last fact the list has none
  none_of_list : length facts ≤ i → HasNoneFrom (set_of facts) from
  none_of_list past y behind = false_from_ne_true (set.contains (set_of facts) y) (λ here.
      let found = at_place facts y (sym (set.contains-from_list_nat facts y) ∙ here) in
      let is = found.2 in
      let lt = found.1 in
      let low = walked.below found.0 (omega (arith, lt, past)) found.1 in
      absurd (omega (arith, low, is, behind)))

  set_is : length facts ≤ i → HasNoneFrom members from → set_of facts ≡ members
  set_is past none =
      let below : (x : ℕ) → set.contains members x ≡ true → x < from =
      λ x here. elim (cases_lt x from) [
        | inl lt ↦ lt
        | inr le ↦ absurd (false≢true (sym (none x le) ∙ here))
      ] in
      ap set_of (sym (take_all i facts past) ∙ walked.taken) ∙ from_list-listed (record { size = from; members = members }) below

  pub ends_as : (b : Bool) → length facts ≤ i → Decides b (HasNoneFrom members from) → b ≡ same (set_of facts) members
  ends_as b past decides =
      same_from_decides b (same (set_of facts) members) (
        (λ e. set_is past (decides.0 e)),
        (λ e. decides.1 (subst (λ (s : Numbers). HasNoneFrom s from) e (none_of_list past))),
      ) (Decides-same (set_of facts) members)

-- ---- lists of facts, and sets

-- whether the facts of a list are the members of a set, if there is one
abbrev pub is_one : List ℕ → Option SizedSet → Bool
is_one list o = option_map_or (λ s. same (set_of list) s.members) o false

abbrev pub are_one : List (List ℕ) → List SizedSet → Bool
are_one lists sets = pointwise same (map set_of lists) (members_of sets)

module _ (lists : List (List ℕ)) (sets : List SizedSet) (i : ℕ) (list : List ℕ) (within : i < length lists) (is : list ≡ get_or lists i list) where
  lists_split : drop i lists ≡ list ∷ drop (i + 1) lists
  lists_split =
      let next : suc i ≡ i + 1 = omega arith in
      drop-cons lists i list within ∙ (λ j. sym is j ∷ drop (next j) lists)

  split : (o : Option SizedSet) → slice_get sets i ≡ o → are_one (drop i lists) (drop i sets) ≡ (is_one list o && are_one (drop (i + 1) lists) (drop (i + 1) sets))
  split (Some s) there =
      let lt = slice_get_within sets i s there in
      let next : suc i ≡ i + 1 = omega arith in
      let sets_split : drop i sets ≡ s ∷ drop (i + 1) sets =
      drop-cons sets i s lt ∙ (λ j. get_or_from_slice_get sets i s s there j ∷ drop (next j) sets) in
      λ j. are_one (lists_split j) (sets_split j)
  split None none =
      let past : length sets ≤ i =
      elim (cases_lt i (length sets)) [
        | inl lt ↦ absurd (no_item (sym none ∙ slice_get-get_or sets i (record { size = 0; members = set.empty }) lt))
        | inr le ↦ le
      ] in
      λ j. are_one (lists_split j) (drop_of_length-le sets past j)
    where
      no_item : {x : SizedSet} → None ≡ Some x → ⊥
      no_item e = absurd (cc)

  pub sets_same : true ≡ is_one list (slice_get sets i) → are_one (drop (i + 1) lists) (drop (i + 1) sets) ≡ are_one (drop i lists) (drop i sets)
  sets_same e =
      sym (split (slice_get sets i) refl ∙ ap (λ (b : Bool). b && are_one (drop (i + 1) lists) (drop (i + 1) sets)) (sym e))

  pub sets_differ : false ≡ is_one list (slice_get sets i) → false ≡ are_one (drop i lists) (drop i sets)
  sets_differ e =
      sym (split (slice_get sets i) refl ∙ ap (λ (b : Bool). b && are_one (drop (i + 1) lists) (drop (i + 1) sets)) (sym e))

-- behind the last list there is to be no set
pub sets_end : (lists : List (List ℕ)) (sets : List SizedSet) (i : ℕ) → i ≤ length lists → length lists ≤ i → nat_le (length sets) (length lists) ≡ are_one (drop i lists) (drop i sets)
sets_end lists sets i inside past =
    same_from_decides (nat_le (length sets) (length lists)) (are_one (drop i lists) (drop i sets)) (leb-true (length sets) (length lists), le-leb (length sets) (length lists)) (
      (λ e. by (cases_lt i (length sets)) e),
      (λ le. (λ j. are_one (none j) (drop_of_length-le sets (behind le) j))),
    )
  where
    none : drop i lists ≡ []
    none = drop_of_length-le lists past

    behind : length sets ≤ length lists → length sets ≤ i
    behind le = omega (arith, le, past)

    by : (i < length sets) ⊎ (length sets ≤ i) → are_one (drop i lists) (drop i sets) ≡ true → length sets ≤ length lists
    by (inl lt) e =
        let more = drop-cons sets i (record { size = 0; members = set.empty }) lt in
        absurd (false≢true ((λ j. are_one (sym none j) (sym more j)) ∙ e))
    by (inr le) e = omega (arith, le, inside)
