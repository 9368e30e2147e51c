-- Ranks that stand in their order, beside others.
use Rattle.std.proofs.Common.{◌≡◌, ℕ, zero, suc, ◌<◌, ◌+◌, ◌-◌, Bool, true, false, List, [], ◌∷◌, ◌++◌, length, get_or, Option, Some, None, refl, sym, ap, subst, ◌∙◌, arith, inl, inr}
use Rattle.std.proofs.lemmas.List.Sorted.{IsPermutation-append_right, IsPermutation-middle, IsPermutation-refl, IsPermutation-sym, IsPermutation-trans}
use Rattle.std.specs.Prelude.{IfSome, IsPermutation, IsSome, option_to_list, if◌then◌else◌}
use Rattle.std.proofs.lemmas.Bool.{cases_lt, false≢true}
use Rattle.std.proofs.lemmas.List.{append-nil, append_assoc, get_or_append_left, get_or_default, get_or_push, length_push}
use Rattle.std.proofs.lemmas.List.Elements.{Contains-append_cases, Contains-append_left, Contains-append_right}
use Rattle.mp_list.specs.First.{IsFirst}
use Rattle.mp_list.proofs.FirstLemmas.{found_first, nothing_found}
use Rattle.mp_list.proofs.Members.{contains_head}
use Rattle.mp_store.specs.declared.rank.Rank.{Rank}
use Rattle.mp_store.specs.OpenFields.{is_ahead, sooner_of, AreInOrder}
use Rattle.mp_store.specs.Ranks.{first_rank, is_sooner}
use Rattle.mp_store.proofs.RankLemmas.{first_rank_is, sooner_strict}

-- what stands first comes first
pub head_is_first : (q : Rank) (qs : List Rank) → AreInOrder (q ∷ qs) → first_rank (q ∷ qs) ≡ Some q
head_is_first q qs order =
    first_rank_is (q ∷ qs) q (record {
      among = contains_head q qs;
      least = λ p found. by_place p found.0 found.1 found.2;
    })
  where
    by_place : (p : Rank) (k : ℕ) → k < length (q ∷ qs) → get_or (q ∷ qs) k p ≡ p → is_sooner p q ≡ false
    by_place p zero inside is = subst (λ (r : Rank). is_sooner r q ≡ false) is (sooner_strict.itself q)
    by_place p (suc k) inside is = subst (λ (r : Rank). is_sooner r q ≡ false) is (order 0 (suc k) p (omega arith) inside)

pub first_in_order : (qs : List Rank) (q : Rank) → AreInOrder qs → 0 < length qs → q ≡ get_or qs 0 q → Some q ≡ first_rank qs
first_in_order [] q order some is = absurd (let impossible : ⊥ = omega (arith, some) in impossible)
first_in_order (p ∷ ps) q order some is = ap Some is ∙ sym (head_is_first p ps order)

pub none_in_order : (qs : List Rank) → (0 < length qs → ⊥) → None ≡ first_rank qs
none_in_order [] none = refl
none_in_order (p ∷ ps) none = absurd (none (omega arith))

-- the first one is gone
pub order_behind : (q : Rank) (qs : List Rank) → AreInOrder (q ∷ qs) → AreInOrder qs
order_behind q qs order = λ i j d before inside. order (suc i) (suc j) d (omega (arith, before)) (omega (arith, inside))

-- one more, before which the last one comes
pub order_pushed : (qs : List Rank) (last rank : Rank) → AreInOrder qs → last ≡ get_or qs (length qs - 1) last → is_sooner rank last ≡ false → AreInOrder (qs ++ rank ∷ [])
order_pushed qs last rank order is behind = λ i j d before inside.
    let len : length (qs ++ rank ∷ []) ≡ length qs + 1 = length_push qs rank in
    let there : i < length qs = omega (arith, before, inside, len) in
    let same : get_or (qs ++ rank ∷ []) i d ≡ get_or qs i d = get_or_append_left qs (rank ∷ []) d i there in
    elim (cases_lt j (length qs)) [
      | inl old ↦ (λ t. is_sooner (get_or_append_left qs (rank ∷ []) d j old t) (same t)) ∙ order i j d before old
      | inr new ↦
          let at : length qs ≡ j = omega (arith, inside, len, new) in
          let value : get_or (qs ++ rank ∷ []) j d ≡ rank = subst (λ (n : ℕ). get_or (qs ++ rank ∷ []) n d ≡ rank) at (get_or_push qs rank d (length qs) refl) in
          (λ t. is_sooner (value t) (same t)) ∙ not_sooner i d there
    ]
  where
    not_sooner : (i : ℕ) (d : Rank) → i < length qs → is_sooner rank (get_or qs i d) ≡ false
    not_sooner i d there =
        let there_is : length qs - 1 < length qs = omega (arith, there) in
        let last_is : last ≡ get_or qs (length qs - 1) d = is ∙ get_or_default qs (length qs - 1) last d there_is in
        elim (cases_lt i (length qs - 1)) [
          | inl before ↦ sooner_strict.passes rank last (get_or qs i d) behind (ap (λ (r : Rank). is_sooner r (get_or qs i d)) last_is ∙ order i (length qs - 1) d before there_is)
          | inr end ↦
              let at : length qs - 1 ≡ i = omega (arith, there, end) in
              subst (λ (n : ℕ). is_sooner rank (get_or qs n d) ≡ false) at (subst (λ (r : Rank). is_sooner rank r ≡ false) last_is behind)
        ]

pub order_one : (qs : List Rank) (rank : Rank) → (0 < length qs → ⊥) → AreInOrder (qs ++ rank ∷ [])
order_one [] rank none = λ i j d before inside. absurd (let impossible : ⊥ = omega (arith, before, inside) in impossible)
order_one (q ∷ qs) rank none = absurd (none (omega arith))

-- ---- of ranks and others

first_of_two : (xs ys : List Rank) (o p : Option Rank) → first_rank xs ≡ o → first_rank ys ≡ p → first_rank (xs ++ ys) ≡ sooner_of o p
first_of_two xs ys None p first other =
    ap (λ (qs : List Rank). first_rank (qs ++ ys)) (nothing_found is_sooner xs first) ∙ other
first_of_two xs ys (Some q) None first other =
    ap (λ (qs : List Rank). first_rank (xs ++ qs)) (nothing_found is_sooner ys other) ∙ ap first_rank (append-nil xs) ∙ first
first_of_two xs ys (Some q) (Some p) first other = by (is_sooner q p) refl
  where
    of_xs : IsFirst is_sooner xs q
    of_xs = found_first is_sooner sooner_strict xs q first

    of_ys : IsFirst is_sooner ys p
    of_ys = found_first is_sooner sooner_strict ys p other

    by : (b : Bool) → is_sooner q p ≡ b → first_rank (xs ++ ys) ≡ (if b then Some q else Some p)
    by true sooner = first_rank_is (xs ++ ys) q (record {
      among = Contains-append_left xs ys q of_xs.among;
      least = λ r found. elim (Contains-append_cases xs ys r found) [
        | inl among ↦ of_xs.least r among
        | inr among ↦ sooner_strict.passes r p q (of_ys.least r among) (sooner_strict.turns q p sooner)
      ];
    })
    by false later = first_rank_is (xs ++ ys) p (record {
      among = Contains-append_right xs ys p of_ys.among;
      least = λ r found. elim (Contains-append_cases xs ys r found) [
        | inl among ↦ sooner_strict.passes r q p (of_xs.least r among) later
        | inr among ↦ of_ys.least r among
      ];
    })

pub joined_first : (xs ys : List Rank) → first_rank (xs ++ ys) ≡ sooner_of (first_rank xs) (first_rank ys)
joined_first xs ys = first_of_two xs ys (first_rank xs) (first_rank ys) refl refl

-- what is taken out of ranks in their order
pub taken_first : (old new : List Rank) (o : Option Rank) → AreInOrder old → old ≡ option_to_list o ++ new → (0 < length old → IsSome o) → o ≡ first_rank old
taken_first old new None order is some = none_in_order old (λ h. false≢true (some h))
taken_first old new (Some q) order is some = sym (ap first_rank is ∙ head_is_first q new (subst AreInOrder is order))

pub order_left : (old new : List Rank) (o : Option Rank) → AreInOrder old → old ≡ option_to_list o ++ new → AreInOrder new
order_left old new None order is = subst AreInOrder is order
order_left old new (Some q) order is = order_behind q new (subst AreInOrder is order)

ahead_first : (o p : Option Rank) → is_ahead o p ≡ true → sooner_of o p ≡ o
ahead_first o p ahead = ap (λ (b : Bool). if b then o else p) ahead

other_first : (o p : Option Rank) → is_ahead o p ≡ false → sooner_of o p ≡ p
other_first o p behind = ap (λ (b : Bool). if b then o else p) behind

-- what is taken out of one of two parts
pub taken_before : (old new others : List Rank) (o : Option Rank) → IfSome o (λ q. old ≡ q ∷ new) → IfSome o (λ q. IsPermutation (old ++ others) (q ∷ (new ++ others)))
taken_before old new others None rest = tt
taken_before old new others (Some q) rest = subst (λ (qs : List Rank). IsPermutation (qs ++ others) (q ∷ (new ++ others))) (sym rest) (IsPermutation-refl (q ∷ (new ++ others)))

pub taken_behind : (ranks old new : List Rank) (o : Option Rank) → IfSome o (λ q. IsPermutation old (q ∷ new)) → IfSome o (λ q. IsPermutation (ranks ++ old) (q ∷ (ranks ++ new)))
taken_behind ranks old new None rest = tt
taken_behind ranks old new (Some q) rest =
    IsPermutation-trans (ranks ++ old) (ranks ++ q ∷ new) (q ∷ (ranks ++ new)) (IsPermutation-append_right ranks old (q ∷ new) rest) (IsPermutation-middle ranks q new)

-- what is added to one of two parts
pub added_before : (ranks others : List Rank) (q : Rank) → IsPermutation (q ∷ (ranks ++ others)) ((ranks ++ q ∷ []) ++ others)
added_before ranks others q =
    subst (IsPermutation (q ∷ (ranks ++ others))) (sym (append_assoc ranks (q ∷ []) others))
    (IsPermutation-sym (ranks ++ q ∷ others) (q ∷ (ranks ++ others)) (IsPermutation-middle ranks q others))

pub added_behind : (ranks old new : List Rank) (q : Rank) → IsPermutation (q ∷ old) new → IsPermutation (q ∷ (ranks ++ old)) (ranks ++ new)
added_behind ranks old new q added =
    IsPermutation-trans (q ∷ (ranks ++ old)) (ranks ++ q ∷ old) (ranks ++ new)
    (IsPermutation-sym (ranks ++ q ∷ old) (q ∷ (ranks ++ old)) (IsPermutation-middle ranks q old))
    (IsPermutation-append_right ranks (q ∷ old) new added)

-- the first one of two parts, by the first one of each
pub first_taken : (ranks others : List Rank) (o p : Option Rank) → o ≡ first_rank ranks → p ≡ first_rank others → is_ahead o p ≡ true → first_rank ranks ≡ first_rank (ranks ++ others)
first_taken ranks others o p first other ahead =
    sym first ∙ sym (ahead_first o p ahead) ∙ (λ j. sooner_of (first j) (other j)) ∙ sym (joined_first ranks others)

pub other_taken : (ranks others : List Rank) (o p : Option Rank) → o ≡ first_rank ranks → p ≡ first_rank others → is_ahead o p ≡ false → first_rank others ≡ first_rank (ranks ++ others)
other_taken ranks others o p first other behind =
    sym other ∙ sym (other_first o p behind) ∙ (λ j. sooner_of (first j) (other j)) ∙ sym (joined_first ranks others)
