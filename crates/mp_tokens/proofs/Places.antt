-- Places of sets in lists.
use Rattle.std.proofs.Common.{◌≡◌, ℕ, zero, suc, ◌+◌, ◌<◌, ◌≤◌, Bool, true, false, cond, eqb, ltb, not, List, [], ◌∷◌, ◌++◌, length, get_or, All, refl, sym, ap, subst, ◌∙◌, arith, ◌⊎◌, inl, inr}
use Rattle.std.specs.List.{position_or_len}
use Rattle.std.specs.FinSet as set
use Rattle.std.proofs.lemmas.Bool.{eqb-true, cases_lt, lt-ltb, le-ltb, false≢true}
use Rattle.std.proofs.lemmas.Bool.Decides.{nat_tests}
use Rattle.std.proofs.Math.Seq.{get_or-append_seam}
use Rattle.std.proofs.lemmas.List.{length-map, length-append, map-append, get_or_append_left}
use Rattle.std.proofs.lemmas.List.Sums.{position_or_len_is, fails_before_first, passes_at_first, prefix_len-le-length}
use Rattle.mp_sets.specs.Numbers.{Numbers, same}
use Rattle.mp_sets.proofs.SetLemmas.{same_is, same_itself, same_not}
use Rattle.mp_tokens.specs.Order.{place, with_set, AreDifferent}
use Rattle.mp_tokens.specs.TokenFields.{sets_at}

-- ---- the place of a set

pub place_within : (sets : List Numbers) (s : Numbers) → place sets s ≤ length sets
unfolding place
place_within sets s = prefix_len-le-length (λ t. not (same s t)) sets

-- the first one that is the set
pub place_of_first : (sets : List Numbers) (s : Numbers) (i : ℕ) → i < length sets → ((k : ℕ) → k < i → get_or sets k set.empty ≡ s → ⊥) → get_or sets i set.empty ≡ s → place sets s ≡ i
unfolding place
place_of_first sets s i lt before here =
    position_or_len_is (same s) sets i set.empty (omega arith)
    (λ k h. same_not s (get_or sets k set.empty) (λ e. before k h (sym e)))
    (λ h. ap (same s) here ∙ same_itself s)

-- none is the set
pub place_of_none : (sets : List Numbers) (s : Numbers) → ((k : ℕ) → k < length sets → get_or sets k set.empty ≡ s → ⊥) → place sets s ≡ length sets
unfolding place
place_of_none sets s none =
    position_or_len_is (same s) sets (length sets) set.empty (omega arith)
    (λ k h. same_not s (get_or sets k set.empty) (λ e. none k h (sym e)))
    (λ h. absurd (omega arith))

pub at_place : (sets : List Numbers) (s : Numbers) → place sets s < length sets → get_or sets (place sets s) set.empty ≡ s
unfolding place
at_place sets s lt = sym (same_is s _ (passes_at_first (same s) sets set.empty lt))

pub not_before : (sets : List Numbers) (s : Numbers) (k : ℕ) → k < place sets s → get_or sets k set.empty ≡ s → ⊥
unfolding place
not_before sets s k lt e =
    let fails : same s (get_or sets k set.empty) ≡ false = fails_before_first (same s) sets k set.empty lt in
    false≢true (sym fails ∙ ap (same s) e ∙ same_itself s)

-- a set that is there, or that is not
pub old_or_new : (sets : List Numbers) (s : Numbers) → (place sets s < length sets) ⊎ (place sets s ≡ length sets)
old_or_new sets s =
    elim (cases_lt (place sets s) (length sets)) [
      | inl lt ↦ inl lt
      | inr le ↦ inr (omega (arith, place_within sets s))
    ]

-- ---- a list with one set more

pub with_old : (sets : List Numbers) (s : Numbers) → place sets s < length sets → with_set sets s ≡ sets
with_old sets s lt =
    let e : ltb (place sets s) (length sets) ≡ true = lt-ltb _ _ lt in
    ap (λ (b : Bool). cond b sets (sets ++ s ∷ [])) e

pub with_new : (sets : List Numbers) (s : Numbers) → place sets s ≡ length sets → with_set sets s ≡ sets ++ s ∷ []
with_new sets s is =
    let e : ltb (place sets s) (length sets) ≡ false = le-ltb _ _ (omega arith) in
    ap (λ (b : Bool). cond b sets (sets ++ s ∷ [])) e

pub place_of_new : (sets : List Numbers) (s : Numbers) → place sets s ≡ length sets → place (sets ++ s ∷ []) s ≡ length sets
place_of_new sets s is =
    place_of_first (sets ++ s ∷ []) s (length sets) (omega (arith, length-append sets (s ∷ [])))
    (λ k h e. not_before sets s k (omega arith) (sym (get_or_append_left sets (s ∷ []) set.empty k h) ∙ e))
    (get_or-append_seam sets s [] set.empty)

pub different_with_new : (sets : List Numbers) (s : Numbers) → AreDifferent sets → place sets s ≡ length sets → AreDifferent (sets ++ s ∷ [])
different_with_new sets s different is i j i_in j_in e =
    let len : length (sets ++ s ∷ []) ≡ length sets + 1 = length-append sets (s ∷ []) in
    let old : (k : ℕ) → k < length sets → get_or (sets ++ s ∷ []) k set.empty ≡ get_or sets k set.empty = λ k h. get_or_append_left sets (s ∷ []) set.empty k h in
    let last : get_or (sets ++ s ∷ []) (length sets) set.empty ≡ s = get_or-append_seam sets s [] set.empty in
    let at_last : (k : ℕ) → length sets ≤ k → k < length (sets ++ s ∷ []) → k ≡ length sets = λ k h g. omega arith in
    elim (cases_lt i (length sets)) [
      | inl i_old ↦
          elim (cases_lt j (length sets)) [
            | inl j_old ↦ different i j i_old j_old (sym (old i i_old) ∙ e ∙ old j j_old)
            | inr j_new ↦ absurd (not_before sets s i (omega arith) (sym (old i i_old) ∙ e ∙ ap (λ (k : ℕ). get_or (sets ++ s ∷ []) k set.empty) (at_last j j_new j_in) ∙ last))
          ]
      | inr i_new ↦
          elim (cases_lt j (length sets)) [
            | inl j_old ↦ absurd (not_before sets s j (omega arith) (sym (old j j_old) ∙ sym e ∙ ap (λ (k : ℕ). get_or (sets ++ s ∷ []) k set.empty) (at_last i i_new i_in) ∙ last))
            | inr j_new ↦ at_last i i_new i_in ∙ sym (at_last j j_new j_in)
          ]
    ]

pub different_with : (sets : List Numbers) (s : Numbers) → AreDifferent sets → AreDifferent (with_set sets s)
different_with sets s different =
    elim (old_or_new sets s) [
      | inl old ↦ subst AreDifferent (sym (with_old sets s old)) different
      | inr new ↦ subst AreDifferent (sym (with_new sets s new)) (different_with_new sets s different new)
    ]

-- the set has its place in the longer list already in the list
pub place_with : (sets : List Numbers) (s : Numbers) → place (with_set sets s) s ≡ place sets s
place_with sets s =
    elim (old_or_new sets s) [
      | inl old ↦ ap (λ (xs : List Numbers). place xs s) (with_old sets s old)
      | inr new ↦ ap (λ (xs : List Numbers). place xs s) (with_new sets s new) ∙ place_of_new sets s new ∙ sym new
    ]

-- ---- sets by their places

pub sets_at_push : (sets : List Numbers) (order : List ℕ) (i : ℕ) → sets_at sets (order ++ i ∷ []) ≡ sets_at sets order ++ get_or sets i set.empty ∷ []
sets_at_push sets order i = map-append (λ (k : ℕ). get_or sets k set.empty) order (i ∷ [])

-- a set more at the end changes none at the places before it
pub sets_at_more : (sets : List Numbers) (s : Numbers) (order : List ℕ) → All (λ i. i < length sets) order → sets_at (sets ++ s ∷ []) order ≡ sets_at sets order
sets_at_more sets s [] within = refl
sets_at_more sets s (i ∷ order) within =
    let first : get_or (sets ++ s ∷ []) i set.empty ≡ get_or sets i set.empty = get_or_append_left sets (s ∷ []) set.empty i (within 0 i (omega arith)) in
    let others = sets_at_more sets s order (λ k d h. within (suc k) d (omega arith)) in
    λ j. first j ∷ others j

-- the place of a set among those at some places is the place of its own place
pub place_by_index : (sets : List Numbers) (order : List ℕ) (index : ℕ) → AreDifferent sets → index < length sets → All (λ i. i < length sets) order → place (sets_at sets order) (get_or sets index set.empty) ≡ position_or_len (eqb index) order
unfolding place
place_by_index sets order index different inside within =
    let s = get_or sets index set.empty in
    let i = position_or_len (eqb index) order in
    let le : i ≤ length order = prefix_len-le-length (λ n. not (eqb index n)) order in
    let len : length (sets_at sets order) ≡ length order = length-map order (λ (k : ℕ). get_or sets k set.empty) in
    let at : (k : ℕ) → k < length order → get_or (sets_at sets order) k set.empty ≡ get_or sets (get_or order k index) set.empty = λ k h. map_at sets order k index h in
    position_or_len_is (same s) (sets_at sets order) i set.empty (omega arith)
    (λ k h.
    let fails : eqb index (get_or order k index) ≡ false = fails_before_first (eqb index) order k index h in
    let other : get_or order k index < length sets = within k index (omega arith) in
    ap (same s) (at k (omega arith)) ∙ same_not s _ (λ e. false≢true (sym fails ∙ eqb_of index (get_or order k index) (different index (get_or order k index) inside other e))))
    (λ h.
    let there : i < length order = omega arith in
    let found : get_or order i index ≡ index = sym (eqb-true index (get_or order i index) (passes_at_first (eqb index) order index there)) in
    ap (same s) (at i there ∙ ap (λ (k : ℕ). get_or sets k set.empty) found) ∙ same_itself s)
  where
    map_at : (sets : List Numbers) (order : List ℕ) (k d : ℕ) → k < length order → get_or (sets_at sets order) k set.empty ≡ get_or sets (get_or order k d) set.empty
    map_at sets [] k d h = absurd (omega arith)
    map_at sets (o ∷ order) zero d h = refl
    map_at sets (o ∷ order) (suc k) d h = map_at sets order k d (omega arith)

    eqb_of : (a b : ℕ) → a ≡ b → eqb a b ≡ true
    eqb_of a b e = grind (arith, nat_tests)

-- the place of a set that stands at one place alone
pub place_of_it : (sets : List Numbers) (s : Numbers) (n : ℕ) → AreDifferent sets → n < length sets → get_or sets n set.empty ≡ s → place sets s ≡ n
place_of_it sets s n different inside there =
    place_of_first sets s n inside (λ k before same. let e : k ≡ n = different k n (omega arith) inside (same ∙ sym there) in omega arith) there
