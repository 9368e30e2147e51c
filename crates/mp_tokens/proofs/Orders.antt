-- Tokens along a list of uses.
use Rattle.std.proofs.Common.{◌≡◌, ℕ, zero, suc, ◌+◌, ◌<◌, ◌≤◌, List, [], ◌∷◌, ◌++◌, length, get_or, refl, sym, ap, subst, ◌∙◌, arith, ◌⊎◌, inl, inr}
use Rattle.std.specs.Prelude.{Contains}
use Rattle.std.specs.FinSet as set
use Rattle.std.proofs.lemmas.Bool.{cases_lt}
use Rattle.std.proofs.Math.Seq.{get_or-append_seam}
use Rattle.std.proofs.lemmas.List.{length-append, get_or_append_left, get_or_default}
use Rattle.std.proofs.lemmas.List.Elements.{Contains-append_left, Contains-append_right, Contains-append_cases}
use Rattle.mp_sets.specs.Numbers.{Numbers}
use Rattle.mp_tokens.specs.Order.{place, with_set, with_sets, order_of_use, token, AreDifferent}
use Rattle.mp_tokens.proofs.Places.{place_of_first, place_of_none, at_place, not_before, old_or_new, with_old, with_new, place_of_new, different_with}

-- ---- one set more

-- what is there keeps its place
one_keeps : (xs : List Numbers) (u s : Numbers) → place xs s < length xs → (place (with_set xs u) s ≡ place xs s) × (length xs ≤ length (with_set xs u))
one_keeps xs u s lt =
    elim (old_or_new xs u) [
      | inl old ↦ (ap (λ (ys : List Numbers). place ys s) (with_old xs u old), subst (λ (ys : List Numbers). length xs ≤ length ys) (sym (with_old xs u old)) (omega arith))
      | inr new ↦
          let is = with_new xs u new in
          let kept : (k : ℕ) → k < length xs → get_or (xs ++ u ∷ []) k set.empty ≡ get_or xs k set.empty = λ k h. get_or_append_left xs (u ∷ []) set.empty k h in
          let longer : length (xs ++ u ∷ []) ≡ length xs + 1 = length-append xs (u ∷ []) in
          let there : place (xs ++ u ∷ []) s ≡ place xs s = place_of_first (xs ++ u ∷ []) s (place xs s) (omega arith) (λ k h e. not_before xs s k h (sym (kept k (omega arith)) ∙ e)) (kept (place xs s) lt ∙ at_place xs s lt) in
          (ap (λ (ys : List Numbers). place ys s) is ∙ there, subst (λ (ys : List Numbers). length xs ≤ length ys) (sym is) (omega arith))
    ]

-- the set itself is then there
one_there : (xs : List Numbers) (s : Numbers) → place (with_set xs s) s < length (with_set xs s)
one_there xs s =
    elim (old_or_new xs s) [
      | inl old ↦ subst (λ (ys : List Numbers). place ys s < length ys) (sym (with_old xs s old)) old
      | inr new ↦
          let there : place (xs ++ s ∷ []) s < length (xs ++ s ∷ []) = omega (arith, place_of_new xs s new, length-append xs (s ∷ [])) in
          subst (λ (ys : List Numbers). place ys s < length ys) (sym (with_new xs s new)) there
    ]

-- and stands at its place
pub at_its_place : (xs ys : List Numbers) (s : Numbers) (i : ℕ) → ys ≡ with_set xs s → i ≡ place ys s → (i < length ys) × (get_or ys i set.empty ≡ s)
at_its_place xs ys s i is at =
    let inside : place ys s < length ys = subst (λ (zs : List Numbers). place zs s < length zs) (sym is) (one_there xs s) in
    (omega arith, ap (λ (j : ℕ). get_or ys j set.empty) at ∙ at_place ys s inside)

-- what is not there is still not there after another set
one_misses : (xs : List Numbers) (u s : Numbers) → (u ≡ s → ⊥) → place xs s ≡ length xs → place (with_set xs u) s ≡ length (with_set xs u)
one_misses xs u s ne is =
    elim (old_or_new xs u) [
      | inl old ↦ subst (λ (ys : List Numbers). place ys s ≡ length ys) (sym (with_old xs u old)) is
      | inr new ↦
          let longer : length (xs ++ u ∷ []) ≡ length xs + 1 = length-append xs (u ∷ []) in
          let missed : (k : ℕ) → k < length (xs ++ u ∷ []) → get_or (xs ++ u ∷ []) k set.empty ≡ s → ⊥ = λ k h e.
          elim (cases_lt k (length xs)) [
            | inl old ↦ not_before xs s k (omega arith) (sym (get_or_append_left xs (u ∷ []) set.empty k old) ∙ e)
            | inr last ↦
                let at : k ≡ length xs = omega arith in
                ne (sym (get_or-append_seam xs u [] set.empty) ∙ ap (λ (j : ℕ). get_or (xs ++ u ∷ []) j set.empty) (sym at) ∙ e)
          ] in
          subst (λ (ys : List Numbers). place ys s ≡ length ys) (sym (with_new xs u new)) (place_of_none (xs ++ u ∷ []) s missed)
    ]

-- ---- several sets more

pub keeps : (xs more : List Numbers) (s : Numbers) → place xs s < length xs → (place (with_sets xs more) s ≡ place xs s) × (length xs ≤ length (with_sets xs more))
keeps xs [] s lt = (refl, omega arith)
keeps xs (u ∷ more) s lt =
    let one = one_keeps xs u s lt in
    let others = keeps (with_set xs u) more s (omega (arith, one.0, one.1)) in
    (others.0 ∙ one.0, omega (arith, one.1, others.1))

still_there : (xs more : List Numbers) (s : Numbers) → place xs s < length xs → place (with_sets xs more) s < length (with_sets xs more)
still_there xs more s lt = let kept = keeps xs more s lt in omega (arith, kept.0, kept.1)

there_at : (xs uses : List Numbers) (s : Numbers) (k : ℕ) → k < length uses → get_or uses k s ≡ s → place (with_sets xs uses) s < length (with_sets xs uses)
there_at xs [] s k h e = absurd (omega arith)
there_at xs (u ∷ uses) s zero h e =
    subst (λ (v : Numbers). place (with_sets (with_set xs v) uses) s < length (with_sets (with_set xs v) uses)) (sym e) (still_there (with_set xs s) uses s (one_there xs s))
there_at xs (u ∷ uses) s (suc k) h e = there_at (with_set xs u) uses s k (omega arith) e

misses : (xs uses : List Numbers) (s : Numbers) → place xs s ≡ length xs → (Contains uses s → ⊥) → place (with_sets xs uses) s ≡ length (with_sets xs uses)
misses xs [] s is none = is
misses xs (u ∷ uses) s is none =
    misses (with_set xs u) uses s (one_misses xs u s (λ e. none (0, omega arith, e)) is) (λ h. none (suc h.0, omega (arith, h.1), h.2))

pub one_after_another : (xs a b : List Numbers) → with_sets xs (a ++ b) ≡ with_sets (with_sets xs a) b
one_after_another xs [] b = refl
one_after_another xs (u ∷ a) b = one_after_another (with_set xs u) a b

-- ---- laws

start_alone : (start : Numbers) → place (start ∷ []) start ≡ 0
start_alone start = place_of_first (start ∷ []) start 0 (omega arith) (λ k h e. omega arith) refl

pub has_token : (start : Numbers) (uses : List Numbers) (s : Numbers) → Contains (start ∷ uses) s → token start uses s < length (order_of_use start uses)
has_token start uses s (zero, inside, is) =
    subst (λ (t : Numbers). place (with_sets (start ∷ []) uses) t < length (with_sets (start ∷ []) uses)) is (still_there (start ∷ []) uses start (omega (arith, start_alone start)))
has_token start uses s (suc k, inside, is) = there_at (start ∷ []) uses s k (omega arith) is

pub one_to_one : (start : Numbers) (uses : List Numbers) (s t : Numbers) → Contains (start ∷ uses) s → Contains (start ∷ uses) t → token start uses s ≡ token start uses t → s ≡ t
one_to_one start uses s t s_used t_used e =
    let order = order_of_use start uses in
    sym (at_place order s (has_token start uses s s_used)) ∙ ap (λ (k : ℕ). get_or order k set.empty) e ∙ at_place order t (has_token start uses t t_used)

pub start_is_0 : (start : Numbers) (uses : List Numbers) → token start uses start ≡ 0
start_is_0 start uses =
    (keeps (start ∷ []) uses start (omega (arith, start_alone start))).0 ∙ start_alone start

pub stays : (start : Numbers) (uses more : List Numbers) (s : Numbers) → Contains (start ∷ uses) s → token start (uses ++ more) s ≡ token start uses s
stays start uses more s used =
    ap (λ (xs : List Numbers). place xs s) (one_after_another (start ∷ []) uses more) ∙ (keeps (order_of_use start uses) more s (has_token start uses s used)).0

pub first_use : (start : Numbers) (before after : List Numbers) (s : Numbers) → (Contains (start ∷ before) s → ⊥) → token start (before ++ s ∷ after) s ≡ length (order_of_use start before)
first_use start before after s none =
    let order = order_of_use start before in
    let apart : place (start ∷ []) s ≡ 1 = place_of_none (start ∷ []) s (λ k h e. let at : k ≡ 0 = omega arith in none (0, omega arith, ap (λ (j : ℕ). get_or (start ∷ []) j set.empty) (sym at) ∙ e)) in
    let new : place order s ≡ length order = misses (start ∷ []) before s apart (λ h. none (suc h.0, omega (arith, h.1), h.2)) in
    let there : place (with_set order s) s ≡ length order = ap (λ (xs : List Numbers). place xs s) (with_new order s new) ∙ place_of_new order s new in
    ap (λ (xs : List Numbers). place xs s) (one_after_another (start ∷ []) before (s ∷ after)) ∙ (keeps (with_set order s) after s (one_there order s)).0 ∙ there

-- ---- the order itself

different_all : (xs uses : List Numbers) → AreDifferent xs → AreDifferent (with_sets xs uses)
different_all xs [] different = different
different_all xs (u ∷ uses) different = different_all (with_set xs u) uses (different_with xs u different)

pub order_different : (start : Numbers) (uses : List Numbers) → AreDifferent (order_of_use start uses)
order_different start uses = different_all (start ∷ []) uses (λ i j i_in j_in e. omega arith)

-- what stands at a place is in the list, and what has no place in it is not
pub set_found : (xs : List Numbers) (s : Numbers) (k : ℕ) → k < length xs → get_or xs k set.empty ≡ s → Contains xs s
set_found xs s k lt e = (k, lt, get_or_default xs k s set.empty lt ∙ e)

pub missing_set : (xs : List Numbers) (s : Numbers) → place xs s ≡ length xs → Contains xs s → ⊥
missing_set xs s missing there =
    not_before xs s there.0 (omega (arith, there.1)) (get_or_default xs there.0 set.empty s there.1 ∙ there.2)

pub order_has : (start : Numbers) (uses : List Numbers) (s : Numbers) → Contains (start ∷ uses) s → Contains (order_of_use start uses) s
order_has start uses s used =
    let order = order_of_use start uses in
    let there = has_token start uses s used in
    set_found order s (place order s) there (at_place order s there)

-- what is there after one set more was there, or is that set
one_only : (xs : List Numbers) (u s : Numbers) → Contains (with_set xs u) s → Contains xs s ⊎ Contains (u ∷ []) s
one_only xs u s there =
    elim (old_or_new xs u) [
      | inl old ↦ inl (subst (λ (ys : List Numbers). Contains ys s) (with_old xs u old) there)
      | inr new ↦ Contains-append_cases xs (u ∷ []) s (subst (λ (ys : List Numbers). Contains ys s) (with_new xs u new) there)
    ]

all_only : (xs uses : List Numbers) (s : Numbers) → Contains (with_sets xs uses) s → Contains (xs ++ uses) s
all_only xs [] s there = Contains-append_left xs [] s there
all_only xs (u ∷ uses) s there =
    elim (Contains-append_cases (with_set xs u) uses s (all_only (with_set xs u) uses s there)) [
      | inl front ↦
          elim (one_only xs u s front) [
            | inl old ↦ Contains-append_left xs (u ∷ uses) s old
            | inr this ↦ Contains-append_right xs (u ∷ uses) s (Contains-append_left (u ∷ []) uses s this)
          ]
      | inr later ↦ Contains-append_right xs (u ∷ uses) s (Contains-append_right (u ∷ []) uses s later)
    ]

pub order_only : (start : Numbers) (uses : List Numbers) (s : Numbers) → Contains (order_of_use start uses) s → Contains (start ∷ uses) s
order_only start uses s there = all_only (start ∷ []) uses s there
