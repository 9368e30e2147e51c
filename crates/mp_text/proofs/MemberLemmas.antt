-- Members of mapped, filtered and joined lists, and the first one that passes a test.
use Rattle.std.proofs.Common.{◌≡◌, refl, sym, ap, ◌∙◌, subst, Bool, true, false, cond, List, [], ◌∷◌, Some, None, inl, inr}
use Rattle.std.specs.Prelude.{Contains}
use Rattle.std.specs.List.{filter, find}
use Rattle.mp_list.proofs.Members.{contains_head, contains_tail, contains_cases, no_member}

kept_by : {X : Type 0} (test : Bool) (y : X) (ys : List X) → Contains ys y → Contains (cond test (y ∷ ys) ys) y
kept_by true y ys h = contains_tail y ys y h
kept_by false y ys h = h

pub to_filter : {X : Type 0} (test : X → Bool) (xs : List X) (x : X) → Contains xs x → test x ≡ true → Contains (filter test xs) x
to_filter test [] x found h = absurd (no_member x found)
to_filter test (y ∷ ys) x found h =
    elim (contains_cases y ys x found) [
      | inl here ↦ let passes : test y ≡ true = ap test here ∙ h in
          subst (Contains (filter test (y ∷ ys))) here (rw passes (contains_head y (filter test ys)))
      | inr there ↦ by (test y) (to_filter test ys x there h)
    ]
  where
    by : (passes : Bool) → Contains (filter test ys) x → Contains (cond passes (y ∷ filter test ys) (filter test ys)) x
    by true k = contains_tail y (filter test ys) x k
    by false k = k

filter_by : {X : Type 0} (test : X → Bool) (y x : X) (ys : List X) (passes : Bool) → test y ≡ passes
    → (Contains (filter test ys) x → Contains ys x × (test x ≡ true))
    → Contains (cond passes (y ∷ filter test ys) (filter test ys)) x → Contains (y ∷ ys) x × (test x ≡ true)
filter_by test y x ys false h rest found = let k = rest found in (contains_tail y ys x k.0, k.1)
filter_by test y x ys true h rest found =
    elim (contains_cases y (filter test ys) x found) [
      | inl here ↦ (subst (Contains (y ∷ ys)) here (contains_head y ys), sym (ap test here) ∙ h)
      | inr there ↦ let k = rest there in (contains_tail y ys x k.0, k.1)
    ]

pub from_filter : {X : Type 0} (test : X → Bool) (xs : List X) (x : X) → Contains (filter test xs) x → Contains xs x × (test x ≡ true)
from_filter test [] x found = absurd (no_member x found)
from_filter test (y ∷ ys) x found = filter_by test y x ys (test y) refl (from_filter test ys x) found

-- ---- the first one that passes

found_by : {X : Type 0} (test : X → Bool) (y x : X) (ys : List X) (passes : Bool) → test y ≡ passes
    → (find test ys ≡ Some x → Contains ys x × (test x ≡ true))
    → cond passes (Some y) (find test ys) ≡ Some x → Contains (y ∷ ys) x × (test x ≡ true)
found_by test y x ys false h rest found = let k = rest found in (contains_tail y ys x k.0, k.1)
found_by test y x ys true h rest found =
    let here : y ≡ x = cc in (subst (Contains (y ∷ ys)) here (contains_head y ys), sym (ap test here) ∙ h)

pub found_member : {X : Type 0} (test : X → Bool) (xs : List X) (x : X) → find test xs ≡ Some x → Contains xs x × (test x ≡ true)
found_member test [] x found = absurd (cc)
found_member test (y ∷ ys) x found = found_by test y x ys (test y) refl (found_member test ys x) found

none_by : {X : Type 0} (test : X → Bool) (y x : X) (ys : List X) (passes : Bool) → test y ≡ passes
    → (Contains ys x → find test ys ≡ None → test x ≡ false)
    → Contains (y ∷ ys) x → cond passes (Some y) (find test ys) ≡ None → test x ≡ false
none_by test y x ys true h rest found none = absurd (cc)
none_by test y x ys false h rest found none =
    elim (contains_cases y ys x found) [
      | inl here ↦ sym (ap test here) ∙ h
      | inr there ↦ rest there none
    ]

pub none_passes : {X : Type 0} (test : X → Bool) (xs : List X) (x : X) → Contains xs x → find test xs ≡ None → test x ≡ false
none_passes test [] x found none = absurd (no_member x found)
none_passes test (y ∷ ys) x found none = none_by test y x ys (test y) refl (none_passes test ys x) found none
