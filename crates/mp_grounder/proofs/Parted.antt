-- Lists in which the items that fail a test come before those that pass it.
use Rattle.mp_grounder.proofs.Basics.{arith, ◌≡◌, ℕ, ◌+◌, ◌-◌, Bool, true, not, nat_lt, List, [], ◌∷◌, ◌++◌, filter, length, take, drop, Some, slice_get, refl, sym, ap, ◌∙◌, subst, inl, inr, Less, Ordering, AllByRecursion, IsStrictlySortedBy}
use Rattle.mp_grounder.proofs.Basics.{Contains, cases_Bool, ltb-true, taken_passes}
use Rattle.std.proofs.lemmas.Bool.{ltb-false, not-true}
use Rattle.mp_typing.proofs.Finding.{member_at}
use Rattle.mp_grounder.proofs.Members.{get_taken, get_dropped}

first_of : {X : Type 0} (xs ys : List X) → take (length xs) (xs ++ ys) ≡ xs
first_of [] ys = refl
first_of (x ∷ xs) ys = ap (λ zs. x ∷ zs) (first_of xs ys)

others_of : {X : Type 0} (xs ys : List X) → drop (length xs) (xs ++ ys) ≡ ys
others_of [] ys = refl
others_of (x ∷ xs) ys = others_of xs ys

module _ {F : Type 0} (R : F → F → Ordering) (test : F → Bool) (up : (f g : F) → R f g ≡ Less → test f ≡ true → test g ≡ true) where
  -- the items that fail
  abbrev pub failing : List F → List F
  failing facts = filter (λ f. not (test f)) facts

  none_fail : (f : F) (gs : List F) → AllByRecursion (λ g. R f g ≡ Less) gs → test f ≡ true → failing gs ≡ []
  none_fail f [] behind h = refl
  none_fail f (x ∷ xs) behind h =
      let passes : test x ≡ true = up f x behind.0 h in
      rw passes (none_fail f xs behind.1 h)

  -- those that fail come first, and then those that pass
  parted : (fs : List F) → IsStrictlySortedBy R fs → failing fs ++ filter test fs ≡ fs
  unfolding IsStrictlySortedBy
  parted [] rises = refl
  parted (f ∷ fs) rises =
      let rest = parted fs rises.1 in
      elim (cases_Bool (test f)) [
        | inl passes ↦
            let none = none_fail f fs rises.0 passes in
            rw passes (ap (λ gs. gs ++ f ∷ filter test fs) none ∙ ap (λ gs. f ∷ gs) (sym (ap (λ gs. gs ++ filter test fs) none) ∙ rest))
        | inr fails ↦ rw fails (ap (λ gs. f ∷ gs) rest)
      ]

  pub failing_first : (fs : List F) → IsStrictlySortedBy R fs → failing fs ≡ take (length (failing fs)) fs
  failing_first fs rises = sym (first_of (failing fs) (filter test fs)) ∙ ap (take (length (failing fs))) (parted fs rises)

  pub passing_behind : (fs : List F) → IsStrictlySortedBy R fs → filter test fs ≡ drop (length (failing fs)) fs
  passing_behind fs rises = sym (others_of (failing fs) (filter test fs)) ∙ ap (drop (length (failing fs))) (parted fs rises)

  -- so places tell which items pass
  pub told_by_place : (fs : List F) → IsStrictlySortedBy R fs → (n : ℕ) (f : F) → slice_get fs n ≡ Some f → test f ≡ not (nat_lt n (length (failing fs)))
  told_by_place fs rises n f at =
      let m = length (failing fs) in
      elim (cases_Bool (nat_lt n m)) [
        | inl less ↦
            let first = member_at (take m fs) n f (get_taken m n fs (ltb-true n m less) ∙ at) in
            let fails = (taken_passes (λ g. not (test g)) fs f (subst (λ gs. Contains gs f) (sym (failing_first fs rises)) first)).1 in
            rw less (not-true (test f) fails)
        | inr above ↦
            let same : m + (n - m) ≡ n = omega (arith, ltb-false n m above) in
            let later = member_at (drop m fs) (n - m) f (get_dropped m (n - m) fs ∙ ap (slice_get fs) same ∙ at) in
            rw above (taken_passes test fs f (subst (λ gs. Contains gs f) (sym (passing_behind fs rises)) later)).1
      ]
