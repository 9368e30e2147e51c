-- Items of a list that pass a test, or of which none does.
use Rattle.mp_typing.proofs.Basics.{◌≡◌, Bool, true, List, [], ◌∷◌, ap, subst, ◌∙◌, inl, inr, Contains, filter, cases_Bool, contains_head, contains_tail, contains_cases, no_member}
use Rattle.std.proofs.lemmas.List.Elements.{All-contains, All-contains_itself, All-filter, filter_passes}

-- an item that a test takes is in the list and passes
pub taken_passes : {X : Type 0} (test : X → Bool) (xs : List X) (x : X) → Contains (filter test xs) x → Contains xs x × (test x ≡ true)
taken_passes test xs x found = (
  All-contains (Contains xs) (filter test xs) x (All-filter test (Contains xs) xs (All-contains_itself xs)) found,
  All-contains (λ y. test y ≡ true) (filter test xs) x (filter_passes test xs) found,
)

-- and the way back
pub taken_from_passes : {X : Type 0} (test : X → Bool) (xs : List X) (x : X) → Contains xs x → test x ≡ true → Contains (filter test xs) x
taken_from_passes test [] x found h = absurd (no_member x found)
taken_from_passes test (y ∷ ys) x found h =
    elim (contains_cases y ys x found) [
      | inl here ↦ rw (ap test here ∙ h) (subst (Contains (y ∷ filter test ys)) here (contains_head y (filter test ys)))
      | inr there ↦ elim (cases_Bool (test y)) [
        | inl passes ↦ rw passes (contains_tail y (filter test ys) x (taken_from_passes test ys x there h))
        | inr fails ↦ rw fails (taken_from_passes test ys x there h)
      ]
    ]
