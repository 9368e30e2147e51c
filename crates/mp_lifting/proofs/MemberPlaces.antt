-- The objects that are of a type are the places of those that pass the test of types.
use Rattle.mp_lifting.proofs.Basics.{◌≡◌, ℕ, true, List, refl, subst, list_any, same_tests, Typed, Members}
use Rattle.std.proofs.Common.{eqb}
use Rattle.std.specs.Prelude.{Contains}
use Rattle.std.proofs.lemmas.Bool.{eqb-true, eq-eqb}
use Rattle.mp_list.proofs.Members.{any_from, some_member}
use Rattle.mp_sets.proofs.NumbersLemmas.{rising_unique}
use Rattle.mp_typing.specs.Places.{numbers_where}
use Rattle.mp_typing.specs.Under.{is_of_type}
use Rattle.mp_typing.proofs.Placing.{are_members}

stands : (xs : List ℕ) (q : ℕ) → list_any (λ y. eqb y q) xs ≡ true → Contains xs q
stands xs q h = let (x, found, same) = some_member (λ (y : ℕ). eqb y q) xs h in subst (Contains xs) (eqb-true x q same) found

is_there : (xs : List ℕ) (q : ℕ) → Contains xs q → list_any (λ y. eqb y q) xs ≡ true
is_there xs q found = any_from (λ (y : ℕ). eqb y q) xs q found (eq-eqb q q refl)

-- two rising lists of the members are one
pub members_are : (declared objects : List Typed) (asked : List (List ℕ)) (numbers : List ℕ) → Members declared objects asked numbers
    → numbers ≡ numbers_where 0 (is_of_type declared asked) objects
members_are declared objects asked numbers m =
    let places = numbers_where 0 (is_of_type declared asked) objects in
    let p = are_members declared objects asked in
    rising_unique numbers places m.rising p.rising
    (λ q. same_tests (list_any (λ y. eqb y q) numbers) (list_any (λ y. eqb y q) places)
    (λ h. is_there places q ((p.exact q).1 ((m.exact q).0 (stands numbers q h))))
    (λ h. is_there numbers q ((m.exact q).1 ((p.exact q).0 (stands places q h)))))
