-- The test whether an object is of an asked type decides it.
use Rattle.mp_typing.proofs.Basics.{◌≡◌, ℕ, true, false, ◌||◌, List, [], ◌∷◌, length, refl, subst, inl, inr, arith, Contains, Decides, Word, Typed, names_of, is_among, has_any, IsA, same, through_object, object_name, meant, IsOfType}
use Rattle.mp_typing.proofs.Basics.{or_cases, or_left, or_right, contains_head, contains_one, no_member, is_of_type, lower}
use Rattle.std.specs.Prelude.{◌==◌}
use Rattle.std.proofs.lemmas.Bool.{ne_eqb}
use Rattle.mp_typing.proofs.Finding.{found_under, reaches, tops_found}
use Rattle.mp_typing.proofs.Lists.{any_from_name, among_from_contains, contains_from_among, some_name}

-- what is written is meant
written_is_meant : (names : List (List ℕ)) (name : List ℕ) → Contains names name → Contains (meant names) name
written_is_meant [] name found = absurd (no_member name found)
written_is_meant (n ∷ ns) name found = found

-- something is meant
something : (names : List (List ℕ)) → (name : List ℕ) × Contains (meant names) name
something [] = (object_name, contains_head object_name [])
something (n ∷ ns) = (n, contains_head n ns)

-- a type that is meant and found
own_type : (found : List (List ℕ)) (words : List Word) (own : List ℕ) → Contains (meant (names_of words)) own → Contains found own
    → (is_among found object_name || has_any found words) ≡ true
own_type found [] own meant_own there =
    or_left (is_among found object_name) false
    (among_from_contains found object_name (subst (Contains found) (contains_one object_name own meant_own) there))
own_type found (w ∷ ws) own meant_own there =
    or_right (is_among found object_name) (has_any found (w ∷ ws))
    (any_from_name found (w ∷ ws) own meant_own (among_from_contains found own there))

-- an object is of a type that is asked, where its test passes
passes : (declared : List Typed) (asked : List (List ℕ)) (t : Typed)
    → (is_among (lower declared asked) object_name || has_any (lower declared asked) t.types) ≡ true → IsOfType declared asked t
passes declared asked t h =
    let found = lower declared asked in
    elim (or_cases (is_among found object_name) (has_any found t.types) h) [
      | inl object ↦
          let of = found_under declared asked object_name (contains_from_among found object_name object) in
          record {
            own = (something (names_of t.types)).0;
            above = of.top;
            declared_own = (something (names_of t.types)).1;
            asked_above = written_is_meant asked of.top of.among;
            under = through_object of.under;
          }
      | inr any ↦
          let (name, written, there) = some_name found t.types any in
          let of = found_under declared asked name (contains_from_among found name there) in
          record {
            own = name;
            above = of.top;
            declared_own = written_is_meant (names_of t.types) name written;
            asked_above = written_is_meant asked of.top of.among;
            under = of.under;
          }
    ]

-- and its test passes, where it is
passed : (declared : List Typed) (asked : List (List ℕ)) (t : Typed) (own above : List ℕ) → Contains (meant (names_of t.types)) own
    → Contains asked above → IsA declared own above
    → (is_among (lower declared asked) object_name || has_any (lower declared asked) t.types) ≡ true
passed declared asked t own above mine wanted under =
    let found = lower declared asked in
    elim (reaches declared asked under (tops_found declared asked above wanted)) [
      | inl there ↦ own_type found t.types own mine there
      | inr object ↦ or_left (is_among found object_name) (has_any found t.types) (among_from_contains found object_name object)
    ]

pub is_of_type_decides : (declared : List Typed) (asked : List (List ℕ)) (t : Typed) → Decides (is_of_type declared asked t) (IsOfType declared asked t)
is_of_type_decides declared [] t = (
  (λ _. record {
    own = (something (names_of t.types)).0;
    above = object_name;
    declared_own = (something (names_of t.types)).1;
    asked_above = contains_head object_name [];
    under = through_object same;
  }),
  (λ _. refl),
)
is_of_type_decides declared (a ∷ more) t =
    let some : (length (a ∷ more) == 0) ≡ false = ne_eqb (length (a ∷ more)) 0 (λ e. omega (arith, e)) in
    rw some (passes declared (a ∷ more) t, (λ of. passed declared (a ∷ more) t of.own of.above of.declared_own of.asked_above of.under))
