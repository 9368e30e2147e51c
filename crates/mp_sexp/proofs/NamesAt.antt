-- The name at a name's number.
use Rattle.std.proofs.Common.{arith, ◌≡◌, ℕ, suc, ◌+◌, ◌<◌, Bool, true, false, ◌||◌, List, [], ◌∷◌, length, Some, refl, sym, ap, subst, ◌∙◌}
use Rattle.std.specs.List.{position_from}
use Rattle.std.specs.Option.{option_map_or}
use Rattle.std.specs.Str.{bytes_eq}
use Rattle.mp_sexp.specs.Numbers.{is_named, name_at, number_in}
use Rattle.mp_sexp.proofs.Places.{is_name, equal, swapped}

-- a name stands at a place, where places are counted from this one on
record StandsAt (name : List ℕ) (from : ℕ) (names : List (List ℕ)) : Type 0 where
  place : ℕ
  first : position_from (is_name name) from names ≡ Some (from + place)
  there : name_at names place ≡ name
  below : place < length names

here : (name n : List ℕ) (from : ℕ) (ns : List (List ℕ)) → bytes_eq n name ≡ true → StandsAt name from (n ∷ ns)
here name n from ns h = record {
  place = 0;
  first = rw h (ap Some (grind arith));
  there = equal n name h;
  below = grind arith;
}

later : (name n : List ℕ) (from : ℕ) (ns : List (List ℕ)) → bytes_eq n name ≡ false → StandsAt name (from + 1) ns → StandsAt name from (n ∷ ns)
later name n from ns h s = record {
  place = suc s.place;
  first = rw h (s.first ∙ ap Some (grind arith));
  there = s.there;
  below = let b = s.below in grind arith;
}

by_test : (name n : List ℕ) (from : ℕ) (ns : List (List ℕ)) (test : Bool) → bytes_eq n name ≡ test
    → (is_named ns name ≡ true → StandsAt name (from + 1) ns) → (test || is_named ns name) ≡ true → StandsAt name from (n ∷ ns)
by_test name n from ns true e rest h = here name n from ns e
by_test name n from ns false e rest h = later name n from ns e (rest h)

stands_at : (name : List ℕ) (from : ℕ) (names : List (List ℕ)) → is_named names name ≡ true → StandsAt name from names
stands_at name from [] h = absurd (cc)
stands_at name from (n ∷ ns) h =
    by_test name n from ns (bytes_eq n name) refl (stands_at name (from + 1) ns)
    (subst (λ t. (t || is_named ns name) ≡ true) (swapped name n) h)

numbered : (name : List ℕ) (names : List (List ℕ)) (s : StandsAt name 0 names) → number_in names name ≡ s.place
unfolding number_in
numbered name names s = ap (λ o. option_map_or (λ place. place) o (length names)) s.first ∙ grind arith

pub name_at_number : (names : List (List ℕ)) (name : List ℕ) → is_named names name ≡ true → name_at names (number_in names name) ≡ name
name_at_number names name h =
    let s = stands_at name 0 names h in
    ap (name_at names) (numbered name names s) ∙ s.there

pub number_below : (names : List (List ℕ)) (name : List ℕ) → is_named names name ≡ true → number_in names name < length names
number_below names name h =
    let s = stands_at name 0 names h in
    subst (λ n. n < length names) (sym (numbered name names s)) s.below
