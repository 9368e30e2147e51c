-- A map that has the first place of each name, while names are added.
use Rattle.std.proofs.Common.{arith, ◌≡◌, ℕ, ◌+◌, Bool, true, false, cond, ◌||◌, List, [], ◌∷◌, ◌++◌, length, Option, Some, None, refl, sym, ap, subst, ◌∙◌}
use Rattle.std.specs.List.{position_from}
use Rattle.std.specs.Map.{lookup}
use Rattle.std.specs.Option.{is_some, option_or}
use Rattle.std.specs.Str.{bytes_eq}
use Rattle.std.proofs.lemmas.Slice.Eq.{bytes_eq-Decides}
use Rattle.mp_list.proofs.Bools.{same_tests}
use Rattle.mp_sexp.specs.Numbers.{is_named}
use Rattle.mp_sexp.specs.Tables.{HasPlaces}

-- whether another name is this one
abbrev pub is_name : List ℕ → List ℕ → Bool
is_name name n = bytes_eq n name

pub equal : (a b : List ℕ) → bytes_eq a b ≡ true → a ≡ b
equal a b h = (bytes_eq-Decides a b).0 h

pub swapped : (a b : List ℕ) → bytes_eq a b ≡ bytes_eq b a
swapped a b =
    same_tests _ _ (λ h. subst (λ x. bytes_eq b x ≡ true) (sym (equal a b h)) ((bytes_eq-Decides b b).1 refl))
    (λ h. subst (λ x. bytes_eq a x ≡ true) (sym (equal b a h)) ((bytes_eq-Decides a a).1 refl))

-- ---- the first place of a name where one more name stands at the end

one_more : (test : Bool) (i : ℕ) (a b c : Option ℕ) → a ≡ option_or b c → cond test (Some i) a ≡ option_or (cond test (Some i) b) c
one_more true i a b c h = refl
one_more false i a b c h = h

pub place_push : (name : List ℕ) (i : ℕ) (names : List (List ℕ)) (last : List ℕ)
    → position_from (is_name name) i (names ++ last ∷ [])
    ≡ option_or (position_from (is_name name) i names) (cond (bytes_eq last name) (Some (i + length names)) None)
place_push name i [] last = ap (λ n. cond (bytes_eq last name) (Some n) None) (grind arith)
place_push name i (n ∷ ns) last =
    one_more (bytes_eq n name) i _ _ _
    (place_push name (i + 1) ns last
    ∙ ap (λ k. option_or (position_from (is_name name) (i + 1) ns) (cond (bytes_eq last name) (Some k) None)) (grind arith))

-- ---- a name has a place where it stands there

placed : (test rest : Bool) (i : ℕ) (o : Option ℕ) → is_some o ≡ rest → is_some (cond test (Some i) o) ≡ (test || rest)
placed true rest i o h = refl
placed false rest i o h = h

pub has_place : (name : List ℕ) (i : ℕ) (names : List (List ℕ)) → is_some (position_from (is_name name) i names) ≡ is_named names name
has_place name i [] = refl
has_place name i (n ∷ ns) =
    placed (bytes_eq n name) (is_named ns name) i _ (has_place name (i + 1) ns)
    ∙ ap (λ t. t || is_named ns name) (swapped n name)

-- ---- the map

pub looked_for : {K : Type 0} (name_of : K → List ℕ) (entries : List (K × ℕ)) (names : List (List ℕ)) → HasPlaces name_of entries names
    → (name : List ℕ) → is_some (lookup (λ k. bytes_eq name (name_of k)) entries) ≡ is_named names name
looked_for name_of entries names h name = ap is_some (h name) ∙ has_place name 0 names

pub of_none : (o : Option ℕ) → o ≡ option_or o None
of_none None = refl
of_none (Some n) = refl

pub of_some : (o other : Option ℕ) → is_some o ≡ true → o ≡ option_or o other
of_some None other h = cc
of_some (Some n) other h = refl

pub not_some : (o : Option ℕ) → is_some o ≡ false → o ≡ None
not_some None h = refl
not_some (Some n) h = cc

known_by : (q last : List ℕ) (n : ℕ) (names : List (List ℕ)) (test : Bool) → test ≡ bytes_eq last q → is_named names last ≡ true
    → position_from (is_name q) 0 names ≡ option_or (position_from (is_name q) 0 names) (cond test (Some n) None)
known_by q last n names true e there =
    of_some _ (Some n) (has_place q 0 names ∙ subst (λ k. is_named names k ≡ true) (equal last q (sym e)) there)
known_by q last n names false e there = of_none _

-- a name that stands there keeps its place, and so does each other one
pub known : {K : Type 0} (name_of : K → List ℕ) (entries : List (K × ℕ)) (names : List (List ℕ)) (last : List ℕ)
    → HasPlaces name_of entries names → is_named names last ≡ true → HasPlaces name_of entries (names ++ last ∷ [])
known name_of entries names last h there q =
    h q ∙ known_by q last (0 + length names) names (bytes_eq last q) refl there ∙ sym (place_push q 0 names last)

new_by : (q last : List ℕ) (n : ℕ) (names : List (List ℕ)) (test : Bool) → test ≡ bytes_eq last q → is_named names last ≡ false
    → cond test (Some n) (position_from (is_name q) 0 names)
    ≡ option_or (position_from (is_name q) 0 names) (cond test (Some n) None)
new_by q last n names true e none =
    ap (λ o. option_or o (Some n))
    (sym (not_some _ (has_place q 0 names ∙ subst (λ k. is_named names k ≡ false) (equal last q (sym e)) none)))
new_by q last n names false e none = of_none _

from_zero : (n : ℕ) → n ≡ 0 + n
from_zero n = grind arith

-- one that doesn't gets the place at the end
pub added : {K : Type 0} (name_of : K → List ℕ) (entries more : List (K × ℕ)) (names : List (List ℕ)) (last : List ℕ)
    → HasPlaces name_of entries names → is_named names last ≡ false
    → ((q : List ℕ) → lookup (λ k. bytes_eq q (name_of k)) more
    ≡ cond (bytes_eq last q) (Some (length names)) (lookup (λ k. bytes_eq q (name_of k)) entries))
    → HasPlaces name_of more (names ++ last ∷ [])
added name_of entries more names last h none changed q =
    changed q ∙ ap (cond (bytes_eq last q) (Some (length names))) (h q)
    ∙ new_by q last (length names) names (bytes_eq last q) refl none
    ∙ ap (λ n. option_or (position_from (is_name q) 0 names) (cond (bytes_eq last q) (Some n) None)) (from_zero (length names))
    ∙ sym (place_push q 0 names last)

-- ---- a place that is written over and put back

put_back_by : (q last : List ℕ) (place earlier : ℕ) (before : Option ℕ) (test : Bool) → test ≡ bytes_eq last q → (bytes_eq last q ≡ true → before ≡ Some earlier)
    → cond test (Some earlier) (cond test (Some place) before) ≡ before
put_back_by q last place earlier before true e was = sym (was (sym e))
put_back_by q last place earlier before false e was = refl

pub put_back : {K : Type 0} (name_of : K → List ℕ) (entries during after : List (K × ℕ)) (last : List ℕ) (place earlier : ℕ)
    → lookup (λ k. bytes_eq last (name_of k)) entries ≡ Some earlier
    → ((q : List ℕ) → lookup (λ k. bytes_eq q (name_of k)) during
    ≡ cond (bytes_eq last q) (Some place) (lookup (λ k. bytes_eq q (name_of k)) entries))
    → ((q : List ℕ) → lookup (λ k. bytes_eq q (name_of k)) after
    ≡ cond (bytes_eq last q) (Some earlier) (lookup (λ k. bytes_eq q (name_of k)) during))
    → (q : List ℕ) → lookup (λ k. bytes_eq q (name_of k)) after ≡ lookup (λ k. bytes_eq q (name_of k)) entries
put_back name_of entries during after last place earlier was over back q =
    back q ∙ ap (cond (bytes_eq last q) (Some earlier)) (over q)
    ∙ put_back_by q last place earlier _ (bytes_eq last q) refl
    (λ same. ap (λ n. lookup (λ k. bytes_eq n (name_of k)) entries) (sym (equal last q same)) ∙ was)
