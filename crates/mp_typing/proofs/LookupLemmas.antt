-- What an index says of the signatures and objects that are put into it, one after the other.
use Rattle.mp_typing.proofs.Basics.{◌≡◌, ℕ, suc, ◌+◌, ◌<◌, Bool, true, false, cond, List, [], ◌∷◌, ◌++◌, length, get_or, take, Option, Some, None, refl, sym, ap, ◌∙◌, arith, take_more, find, slice_get, if◌then◌else◌, list_any, is_some}
use Rattle.mp_typing.proofs.Basics.{option_or, zero-add, inl, inr, cases_Bool, bytes_eq, Typed, Signature, Entry, number_of, SameNumbers, HasArities, arity_of, is_object}
use Rattle.std.proofs.lemmas.Bool.{ltb-false}
use Rattle.std.proofs.lemmas.List.Folds.{find-append, find_at}
use Rattle.std.proofs.lemmas.Iterator.Adapters.{position_from-zero}
use Rattle.std.proofs.lemmas.Option.{slice_get_past}
use Rattle.std.specs.Prelude.{nat_lt}
use Rattle.std.specs.List.{position_from, position_or_len}
use Rattle.std.specs.Option.{option_map}
use Rattle.mp_typing.specs.Indexed.{HasPlaces}
use Rattle.mp_typing.proofs.IndexLemmas.{alone, moves_in, number_push}

-- ---- numbers of parameters

pub arities_none : (index : List Entry) → index ≡ [] → HasArities index []
unfolding number_of arity_of
arities_none index none name = ap (number_of name) none

one_arity : (o : Option Signature) (b : Bool) (s : Signature)
    → option_map (λ (t : Signature). length t.params) (option_or o (cond b (Some s) None))
    ≡ option_or (option_map (λ (t : Signature). length t.params) o) (if b then Some (length s.params) else None)
one_arity None true s = refl
one_arity None false s = refl
one_arity (Some t) b s = refl

abbrev arity_entry : Signature → Entry
arity_entry s = record { name = s.word.name; number = length s.params }

arity_push : (ss : List Signature) (s : Signature) (name : List ℕ)
    → arity_of (ss ++ s ∷ []) name ≡ option_or (arity_of ss name) (alone (arity_entry s) name)
unfolding arity_of
arity_push ss s name =
    let test : Signature → Bool = λ (t : Signature). bytes_eq t.word.name name in
    ap (option_map (λ (t : Signature). length t.params)) (find-append test ss (s ∷ []))
    ∙ one_arity (find test ss) (test s) s

-- one more signature
pub arities_on : (index after : List Entry) (ss : List Signature) (i : ℕ) (s : Signature) → i < length ss → s ≡ get_or ss i s
    → HasArities index (take i ss) → SameNumbers after (index ++ record { name = s.word.name; number = length s.params } ∷ [])
    → HasArities after (take (i + 1) ss)
arities_on index after ss i s lt is has added name =
    rw (added name, number_push name index (arity_entry s), has name, take_more ss i s lt, ← is) (sym (arity_push (take i ss) s name))

-- ---- places of objects

abbrev named : List ℕ → Typed → Bool
named name o = bytes_eq o.word.name name

position_push : (test : Typed → Bool) (n : ℕ) (xs : List Typed) (x : Typed)
    → position_from test n (xs ++ x ∷ []) ≡ option_or (position_from test n xs) (cond (test x) (Some (n + length xs)) None)
position_push test n [] x = let none : n + 0 ≡ n = omega arith in rw none refl
position_push test n (y ∷ ys) x =
    let more : n + suc (length ys) ≡ n + 1 + length ys = omega arith in
    rw (position_push test (n + 1) ys x, more) (moves_in (test y) n (position_from test (n + 1) ys) (cond (test x) (Some (n + 1 + length ys)) None))

-- one more object
pub place_added : (index after : List Entry) (xs : List Typed) (x : Typed) (n : ℕ) → n ≡ length xs
    → HasPlaces index xs → SameNumbers after (index ++ record { name = x.word.name; number = n } ∷ []) → HasPlaces after (xs ++ x ∷ [])
place_added index after xs x n at has added name =
    rw (added name, number_push name index record { name = x.word.name; number = n }, has name, at, position_push (named name) 0 xs x, zero-add (length xs)) refl

pub places_none : (index : List Entry) → index ≡ [] → HasPlaces index []
unfolding number_of
places_none index none name = ap (number_of name) none

-- ---- the object at a place

-- the object at a place, where there is one
abbrev pub object_by : Option ℕ → List Typed → Option Typed
object_by None xs = None
object_by (Some at) xs = slice_get xs at

by_place : (xs : List Typed) (at : ℕ) (b : Bool) → nat_lt at (length xs) ≡ b → object_by (cond b (Some at) None) xs ≡ slice_get xs at
by_place xs at true e = refl
by_place xs at false e = sym (slice_get_past xs at (ltb-false at (length xs) e))

-- at the place of the first that has a name stands the first that has it
pub first_at : (entries : List Entry) (xs : List Typed) (name : List ℕ) (r : Option ℕ) → HasPlaces entries xs → r ≡ number_of name entries
    → object_by r xs ≡ find (λ (o : Typed). bytes_eq o.word.name name) xs
first_at entries xs name r has is =
    let at = position_or_len (named name) xs in
    ap (λ (o : Option ℕ). object_by o xs) (is ∙ has name ∙ sym (position_from-zero (named name) xs))
    ∙ by_place xs at (nat_lt at (length xs)) refl ∙ sym (find_at (named name) xs)

some_placed : (test : Typed → Bool) (n : ℕ) (xs : List Typed) → is_some (position_from test n xs) ≡ list_any test xs
some_placed test n [] = refl
some_placed test n (x ∷ xs) =
    elim (cases_Bool (test x)) [
      | inl here ↦ rw here refl
      | inr other ↦ rw other (some_placed test (n + 1) xs)
    ]

-- there is a place exactly where one has the name
pub is_placed : (entries : List Entry) (xs : List Typed) (name : List ℕ) → HasPlaces entries xs
    → is_some (number_of name entries) ≡ is_object xs name
unfolding is_object
is_placed entries xs name has = ap is_some (has name) ∙ some_placed (named name) 0 xs
