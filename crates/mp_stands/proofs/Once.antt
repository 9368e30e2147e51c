-- Lists in which no key comes twice.
use Rattle.std.proofs.Common.{arith, ◌≡◌, Bool, true, false, cond, List, [], ◌∷◌, ◌++◌, map, filter, Option, Some, None, get_or, refl, sym, ap, ◌∙◌, inl, inr}
use Rattle.std.proofs.lemmas.Bool.{true≢false}
use Rattle.std.proofs.lemmas.List.Elements.{Contains-get_or, Contains-append_cases}
use Rattle.std.proofs.lemmas.List.Kept.{AllPairs-cons}
use Rattle.std.proofs.lemmas.Slice.Eq.{bytes_eq-Decides}
use Rattle.std.specs.List.{find, flat_map, filter_map, cons_option, AllPairs}
use Rattle.std.specs.Prelude.{◌≢◌, Contains}
use Rattle.std.specs.Str.{bytes_eq}
use Rattle.mp_list.proofs.Members.{contains_head, contains_tail, contains_cases, no_member, any_from, to_map, from_map}
use Rattle.mp_joint.specs.Fact.{Text}
use Rattle.mp_typing.proofs.Passing.{taken_passes}
use Rattle.mp_ground_laws.proofs.Distinct.{AreDistinct}
use Rattle.mp_stands.proofs.JoinedLists.{from_given}

-- no later item has the key of an earlier one
abbrev pub AreOnce : {X K : Type 0} → (X → K) → List X → Type 0
AreOnce key [] = Unit {0}
AreOnce {X} {K} key (x ∷ xs) = ((y : X) → Contains xs y → key x ≡ key y → ⊥) × AreOnce key xs

pub once_pairs : {X K : Type 0} (key : X → K) (xs : List X) → AreOnce key xs → AllPairs (λ a b. key a ≢ key b) xs
once_pairs key [] h = λ i j d less within. absurd (omega arith)
once_pairs key (x ∷ xs) h =
    AllPairs-cons (λ a b. key a ≢ key b) x xs (λ k d less. h.0 (get_or xs k d) (Contains-get_or xs k d less)) (once_pairs key xs h.1)

pub once_append : {X K : Type 0} (key : X → K) (xs ys : List X) → AreOnce key xs → AreOnce key ys
    → ((x y : X) → Contains xs x → Contains ys y → key x ≡ key y → ⊥) → AreOnce key (xs ++ ys)
once_append key [] ys h k apart = k
once_append key (x ∷ xs) ys h k apart = (
  λ y found same.
      elim (Contains-append_cases xs ys y found) [
        | inl first ↦ h.0 y first same
        | inr second ↦ apart x y (contains_head x xs) second same
      ],
  once_append key xs ys h.1 k (λ a b first second same. apart a b (contains_tail x xs a first) second same),
)

-- where what each item gives bears a mark of it
pub once_parts : {X Y K L : Type 0} (key : Y → K) (f : X → List Y) (of : X → L) (mark : K → L) (xs : List X)
    → ((x : X) → Contains xs x → AreOnce key (f x)) → ((x : X) (y : Y) → Contains (f x) y → mark (key y) ≡ of x) → AreOnce of xs → AreOnce key (flat_map f xs)
once_parts key f of mark [] each marked once = tt
once_parts {X} {Y} {K} {L} key f of mark (x ∷ xs) each marked once =
    once_append key (f x) (flat_map f xs) (each x (contains_head x xs))
    (once_parts key f of mark xs (λ z found. each z (contains_tail x xs z found)) marked once.1)
    (λ a b first second same. apart xs (λ z found. once.0 z found) a b first second same)
  where
    apart : (zs : List X) → ((z : X) → Contains zs z → of x ≡ of z → ⊥) → (a b : Y) → Contains (f x) a → Contains (flat_map f zs) b → key a ≡ key b → ⊥
    apart [] differ a b first second same = no_member b second
    apart (z ∷ zs) differ a b first second same =
        elim (Contains-append_cases (f z) (flat_map f zs) b second) [
          | inl here ↦ differ z (contains_head z zs) (sym (marked x a first) ∙ ap mark same ∙ marked z b here)
          | inr there ↦ apart zs (λ w found. differ w (contains_tail z zs w found)) a b first there same
        ]

given_once : {Y K : Type 0} (key : Y → K) (o : Option Y) (ys : List Y) → ((y z : Y) → o ≡ Some y → Contains ys z → key y ≡ key z → ⊥) → AreOnce key ys
    → AreOnce key (cons_option o ys)
given_once key None ys apart once = once
given_once key (Some y) ys apart once = (λ z found same. apart y z refl found same, once)

pub once_given : {X Y K L : Type 0} (key : Y → K) (h : X → Option Y) (of : X → L) (mark : K → L) (xs : List X)
    → ((x : X) (y : Y) → h x ≡ Some y → mark (key y) ≡ of x) → AreOnce of xs → AreOnce key (filter_map h xs)
once_given key h of mark [] marked once = tt
once_given key h of mark (x ∷ xs) marked once =
    given_once key (h x) (filter_map h xs)
    (λ y z e found same.
    let from = from_given h xs z found in
    once.0 from.0 from.1 (sym (marked x y e) ∙ ap mark same ∙ marked from.0 z from.2))
    (once_given key h of mark xs marked once.1)

pub once_map : {X Y K : Type 0} (key : Y → K) (f : X → Y) (xs : List X) → AreOnce (λ x. key (f x)) xs → AreOnce key (map f xs)
once_map key f [] once = tt
once_map key f (x ∷ xs) once = (
  λ y found same.
      let from = from_map f xs y found in
      once.0 from.0 from.1 (same ∙ ap key (sym from.2)),
  once_map key f xs once.1,
)

pub once_some : {X K : Type 0} (key : X → K) (test : X → Bool) (xs : List X) → AreOnce key xs → AreOnce key (filter test xs)
once_some key test [] once = tt
once_some {X} {K} key test (x ∷ xs) once = by (test x) (once_some key test xs once.1)
  where
    by : (t : Bool) → AreOnce key (filter test xs) → AreOnce key (cond t (x ∷ filter test xs) (filter test xs))
    by true rest = (λ y found same. once.0 y (taken_passes test xs y found).0 same, rest)
    by false rest = rest

-- names of which none comes twice
pub distinct_once : {X : Type 0} (name : X → Text) (xs : List X) → AreDistinct (map name xs) → AreOnce name xs
distinct_once name [] h = tt
distinct_once name (x ∷ xs) h = (
  λ y found same.
      true≢false
      (sym (any_from (λ n. bytes_eq (name x) n) (map name xs) (name y) (to_map name xs y found) ((bytes_eq-Decides (name x) (name y)).1 same))
      ∙ h.0),
  distinct_once name xs h.1,
)

-- the first of its name is found by it
pub found_once : {X : Type 0} (name : X → Text) (xs : List X) (x : X) → AreOnce name xs → Contains xs x → find (λ y. bytes_eq (name y) (name x)) xs ≡ Some x
found_once name [] x once found = absurd (no_member x found)
found_once {X} name (y ∷ ys) x once found =
    elim (contains_cases y ys x found) [
      | inl here ↦
          let same : bytes_eq (name y) (name x) ≡ true = (bytes_eq-Decides (name y) (name x)).1 (ap name here) in
          ap (λ b. cond b (Some y) (find (λ z. bytes_eq (name z) (name x)) ys)) same ∙ ap Some here
      | inr there ↦ by (bytes_eq (name y) (name x)) refl (found_once name ys x once.1 there) there
    ]
  where
    by : (t : Bool) → bytes_eq (name y) (name x) ≡ t → find (λ z. bytes_eq (name z) (name x)) ys ≡ Some x → Contains ys x
        → cond t (Some y) (find (λ z. bytes_eq (name z) (name x)) ys) ≡ Some x
    by true e rest there = absurd (once.0 x there ((bytes_eq-Decides (name y) (name x)).0 e))
    by false e rest there = rest
