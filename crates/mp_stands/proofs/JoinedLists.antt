-- Members of lists that are mapped, joined and given.
use Rattle.std.proofs.Common.{◌≡◌, Bool, true, false, cond, ◌&&◌, ◌||◌, List, [], ◌∷◌, map, filter, All, Option, Some, None, refl, sym, ap, ◌∙◌, subst, ◌⊎◌, inl, inr}
use Rattle.std.proofs.lemmas.Bool.{and_right}
use Rattle.std.proofs.lemmas.List.Elements.{All-head, All-tail, Contains-append_left, Contains-append_right}
use Rattle.std.proofs.lemmas.List.Folds.{list_any-append}
use Rattle.std.proofs.lemmas.Option.{none-some, same_Some}
use Rattle.std.proofs.lemmas.Slice.Eq.{bytes_eq-Decides}
use Rattle.std.specs.List.{list_any, list_all, find, flat_map, filter_map, cons_option}
use Rattle.std.specs.Prelude.{Contains}
use Rattle.std.specs.Str.{bytes_eq}
use Rattle.mp_list.proofs.Members.{contains_head, contains_tail, contains_cases, no_member, any_from, some_member}
use Rattle.mp_joint.specs.Fact.{Text, is_listed}

-- ---- tests of lists

pub any_of_map : {X Y : Type 0} (test : Y → Bool) (f : X → Y) (xs : List X) → list_any test (map f xs) ≡ list_any (λ x. test (f x)) xs
any_of_map test f [] = refl
any_of_map test f (x ∷ xs) = ap (λ b. test (f x) || b) (any_of_map test f xs)

pub any_of_parts : {X Y : Type 0} (test : Y → Bool) (f : X → List Y) (xs : List X) → list_any test (flat_map f xs) ≡ list_any (λ x. list_any test (f x)) xs
any_of_parts test f [] = refl
any_of_parts test f (x ∷ xs) = list_any-append test (f x) (flat_map f xs) ∙ ap (λ b. list_any test (f x) || b) (any_of_parts test f xs)

-- a text is one of those that pass a test where it passes and is one of all
pub listed_some : (test : Text → Bool) (q : Text) (xs : List Text) → is_listed q (filter test xs) ≡ (test q && is_listed q xs)
listed_some test q [] = sym (and_right (test q) false refl)
listed_some test q (x ∷ xs) = by (test x) (bytes_eq q x) refl refl (listed_some test q xs)
  where
    by : (t same : Bool) → test x ≡ t → bytes_eq q x ≡ same → is_listed q (filter test xs) ≡ (test q && is_listed q xs)
        → is_listed q (cond t (x ∷ filter test xs) (filter test xs)) ≡ (test q && (same || is_listed q xs))
    by true true e f rest =
        let passes : test q ≡ true = ap test ((bytes_eq-Decides q x).0 f) ∙ e in
        ap (λ b. b || is_listed q (filter test xs)) f ∙ sym (ap (λ b. b && true) passes)
    by true false e f rest = ap (λ b. b || is_listed q (filter test xs)) f ∙ rest
    by false true e f rest =
        let fails : test q ≡ false = ap test ((bytes_eq-Decides q x).0 f) ∙ e in
        rest ∙ ap (λ b. b && is_listed q xs) fails ∙ sym (ap (λ b. b && true) fails)
    by false false e f rest = rest

-- what holds of each item says that tests of what becomes of it are the same
pub all_same : {X Y : Type 0} (p q : Y → Bool) (f : X → Y) (P : X → Type 0) (xs : List X) → ((x : X) → P x → p (f x) ≡ q (f x)) → All P xs
    → list_all p (map f xs) ≡ list_all q (map f xs)
all_same p q f P [] each h = refl
all_same p q f P (x ∷ xs) each h = λ i. each x (All-head P x xs h) i && all_same p q f P xs each (All-tail P x xs h) i

-- ---- members

pub in_parts : {X Y : Type 0} (f : X → List Y) (xs : List X) (x : X) (y : Y) → Contains xs x → Contains (f x) y → Contains (flat_map f xs) y
in_parts f [] x y found here = absurd (no_member x found)
in_parts f (z ∷ zs) x y found here =
    elim (contains_cases z zs x found) [
      | inl same ↦ Contains-append_left (f z) (flat_map f zs) y (subst (λ w. Contains (f w) y) (sym same) here)
      | inr there ↦ Contains-append_right (f z) (flat_map f zs) y (in_parts f zs x y there here)
    ]

given_cases : {Y : Type 0} (o : Option Y) (ys : List Y) (y : Y) → Contains (cons_option o ys) y → (o ≡ Some y) ⊎ Contains ys y
given_cases None ys y found = inr found
given_cases (Some z) ys y found = elim (contains_cases z ys y found) [ inl here ↦ inl (ap Some here) | inr there ↦ inr there ]

pub from_given : {X Y : Type 0} (h : X → Option Y) (xs : List X) (y : Y) → Contains (filter_map h xs) y → (x : X) × Contains xs x × (h x ≡ Some y)
from_given h [] y found = absurd (no_member y found)
from_given h (x ∷ xs) y found =
    elim (given_cases (h x) (filter_map h xs) y found) [
      | inl here ↦ (x, contains_head x xs, here)
      | inr there ↦ let rest = from_given h xs y there in (rest.0, contains_tail x xs rest.0 rest.1, rest.2)
    ]

kept_first : {Y : Type 0} (o : Option Y) (ys : List Y) (y : Y) → o ≡ Some y → Contains (cons_option o ys) y
kept_first None ys y e = absurd (none-some y e)
kept_first (Some z) ys y e = subst (Contains (z ∷ ys)) (same_Some z y e) (contains_head z ys)

kept_later : {Y : Type 0} (o : Option Y) (ys : List Y) (y : Y) → Contains ys y → Contains (cons_option o ys) y
kept_later None ys y found = found
kept_later (Some z) ys y found = contains_tail z ys y found

pub in_given : {X Y : Type 0} (h : X → Option Y) (xs : List X) (x : X) (y : Y) → Contains xs x → h x ≡ Some y → Contains (filter_map h xs) y
in_given h [] x y found e = absurd (no_member x found)
in_given h (z ∷ zs) x y found e =
    elim (contains_cases z zs x found) [
      | inl same ↦ kept_first (h z) (filter_map h zs) y (ap h same ∙ e)
      | inr there ↦ kept_later (h z) (filter_map h zs) y (in_given h zs x y there e)
    ]

-- what is found passes the test
pub found_passes : {X : Type 0} (test : X → Bool) (xs : List X) (x : X) → find test xs ≡ Some x → test x ≡ true
found_passes test [] x h = absurd (none-some x h)
found_passes {X} test (y ∷ ys) x h = by (test y) refl h (found_passes test ys x)
  where
    by : (t : Bool) → test y ≡ t → cond t (Some y) (find test ys) ≡ Some x → (find test ys ≡ Some x → test x ≡ true) → test x ≡ true
    by true e is rest = ap test (sym (same_Some y x is)) ∙ e
    by false e is rest = rest is

-- a text is listed where it is a member
pub member_listed : (text : Text) (texts : List Text) → Contains texts text → is_listed text texts ≡ true
member_listed text texts found = any_from (λ t. bytes_eq text t) texts text found ((bytes_eq-Decides text text).1 refl)

pub listed_member : (text : Text) (texts : List Text) → is_listed text texts ≡ true → Contains texts text
listed_member text texts h =
    let found = some_member (λ t. bytes_eq text t) texts h in
    subst (Contains texts) (sym ((bytes_eq-Decides text found.0).0 found.2)) found.1
