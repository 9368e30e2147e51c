-- Members of mapped, filtered and joined lists, and places in a list.
use Rattle.std.proofs.Common.{◌≡◌, ℕ, List, [], ◌∷◌, Bool, true, false, cond, eqb, refl, ap, sym, ◌∙◌, subst, inl, inr, Option, Some, None}
use Rattle.std.proofs.lemmas.Bool.{and_from, cases_order, eqb-true, eq-eqb}
use Rattle.std.proofs.lemmas.Option.{none-some, same_Some, slice_get_within, slice_get-get_or, get_or_from_slice_get}
use Rattle.std.specs.List.{list_all, list_any, find, AllPairs}
use Rattle.std.specs.Option.{option_map}
use Rattle.std.specs.Prelude.{◌≢◌, Contains, Decides, slice_get}
use Rattle.mp_list.proofs.Members.{contains_head, contains_tail, some_member, any_from}

-- what each item passes, all pass
pub all_from : {X : Type 0} (test : X → Bool) (xs : List X) → ((x : X) → Contains xs x → test x ≡ true) → list_all test xs ≡ true
all_from test [] each = refl
all_from test (x ∷ xs) each =
    and_from (test x) (list_all test xs) (each x (contains_head x xs)) (all_from test xs (λ y there. each y (contains_tail x xs y there)))

here_or_later : {X : Type 0} (b : Bool) (y x : X) (ys : List X) (later : Option X) → (later ≡ Some x → Contains ys x)
    → cond b (Some y) later ≡ Some x → Contains (y ∷ ys) x
here_or_later true y x ys later rest h = subst (Contains (y ∷ ys)) (same_Some y x h) (contains_head y ys)
here_or_later false y x ys later rest h = contains_tail y ys x (rest h)

-- what is found in a list is in it
pub found_in : {X : Type 0} (test : X → Bool) (xs : List X) (x : X) → find test xs ≡ Some x → Contains xs x
found_in test [] x h = absurd (none-some x h)
found_in test (y ∷ ys) x h = here_or_later (test y) y x ys (find test ys) (found_in test ys x) h

-- a member has a place
pub has_place : {X : Type 0} (xs : List X) (x : X) → Contains xs x → (k : ℕ) × (slice_get xs k ≡ Some x)
has_place xs x found = (found.0, slice_get-get_or xs found.0 x found.1 ∙ ap Some found.2)

-- in a list of different items it has one place
pub one_place : {X : Type 0} (xs : List X) (m n : ℕ) (x : X) → AllPairs (λ a b. a ≢ b) xs → slice_get xs m ≡ Some x → slice_get xs n ≡ Some x → m ≡ n
one_place xs m n x once here there =
    elim (cases_order m n) [
      | inl same ↦ same
      | inr (inl before) ↦
          absurd (once m n x before (slice_get_within xs n x there) (get_or_from_slice_get xs m x x here ∙ sym (get_or_from_slice_get xs n x x there)))
      | inr (inr after) ↦
          absurd (once n m x after (slice_get_within xs m x here) (get_or_from_slice_get xs n x x there ∙ sym (get_or_from_slice_get xs m x x here)))
    ]

-- whether a number is among some
pub Decides-number : (numbers : List ℕ) (n : ℕ) → Decides (list_any (λ y. eqb y n) numbers) (Contains numbers n)
Decides-number numbers n = (
  λ h. let found = some_member (λ y. eqb y n) numbers h in subst (Contains numbers) (eqb-true found.0 n found.2) found.1,
  λ found. any_from (λ y. eqb y n) numbers n found (eq-eqb n n refl),
)

-- what an option that is chosen or mapped was before
pub chosen : {X : Type 0} (b : Bool) (o : Option X) (x : X) → cond b o None ≡ Some x → (b ≡ true) × (o ≡ Some x)
chosen true o x h = (refl, h)
chosen false o x h = absurd (none-some x h)

pub mapped : {X Y : Type 0} (f : X → Y) (o : Option X) (y : Y) → option_map f o ≡ Some y → (x : X) × (o ≡ Some x) × (f x ≡ y)
mapped f None y h = absurd (none-some y h)
mapped f (Some x) y h = (x, refl, same_Some (f x) y h)
