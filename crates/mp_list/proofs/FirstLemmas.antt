-- The first of some items is one of them, and none of them comes before it.
use Rattle.std.proofs.Common.{◌≡◌, Bool, true, false, List, [], ◌∷◌, ◌++◌, Option, Some, None, refl, sym, subst, inl, inr}
use Rattle.std.specs.Prelude.{Contains, MatchOption, if◌then◌else◌}
use Rattle.mp_list.specs.First.{IsFirst, IsStrictOrder, earlier, leftmost}
use Rattle.mp_list.proofs.Members.{contains_head, contains_tail, contains_cases, no_member}

same_some : {X : Type 0} (a b : X) → Some a ≡ Some b → a ≡ b
same_some a b e = cc

abbrev IsLeast : {X : Type 0} → (X → X → Bool) → X → List X → X → Type 0
IsLeast {X} before known items f = Contains (known ∷ items) f × ((g : X) → Contains (known ∷ items) g → before g f ≡ false)

-- the known item is replaced by the next one, or kept
swapped : {X : Type 0} (before : X → X → Bool) → IsStrictOrder before → (known x f : X) (xs : List X)
    → before x known ≡ true → IsLeast before x xs f → IsLeast before known (x ∷ xs) f
swapped {X} before order known x f xs earlier_one (in_rest, least) = (
  contains_tail known (x ∷ xs) f in_rest,
  λ (g : X) (among : Contains (known ∷ x ∷ xs) g).
      elim (contains_cases known (x ∷ xs) g among) [
        | inl is ↦ subst (λ (k : X). before k f ≡ false) is
            (order.passes known x f (order.turns x known earlier_one) (least x (contains_head x xs)))
        | inr rest ↦ least g rest
      ],
)

kept : {X : Type 0} (before : X → X → Bool) → IsStrictOrder before → (known x f : X) (xs : List X)
    → before x known ≡ false → IsLeast before known xs f → IsLeast before known (x ∷ xs) f
kept {X} before order known x f xs behind (in_rest, least) = (
  elim (contains_cases known xs f in_rest) [
    | inl is ↦ subst (λ (k : X). Contains (known ∷ x ∷ xs) k) is (contains_head known (x ∷ xs))
    | inr rest ↦ contains_tail known (x ∷ xs) f (contains_tail x xs f rest)
  ],
  λ (g : X) (among : Contains (known ∷ x ∷ xs) g).
      elim (contains_cases known (x ∷ xs) g among) [
        | inl is ↦ least g (subst (λ (k : X). Contains (known ∷ xs) k) is (contains_head known xs))
        | inr rest ↦ elim (contains_cases x xs g rest) [
          | inl is ↦ subst (λ (k : X). before k f ≡ false) is (order.passes x known f behind (least known (contains_head known xs)))
          | inr others ↦ least g (contains_tail known xs g others)
        ]
      ],
)

least_of : {X : Type 0} (before : X → X → Bool) → IsStrictOrder before → (known f x : X) (xs : List X) (b : Bool)
    → ((k : X) → leftmost before (Some k) xs ≡ Some f → IsLeast before k xs f)
    → before x known ≡ b → leftmost before (Some (if b then x else known)) xs ≡ Some f → IsLeast before known (x ∷ xs) f
least_of before order known f x xs true shorter earlier_one e = swapped before order known x f xs earlier_one (shorter x e)
least_of before order known f x xs false shorter behind e = kept before order known x f xs behind (shorter known e)

least_from : {X : Type 0} (before : X → X → Bool) → IsStrictOrder before → (known f : X) (xs : List X)
    → leftmost before (Some known) xs ≡ Some f → IsLeast before known xs f
least_from {X} before order known f [] e = (
  subst (λ (k : X). Contains (known ∷ []) k) (same_some known f e) (contains_head known []),
  λ (g : X) (among : Contains (known ∷ []) g).
      elim (contains_cases known [] g among) [
        | inl is ↦ subst (λ (k : X). before k f ≡ false) is
            (subst (λ (k : X). before known k ≡ false) (same_some known f e) (order.itself known))
        | inr rest ↦ absurd (no_member g rest)
      ],
)
least_from {X} before order known f (x ∷ xs) e =
    least_of before order known f x xs (before x known)
    (λ (k : X) (h : leftmost before (Some k) xs ≡ Some f). least_from before order k f xs h) refl e

some_known : {X : Type 0} (before : X → X → Bool) (known : X) (xs : List X) → leftmost before (Some known) xs ≡ None → ⊥
some_known before known [] e = cc
some_known before known (x ∷ xs) e = some_known before (earlier before (Some known) x) xs e

-- nothing is found where there is nothing
pub nothing_found : {X : Type 0} (before : X → X → Bool) (items : List X) → leftmost before None items ≡ None → items ≡ []
nothing_found before [] e = refl
nothing_found before (x ∷ xs) e = absurd (some_known before x xs e)

-- what is found is the first
pub found_first : {X : Type 0} (before : X → X → Bool) → IsStrictOrder before → (items : List X) (f : X)
    → leftmost before None items ≡ Some f → IsFirst before items f
found_first before order [] f e = absurd (let impossible : ⊥ = cc in impossible)
found_first before order (x ∷ xs) f e =
    let least = least_from before order x f xs e in record { among = least.0; least = least.1 }

-- what is found, said of all items
pub found : {X : Type 0} (before : X → X → Bool) → IsStrictOrder before → (items : List X) (answer : Option X)
    → answer ≡ leftmost before None items → MatchOption answer (items ≡ []) (λ (f : X). IsFirst before items f)
found before order items None e = nothing_found before items (sym e)
found before order items (Some f) e = found_first before order items f (sym e)

-- what is found in one part, and then in the other
pub leftmost_append : {X : Type 0} (before : X → X → Bool) (known : Option X) (xs ys : List X)
    → leftmost before known (xs ++ ys) ≡ leftmost before (leftmost before known xs) ys
leftmost_append before known [] ys = refl
leftmost_append before known (x ∷ xs) ys = leftmost_append before (Some (earlier before known x)) xs ys

-- no item is the first of none
pub none_first : {X : Type 0} (before : X → X → Bool) (items : List X) (f : X) → items ≡ [] → IsFirst before items f → ⊥
none_first {X} before items f none is = no_member f (subst (λ (xs : List X). Contains xs f) none is.among)
