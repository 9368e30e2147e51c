-- Lists that are compared place by place.
use Rattle.std.proofs.Common.{arith, ◌≡◌, ℕ, zero, suc, List, [], ◌∷◌, map, length, Some, slice_get, All, refl, sym, ◌∙◌}
use Rattle.std.proofs.lemmas.List.{map-id}
use Rattle.std.proofs.lemmas.List.Elements.{All-contains}
use Rattle.mp_grounder.proofs.Members.{map_on}

-- two lists that two functions take to the same, place by place
pub mapped_alike : {X Y Z : Type 0} (p : X → Z) (q : Y → Z) (xs : List X) (ys : List Y) → length ys ≡ length xs
    → ((n : ℕ) (x : X) (y : Y) → slice_get xs n ≡ Some x → slice_get ys n ≡ Some y → q y ≡ p x)
    → map q ys ≡ map p xs
mapped_alike p q [] [] long each = refl
mapped_alike p q [] (y ∷ ys) long each = absurd (omega (arith, long))
mapped_alike p q (x ∷ xs) [] long each = absurd (omega (arith, long))
mapped_alike p q (x ∷ xs) (y ∷ ys) long each =
    let first = each 0 x y refl refl in
    let rest = mapped_alike p q xs ys (omega (arith, long)) (λ n z w there here. each (suc n) z w there here) in
    λ i. first i ∷ rest i

-- two lists that are the same place by place
pub same_by_place : {X : Type 0} (xs ys : List X) → length ys ≡ length xs
    → ((n : ℕ) (x y : X) → slice_get xs n ≡ Some x → slice_get ys n ≡ Some y → y ≡ x)
    → ys ≡ xs
same_by_place xs ys long each = sym (map-id ys) ∙ mapped_alike (λ x. x) (λ y. y) xs ys long each ∙ map-id xs

-- a place of one list is a place of one as long
pub also_at : {X Y : Type 0} (xs : List X) (ys : List Y) → length ys ≡ length xs → (n : ℕ) (x : X)
    → slice_get xs n ≡ Some x
    → (y : Y) × (slice_get ys n ≡ Some y)
also_at [] ys long n x there = absurd (cc)
also_at (z ∷ zs) [] long n x there = absurd (omega (arith, long))
also_at (z ∷ zs) (y ∷ ys) long zero x there = (y, refl)
also_at (z ∷ zs) (y ∷ ys) long (suc n) x there = also_at zs ys (omega (arith, long)) n x there

-- functions that agree where something holds map alike a list of all of whose items it holds
pub mapped_where : {X Y : Type 0} (P : X → Type 0) (p q : X → Y) → ((x : X) → P x → q x ≡ p x) → (xs : List X)
    → All P xs → map q xs ≡ map p xs
mapped_where P p q each xs all = map_on q p xs (λ x found. each x (All-contains P xs x all found))
