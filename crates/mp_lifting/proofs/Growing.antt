-- Lists that are made item by item.
use Rattle.mp_lifting.proofs.Basics.{◌≡◌, ℕ, ◌+◌, ◌<◌, List, [], ◌∷◌, ◌++◌, map, length, get_or, take, Bor, Option, Some, None, refl, sym, ap, ◌∙◌, filter, map-append, append-nil, filter-append}
use Rattle.std.specs.Prelude.{Bool, true, false}
use Rattle.std.specs.List.{filter_map}
use Rattle.std.proofs.lemmas.List.{take_more}
use Rattle.std.proofs.lemmas.List.Elements.{filter_map-append}

-- the items up to a place, with the one there
pub one_more : {X : Type 0} (xs : List X) (i : ℕ) (x : X) → i < length xs → x ≡ get_or xs i x → take (i + 1) xs ≡ take i xs ++ x ∷ []
one_more xs i x lt is = take_more xs i x lt ∙ ap (λ y. take i xs ++ y ∷ []) (sym is)

pub mapped_more : {X Y : Type 0} (f : X → Y) (xs : List X) (i : ℕ) (x : X) (made : List Y) → i < length xs → x ≡ get_or xs i x
    → made ≡ map f (take i xs) → made ++ f x ∷ [] ≡ map f (take (i + 1) xs)
mapped_more f xs i x made lt is so_far =
    ap (λ ys. ys ++ f x ∷ []) so_far ∙ sym (ap (map f) (one_more xs i x lt is) ∙ map-append f (take i xs) (x ∷ []))

-- what is made of borrowed items is made of the items
pub of_borrowed : {X Y : Type 0} (f : X → Y) (xs : List (Bor X)) → map (λ (x : Bor X). f x.now) xs ≡ map f (map (λ (x : Bor X). x.now) xs)
of_borrowed f [] = refl
of_borrowed f (x ∷ xs) = ap (λ ys. f x.now ∷ ys) (of_borrowed f xs)

-- an item that gives something, and one that gives nothing
pub given_more : {X Y : Type 0} (f : X → Option Y) (xs : List X) (i : ℕ) (x : X) (y : Y) (made : List Y) → i < length xs → x ≡ get_or xs i x
    → f x ≡ Some y → made ≡ filter_map f (take i xs) → made ++ y ∷ [] ≡ filter_map f (take (i + 1) xs)
given_more f xs i x y made lt is gives so_far =
    let one : filter_map f (x ∷ []) ≡ y ∷ [] = rw gives refl in
    ap (λ ys. ys ++ y ∷ []) so_far
    ∙ sym (ap (filter_map f) (one_more xs i x lt is) ∙ filter_map-append f (take i xs) (x ∷ []) ∙ ap (λ ys. filter_map f (take i xs) ++ ys) one)

pub given_nothing : {X Y : Type 0} (f : X → Option Y) (xs : List X) (i : ℕ) (x : X) (made : List Y) → i < length xs → x ≡ get_or xs i x
    → f x ≡ None → made ≡ filter_map f (take i xs) → made ≡ filter_map f (take (i + 1) xs)
given_nothing f xs i x made lt is gives so_far =
    let none : filter_map f (x ∷ []) ≡ [] = rw gives refl in
    so_far ∙ sym (append-nil (filter_map f (take i xs)))
    ∙ sym (ap (filter_map f) (one_more xs i x lt is) ∙ filter_map-append f (take i xs) (x ∷ []) ∙ ap (λ ys. filter_map f (take i xs) ++ ys) none)

-- an item that passes, and one that doesn't
filtered : {X Y : Type 0} (p : X → Bool) (f : X → Y) (xs : List X) (i : ℕ) (x : X) → i < length xs → x ≡ get_or xs i x
    → map f (filter p (take (i + 1) xs)) ≡ map f (filter p (take i xs)) ++ map f (filter p (x ∷ []))
filtered p f xs i x lt is =
    ap (λ ys. map f (filter p ys)) (one_more xs i x lt is) ∙ ap (map f) (filter-append p (take i xs) (x ∷ []))
    ∙ map-append f (filter p (take i xs)) (filter p (x ∷ []))

pub filtered_more : {X Y : Type 0} (p : X → Bool) (f : X → Y) (xs : List X) (i : ℕ) (x : X) (made : List Y) → i < length xs → x ≡ get_or xs i x
    → p x ≡ true → made ≡ map f (filter p (take i xs)) → made ++ f x ∷ [] ≡ map f (filter p (take (i + 1) xs))
filtered_more p f xs i x made lt is passes so_far =
    let one : map f (filter p (x ∷ [])) ≡ f x ∷ [] = rw passes refl in
    ap (λ ys. ys ++ f x ∷ []) so_far ∙ sym (filtered p f xs i x lt is ∙ ap (λ ys. map f (filter p (take i xs)) ++ ys) one)

pub filtered_same : {X Y : Type 0} (p : X → Bool) (f : X → Y) (xs : List X) (i : ℕ) (x : X) (made : List Y) → i < length xs → x ≡ get_or xs i x
    → p x ≡ false → made ≡ map f (filter p (take i xs)) → made ≡ map f (filter p (take (i + 1) xs))
filtered_same p f xs i x made lt is fails so_far =
    let none : map f (filter p (x ∷ [])) ≡ [] = rw fails refl in
    so_far ∙ sym (filtered p f xs i x lt is ∙ ap (λ ys. map f (filter p (take i xs)) ++ ys) none ∙ append-nil (map f (filter p (take i xs))))
