-- Lists that are mapped and filtered.
use Rattle.std.proofs.Common.{◌≡◌, ℕ, Bool, true, false, cond, eqb, ◌||◌, List, [], ◌∷◌, map, All, refl, sym, ap, ◌∙◌}
use Rattle.std.proofs.lemmas.Bool.{false≢true, eqb-true, or_left, or_right}
use Rattle.std.proofs.lemmas.List.Elements.{All-head, All-tail, All-cons, All-nil, All-append}
use Rattle.std.specs.List.{filter, flat_map, list_any}

pub All-flat_map : {X Y : Type 0} (P : Y → Type 0) (f : X → List Y) (xs : List X) → All (λ x. All P (f x)) xs → All P (flat_map f xs)
All-flat_map P f [] h = All-nil P
All-flat_map P f (x ∷ xs) h =
    All-append P (f x) (flat_map f xs) (All-head (λ y. All P (f y)) x xs h) (All-flat_map P f xs (All-tail (λ y. All P (f y)) x xs h))

-- what holds of all that a function gives holds of what it gives of each
pub All_mapped : {X Y : Type 0} (P : Y → Type 0) (f : X → Y) (xs : List X) → All P (map f xs) → All (λ x. P (f x)) xs
All_mapped P f [] h = All-nil (λ x. P (f x))
All_mapped P f (x ∷ xs) h =
    All-cons (λ y. P (f y)) x xs (All-head P (f x) (map f xs) h) (All_mapped P f xs (All-tail P (f x) (map f xs) h))

-- what holds of all that pass a test holds of each one that passes it
pub All_filtered : {X : Type 0} (P : X → Type 0) (p : X → Bool) (xs : List X) → All P (filter p xs) → All (λ x. p x ≡ true → P x) xs
All_filtered P p [] h = All-nil (λ x. p x ≡ true → P x)
All_filtered P p (x ∷ xs) h = by (p x) refl h (All_filtered P p xs)
  where
    by : (b : Bool) → p x ≡ b → All P (cond b (x ∷ filter p xs) (filter p xs)) → (All P (filter p xs) → All (λ y. p y ≡ true → P y) xs) → All (λ y. p y ≡ true → P y) (x ∷ xs)
    by true e all rest =
        All-cons (λ y. p y ≡ true → P y) x xs (λ _. All-head P x (filter p xs) all) (rest (All-tail P x (filter p xs) all))
    by false e all rest =
        All-cons (λ y. p y ≡ true → P y) x xs (λ t. absurd (false≢true (sym e ∙ t))) (rest all)

-- a number that is among those that pass a test
pub any_filtered : (p : ℕ → Bool) (q : ℕ) (xs : List ℕ) → list_any (λ y. eqb y q) xs ≡ true → p q ≡ true → list_any (λ y. eqb y q) (filter p xs) ≡ true
any_filtered p q [] e t = e
any_filtered p q (x ∷ xs) e t = by (p x) refl (eqb x q) refl e (any_filtered p q xs)
  where
    by : (b : Bool) → p x ≡ b → (a : Bool) → eqb x q ≡ a → (a || list_any (λ y. eqb y q) xs) ≡ true → (list_any (λ y. eqb y q) xs ≡ true → p q ≡ true → list_any (λ y. eqb y q) (filter p xs) ≡ true) → list_any (λ y. eqb y q) (cond b (x ∷ filter p xs) (filter p xs)) ≡ true
    by true is true same h rest = or_left (eqb x q) _ same
    by true is false same h rest = or_right (eqb x q) _ (rest h t)
    by false is true same h rest = absurd (false≢true (sym is ∙ ap p (eqb-true x q same) ∙ t))
    by false is false same h rest = rest h t

-- a number of a list that passes a test
pub any_passes : (p : ℕ → Bool) (q : ℕ) (xs : List ℕ) → list_any (λ y. eqb y q) xs ≡ true → p q ≡ true → list_any p xs ≡ true
any_passes p q [] e t = e
any_passes p q (x ∷ xs) e t = by (eqb x q) refl e (any_passes p q xs)
  where
    by : (a : Bool) → eqb x q ≡ a → (a || list_any (λ y. eqb y q) xs) ≡ true → (list_any (λ y. eqb y q) xs ≡ true → p q ≡ true → list_any p xs ≡ true) → (p x || list_any p xs) ≡ true
    by true same h rest = or_left (p x) _ (ap p (eqb-true x q same) ∙ t)
    by false same h rest = or_right (p x) _ (rest h t)
