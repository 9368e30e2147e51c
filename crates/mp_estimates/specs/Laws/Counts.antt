-- How many items of a list pass a test, where another test is wider.
use Rattle.std.proofs.Common.{◌≡◌, ◌+◌, ◌≤◌, Bool, true, false, cond, not, ◌&&◌, ◌||◌, List, [], ◌∷◌, Contains, refl, sym, subst, arith}
use Rattle.std.proofs.lemmas.Bool.{false≢true, and_from, not_from_false}
use Rattle.std.proofs.lemmas.List.Folds.{list_any_at}
use Rattle.std.proofs.lemmas.List.Sums.{sum_by-cons}
use Rattle.std.specs.List.{list_any, count_by}

-- a wider test counts more, and one more where it differs somewhere

pub count-mono : {X : Type 0} (p q : X → Bool) (xs : List X) → ((x : X) → q x ≡ true → p x ≡ true) → count_by q xs ≤ count_by p xs
count-mono p q [] h = omega arith
count-mono p q (x ∷ xs) h =
    let first = sum_by-cons (λ y. cond (q y) 1 0) x xs in
    let second = sum_by-cons (λ y. cond (p y) 1 0) x xs in
    let step = by (q x) (p x) (h x) (count-mono p q xs h) in
    omega arith
  where
    by : (b a : Bool) → (b ≡ true → a ≡ true) → count_by q xs ≤ count_by p xs → cond b 1 0 + count_by q xs ≤ cond a 1 0 + count_by p xs
    by true true f k = omega arith
    by true false f k = absurd (false≢true (f refl))
    by false true f k = omega arith
    by false false f k = omega arith

pub count_more : {X : Type 0} (p q : X → Bool) (xs : List X) → ((x : X) → q x ≡ true → p x ≡ true) → list_any (λ x. p x && not (q x)) xs ≡ true → count_by q xs + 1 ≤ count_by p xs
count_more p q [] h e = absurd (false≢true e)
count_more p q (x ∷ xs) h e =
    let first = sum_by-cons (λ y. cond (q y) 1 0) x xs in
    let second = sum_by-cons (λ y. cond (p y) 1 0) x xs in
    let step = by (q x) (p x) (h x) (count-mono p q xs h) (count_more p q xs h) e in
    omega arith
  where
    by : (b a : Bool) → (b ≡ true → a ≡ true) → count_by q xs ≤ count_by p xs → (list_any (λ y. p y && not (q y)) xs ≡ true → count_by q xs + 1 ≤ count_by p xs) → ((a && not b) || list_any (λ y. p y && not (q y)) xs) ≡ true → (cond b 1 0 + count_by q xs) + 1 ≤ cond a 1 0 + count_by p xs
    by true true f k rest e = let r = rest e in omega arith
    by true false f k rest e = absurd (false≢true (f refl))
    by false true f k rest e = omega arith
    by false false f k rest e = let r = rest e in omega arith

pub counted_at : {X : Type 0} (p q : X → Bool) (xs : List X) (x : X) → ((y : X) → q y ≡ true → p y ≡ true) → Contains xs x → p x ≡ true → q x ≡ false → count_by q xs + 1 ≤ count_by p xs
counted_at p q xs x h here now none =
    count_more p q xs h
    (list_any_at (λ y. p y && not (q y)) xs here.0 x here.1
    (subst (λ y. (p y && not (q y)) ≡ true) (sym here.2) (and_from _ _ now (not_from_false _ none))))

-- one that passes, where one does
pub one_of : {X : Type 0} (p : X → Bool) (xs : List X) → list_any p xs ≡ true → (x : X) × (p x ≡ true)
one_of p [] e = absurd (false≢true e)
one_of p (x ∷ xs) e = by (p x) refl (one_of p xs) e
  where
    by : (b : Bool) → p x ≡ b → (list_any p xs ≡ true → (y : _) × (p y ≡ true)) → (b || list_any p xs) ≡ true → (y : _) × (p y ≡ true)
    by true is rest e = (x, is)
    by false is rest e = rest e
