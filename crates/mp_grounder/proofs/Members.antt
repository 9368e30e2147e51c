-- Members of mapped and joined lists; items at places of parts of a list; functions that agree on members.
use Rattle.mp_grounder.proofs.Basics.{arith, ◌≡◌, Bool, cond, ℕ, zero, suc, ◌+◌, ◌<◌, List, [], ◌∷◌, map, filter, take, drop, slice_get, refl, ap, ◌∙◌}
use Rattle.mp_grounder.proofs.Basics.{Contains, contains_head, contains_tail}

-- the item at a place among the first ones
pub get_taken : {X : Type 0} (m n : ℕ) (xs : List X) → n < m → slice_get (take m xs) n ≡ slice_get xs n
get_taken zero n xs less = absurd (omega (arith, less))
get_taken (suc m) n [] less = refl
get_taken (suc m) zero (x ∷ xs) less = refl
get_taken (suc m) (suc n) (x ∷ xs) less = get_taken m n xs (omega (arith, less))

-- and among those behind them
pub get_dropped : {X : Type 0} (m n : ℕ) (xs : List X) → slice_get (drop m xs) n ≡ slice_get xs (m + n)
get_dropped zero n xs = ap (slice_get xs) (let e : n ≡ 0 + n = omega arith in e)
get_dropped (suc m) n [] = refl
get_dropped (suc m) n (x ∷ xs) = get_dropped m n xs ∙ ap (slice_get (x ∷ xs)) (let e : suc (m + n) ≡ suc m + n = omega arith in e)

-- functions that agree on the members of a list map it alike
pub map_on : {X Y : Type 0} (f g : X → Y) (xs : List X) → ((x : X) → Contains xs x → f x ≡ g x) → map f xs ≡ map g xs
map_on f g [] h = refl
map_on f g (x ∷ xs) h = λ i. h x (contains_head x xs) i ∷ map_on f g xs (λ y there. h y (contains_tail x xs y there)) i

-- and tests that do take the same ones
pub filter_on : {X : Type 0} (p q : X → Bool) (xs : List X) → ((x : X) → Contains xs x → p x ≡ q x) → filter p xs ≡ filter q xs
filter_on p q [] h = refl
filter_on p q (x ∷ xs) h =
    ap (λ b. cond b (x ∷ filter p xs) (filter p xs)) (h x (contains_head x xs))
    ∙ ap (λ ys. cond (q x) (x ∷ ys) ys) (filter_on p q xs (λ y there. h y (contains_tail x xs y there)))
