-- Sets of borrowed names, seen as lists of names.
use Rattle.mp_typing.proofs.Basics.{◌≡◌, ◌||◌, cond, true, false, Bool, ℕ, List, [], ◌∷◌, refl, ap, Bor, list_any, bytes_eq, is_among}
use Rattle.std.specs.Prelude.{map}

pub among_keys : (keys : List (Bor (List ℕ))) (q : List ℕ) → is_among (map (λ k. k.now) keys) q ≡ list_any (λ k. bytes_eq q k.now) keys
among_keys [] q = refl
among_keys (k ∷ ks) q = ap (λ b. bytes_eq q k.now || b) (among_keys ks q)

pub cond_or : (a b : Bool) → cond a true b ≡ a || b
cond_or true b = refl
cond_or false b = refl
