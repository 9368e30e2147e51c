-- The places of the items that pass a test.
use Rattle.std.specs.Prelude.{ℕ, suc, Bool, List, [], ◌∷◌, if◌then◌else◌}

-- from a first place on
unfoldable pub numbers_where : {X : Type 0} → ℕ → (X → Bool) → List X → List ℕ
numbers_where place test [] = []
numbers_where place test (x ∷ xs) = if test x then place ∷ numbers_where (suc place) test xs else numbers_where (suc place) test xs
