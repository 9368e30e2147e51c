-- What the fields of a list of rows stand for.
use Rattle.std.specs.Prelude.{◌≡◌, ℕ, ◌<◌, ◌≤◌, ◌^◌, List, length, map, All, slice_range}
use Rattle.mp_rows.specs.declared.chains.Link.{Link}
use Rattle.mp_rows.specs.Apart.{AreApart}
use Rattle.mp_rows.specs.Chains.{link_at, places, AreChained}
use Rattle.mp_rows.specs.Hashes.{hash_of}

-- the row at a place, which has the hash too
abbrev pub row_in : List ℕ → ℕ × (ℕ × ℕ) → List ℕ
row_in words p = slice_range words p.1.0 p.1.1

-- the rows at places
abbrev pub rows_at : List ℕ → List (ℕ × (ℕ × ℕ)) → List (List ℕ)
rows_at words ps = map (row_in words) ps

-- the row of a number
abbrev pub row_of : List ℕ → List Link → ℕ → List ℕ
row_of words links n = slice_range words (link_at links n).start (link_at links n).end

-- The places are among the words, have the hashes of their rows, and the rows are different.
pub record ArePlaced (words : List ℕ) (ps : List (ℕ × (ℕ × ℕ))) : Type 0 where
  pub inside : All (λ p. (p.1.0 ≤ p.1.1) × (p.1.1 ≤ length words)) ps
  pub hashed : All (λ p. p.0 ≡ hash_of (row_in words p)) ps
  pub apart : AreApart (rows_at words ps)

-- the fields of a list of rows
pub record AreRows (words : List ℕ) (links : List Link) (heads : List ℕ) : Type 0 where
  pub placed : ArePlaced words (places links)
  pub chained : AreChained heads links (length links)
  pub some : 0 < length links → 0 < length heads
  pub few : length heads < 2 ^ 32
  pub small : length links < 2 ^ 32
