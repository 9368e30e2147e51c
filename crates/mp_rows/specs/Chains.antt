-- Rows of one bucket, of which each leads to the last one before it.
use Rattle.std.specs.Prelude.{◌≡◌, ℕ, suc, ◌<◌, ◌≤◌, Bool, true, false, ◌==◌, List, length, map, slice_index, slice_index_or}
use Rattle.mp_rows.specs.declared.chains.Link.{Link}
use Rattle.mp_rows.specs.Hashes.{bucket}

-- what stands past the end of a list of links
abbrev pub no_link : Link
no_link = record { hash = 0; before = 0; start = 0; end = 0 }

abbrev pub link_at : List Link → ℕ → Link
link_at links k = slice_index_or links k no_link

-- where rows stand, with their hashes
abbrev pub place : Link → ℕ × (ℕ × ℕ)
place l = (l.hash, (l.start, l.end))

abbrev pub places : List Link → List (ℕ × (ℕ × ℕ))
places links = map place links

-- whether the row of a number is in a bucket
abbrev pub is_in : ℕ → List Link → ℕ → ℕ → Bool
is_in buckets links b k = bucket buckets (link_at links k).hash == b

-- a number is one more than the last number below a bound that passes a test, or it is 0 where there is none
pub record IsLastBelow (test : ℕ → Bool) (bound last : ℕ) : Type 0 where
  pub within : last ≤ bound
  pub passes : (k : ℕ) → last ≡ suc k → test k ≡ true
  pub after : (k : ℕ) → last ≤ k → k < bound → test k ≡ false

-- The first rows, so many, are in their buckets: a bucket leads to the last one of them that it has, and each
-- of them to the last one before it in its bucket.
pub record AreChained (heads : List ℕ) (links : List Link) (count : ℕ) : Type 0 where
  pub heads_lead : (b : ℕ) → b < length heads
      → IsLastBelow (is_in (length heads) links b) count (slice_index heads b)
  pub links_lead : (k : ℕ) → k < count
      → IsLastBelow (is_in (length heads) links (bucket (length heads) (link_at links k).hash)) k (link_at links k).before
