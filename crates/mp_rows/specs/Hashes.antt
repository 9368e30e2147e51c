-- What rows of words are told apart by first: their hashes, and the buckets of these.
use Rattle.std.specs.Prelude.{ℕ, ◌*◌, ◌/◌, ◌%◌, ◌^◌, List, fold, bit_xor}

-- a number times an odd one, below 2 ^ 64
abbrev pub product : ℕ → ℕ
product n = (n * 0x9e3779b97f4a7c15) % 2 ^ 64

-- one number for another one and a word more
unfoldable pub with_word : ℕ → ℕ → ℕ
with_word n word = bit_xor (product (bit_xor n word)) (product (bit_xor n word) / 2 ^ 32)

-- the hash of a row
unfoldable pub hash_of : List ℕ → ℕ
hash_of row = fold with_word 0 row / 2 ^ 32

-- the bucket of a hash among so many
unfoldable pub bucket : ℕ → ℕ → ℕ
bucket buckets hash = (hash * buckets) / 2 ^ 32
