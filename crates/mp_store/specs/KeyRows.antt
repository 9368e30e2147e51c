-- Keys as rows of words, with their tags in a list of their own.
use Rattle.std.specs.Prelude.{◌≡◌, ℕ, ◌<◌, ◌≤◌, ◌^◌, List, [], length, map, drop, All, slice_index, slice_index_or}
use Rattle.std.specs.FinSet as set
use Rattle.mp_rows.specs.Apart.{AreApart, AreOnce}
use Rattle.mp_sets.specs.Numbers.{numbers_below}
use Rattle.mp_sets.specs.Words.{has_bit, ArePacked}
use Rattle.mp_sets.specs.declared.tag.Tag.{Tag}
use Rattle.mp_store.specs.declared.key.Key.{Key}

-- what stands past the end of a list of keys
abbrev pub no_key : Key
no_key = record { publics = record { size = 0; members = set.empty }; mine = 0; tags = [] }

abbrev pub key_at : List Key → ℕ → Key
key_at keys n = slice_index_or keys n no_key

-- the tags at a place, and none past the end
abbrev pub tags_at : List (List Tag) → ℕ → List Tag
tags_at tags n = slice_index_or tags n []

-- the parts of a row: the size of the public facts, the place of the tags, the index of the own set, and the words of the
-- public facts
abbrev pub size_in : List ℕ → ℕ
size_in row = slice_index row 0

abbrev pub place_in : List ℕ → ℕ
place_in row = slice_index row 1

abbrev pub mine_in : List ℕ → ℕ
mine_in row = slice_index row 2

abbrev pub words_in : List ℕ → List ℕ
words_in row = drop 3 row

-- the key of a row
abbrev pub key_in : List (List Tag) → List ℕ → Key
key_in tags row = record {
  publics = record { size = size_in row; members = numbers_below (size_in row) (has_bit (words_in row)) };
  mine = mine_in row;
  tags = tags_at tags (place_in row);
}

abbrev pub keys_at : List (List Tag) → List (List ℕ) → List Key
keys_at tags rows = map (key_in tags) rows

-- a row tells a key, whose tags are among so many
pub record IsKeyRow (tags : ℕ) (row : List ℕ) : Type 0 where
  pub long : 3 ≤ length row
  pub small : size_in row < 2 ^ 32
  pub known : place_in row < tags
  pub packed : ArePacked (size_in row) (words_in row)
  pub fits : (k : ℕ) → slice_index (words_in row) k < 2 ^ 64

-- no two lists of tags are the same
abbrev pub AreTags : List (List Tag) → Type 0
AreTags tags = AreOnce [] tags

-- different rows of keys
pub record AreKeys (tags : List (List Tag)) (rows : List (List ℕ)) : Type 0 where
  pub rows_are : All (IsKeyRow (length tags)) rows
  pub apart : AreApart rows
  pub tags_are : AreTags tags

-- tags stay in their places when others come
pub record HasGrown (old new : List (List Tag)) : Type 0 where
  pub longer : length old ≤ length new
  pub stay : (n : ℕ) → n < length old → tags_at new n ≡ tags_at old n
