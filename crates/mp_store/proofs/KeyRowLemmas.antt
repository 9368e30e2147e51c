-- Rows that tell keys: different ones tell different keys, and tags that come leave them as they are.
use Rattle.std.proofs.Common.{◌≡◌, ℕ, ◌-◌, ◌^◌, ◌<◌, ◌≤◌, List, [], ◌∷◌, ◌++◌, length, drop, take, get_or, All, Option, Some, None, refl, sym, ap, subst, ◌∙◌, arith}
use Rattle.std.specs.Prelude.{IfNone, IfSome}
use Rattle.std.specs.Simd.Lanes.{digits_l}
use Rattle.std.proofs.lemmas.List.{get_or-map, get_or_append_left, length-append, length-map, map-append, take-map}
use Rattle.std.proofs.lemmas.List.Elements.{All-append, All-from_recursion, All-take}
use Rattle.mp_rows.specs.Apart.{row_at, AreOnce, IsNew}
use Rattle.mp_rows.proofs.RowLemmas.{once_less, once_more}
use Rattle.mp_sets.specs.Compared.{binary}
use Rattle.mp_sets.specs.Numbers.{SizedSet}
use Rattle.mp_sets.specs.Words.{words_for, ArePacked}
use Rattle.mp_sets.specs.declared.tag.Tag.{Tag}
use Rattle.mp_sets.proofs.ComparedLemmas.{digits_l-packed}
use Rattle.mp_sets.proofs.WordLemmas.{sized}
use Rattle.mp_store.specs.declared.key.Key.{Key}
use Rattle.mp_store.specs.KeyRows.{no_key, key_at, tags_at, size_in, place_in, mine_in, words_in, key_in, keys_at, IsKeyRow, AreKeys, AreTags, HasGrown}
use Rattle.mp_store.proofs.Mapped.{map-agree}

-- a row of three words and more
row_parts : (row : List ℕ) → 3 ≤ length row → row ≡ get_or row 0 0 ∷ get_or row 1 0 ∷ get_or row 2 0 ∷ drop 3 row
row_parts [] long = absurd (omega (arith, long))
row_parts (x ∷ []) long = absurd (omega (arith, long))
row_parts (x ∷ y ∷ []) long = absurd (omega (arith, long))
row_parts (x ∷ y ∷ z ∷ more) long = refl

-- words of one set are one list
words_same : (size other : ℕ) (words others : List ℕ) → ArePacked size words → ((k : ℕ) → get_or words k 0 < 2 ^ 64) → ArePacked other others → ((k : ℕ) → get_or others k 0 < 2 ^ 64)
    → sized size words ≡ sized other others → words ≡ others
words_same size other words others packed fits packed' fits' same =
    digits_l-packed size words packed fits
    ∙ ap (λ (s : SizedSet). digits_l (2 ^ 64) (words_for s.size) (binary s.members)) same
    ∙ sym (digits_l-packed other others packed' fits')

-- different rows tell different keys
pub rows_same : (tags : List (List Tag)) (a b : List ℕ) → AreTags tags → IsKeyRow (length tags) a → IsKeyRow (length tags) b → key_in tags a ≡ key_in tags b → a ≡ b
rows_same tags a b once is is' same =
    let sizes : size_in a ≡ size_in b = ap (λ (k : Key). k.publics.size) same in
    let places : place_in a ≡ place_in b = once (place_in a) (place_in b) is.known is'.known (ap (λ (k : Key). k.tags) same) in
    let mine : mine_in a ≡ mine_in b = ap (λ (k : Key). k.mine) same in
    let words : words_in a ≡ words_in b = words_same (size_in a) (size_in b) (words_in a) (words_in b) is.packed is.fits is'.packed is'.fits (ap (λ (k : Key). k.publics) same) in
    row_parts a is.long ∙ (λ j. sizes j ∷ places j ∷ mine j ∷ words j) ∙ sym (row_parts b is'.long)

pub keys_long : (tags : List (List Tag)) (rows : List (List ℕ)) → length (keys_at tags rows) ≡ length rows
keys_long tags rows = length-map rows (key_in tags)

pub key_is : (tags : List (List Tag)) (rows : List (List ℕ)) (n : ℕ) → n < length rows → key_at (keys_at tags rows) n ≡ key_in tags (row_at rows n)
key_is tags rows n inside = get_or-map (key_in tags) rows n [] no_key inside

pub keys_once : (tags : List (List Tag)) (rows : List (List ℕ)) → AreKeys tags rows → AreOnce no_key (keys_at tags rows)
keys_once tags rows are i j i_in j_in same =
    let long = keys_long tags rows in
    let i_row : i < length rows = omega (arith, long) in
    let j_row : j < length rows = omega (arith, long) in
    are.apart i j i_row j_row
    (rows_same tags (row_at rows i) (row_at rows j) are.tags_are (are.rows_are i [] i_row) (are.rows_are j [] j_row)
    (sym (key_is tags rows i i_row) ∙ same ∙ key_is tags rows j j_row))

-- ---- the row of a key

-- a size, a place of tags and words of public facts are those of a key
pub record AreParts (tags : List (List Tag)) (key : Key) (size place : ℕ) (words : List ℕ) : Type 0 where
  pub size_is : size ≡ key.publics.size
  pub small : size < 2 ^ 32
  pub inside : place < length tags
  pub there : tags_at tags place ≡ key.tags
  pub packed : ArePacked key.publics.size words
  pub set : sized key.publics.size words ≡ key.publics
  pub fits : (k : ℕ) → get_or words k 0 < 2 ^ 64

module _ (tags : List (List Tag)) (key : Key) (size place : ℕ) (words : List ℕ) (is : AreParts tags key size place words) where
  pub row_for : IsKeyRow (length tags) (size ∷ place ∷ key.mine ∷ words)
  row_for =
      record {
        long = omega arith;
        small = is.small;
        known = is.inside;
        packed = subst (λ (n : ℕ). ArePacked n words) (sym is.size_is) is.packed;
        fits = is.fits;
      }

  pub key_for : key_in tags (size ∷ place ∷ key.mine ∷ words) ≡ key
  key_for =
      (λ j. record { publics = sized (is.size_is j) words; mine = key.mine; tags = is.there j })
      ∙ (λ j. record { publics = is.set j; mine = key.mine; tags = key.tags })

  -- the row of the key is where the key is
  pub found_for : (rows : List (List ℕ)) (n : ℕ) → n < length rows → row_at rows n ≡ size ∷ place ∷ key.mine ∷ words → (n < length (keys_at tags rows)) × (key_at (keys_at tags rows) n ≡ key)
  found_for rows n inside there =
      (omega (arith, keys_long tags rows), key_is tags rows n inside ∙ ap (key_in tags) there ∙ key_for)

  pub none_for : (rows : List (List ℕ)) → AreKeys tags rows → IsNew (size ∷ place ∷ key.mine ∷ words) rows → (n : ℕ) → n < length (keys_at tags rows) → key_at (keys_at tags rows) n ≡ key → ⊥
  none_for rows are new n n_in same =
      let inside : n < length rows = omega (arith, keys_long tags rows) in
      new n inside (rows_same tags (row_at rows n) (size ∷ place ∷ key.mine ∷ words) are.tags_are (are.rows_are n [] inside) row_for (sym (key_is tags rows n inside) ∙ same ∙ sym key_for))

  pub found_if : (rows : List (List ℕ)) (r : Option ℕ) → IfSome r (λ n. (n < length rows) × (row_at rows n ≡ size ∷ place ∷ key.mine ∷ words)) → IfSome r (λ n. (n < length (keys_at tags rows)) × (key_at (keys_at tags rows) n ≡ key))
  found_if rows None found = tt
  found_if rows (Some n) found = found_for rows n found.0 found.1

  pub none_if : (rows : List (List ℕ)) (r : Option ℕ) → AreKeys tags rows → IfNone r (IsNew (size ∷ place ∷ key.mine ∷ words) rows) → IfNone r ((n : ℕ) → n < length (keys_at tags rows) → key_at (keys_at tags rows) n ≡ key → ⊥)
  none_if rows None are new = none_for rows are new
  none_if rows (Some n) are new = tt

  -- the key comes where it is not there
  pub new_for : (rows : List (List ℕ)) → ((n : ℕ) → n < length (keys_at tags rows) → key_at (keys_at tags rows) n ≡ key → ⊥) → IsNew (size ∷ place ∷ key.mine ∷ words) rows
  new_for rows new n inside there =
      let found = found_for rows n inside there in
      new n found.0 found.1

  pub keys_pushed : (rows : List (List ℕ)) → keys_at tags (rows ++ (size ∷ place ∷ key.mine ∷ words) ∷ []) ≡ keys_at tags rows ++ key ∷ []
  keys_pushed rows = map-append (key_in tags) rows ((size ∷ place ∷ key.mine ∷ words) ∷ []) ∙ (λ j. keys_at tags rows ++ key_for j ∷ [])

  pub are_pushed : (rows : List (List ℕ)) → AreKeys tags rows → IsNew (size ∷ place ∷ key.mine ∷ words) rows → AreKeys tags (rows ++ (size ∷ place ∷ key.mine ∷ words) ∷ [])
  are_pushed rows are new =
      record {
        rows_are = All-append (IsKeyRow (length tags)) rows ((size ∷ place ∷ key.mine ∷ words) ∷ []) are.rows_are (All-from_recursion (IsKeyRow (length tags)) ((size ∷ place ∷ key.mine ∷ words) ∷ []) (row_for, tt));
        apart = once_more [] rows (size ∷ place ∷ key.mine ∷ words) are.apart new;
        tags_are = are.tags_are;
      }

-- a key whose tags are nowhere is nowhere
pub none_without_tags : (tags : List (List Tag)) (rows : List (List ℕ)) (key : Key) → AreKeys tags rows → ((n : ℕ) → n < length tags → tags_at tags n ≡ key.tags → ⊥)
    → (n : ℕ) → n < length (keys_at tags rows) → key_at (keys_at tags rows) n ≡ key → ⊥
none_without_tags tags rows key are none n n_in same =
    let inside : n < length rows = omega (arith, keys_long tags rows) in
    let is = are.rows_are n [] inside in
    none (place_in (row_at rows n)) is.known (ap (λ (k : Key). k.tags) (sym (key_is tags rows n inside) ∙ same))

-- ---- tags that come

module _ (old new : List (List Tag)) (grown : HasGrown old new) where
  pub keys_grown : (rows : List (List ℕ)) → All (IsKeyRow (length old)) rows → keys_at new rows ≡ keys_at old rows
  keys_grown rows are =
      map-agree (key_in new) (IsKeyRow (length old)) (key_in old)
      (λ row is j. record { publics = sized (size_in row) (words_in row); mine = mine_in row; tags = grown.stay (place_in row) is.known j })
      rows are

  pub are_grown : (rows : List (List ℕ)) → AreKeys old rows → AreTags new → AreKeys new rows
  are_grown rows are tags =
      record {
        rows_are = λ k d h.
            let is = are.rows_are k d h in
            record { long = is.long; small = is.small; known = (let a = is.known in let b = grown.longer in omega (arith, a, b)); packed = is.packed; fits = is.fits };
        apart = are.apart;
        tags_are = tags;
      }

pub grown_not : (tags : List (List Tag)) → HasGrown tags tags
grown_not tags = record { longer = omega arith; stay = λ n h. refl }

pub grown_by : (tags : List (List Tag)) (more : List Tag) → HasGrown tags (tags ++ more ∷ [])
grown_by tags more =
    record {
      longer = omega (arith, length-append tags (more ∷ []));
      stay = λ n h. get_or_append_left tags (more ∷ []) [] n h;
    }

-- ---- the last key goes

pub are_popped : (tags : List (List Tag)) (rows : List (List ℕ)) (n : ℕ) → n ≤ length rows → AreKeys tags rows → AreKeys tags (take n rows)
are_popped tags rows n less are =
    record {
      rows_are = All-take (IsKeyRow (length tags)) n rows are.rows_are;
      apart = once_less [] rows n less are.apart;
      tags_are = are.tags_are;
    }

pub keys_popped : (tags : List (List Tag)) (rows : List (List ℕ)) → keys_at tags (take (length rows - 1) rows) ≡ take (length (keys_at tags rows) - 1) (keys_at tags rows)
keys_popped tags rows =
    sym (take-map (key_in tags) (length rows - 1) rows)
    ∙ ap (λ n. take (n - 1) (keys_at tags rows)) (sym (keys_long tags rows))

-- ---- tags in their list

pub are_added : (tags : List (List Tag)) (new : List Tag) → AreTags tags → ((n : ℕ) → n < length tags → tags_at tags n ≡ new → ⊥) → AreTags (tags ++ new ∷ [])
are_added tags new are none = once_more [] tags new are none
