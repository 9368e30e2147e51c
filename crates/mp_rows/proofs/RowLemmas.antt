-- Rows at places among words: one more at the end, and the last one away.
use Rattle.std.proofs.Common.{◌≡◌, ℕ, ◌+◌, ◌-◌, ◌^◌, ◌<◌, ◌≤◌, List, [], ◌∷◌, ◌++◌, length, get_or, take, drop, All, lit<, refl, sym, ap, subst, ◌∙◌, arith, inl, inr}
use Rattle.std.specs.List.{slice_range}
use Rattle.std.proofs.Math.ListN.{get_or-map}
use Rattle.std.proofs.Math.Seq.{drop-append_seam, get_or-append_seam, take-length}
use Rattle.std.proofs.lemmas.Bool.{cases_lt}
use Rattle.std.proofs.lemmas.List.{drop-append-le, get_or-take, get_or_append_left, length-append, length-drop, length-map, length-take-le, map-append, take-append-le, take-map}
use Rattle.std.proofs.lemmas.List.Elements.{All-append, All-from_recursion, All-head, All-tail, All-take}
use Rattle.mp_rows.specs.declared.chains.Link.{Link}
use Rattle.mp_rows.specs.Apart.{row_at, AreApart, AreOnce, IsNew}
use Rattle.mp_rows.specs.Chains.{link_at, no_link, place, places, AreChained}
use Rattle.mp_rows.specs.Hashes.{hash_of}
use Rattle.mp_rows.specs.RowFields.{row_in, rows_at, row_of, ArePlaced, AreRows}
use Rattle.mp_rows.proofs.ChainLemmas.{chained_alike, chained_none}

-- a place, as links tell it and as the list of places does
pub place_at : (links : List Link) (n : ℕ) → get_or (places links) n (place no_link) ≡ place (link_at links n)
place_at links n = get_or-map place links n no_link

pub places_long : (links : List Link) → length (places links) ≡ length links
places_long links = length-map links place

pub rows_long : (words : List ℕ) (ps : List (ℕ × (ℕ × ℕ))) → length (rows_at words ps) ≡ length ps
rows_long words ps = length-map ps (row_in words)

-- the row past the end is empty: no words from no place on
row_past : (words : List ℕ) → row_in words (place no_link) ≡ []
row_past words = refl

pub row_is : (words : List ℕ) (links : List Link) (n : ℕ) → row_at (rows_at words (places links)) n ≡ row_of words links n
row_is words links n =
    ap (λ (d : List ℕ). get_or (rows_at words (places links)) n d) (sym (row_past words))
    ∙ get_or-map (row_in words) (places links) n (place no_link)
    ∙ ap (row_in words) (place_at links n)

-- what is known of the place of a row
pub inside_at : (words : List ℕ) (links : List Link) (n : ℕ) → ArePlaced words (places links) → n < length links → ((link_at links n).start ≤ (link_at links n).end) × ((link_at links n).end ≤ length words)
inside_at words links n placed inside =
    subst (λ (p : ℕ × (ℕ × ℕ)). (p.1.0 ≤ p.1.1) × (p.1.1 ≤ length words)) (place_at links n)
    (placed.inside n (place no_link) (let long = places_long links in omega arith))

pub hashed_at : (words : List ℕ) (links : List Link) (n : ℕ) → ArePlaced words (places links) → n < length links → (link_at links n).hash ≡ hash_of (row_of words links n)
hashed_at words links n placed inside =
    subst (λ (p : ℕ × (ℕ × ℕ)). p.0 ≡ hash_of (row_in words p)) (place_at links n)
    (placed.hashed n (place no_link) (let long = places_long links in omega arith))

-- ---- words more

-- a part of words stays when words follow
pub part_stays : (words more : List ℕ) (a b : ℕ) → a ≤ b → b ≤ length words → slice_range (words ++ more) a b ≡ slice_range words a b
part_stays words more a b order inside =
    ap (λ xs. take (b - a) xs) (drop-append-le a words more (omega arith))
    ∙ take-append-le (b - a) (drop a words) more (let long = length-drop a words in omega arith)

-- the part that was added
pub part_added : (words more : List ℕ) → slice_range (words ++ more) (length words) (length words + length more) ≡ more
part_added words more =
    ap (λ xs. take (length words + length more - length words) xs) (drop-append_seam words more)
    ∙ ap (λ n. take n more) (let e : length words + length more - length words ≡ length more = omega arith in e)
    ∙ take-length more

rows_stay : (words more : List ℕ) (ps : List (ℕ × (ℕ × ℕ))) → All (λ p. (p.1.0 ≤ p.1.1) × (p.1.1 ≤ length words)) ps → rows_at (words ++ more) ps ≡ rows_at words ps
rows_stay words more [] inside = refl
rows_stay words more (p ∷ ps) inside =
    let here = All-head (λ p. (p.1.0 ≤ p.1.1) × (p.1.1 ≤ length words)) p ps inside in
    λ j. part_stays words more p.1.0 p.1.1 here.0 here.1 j ∷ rows_stay words more ps (All-tail (λ p. (p.1.0 ≤ p.1.1) × (p.1.1 ≤ length words)) p ps inside) j

-- the place of a row that is added at the end
abbrev pub place_of_next : List ℕ → List ℕ → ℕ × (ℕ × ℕ)
place_of_next words row = (hash_of row, (length words, length words + length row))

pub rows_more : (words row : List ℕ) (ps : List (ℕ × (ℕ × ℕ))) → ArePlaced words ps → rows_at (words ++ row) (ps ++ place_of_next words row ∷ []) ≡ rows_at words ps ++ row ∷ []
rows_more words row ps placed =
    map-append (row_in (words ++ row)) ps (place_of_next words row ∷ [])
    ∙ (λ j. rows_stay words row ps placed.inside j ++ part_added words row j ∷ [])

-- a list with one item more that is not there
pub once_more : {X : Type 0} (d : X) (xs : List X) (x : X) → AreOnce d xs → ((n : ℕ) → n < length xs → get_or xs n d ≡ x → ⊥) → AreOnce d (xs ++ x ∷ [])
once_more {X} d xs x once new i j i_in j_in same =
    let long = length-append xs (x ∷ []) in
    elim (cases_lt i (length xs)) [
      | inl i_old ↦ elim (cases_lt j (length xs)) [
        | inl j_old ↦ once i j i_old j_old (sym (old i i_old) ∙ same ∙ old j j_old)
        | inr j_new ↦ absurd (new i i_old (sym (old i i_old) ∙ same ∙ last j (omega (arith, long))))
      ]
      | inr i_new ↦ elim (cases_lt j (length xs)) [
        | inl j_old ↦ absurd (new j j_old (sym (old j j_old) ∙ sym same ∙ last i (omega (arith, long))))
        | inr j_new ↦ omega (arith, long)
      ]
    ]
  where
    old : (k : ℕ) → k < length xs → get_or (xs ++ x ∷ []) k d ≡ get_or xs k d
    old k inside = get_or_append_left xs (x ∷ []) d k inside

    last : (k : ℕ) → k ≡ length xs → get_or (xs ++ x ∷ []) k d ≡ x
    last k is = ap (λ n. get_or (xs ++ x ∷ []) n d) is ∙ get_or-append_seam xs x [] d

-- the first items of a list
pub once_less : {X : Type 0} (d : X) (xs : List X) (n : ℕ) → n ≤ length xs → AreOnce d xs → AreOnce d (take n xs)
once_less d xs n less once i j i_in j_in same =
    let long = length-take-le n xs less in
    once i j (omega (arith, long)) (omega (arith, long))
    (sym (get_or-take n xs i d (omega (arith, long))) ∙ same ∙ get_or-take n xs j d (omega (arith, long)))

pub placed_more : (words row : List ℕ) (ps : List (ℕ × (ℕ × ℕ))) → ArePlaced words ps → IsNew row (rows_at words ps) → ArePlaced (words ++ row) (ps ++ place_of_next words row ∷ [])
placed_more words row ps placed new =
    let p = place_of_next words row in
    record {
      inside = All-append (λ q. (q.1.0 ≤ q.1.1) × (q.1.1 ≤ length (words ++ row))) ps (p ∷ [])
          (λ k d h. let old = placed.inside k d h in (old.0, let long = length-append words row in omega (arith, old.1)))
          (All-from_recursion (λ q. (q.1.0 ≤ q.1.1) × (q.1.1 ≤ length (words ++ row))) (p ∷ [])
          ((let ordered : length words ≤ length words + length row = omega arith in ordered, let within : length words + length row ≤ length (words ++ row) = omega (arith, length-append words row) in within), tt));
      hashed = All-append (λ q. q.0 ≡ hash_of (row_in (words ++ row) q)) ps (p ∷ [])
          (λ k d h. placed.hashed k d h ∙ ap hash_of (sym (let here = placed.inside k d h in part_stays words row (get_or ps k d).1.0 (get_or ps k d).1.1 here.0 here.1)))
          (All-from_recursion (λ q. q.0 ≡ hash_of (row_in (words ++ row) q)) (p ∷ []) (ap hash_of (sym (part_added words row)), tt));
      apart = subst AreApart (sym (rows_more words row ps placed)) (once_more [] (rows_at words ps) row placed.apart new);
    }

-- ---- rows less

pub placed_less : (words : List ℕ) (ps : List (ℕ × (ℕ × ℕ))) (n : ℕ) → n ≤ length ps → ArePlaced words ps → ArePlaced words (take n ps)
placed_less words ps n less placed =
    record {
      inside = All-take (λ p. (p.1.0 ≤ p.1.1) × (p.1.1 ≤ length words)) n ps placed.inside;
      hashed = All-take (λ p. p.0 ≡ hash_of (row_in words p)) n ps placed.hashed;
      apart = subst AreApart (take-map (row_in words) n ps) (once_less [] (rows_at words ps) n (omega (arith, rows_long words ps)) placed.apart);
    }

-- ---- the fields as a whole

-- no rows
pub no_rows : (words : List ℕ) (links : List Link) (heads : List ℕ) → links ≡ [] → heads ≡ [] → AreRows words links heads
no_rows words links heads no_links no_heads =
    subst (λ (ls : List Link). AreRows words ls heads) (sym no_links) (subst (AreRows words []) (sym no_heads) (none words))
  where
    none : (words : List ℕ) → AreRows words [] []
    none words = record {
      placed = record {
        inside = λ k d h. absurd (omega (arith, h));
        hashed = λ k d h. absurd (omega (arith, h));
        apart = λ i j h more same. absurd (omega (arith, h));
      };
      chained = chained_none [] [] (λ k d h. absurd (omega (arith, h)));
      some = λ h. h;
      few = lit< tt;
      small = lit< tt;
    }

-- one row more
pub rows_added : (words row : List ℕ) (links others : List Link) (heads more : List ℕ) → AreRows words links heads → IsNew row (rows_at words (places links))
    → places others ≡ places links ++ place_of_next words row ∷ [] → AreChained more others (length others) → 0 < length more → length more < 2 ^ 32 → length links + 1 < 2 ^ 32
    → AreRows (words ++ row) others more
rows_added words row links others heads more rows new same chained some few small =
    let long : length others ≡ length links + 1 =
    sym (places_long others) ∙ ap (λ (ps : List (ℕ × (ℕ × ℕ))). length ps) same ∙ length-append (places links) (place_of_next words row ∷ []) ∙ ap (λ n. n + 1) (places_long links) in
    record {
      placed = subst (ArePlaced (words ++ row)) (sym same) (placed_more words row (places links) rows.placed new);
      chained = chained;
      some = λ h. some;
      few = few;
      small = (let e = long in omega (arith, small, e));
    }

-- the last row away
pub rows_removed : (words : List ℕ) (links : List Link) (heads more : List ℕ) (n : ℕ) → AreRows words links heads → n ≤ length links → AreChained more links n → length more ≡ length heads
    → AreRows words (take n links) more
rows_removed words links heads more n rows less chained same =
    let long : length (take n links) ≡ n = length-take-le n links less in
    record {
      placed = subst (ArePlaced words) (take-map place n links) (placed_less words (places links) n (let e = places_long links in omega (arith, less, e)) rows.placed);
      chained = subst (AreChained more (take n links)) (sym long)
          (chained_alike more links (take n links) n (λ k h. sym (get_or-take n links k no_link h)) chained);
      some = λ h. (let e = same in let old = rows.some (let l = long in omega (arith, h, l, less)) in omega (arith, old, e));
      few = (let e = same in let old = rows.few in omega (arith, old, e));
      small = (let l = long in let old = rows.small in omega (arith, old, l, less));
    }

-- rows that are not among those at the places
pub new_among : (words row : List ℕ) (links : List Link) → ((n : ℕ) → n < length links → row_of words links n ≡ row → ⊥) → IsNew row (rows_at words (places links))
new_among words row links none n inside same =
    let all = rows_long words (places links) in
    let long = places_long links in
    none n (omega (arith, inside, all, long)) (sym (row_is words links n) ∙ same)

pub new_of : (words row : List ℕ) (links : List Link) → IsNew row (rows_at words (places links)) → (n : ℕ) → n < length links → row_of words links n ≡ row → ⊥
new_of words row links new n inside same =
    let all = rows_long words (places links) in
    let long = places_long links in
    new n (omega (arith, inside, all, long)) (row_is words links n ∙ same)

-- the rows without the last one
pub rows_taken : (words : List ℕ) (links : List Link) (n : ℕ) → n + 1 ≡ length links → rows_at words (places (take n links)) ≡ take (length (rows_at words (places links)) - 1) (rows_at words (places links))
rows_taken words links n last =
    ap (rows_at words) (sym (take-map place n links))
    ∙ sym (take-map (row_in words) n (places links))
    ∙ ap (λ (k : ℕ). take k (rows_at words (places links)))
    (let e : n ≡ length (rows_at words (places links)) - 1 = omega (arith, last, rows_long words (places links), places_long links) in e)

-- without rows nothing is taken away
pub taken_none : {X : Type 0} (xs : List X) → length xs ≡ 0 → xs ≡ take (length xs - 1) xs
taken_none [] none = refl
taken_none (x ∷ xs) none = absurd (omega (arith, none))
