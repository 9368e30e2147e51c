-- Facts in rows by their numbers.
use Rattle.std.proofs.Common.{◌≡◌, ℕ, zero, suc, ◌+◌, ◌<◌, ◌≤◌, List, [], ◌∷◌, ◌++◌, All, length, get_or, map, refl, sym, ap, ◌∙◌, subst, ⊎_elim, get_or-set_same, get_or-set_other, arith}
use Rattle.std.proofs.Math.ListN.{set as set_at}
use Rattle.std.proofs.lemmas.Bool.{cases_eq, cases_lt}
use Rattle.std.proofs.Math.ListN.{get_or-append}
use Rattle.std.proofs.Math.Seq.{get_or-append_seam}
use Rattle.std.proofs.lemmas.List.{map-append, append_assoc, length-append, length-set, set-get_or}
use Rattle.std.proofs.lemmas.List.Elements.{All-nil, All-head, All-tail, All-append, All-map}
use Rattle.std.proofs.lemmas.List.Sorted.{IsPermutation-middle, IsPermutation-sym, IsPermutation-trans, IsPermutation-append_right}
use Rattle.std.specs.List.Sorted.{IsPermutation}
use Rattle.std.specs.declared.vec.Vec.{Vec}
use Rattle.mp_relaxed.specs.Places.{placed, AreEmpty, AreEmptyWithin}
use Rattle.mp_estimates.specs.Lowering.{Key, key}
use Rattle.mp_relaxed.specs.Search.{AreFrom}

module _ {Z : Type 0} where
  -- one fact more in a row is one entry more
  pub placed_more : (m i : ℕ) (rows : List (Vec ℕ Z)) (fewer more : Vec ℕ Z) (x : ℕ) → i < length rows → more.items ≡ fewer.items ++ x ∷ [] → IsPermutation (key (m + i) x ∷ placed m (set_at rows i fewer)) (placed m (set_at rows i more))
  placed_more m i [] fewer more x within e = absurd (omega arith)
  placed_more m zero (row ∷ rows) fewer more x within e =
      let whole : map (λ y. (m, y)) more.items ++ placed (m + 1) rows ≡ map (λ y. (m, y)) fewer.items ++ (key m x ∷ placed (m + 1) rows) =
      ap (λ l. map (λ y. (m, y)) l ++ placed (m + 1) rows) e
      ∙ ap (λ l. l ++ placed (m + 1) rows) (map-append (λ y. (m, y)) fewer.items (x ∷ []))
      ∙ append_assoc (map (λ y. (m, y)) fewer.items) (key m x ∷ []) (placed (m + 1) rows) in
      let same : m ≡ m + 0 = omega arith in
      subst (λ n. IsPermutation (key n x ∷ (map (λ y. (m, y)) fewer.items ++ placed (m + 1) rows)) (map (λ y. (m, y)) more.items ++ placed (m + 1) rows)) same
      (subst (IsPermutation (key m x ∷ (map (λ y. (m, y)) fewer.items ++ placed (m + 1) rows))) (sym whole)
      (IsPermutation-sym _ _ (IsPermutation-middle (map (λ y. (m, y)) fewer.items) (key m x) (placed (m + 1) rows))))
  placed_more m (suc i) (row ∷ rows) fewer more x within e =
      let same : (m + 1) + i ≡ m + suc i = omega arith in
      subst (λ n. IsPermutation (key n x ∷ (map (λ y. (m, y)) row.items ++ placed (m + 1) (set_at rows i fewer))) (map (λ y. (m, y)) row.items ++ placed (m + 1) (set_at rows i more))) same
      (IsPermutation-trans _ (map (λ y. (m, y)) row.items ++ (key ((m + 1) + i) x ∷ placed (m + 1) (set_at rows i fewer))) _
      (IsPermutation-sym _ _ (IsPermutation-middle (map (λ y. (m, y)) row.items) (key ((m + 1) + i) x) (placed (m + 1) (set_at rows i fewer))))
      (IsPermutation-append_right (map (λ y. (m, y)) row.items) _ _ (placed_more (m + 1) i rows fewer more x (omega arith) e)))

  -- rows without facts give no entries
  pub placed_none : (m : ℕ) (rows : List (Vec ℕ Z)) → AreEmpty rows → placed m rows ≡ []
  placed_none m [] none = refl
  placed_none m (row ∷ rows) none =
      (λ j. map (λ y. (m, y)) (All-head (λ (row : Vec ℕ Z). row.items ≡ []) row rows none j) ++ placed_none (m + 1) rows (All-tail (λ (row : Vec ℕ Z). row.items ≡ []) row rows none) j)

  -- a further row without facts gives no entry, and is empty

  pub placed_added : (m : ℕ) (rows : List (Vec ℕ Z)) (row : Vec ℕ Z) → row.items ≡ [] → placed m (rows ++ row ∷ []) ≡ placed m rows
  placed_added m [] row none = λ j. map (λ y. (m, y)) (none j) ++ []
  placed_added m (first ∷ rows) row none = ap (λ l. map (λ y. (m, y)) first.items ++ l) (placed_added (m + 1) rows row none)

  pub empty_added : (rows : List (Vec ℕ Z)) (row : Vec ℕ Z) (from to : ℕ) → row.items ≡ [] → AreEmptyWithin from to rows → AreEmptyWithin from to (rows ++ row ∷ [])
  empty_added rows row from to none empty = λ n d at lt within. ⊎_elim
      (λ less. ap (λ (r : Vec ℕ Z). r.items) (get_or-append rows (row ∷ []) d n less) ∙ empty n d at lt less)
      (λ le.
      let long = length-append rows (row ∷ []) in
      let last : n ≡ length rows = omega arith in
      ap (λ (r : Vec ℕ Z). r.items) (ap (λ k. get_or (rows ++ row ∷ []) k d) last ∙ get_or-append_seam rows row [] d) ∙ none)
      (cases_lt n (length rows))

  -- no entry has a number below the first row with a fact
  pub placed_from : (m least : ℕ) (rows : List (Vec ℕ Z)) → ((n : ℕ) (d : Vec ℕ Z) → m + n < least → n < length rows → (get_or rows n d).items ≡ []) → AreFrom least (placed m rows)
  placed_from m least [] none = All-nil (λ (k : Key). least ≤ k.0)
  placed_from m least (row ∷ rows) none =
      All-append (λ (k : Key). least ≤ k.0) (map (λ y. (m, y)) row.items) (placed (m + 1) rows)
      (⊎_elim
      (λ lt. subst (λ l. All (λ (k : Key). least ≤ k.0) (map (λ y. (m, y)) l)) (sym (none 0 row (omega arith) (omega arith))) (All-nil (λ (k : Key). least ≤ k.0)))
      (λ le. All-map (λ (k : Key). least ≤ k.0) (λ y. (m, y)) row.items (λ i d h. le))
      (cases_lt m least))
      (placed_from (m + 1) least rows (λ n d lt within. none (suc n) d (omega arith) (omega arith)))

  pub placed_pushed : (n : ℕ) (rows : List (Vec ℕ Z)) (old new : Vec ℕ Z) (x : ℕ) → n < length rows → old ≡ get_or rows n old → new.items ≡ old.items ++ x ∷ [] → IsPermutation (key n x ∷ placed 0 rows) (placed 0 (set_at rows n new))
  placed_pushed n rows old new x within at e =
      let same : 0 + n ≡ n = omega arith in
      subst (λ m. IsPermutation (key m x ∷ placed 0 rows) (placed 0 (set_at rows n new))) same
      (subst (λ l. IsPermutation (key (0 + n) x ∷ placed 0 l) (placed 0 (set_at rows n new))) (ap (set_at rows n) at ∙ set-get_or rows n old)
      (placed_more 0 n rows old new x within e))

  pub placed_popped : (n : ℕ) (rows : List (Vec ℕ Z)) (old new : Vec ℕ Z) (x : ℕ) → n < length rows → old ≡ get_or rows n old → old.items ≡ new.items ++ x ∷ [] → IsPermutation (placed 0 rows) (key n x ∷ placed 0 (set_at rows n new))
  placed_popped n rows old new x within at e =
      let same : 0 + n ≡ n = omega arith in
      IsPermutation-sym _ _
      (subst (λ m. IsPermutation (key m x ∷ placed 0 (set_at rows n new)) (placed 0 rows)) same
      (subst (λ l. IsPermutation (key (0 + n) x ∷ placed 0 (set_at rows n new)) (placed 0 l)) (ap (set_at rows n) at ∙ set-get_or rows n old)
      (placed_more 0 n rows new old x within e)))

  pub placed_least : (n : ℕ) (rows : List (Vec ℕ Z)) → AreEmptyWithin 0 n rows → AreFrom n (placed 0 rows)
  placed_least n rows below = placed_from 0 n rows (λ m d lt within. below m d (omega arith) (omega arith) within)

  -- rows that are empty

  pub empty_set : (rows : List (Vec ℕ Z)) (i n : ℕ) (row : Vec ℕ Z) → n ≤ i → AreEmptyWithin 0 n rows → AreEmptyWithin 0 n (set_at rows i row)
  empty_set rows i n row le below = λ m d from lt within.
      let long = length-set rows i row in
      ap (λ (r : Vec ℕ Z). r.items) (get_or-set_other rows i m row d (λ e. absurd (omega arith))) ∙ below m d from lt (omega arith)

  pub empty_more : (rows : List (Vec ℕ Z)) (i : ℕ) (row : Vec ℕ Z) → i < length rows → row.items ≡ [] → AreEmptyWithin 0 i rows → AreEmptyWithin 0 (i + 1) (set_at rows i row)
  empty_more rows i row inside none below = λ m d from lt within.
      let long = length-set rows i row in
      ⊎_elim
      (λ e. subst (λ j. (get_or (set_at rows i row) j d).items ≡ []) (sym e) (ap (λ (r : Vec ℕ Z). r.items) (get_or-set_same rows i row d inside) ∙ none))
      (λ ne. ap (λ (r : Vec ℕ Z). r.items) (get_or-set_other rows i m row d ne) ∙ below m d from (omega arith) (omega arith))
      (cases_eq m i)

  pub empty_joined : (rows : List (Vec ℕ Z)) (i n : ℕ) → AreEmptyWithin 0 i rows → AreEmptyWithin i n rows → AreEmptyWithin 0 n rows
  empty_joined rows i n below passed = λ m d from lt within. ⊎_elim
      (λ less. below m d from less within)
      (λ le. passed m d le lt within)
      (cases_lt m i)

  -- a row below those that are empty
  pub empty_above : (rows : List (Vec ℕ Z)) (i from to : ℕ) (row : Vec ℕ Z) → i < from → AreEmptyWithin from to rows → AreEmptyWithin from to (set_at rows i row)
  empty_above rows i from to row less above = λ m d at lt within.
      let long = length-set rows i row in
      ap (λ (r : Vec ℕ Z). r.items) (get_or-set_other rows i m row d (λ e. absurd (omega arith))) ∙ above m d at lt (omega arith)

  pub empty_later : (rows : List (Vec ℕ Z)) (from later to : ℕ) → from ≤ later → AreEmptyWithin from to rows → AreEmptyWithin later to rows
  empty_later rows from later to le above = λ m d at lt within. above m d (omega arith) lt within

  pub empty_fewer : (rows : List (Vec ℕ Z)) (i n : ℕ) → n ≤ i → AreEmptyWithin 0 i rows → AreEmptyWithin 0 n rows
  empty_fewer rows i n le below = λ m d from lt within. below m d from (omega arith) within

  pub empty_all : (rows : List (Vec ℕ Z)) (n : ℕ) → length rows ≤ n → AreEmptyWithin 0 n rows → AreEmpty rows
  empty_all rows n le below = λ m d within. below m d (omega arith) (omega arith) within
