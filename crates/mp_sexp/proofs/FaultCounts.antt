-- How one more byte changes what is counted of a beginning of a text.
use Rattle.std.proofs.Common.{◌≡◌, ℕ, ◌+◌, Bool, true, false, cond, eqb, List, [], ◌∷◌, ◌++◌, refl, ap, ◌∙◌, arith}
use Rattle.std.specs.Prelude.{◌==◌, count_by}
use Rattle.std.proofs.lemmas.Bool.{ne_eqb}
use Rattle.std.proofs.lemmas.List.{append-nil}
use Rattle.std.proofs.lemmas.List.Sums.{sum_by-append, sum_by-cons}
use Rattle.mp_sexp.specs.Bytes.{open_bracket, close_bracket, semicolon, line_feed}
use Rattle.mp_sexp.specs.Fault.{in_comment, still_in_comment, outside, behind_comment, opening, closing}

mutual
  pub in_comment-push : (t : List ℕ) (b : ℕ) → in_comment (t ++ b ∷ []) ≡ cond (in_comment t) (cond (b == line_feed) false true) (cond (b == semicolon) true false)
  in_comment-push [] b = refl
  in_comment-push (x ∷ t) b = elim (x == semicolon) as (λ v. cond v (still_in_comment (t ++ b ∷ [])) (in_comment (t ++ b ∷ [])) ≡ cond (cond v (still_in_comment t) (in_comment t)) (cond (b == line_feed) false true) (cond (b == semicolon) true false)) [
    | true ↦ still_in_comment-push t b
    | false ↦ in_comment-push t b
  ]

  still_in_comment-push : (t : List ℕ) (b : ℕ) → still_in_comment (t ++ b ∷ []) ≡ cond (still_in_comment t) (cond (b == line_feed) false true) (cond (b == semicolon) true false)
  still_in_comment-push [] b = refl
  still_in_comment-push (x ∷ t) b = elim (x == line_feed) as (λ v. cond v (in_comment (t ++ b ∷ [])) (still_in_comment (t ++ b ∷ [])) ≡ cond (cond v (in_comment t) (still_in_comment t)) (cond (b == line_feed) false true) (cond (b == semicolon) true false)) [
    | true ↦ in_comment-push t b
    | false ↦ still_in_comment-push t b
  ]

-- what one more byte adds to what stands outside comments
added : Bool → ℕ → List ℕ
added commented b = cond commented [] (cond (b == semicolon) [] (b ∷ []))

mutual
  unfolding added

  outside-push : (t : List ℕ) (b : ℕ) → outside (t ++ b ∷ []) ≡ outside t ++ added (in_comment t) b
  outside-push [] b = elim (b == semicolon) as (λ v. cond {A = List ℕ} v [] (b ∷ []) ≡ cond {A = List ℕ} v [] (b ∷ [])) [ true ↦ refl | false ↦ refl ]
  outside-push (x ∷ t) b = elim (x == semicolon) as (λ v. cond v (behind_comment (t ++ b ∷ [])) (x ∷ outside (t ++ b ∷ [])) ≡ cond v (behind_comment t) (x ∷ outside t) ++ added (cond v (still_in_comment t) (in_comment t)) b) [
    | true ↦ behind_comment-push t b
    | false ↦ ap (λ (u : List ℕ). x ∷ u) (outside-push t b)
  ]

  behind_comment-push : (t : List ℕ) (b : ℕ) → behind_comment (t ++ b ∷ []) ≡ behind_comment t ++ added (still_in_comment t) b
  behind_comment-push [] b = elim (b == line_feed) as (λ v. cond {A = List ℕ} v [] [] ≡ []) [ true ↦ refl | false ↦ refl ]
  behind_comment-push (x ∷ t) b = elim (x == line_feed) as (λ v. cond v (outside (t ++ b ∷ [])) (behind_comment (t ++ b ∷ [])) ≡ cond v (outside t) (behind_comment t) ++ added (cond v (in_comment t) (still_in_comment t)) b) [
    | true ↦ outside-push t b
    | false ↦ behind_comment-push t b
  ]

-- ---- the cases

abbrev pub counted : ℕ → List ℕ → ℕ
counted bracket text = count_by (λ c. c == bracket) text

outside_commented : (t : List ℕ) (b : ℕ) → in_comment t ≡ true → outside (t ++ b ∷ []) ≡ outside t
unfolding added
outside_commented t b h = outside-push t b ∙ rw h (append-nil (outside t))

outside_semicolon : (t : List ℕ) → in_comment t ≡ false → outside (t ++ semicolon ∷ []) ≡ outside t
unfolding added
outside_semicolon t h = outside-push t semicolon ∙ rw h (append-nil (outside t))

outside_more : (t : List ℕ) (b : ℕ) → in_comment t ≡ false → (b ≡ semicolon → ⊥) → outside (t ++ b ∷ []) ≡ outside t ++ b ∷ []
unfolding added
outside_more t b h n = outside-push t b ∙ rw (h, ne_eqb b semicolon n) refl

counted-push : (bracket : ℕ) (u : List ℕ) (b : ℕ) → counted bracket (u ++ b ∷ []) ≡ counted bracket u + cond (b == bracket) 1 0
counted-push bracket u b =
    let one = sum_by-cons (λ c. cond (c == bracket) 1 0) b [] in
    omega (arith, sum_by-append (λ c. cond (c == bracket) 1 0) u (b ∷ []), one)

pub count_commented : (t : List ℕ) (b : ℕ) → in_comment t ≡ true → (opening (t ++ b ∷ []) ≡ opening t) × (closing (t ++ b ∷ []) ≡ closing t)
count_commented t b h = (ap (counted open_bracket) (outside_commented t b h), ap (counted close_bracket) (outside_commented t b h))

pub count_semicolon : (t : List ℕ) → in_comment t ≡ false → (opening (t ++ semicolon ∷ []) ≡ opening t) × (closing (t ++ semicolon ∷ []) ≡ closing t)
count_semicolon t h = (ap (counted open_bracket) (outside_semicolon t h), ap (counted close_bracket) (outside_semicolon t h))

pub count_other : (t : List ℕ) (b : ℕ) → in_comment t ≡ false → (b ≡ semicolon → ⊥) → (b ≡ open_bracket → ⊥) → (b ≡ close_bracket → ⊥)
    → (opening (t ++ b ∷ []) ≡ opening t) × (closing (t ++ b ∷ []) ≡ closing t)
count_other t b h n o c =
    let none_opens : ◌≡◌ {A = ℕ} (cond (eqb b open_bracket) 1 0) 0 = rw (ne_eqb b open_bracket o) refl in
    let none_closes : ◌≡◌ {A = ℕ} (cond (eqb b close_bracket) 1 0) 0 = rw (ne_eqb b close_bracket c) refl in
    let more = outside_more t b h n in
    let opens : opening (t ++ b ∷ []) ≡ counted open_bracket (outside t ++ b ∷ []) = ap (counted open_bracket) more in
    let closes : closing (t ++ b ∷ []) ≡ counted close_bracket (outside t ++ b ∷ []) = ap (counted close_bracket) more in
    (omega (arith, opens, counted-push open_bracket (outside t) b, none_opens), omega (arith, closes, counted-push close_bracket (outside t) b, none_closes))

pub count_open : (t : List ℕ) → in_comment t ≡ false → (opening (t ++ open_bracket ∷ []) ≡ opening t + 1) × (closing (t ++ open_bracket ∷ []) ≡ closing t)
count_open t h =
    let more = outside_more t open_bracket h (λ e. absurd (omega (arith, e))) in
    let opens : opening (t ++ open_bracket ∷ []) ≡ counted open_bracket (outside t ++ open_bracket ∷ []) = ap (counted open_bracket) more in
    let closes : closing (t ++ open_bracket ∷ []) ≡ counted close_bracket (outside t ++ open_bracket ∷ []) = ap (counted close_bracket) more in
    (omega (arith, opens, counted-push open_bracket (outside t) open_bracket), omega (arith, closes, counted-push close_bracket (outside t) open_bracket))

pub count_close : (t : List ℕ) → in_comment t ≡ false → (opening (t ++ close_bracket ∷ []) ≡ opening t) × (closing (t ++ close_bracket ∷ []) ≡ closing t + 1)
count_close t h =
    let more = outside_more t close_bracket h (λ e. absurd (omega (arith, e))) in
    let opens : opening (t ++ close_bracket ∷ []) ≡ counted open_bracket (outside t ++ close_bracket ∷ []) = ap (counted open_bracket) more in
    let closes : closing (t ++ close_bracket ∷ []) ≡ counted close_bracket (outside t ++ close_bracket ∷ []) = ap (counted close_bracket) more in
    (omega (arith, opens, counted-push open_bracket (outside t) close_bracket), omega (arith, closes, counted-push close_bracket (outside t) close_bracket))

-- ---- comments

pub comment_stays : (t : List ℕ) (b : ℕ) → in_comment t ≡ false → (b ≡ semicolon → ⊥) → in_comment (t ++ b ∷ []) ≡ false
comment_stays t b h n = in_comment-push t b ∙ rw (h, ne_eqb b semicolon n) refl

pub comment_begins : (t : List ℕ) → in_comment t ≡ false → in_comment (t ++ semicolon ∷ []) ≡ true
comment_begins t h = in_comment-push t semicolon ∙ rw h refl

pub comment_after : (t : List ℕ) (b : ℕ) → in_comment t ≡ true → in_comment (t ++ b ∷ []) ≡ cond (b == line_feed) false true
comment_after t b h = in_comment-push t b ∙ rw h refl
