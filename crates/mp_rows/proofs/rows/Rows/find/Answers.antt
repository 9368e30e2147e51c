use Rattle.std.proofs.Common.{◌≡◌, ℕ, ◌<◌, ◌++◌, List, Option, Some, None, length, subst, ◌∙◌, arith}
use Rattle.std.specs.Prelude.{IfNone, IfSome}
use Rattle.mp_rows.specs.declared.chains.Link.{Link}
use Rattle.mp_rows.specs.Apart.{row_at, IsNew}
use Rattle.mp_rows.specs.Chains.{places}
use Rattle.mp_rows.specs.RowFields.{row_of, rows_at}
use Rattle.mp_rows.proofs.RowLemmas.{new_among, places_long, row_is, rows_long}
use Rattle.mp_rows.proofs.rows.Rows.find.Goals as goal

found_if : (words : List ℕ) (links : List Link) (sought : List ℕ) (r : Option ℕ) → IfSome r (λ n. (n < length links) × (row_of words links n ≡ sought))
    → IfSome r (λ n. (n < length (rows_at words (places links))) × (row_at (rows_at words (places links)) n ≡ sought))
found_if words links sought None found = tt
found_if words links sought (Some n) found =
    (let inside = found.0 in omega (arith, inside, rows_long words (places links), places_long links), row_is words links n ∙ found.1)

none_if : (words : List ℕ) (links : List Link) (sought : List ℕ) (r : Option ℕ) → IfNone r ((n : ℕ) → n < length links → row_of words links n ≡ sought → ⊥) → IfNone r (IsNew sought (rows_at words (places links)))
none_if words links sought None none = new_among words sought links none
none_if words links sought (Some n) none = tt

pub returns-clause-found : goal.returns-clause-found
returns-clause-found c =
    let words = c.as_slice.result.now in
    let links = c.as_slice-2.result.now in
    let sought = c.args.front.now ++ c.args.back.now in
    let is : rows_at words (places links) ≡ c.args.self.now = (λ j. rows_at (c.as_slice.ensures.value j) (places (c.as_slice-2.ensures.value j))) ∙ c.self.view_is in
    subst (λ (rows : List (List ℕ)). IfSome c.find_row.result (λ n. (n < length rows) × (row_at rows n ≡ sought))) is
    (found_if words links sought c.find_row.result c.find_row.ensures.found)

pub returns-clause-none : goal.returns-clause-none
returns-clause-none c =
    let words = c.as_slice.result.now in
    let links = c.as_slice-2.result.now in
    let sought = c.args.front.now ++ c.args.back.now in
    let is : rows_at words (places links) ≡ c.args.self.now = (λ j. rows_at (c.as_slice.ensures.value j) (places (c.as_slice-2.ensures.value j))) ∙ c.self.view_is in
    subst (λ (rows : List (List ℕ)). IfNone c.find_row.result (IsNew sought rows)) is
    (none_if words links sought c.find_row.result c.find_row.ensures.none)
