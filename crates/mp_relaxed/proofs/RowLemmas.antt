-- Rows in an array that grows at its end.
use Rattle.std.proofs.Common.{◌≡◌, ℕ, List, [], ◌∷◌, ◌++◌, length, map, take, drop, All, refl, ap, ◌∙◌, length-drop, arith}
use Rattle.std.proofs.Math.Seq.{drop-append_seam}
use Rattle.std.proofs.lemmas.List.{take_all, drop-append-le, take-append-le, map-append}
use Rattle.std.proofs.lemmas.List.Elements.{All-head, All-tail}
use Rattle.mp_relaxed.specs.declared.rows.Row.{Row}
use Rattle.mp_relaxed.specs.Row.{row_of, IsWithin}

row_kept : (items more : List ℕ) (row : Row) → IsWithin items row → row_of (items ++ more) row ≡ row_of items row
row_kept items more row h =
    ap (take row.len) (drop-append-le row.start items more (omega arith))
    ∙ take-append-le row.len (drop row.start items) more (omega (arith, length-drop row.start items))

pub rows_kept : (items more grown : List ℕ) (rows : List Row) → All (IsWithin items) rows → grown ≡ items ++ more → map (row_of grown) rows ≡ map (row_of items) rows
rows_kept items more grown rows within e = ap (λ xs. map (row_of xs) rows) e ∙ by rows within
  where
    by : (rows : List Row) → All (IsWithin items) rows → map (row_of (items ++ more)) rows ≡ map (row_of items) rows
    by [] h = refl
    by (row ∷ rows) h = λ i. row_kept items more row (All-head (IsWithin items) row rows h) i ∷ by rows (All-tail (IsWithin items) row rows h) i

pub rows_pushed : (items row grown : List ℕ) (rows more : List Row) (start : ℕ) → All (IsWithin items) rows → grown ≡ items ++ row → start ≡ length items → more ≡ rows ++ record { start = start; len = length row } ∷ [] → map (row_of grown) more ≡ map (row_of items) rows ++ row ∷ []
rows_pushed items row grown rows more start within e at f =
    ap (map (row_of grown)) (f ∙ (λ i. rows ++ record { start = at i; len = length row } ∷ []))
    ∙ map-append (row_of grown) rows (record { start = length items; len = length row } ∷ [])
    ∙ (λ i. rows_kept items row grown rows within e i ++ last i ∷ [])
  where
    last : take (length row) (drop (length items) grown) ≡ row
    last = ap (λ xs. take (length row) (drop (length items) xs)) e ∙ ap (take (length row)) (drop-append_seam items row) ∙ take_all (length row) row (omega arith)
