use Rattle.std.proofs.Common.{◌≡◌, ℕ, ◌+◌, List, [], ◌∷◌, ◌++◌, length, sym, ap, subst, ◌∙◌}
use Rattle.std.specs.Prelude.{Result, Ok, Err, OnErr}
use Rattle.mp_rows.specs.Apart.{IsNew}
use Rattle.mp_rows.specs.Chains.{places}
use Rattle.mp_rows.specs.RowFields.{rows_at}
use Rattle.mp_rows.proofs.RowLemmas.{new_of, rows_more}
use Rattle.mp_rows.proofs.rows.push_row.Goals as goal

on_err : {T E P : Type 0} (r : Result T E) → P → OnErr r P
on_err (Ok x) p = tt
on_err (Err e) p = p

pub returns-in_err-make_room-clause-err : goal.returns-in_err-make_room-clause-err
returns-in_err-make_room-clause-err c =
    on_err c.from_residual-in_err-make_room.result (λ j. rows_at (c.make_room.ensures.words j) (c.make_room.ensures.places j))

pub add_row-requires-clause-new : goal.add_row-requires-clause-new
add_row-requires-clause-new c =
    let row = c.args.front.now ++ c.args.back.now in
    let words = c.make_room.new.words.items in
    let links = c.make_room.new.links.items in
    let same : rows_at words (places links) ≡ rows_at c.args.words.now.items (places c.args.links.now.items) = λ j. rows_at (c.make_room.ensures.words j) (c.make_room.ensures.places j) in
    new_of words row links (subst (IsNew row) (sym same) c.requires.new)

pub add_row-requires-clause-start : goal.add_row-requires-clause-start
add_row-requires-clause-start c = c.in_ok-link.ensures.start ∙ ap (λ (xs : List ℕ). length xs) (sym c.make_room.ensures.words)

pub add_row-requires-clause-end : goal.add_row-requires-clause-end
add_row-requires-clause-end c =
    c.in_ok-link.ensures.end ∙ ap (λ (xs : List ℕ). length xs + length (c.args.front.now ++ c.args.back.now)) (sym c.make_room.ensures.words)

pub returns-clause-pushed : goal.returns-clause-pushed
returns-clause-pushed c =
    let row = c.args.front.now ++ c.args.back.now in
    let words = c.make_room.new.words.items in
    let links = c.make_room.new.links.items in
    let same : rows_at words (places links) ≡ rows_at c.args.words.now.items (places c.args.links.now.items) = λ j. rows_at (c.make_room.ensures.words j) (c.make_room.ensures.places j) in
    let start : c.in_ok-link.link.start ≡ length words = c.in_ok-link.ensures.start ∙ ap (λ (xs : List ℕ). length xs) (sym c.make_room.ensures.words) in
    let end : c.in_ok-link.link.end ≡ length words + length row = c.in_ok-link.ensures.end ∙ ap (λ (xs : List ℕ). length xs + length row) (sym c.make_room.ensures.words) in
    (λ j. rows_at (c.add_row.ensures.words j) (c.add_row.ensures.places j))
    ∙ (λ j. rows_at (words ++ row) (places links ++ (c.in_ok-link.ensures.hash j, (start j, end j)) ∷ []))
    ∙ rows_more words row (places links) c.make_room.ensures.rows.placed
    ∙ ap (λ (rows : List (List ℕ)). rows ++ row ∷ []) same
