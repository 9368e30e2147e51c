use Rattle.std.proofs.Common.{◌≡◌, ◌<◌, ◌≤◌, List, ℕ, length, sym, ap, subst, ◌∙◌, arith}
use Rattle.std.specs.List.{slice_range}
use Rattle.std.proofs.lemmas.List.{get_or_read}
use Rattle.mp_rows.specs.declared.chains.Link.{Link}
use Rattle.mp_rows.specs.Apart.{row_at}
use Rattle.mp_rows.specs.Chains.{link_at, no_link, places}
use Rattle.mp_rows.proofs.RowLemmas.{inside_at, places_long, row_is, rows_long}
use Rattle.mp_rows.proofs.rows.Rows.row.Goals as goal

pub words_of-requires : goal.words_of-requires
words_of-requires c =
    let s = c.self.inside in
    let there = subst (λ (rows : List (List ℕ)). c.args.number < length rows) (sym c.self.view_is) c.requires in
    let inside : c.args.number < length s.links.items = omega (arith, there, rows_long s.words.items (places s.links.items), places_long s.links.items) in
    let read : c.index.result.now ≡ link_at s.links.items c.args.number = get_or_read s.links.items c.args.number _ inside c.index.ensures no_link in
    subst (λ (ws : List ℕ). (c.index.result.now.start ≤ c.index.result.now.end) × (c.index.result.now.end ≤ length ws)) (sym c.as_slice.ensures.value)
    (subst (λ (l : Link). (l.start ≤ l.end) × (l.end ≤ length s.words.items)) (sym read) (inside_at s.words.items s.links.items c.args.number c.self.invariant.placed inside))

pub returns : goal.returns
returns c =
    let s = c.self.inside in
    let there = subst (λ (rows : List (List ℕ)). c.args.number < length rows) (sym c.self.view_is) c.requires in
    let inside : c.args.number < length s.links.items = omega (arith, there, rows_long s.words.items (places s.links.items), places_long s.links.items) in
    let read : c.index.result.now ≡ link_at s.links.items c.args.number = get_or_read s.links.items c.args.number _ inside c.index.ensures no_link in
    c.words_of.ensures
    ∙ (λ j. slice_range (c.as_slice.ensures.value j) (read j).start (read j).end)
    ∙ sym (row_is s.words.items s.links.items c.args.number)
    ∙ ap (λ (rows : List (List ℕ)). row_at rows c.args.number) c.self.view_is
