use Rattle.std.proofs.Common.{◌≡◌, ◌+◌, ◌-◌, List, length, rules, sym, ap, subst, ◌∙◌, arith}
use Rattle.mp_rows.specs.declared.chains.Link.{Link}
use Rattle.mp_rows.specs.Chains.{places}
use Rattle.mp_rows.specs.RowFields.{rows_at, AreRows}
use Rattle.mp_rows.proofs.RowLemmas.{places_long, rows_long, rows_removed, rows_taken, taken_none}
use Rattle.mp_rows.proofs.rows.pop_row.Goals as goal

pub returns-then-is_empty-clause-popped : goal.returns-then-is_empty-clause-popped
returns-then-is_empty-clause-popped c =
    let words = c.args.words.now.items in
    let links = c.args.links.now.items in
    let none : length links ≡ 0 = search rules in
    taken_none (rows_at words (places links)) (rows_long words (places links) ∙ places_long links ∙ none)

pub returns-clause-rows : goal.returns-clause-rows
returns-clause-rows c =
    let words = c.args.words.now.items in
    let links = c.args.links.now.items in
    let n = c.len-last.result - 1 in
    let last : n + 1 ≡ length links = search rules in
    subst (λ (ls : List Link). AreRows words ls c.unchain.new.heads.items) (sym c.truncate.ensures.items)
    (rows_removed words links c.args.heads.now.items c.unchain.new.heads.items n c.requires (omega (arith, last)) c.unchain.ensures.chained c.unchain.ensures.heads)

pub returns-clause-popped : goal.returns-clause-popped
returns-clause-popped c =
    let words = c.args.words.now.items in
    let links = c.args.links.now.items in
    let n = c.len-last.result - 1 in
    let last : n + 1 ≡ length links = search rules in
    ap (λ (ls : List Link). rows_at words (places ls)) c.truncate.ensures.items ∙ rows_taken words links n last
