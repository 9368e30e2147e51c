use Rattle.std.proofs.Common.{◌≡◌, ◌++◌, ◌∷◌, [], length, ◌∙◌, rules}
use Rattle.mp_relaxed.proofs.RowLemmas.{rows_pushed}
use Rattle.mp_relaxed.proofs.rows.Rows.push.Goals as goal

pub returns : goal.returns
returns c =
    let at : c.in_ok-start.start ≡ length c.self.inside.items.items = search rules in
    let long : c.in_ok-len.len ≡ length c.args.row.now = search rules in
    let pushed = rows_pushed c.self.inside.items.items c.args.row.now _ c.self.inside.rows.items _ c.in_ok-start.start c.self.invariant c.in_ok-extend_from_slice.ensures.items at
    (c.in_ok-push.ensures.items ∙ (λ i. c.self.inside.rows.items ++ record { start = c.in_ok-start.start; len = long i } ∷ [])) in
    cc
