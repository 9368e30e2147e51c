use Rattle.std.proofs.Common.{◌≡◌, ◌++◌, ◌∷◌, [], length, ap, ◌∙◌, arith, rules}
use Rattle.std.proofs.lemmas.List.{length-append}
use Rattle.mp_task.specs.Projected.{facts_of}
use Rattle.mp_relaxed.proofs.RowLemmas.{rows_pushed}
use Rattle.mp_relaxed.proofs.rows.Rows.push_facts.Goals as goal

pub returns : goal.returns
returns c =
    let old = c.self.inside.items.items in
    let row = facts_of c.args.publics c.args.pub_facts.now c.args.priv_facts.now in
    let at : c.in_ok-start.start ≡ length old = search rules in
    let long = ap length c.in_ok-gather.ensures.ok ∙ length-append old row in
    let len_is : c.in_ok-len.len ≡ length row = omega (arith, c.in_ok-len.ensures.ok) in
    let pushed = rows_pushed old row _ c.self.inside.rows.items _ c.in_ok-start.start c.self.invariant c.in_ok-gather.ensures.ok at
    (c.in_ok-push.ensures.items ∙ (λ i. c.self.inside.rows.items ++ record { start = c.in_ok-start.start; len = len_is i } ∷ [])) in
    cc
