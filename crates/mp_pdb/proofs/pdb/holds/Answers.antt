use Rattle.std.proofs.Common.{◌≡◌, ◌+◌, ◌-◌, ap, sym, ◌∙◌, arith}
use Rattle.std.specs.FinSet as set
use Rattle.mp_task.specs.Projected.{projected_state}
use Rattle.mp_task.proofs.ProjectedState.{contains_private, contains_public}
use Rattle.mp_pdb.proofs.pdb.holds.Goals as goal

pub returns-then-fact-split : goal.returns-then-fact-split
returns-then-fact-split c = λ t pubs below.
    c.contains.ensures ∙ sym (contains_public t c.args.publics.now.members c.args.privates.now.members c.args.fact (omega (arith, c.if-fact-split.true)))

pub returns-else-fact-split : goal.returns-else-fact-split
returns-else-fact-split c = λ t pubs below.
    let p = c.args.publics.now.members in
    let q = c.args.privates.now.members in
    let at : t.publics + (c.args.fact - c.args.split) ≡ c.args.fact = omega (arith, c.if-fact-split.false) in
    c.contains-else-fact-split.ensures
    ∙ sym (contains_private t p q (c.args.fact - c.args.split) (omega (arith, c.if-fact-split.false)))
    ∙ ap (set.contains (projected_state t p q)) at
