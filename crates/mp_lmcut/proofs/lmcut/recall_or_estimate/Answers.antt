use Rattle.std.proofs.Common.{◌≡◌, true, eqb, length, sym, ◌∙◌, subst}
use Rattle.mp_relaxed.specs.Relaxed.{state_of}
use Rattle.mp_relaxed.specs.Memo.{value_in}
use Rattle.mp_lmcut.specs.Cut.{lmcut_of}
use Rattle.mp_lmcut.specs.Sides.{repriced}
use Rattle.mp_lmcut.proofs.RoundLemmas.{no_goals}
use Rattle.mp_lmcut.proofs.lmcut.recall_or_estimate.Goals as goal

pub returns-in_err-remember-clause-right : goal.returns-in_err-remember-clause-right
returns-in_err-remember-clause-right c =
    c.remember.ensures.right (value_in lmcut_of (repriced c.args.costs.now c.args.problem.now)) c.requires.right c.in_ok-found.ensures.found

pub returns-clause-right : goal.returns-clause-right
returns-clause-right c =
    c.remember.ensures.right (value_in lmcut_of (repriced c.args.costs.now c.args.problem.now)) c.requires.right c.in_ok-found.ensures.found

pub returns-then-is_empty-clause-found : goal.returns-then-is_empty-clause-found
returns-then-is_empty-clause-found c =
    let r = repriced c.args.costs.now c.args.problem.now in
    no_goals r.operators r.goals (state_of r c.args.publics.now.members c.args.privates.now.members)
    (subst (λ gs. eqb (length gs) 0 ≡ true) c.goals.ensures.value (sym c.is_empty.ensures ∙ c.if-is_empty.true))
