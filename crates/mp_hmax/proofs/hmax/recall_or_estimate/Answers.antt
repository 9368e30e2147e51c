use Rattle.std.proofs.Common.{ℕ, List, Option, length, ap, sym, ◌∙◌}
use Rattle.std.proofs.lemmas.Bool.{eqb-true}
use Rattle.std.proofs.lemmas.List.{nil_from_length}
use Rattle.mp_relaxed.specs.Memo.{value_in}
use Rattle.mp_relaxed.specs.Relaxed.{state_of}
use Rattle.mp_hmax.specs.Hmax.{hmax_of}
use Rattle.mp_hmax.proofs.hmax.recall_or_estimate.Goals as goal

pub returns-in_err-remember-clause-right : goal.returns-in_err-remember-clause-right
returns-in_err-remember-clause-right c =
    c.remember.ensures.right (value_in hmax_of c.args.problem.now) c.requires.right c.in_ok-found.ensures.found

pub returns-clause-right : goal.returns-clause-right
returns-clause-right c =
    c.remember.ensures.right (value_in hmax_of c.args.problem.now) c.requires.right c.in_ok-found.ensures.found

pub returns-then-is_empty-clause-found : goal.returns-then-is_empty-clause-found
returns-then-is_empty-clause-found c =
    let r = c.args.problem.now in
    let value : List ℕ → Option ℕ = λ goals. hmax_of r.operators goals (state_of r c.args.publics.now.members c.args.privates.now.members) in
    let none = nil_from_length c.goals.result.now (eqb-true (length c.goals.result.now) 0 (sym c.is_empty.ensures ∙ c.if-is_empty.true)) in
    ap value (sym none) ∙ ap value c.goals.ensures.value
