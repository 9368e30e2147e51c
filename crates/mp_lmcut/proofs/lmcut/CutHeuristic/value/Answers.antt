use Rattle.std.proofs.Common.{◌≡◌, All, ap, sym, subst, ◌∙◌, arith}
use Rattle.std.proofs.lemmas.Result.{IfOk-weaker}
use Rattle.mp_relaxed.specs.Dominated.{IsEquivalent}
use Rattle.mp_relaxed.specs.Relaxed.{RelaxedProblem, delete_relaxation}
use Rattle.mp_relaxed.specs.Memo.{IsRight, value_in}
use Rattle.mp_lmcut.specs.Cut.{lmcut_of}
use Rattle.mp_lmcut.specs.Sides.{repriced}
use Rattle.mp_lmcut.proofs.CostLemmas.{as_many, as_many_facts, as_many_publics, same_adders, same_priced}
use Rattle.mp_lmcut.proofs.EquivalentLemmas.{lmcut_found}
use Rattle.mp_lmcut.proofs.lmcut.CutHeuristic.value.Goals as goal

pub invariant_of-self-clause-priced : goal.invariant_of-self-clause-priced
invariant_of-self-clause-priced c =
    c.args.self.now.priced ∙ sym (as_many c.recall_or_estimate.new.problem c.args.self.now.problem c.recall_or_estimate.ensures.kept)

pub invariant_of-self-clause-added : goal.invariant_of-self-clause-added
invariant_of-self-clause-added c =
    same_adders c.args.self.now.problem c.recall_or_estimate.new.problem c.args.self.now.adders.items (sym c.recall_or_estimate.ensures.kept) c.args.self.now.added

pub invariant_of-self-clause-counted : goal.invariant_of-self-clause-counted
invariant_of-self-clause-counted c =
    c.recall_or_estimate.ensures.counted ∙ c.args.self.now.counted ∙ sym (as_many c.recall_or_estimate.new.problem c.args.self.now.problem c.recall_or_estimate.ensures.kept)

pub invariant_of-self-clause-sized : goal.invariant_of-self-clause-sized
invariant_of-self-clause-sized c =
    c.recall_or_estimate.ensures.sized ∙ c.args.self.now.sized ∙ sym (as_many_facts c.recall_or_estimate.new.problem c.args.self.now.problem c.recall_or_estimate.ensures.kept)

pub returns-clause-kept : goal.returns-clause-kept
returns-clause-kept c = λ t h. (
  subst (λ (r : RelaxedProblem). IsEquivalent r (delete_relaxation t))
      (sym (same_priced c.recall_or_estimate.new.problem c.args.self.now.problem c.recall_or_estimate.ensures.kept c.args.self.now.costs.items)) h.0,
  h.1,
)

pub invariant_of-self-clause-right : goal.invariant_of-self-clause-right
invariant_of-self-clause-right c =
    let kept = subst (λ costs. All (IsRight (value_in lmcut_of (repriced costs c.args.self.now.problem))) c.recall_or_estimate.new.memo.entries) c.as_slice.ensures.value c.recall_or_estimate.ensures.right in
    subst (λ (r : RelaxedProblem). All (IsRight (value_in lmcut_of r)) c.recall_or_estimate.new.memo.entries)
    (sym (same_priced c.recall_or_estimate.new.problem c.args.self.now.problem c.recall_or_estimate.ensures.kept c.args.self.now.costs.items))
    kept

pub returns-clause-value : goal.returns-clause-value
returns-clause-value c =
    let p = c.args.publics.now.members in
    let q = c.args.privates.now.members in
    let costs = c.args.self.now.costs.items in
    let law = ap (λ l. value_in lmcut_of (repriced l c.args.self.now.problem) p q) c.as_slice.ensures.value in
    IfOk-weaker c.recall_or_estimate.result (λ found. found ≡ value_in lmcut_of (repriced c.as_slice.result.now c.args.self.now.problem) p q) _
    (λ found e t h. e ∙ law ∙ lmcut_found t (repriced costs c.args.self.now.problem) p q h.0)
    c.recall_or_estimate.ensures.found

pub invariant_of-self-clause-public_sized : goal.invariant_of-self-clause-public_sized
invariant_of-self-clause-public_sized c =
    c.recall_or_estimate.ensures.publics ∙ c.args.self.now.public_sized ∙ sym (as_many_publics c.recall_or_estimate.new.problem c.args.self.now.problem c.recall_or_estimate.ensures.kept)

pub invariant_of-self-clause-private_sized : goal.invariant_of-self-clause-private_sized
invariant_of-self-clause-private_sized c =
    let publics = as_many_publics c.recall_or_estimate.new.problem c.args.self.now.problem c.recall_or_estimate.ensures.kept in
    let facts = as_many_facts c.recall_or_estimate.new.problem c.args.self.now.problem c.recall_or_estimate.ensures.kept in
    omega (arith, c.recall_or_estimate.ensures.privates, c.args.self.now.private_sized)
