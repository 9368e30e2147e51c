use Rattle.std.proofs.Common.{◌≡◌, ℕ, length, get_or, ap, subst, sym, ◌∙◌, arith}
use Rattle.std.proofs.lemmas.List.{length-map}
use Rattle.mp_relaxed.specs.Relaxed.{RelaxedProblem, operator_at, zipped}
use Rattle.mp_relaxed.specs.Search.{count_at}
use Rattle.mp_relaxed.proofs.ZippedLemmas.{length-zipped, zipped_counts}
use Rattle.mp_relaxed.proofs.relaxed.Relaxed.counts.Goals as goal

pub returns-clause-len : goal.returns-clause-len
returns-clause-len c =
    let same = ap (λ (p : RelaxedProblem). length p.operators) c.self.view_is in
    let long = ap length (c.as_slice.ensures.value ∙ c.self.invariant.counts_right) ∙ length-map c.self.inside.pres length in
    omega (arith, length-zipped c.self.inside.pres c.self.inside.adds c.self.inside.costs.items c.self.invariant.adds_each c.self.invariant.cost_each)

pub returns-clause-count : goal.returns-clause-count
returns-clause-count c =
    subst (λ (p : RelaxedProblem). (k : ℕ) → count_at c.as_slice.result.now k ≡ length (operator_at p.operators k).pre) c.self.view_is
    (λ k.
    subst (λ l. get_or l k 0 ≡ length (operator_at (zipped c.self.inside.pres c.self.inside.adds c.self.inside.costs.items) k).pre) (sym (c.as_slice.ensures.value ∙ c.self.invariant.counts_right))
    (zipped_counts c.self.inside.pres c.self.inside.adds c.self.inside.costs.items c.self.invariant.adds_each c.self.invariant.cost_each k))
