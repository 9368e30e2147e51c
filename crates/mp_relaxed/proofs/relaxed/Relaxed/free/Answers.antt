use Rattle.std.proofs.Common.{◌<◌, length, All, subst, sym}
use Rattle.mp_relaxed.specs.Relaxed.{RelaxedProblem, AreAllFree, HasFree, zipped}
use Rattle.mp_relaxed.proofs.ZippedLemmas.{zipped_free, zipped_all_free, zipped_below}
use Rattle.mp_relaxed.proofs.relaxed.Relaxed.free.Goals as goal

pub returns-clause-all : goal.returns-clause-all
returns-clause-all c =
    subst (λ (p : RelaxedProblem). HasFree p.operators c.as_slice.result.now) c.self.view_is
    (subst (λ l. HasFree (zipped c.self.inside.pres c.self.inside.adds c.self.inside.costs.items) l) (sym c.as_slice.ensures.value)
    (zipped_free c.self.inside.pres c.self.inside.adds c.self.inside.costs.items c.self.invariant.adds_each c.self.invariant.cost_each c.self.inside.free.items c.self.invariant.free_right))

pub returns-clause-empty : goal.returns-clause-empty
returns-clause-empty c =
    subst (λ (p : RelaxedProblem). AreAllFree p.operators c.as_slice.result.now) c.self.view_is
    (subst (λ l. AreAllFree (zipped c.self.inside.pres c.self.inside.adds c.self.inside.costs.items) l) (sym c.as_slice.ensures.value)
    (zipped_all_free c.self.inside.pres c.self.inside.adds c.self.inside.costs.items c.self.invariant.adds_each c.self.invariant.cost_each c.self.inside.free.items c.self.invariant.free_right))

pub returns-clause-below : goal.returns-clause-below
returns-clause-below c =
    subst (λ (p : RelaxedProblem). All (λ k. k < length p.operators) c.as_slice.result.now) c.self.view_is
    (subst (λ l. All (λ k. k < length (zipped c.self.inside.pres c.self.inside.adds c.self.inside.costs.items)) l) (sym c.as_slice.ensures.value)
    (zipped_below c.self.inside.pres c.self.inside.adds c.self.inside.costs.items c.self.invariant.adds_each c.self.invariant.cost_each c.self.inside.free.items c.self.invariant.free_right.rows_alone))
