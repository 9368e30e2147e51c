use Rattle.std.proofs.Common.{◌∷◌, subst}
use Rattle.std.proofs.lemmas.List.Sorted.{IsPermutation-map}
use Rattle.std.specs.List.Sorted.{IsPermutation}
use Rattle.std.specs.declared.cmp.Reverse.{Reverse}
use Rattle.mp_estimates.specs.Lowering.{Key}
use Rattle.mp_pdb.specs.Queue.{queue_entries}
use Rattle.mp_pdb.proofs.queue.Queue.pop.Goals as goal

pub returns-clause-entry : goal.returns-clause-entry
returns-clause-entry c =
    subst (λ l. IsPermutation l (c.in_ok-entry.field-0.0 ∷ queue_entries (record { heap = c.pop.new.self }))) c.self.view_is
    (IsPermutation-map (λ (e : Reverse Key). e.0) _ _ c.in_ok-entry.ensures.permutation)
