use Rattle.std.proofs.Common.{◌∷◌, subst}
use Rattle.std.proofs.lemmas.List.Sorted.{IsPermutation-map}
use Rattle.std.specs.List.Sorted.{IsPermutation}
use Rattle.std.specs.declared.cmp.Reverse.{Reverse}
use Rattle.mp_estimates.specs.Lowering.{Key, key}
use Rattle.mp_pdb.specs.Queue.{queue_entries}
use Rattle.mp_pdb.proofs.queue.Queue.push.Goals as goal

pub returns : goal.returns
returns c =
    subst (λ l. IsPermutation (key c.args.number c.args.mask ∷ l) (queue_entries (record { heap = c.push.new.self }))) c.self.view_is
    (IsPermutation-map (λ (e : Reverse Key). e.0) _ _ c.in_ok-push.ensures.permutation)
