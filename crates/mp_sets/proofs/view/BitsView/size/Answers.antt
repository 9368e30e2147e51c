use Rattle.std.proofs.Common.{subst}
use Rattle.mp_sets.specs.Numbers.{SizedSet, AllBelow}
use Rattle.mp_sets.proofs.SetLemmas.{below_size}
use Rattle.mp_sets.proofs.view.BitsView.size.Goals as goal

pub returns-clause-below : goal.returns-clause-below
returns-clause-below c =
    let P : SizedSet → Type 0 = λ s. AllBelow s.size s.members in
    subst P c.self.view_is (below_size c.self.inside.size _)
