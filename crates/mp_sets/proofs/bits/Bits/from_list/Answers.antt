use Rattle.std.proofs.Common.{ap, ◌∙◌}
use Rattle.std.specs.FinSet as set
use Rattle.mp_sets.specs.Numbers.{SizedSet}
use Rattle.mp_sets.proofs.NumbersLemmas.{union-empty}
use Rattle.mp_sets.proofs.bits.Bits.from_list.Goals as goal

pub returns : goal.returns
returns c =
    let with_all : SizedSet → SizedSet = λ s. record { size = s.size; members = set.union s.members (set.from_list c.args.list.now) } in
    c.insert_all.ensures ∙ ap with_all c.in_ok-made.ensures ∙ ap (λ m. record { size = c.args.size; members = m }) (union-empty (set.from_list c.args.list.now))
