use Rattle.mp_lifted.proofs.Basics.{◌≡◌, ◌∙◌, ◌++◌, ◌∷◌, [], rules, Head}
use Rattle.mp_lifted.proofs.FlatLemmas.{added, one_more}
use Rattle.mp_lifted.specs.Flat.{with_objects}
use Rattle.std.proofs.Common.{map}
use Rattle.mp_lifted.proofs.bindings.ActionBindingList.push.Goals as goal

pub returns-clause-ok : goal.returns-clause-ok
returns-clause-ok c =
    let head : Head = added c.args.action c.args.cost c.self.inside.objects.items c.args.objects.now in
    let grown : c.push.new.self.items ≡ c.self.inside.heads.items ++ head ∷ [] = search rules in
    let longer : c.extend_from_slice.new.self.items ≡ c.self.inside.objects.items ++ c.args.objects.now = search rules in
    (λ i. map (with_objects (longer i)) (grown i))
    ∙ one_more c.args.action c.args.cost c.self.inside.objects.items c.args.objects.now c.self.inside.heads.items c.self.invariant
    ∙ (λ i. c.self.view_is i ++ record { action = c.args.action; objects = c.args.objects.now; cost = c.args.cost } ∷ [])
