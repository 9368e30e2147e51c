use Rattle.std.proofs.Common.{◌≡◌, drop}
use Rattle.std.specs.List.{list_any}
use Rattle.mp_joint.specs.Fact.{Text, is_listed}
use Rattle.mp_checker.proofs.told.has_private.Given as goal

abbrev pub invariant-loop-name : goal.invariant-loop-name
invariant-loop-name l =
    list_any (λ (n : Text). is_listed n l.privates.objects) (drop l.name-index l.names) ≡ list_any (λ (n : Text). is_listed n l.privates.objects) l.names
