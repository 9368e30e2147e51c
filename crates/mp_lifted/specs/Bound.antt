-- What a borrowed binding stands for.
use Rattle.mp_lifted.specs.Binding.{ActionBinding}
use Rattle.mp_lifted.specs.declared.bound.BoundAction.{BoundAction}

abbrev pub binding : BoundAction → ActionBinding
binding b = record { action = b.action; objects = b.objects.now; cost = b.cost }
