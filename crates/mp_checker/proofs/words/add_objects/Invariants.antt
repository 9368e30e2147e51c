use Rattle.std.proofs.Common.{◌≡◌, ◌++◌, map, take}
use Rattle.mp_forms.specs.declared.typed_values.Typed.{Typed}
use Rattle.mp_checker.proofs.words.add_objects.Given as goal

abbrev pub invariant-loop-object : goal.invariant-loop-object
invariant-loop-object l = l.names ≡ l.fn.names ++ map (λ (o : Typed). o.word.name) (take l.object-index l.objects)
