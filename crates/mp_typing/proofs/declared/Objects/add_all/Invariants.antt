use Rattle.mp_typing.proofs.Basics.{◌≡◌, ◌++◌, List, length, map, take, AreFound}
use Rattle.mp_forms.specs.declared.typed_values.Typed.{Typed as TypedValue}
use Rattle.mp_typing.proofs.declared.Objects.add_all.Given as goal

abbrev pub invariant-loop-i : goal.invariant-loop-i
invariant-loop-i l =
    (before : List TypedValue) → length before ≡ l.fn.first → AreFound before l.fn.self.places (map (λ o. o.now) l.fn.self.listed.items)
    → AreFound (before ++ take l.i l.objects) l.self.places (map (λ o. o.now) l.self.listed.items)
