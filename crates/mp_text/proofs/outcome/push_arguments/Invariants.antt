use Rattle.std.proofs.Common.{◌≡◌, ◌++◌, ◌∷◌, take}
use Rattle.std.specs.List.{flat_map}
use Rattle.mp_text.proofs.outcome.push_arguments.Given as goal

-- the text has grown by the arguments so far
abbrev pub invariant-loop-arg : goal.invariant-loop-arg
invariant-loop-arg l =
    l.text ≡ l.fn.text ++ flat_map (λ arg. 32 ∷ arg) (take l.arg-index l.arg-items)
