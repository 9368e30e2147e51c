use Rattle.std.proofs.Common.{◌≡◌, ◌++◌, ◌∷◌, drop}
use Rattle.std.specs.List.{flat_map}
use Rattle.mp_ipc.proofs.ipc.push_arguments.Given as goal

-- the text so far and the arguments that are left make the whole
abbrev pub invariant-loop-arg : goal.invariant-loop-arg
invariant-loop-arg l =
    l.text ++ flat_map (λ arg. 32 ∷ arg) (drop l.arg-index l.args) ≡ l.fn.text ++ flat_map (λ arg. 32 ∷ arg) l.args
