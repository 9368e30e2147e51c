use Rattle.mp_typing.proofs.Basics.{◌≡◌, map, take}
use Rattle.mp_forms.specs.declared.word.Word.{Word}
use Rattle.mp_typing.proofs.hierarchy.names_of.Given as goal

abbrev pub invariant-loop-word : goal.invariant-loop-word
invariant-loop-word l = l.names ≡ map (λ (w : Word). w.name) (take l.word-index l.words)
