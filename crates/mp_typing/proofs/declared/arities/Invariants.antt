use Rattle.mp_typing.proofs.Basics.{take, HasArities}
use Rattle.mp_typing.proofs.declared.arities.Given as goal

abbrev pub invariant-loop-signature : goal.invariant-loop-signature
invariant-loop-signature l = HasArities l.index (take l.signature-index l.signatures)
