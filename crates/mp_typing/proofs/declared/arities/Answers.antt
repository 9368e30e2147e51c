use Rattle.mp_typing.proofs.Basics.{◌++◌, ◌∷◌, ◌∙◌, [], ℕ, List, ap, subst, arith, Signature, SameNumbers, arity_of}
use Rattle.std.proofs.lemmas.List.{take_all}
use Rattle.mp_typing.proofs.LookupLemmas.{arities_none, arities_on}
use Rattle.mp_typing.proofs.declared.arities.Goals as goal

pub loop-signature-init : goal.loop-signature-init
loop-signature-init c = arities_none _ c.in_ok-index.ensures

pub loop-signature-preserved : goal.loop-signature-preserved
loop-signature-preserved c =
    let name = c.signature-item.result.word.name in
    arities_on _ c.add.new.self c.args.signatures.now c.loop-signature.signature-index c.signature-item.result
    c.loop-signature-test.true c.signature-item.is c.loop-signature.invariant
    (subst (λ (n : ℕ). SameNumbers c.add.new.self (c.loop-signature.index ++ record { name = name; number = n } ∷ [])) c.len.ensures c.in_ok-add.ensures.added)

pub returns : goal.returns
returns c = λ name.
    c.loop-signature.invariant name
    ∙ ap (λ (ss : List Signature). arity_of ss name)
    (take_all c.loop-signature.signature-index c.args.signatures.now (omega (arith, c.loop-signature-test.false)))
