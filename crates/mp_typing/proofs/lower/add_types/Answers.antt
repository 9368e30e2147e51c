use Rattle.mp_typing.proofs.Basics.{◌∙◌, ℕ, List, refl, ap, with_type, with_types}
use Rattle.mp_typing.proofs.Finding.{types_more}
use Rattle.mp_typing.proofs.lower.add_types.Goals as goal

pub loop-name-init : goal.loop-name-init
unfolding with_types
loop-name-init c = refl

pub loop-name-preserved : goal.loop-name-preserved
loop-name-preserved c =
    let l = c.loop-name in
    let name = c.name-item.result in
    types_more c.args.found.now.keys c.args.names.now c.insert.new.self.keys l.name-index name c.loop-name-test.true c.name-item.is
    (c.in_ok-insert.ensures.keys ∙ ap (λ (n : List ℕ). with_type l.found.keys n) c.in_ok-copy.ensures
    ∙ ap (λ (ns : List (List ℕ)). with_type ns name) l.invariant)
