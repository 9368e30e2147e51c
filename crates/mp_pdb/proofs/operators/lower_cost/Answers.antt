use Rattle.std.proofs.Common.{◌≡◌, ◌<◌, ◌≤◌, get_or, ◌∙◌, subst}
use Rattle.std.proofs.lemmas.List.{get_or_default}
use Rattle.mp_pdb.specs.declared.moves.Move.{Move}
use Rattle.mp_pdb.proofs.OperatorLemmas.{kept_move, lowered_move}
use Rattle.mp_pdb.proofs.operators.lower_cost.Goals as goal

pub returns-then-found-index : goal.returns-then-found-index
returns-then-found-index c = λ pattern operators o are stands.
    let moves = c.args.moves.now.items in
    let at : c.index.result.now ≡ get_or moves c.args.place c.args.found = c.index.ensures ∙ get_or_default moves c.args.place c.index.result.now c.args.found c.requires.within in
    lowered_move pattern operators moves o c.args.found c.args.place are stands c.requires
    (subst (λ (m : Move). c.args.found.cost < m.cost) at c.if-found-index.true)

pub returns-else-found-index : goal.returns-else-found-index
returns-else-found-index c = λ pattern operators o are stands.
    let moves = c.args.moves.now.items in
    let at : c.index.result.now ≡ get_or moves c.args.place c.args.found = c.index.ensures ∙ get_or_default moves c.args.place c.index.result.now c.args.found c.requires.within in
    kept_move pattern operators moves o c.args.found c.args.place are stands c.requires
    (subst (λ (m : Move). m.cost ≤ c.args.found.cost) at c.if-found-index.false)
