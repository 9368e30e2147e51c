use Rattle.std.proofs.Common.{◌++◌, ◌∷◌, [], sym, subst}
use Rattle.mp_pdb.specs.Moves.{AreMoves}
use Rattle.mp_pdb.proofs.OperatorLemmas.{one_move_more, none_more}
use Rattle.mp_pdb.proofs.operators.note.Goals as goal

pub returns : goal.returns
returns c = λ pattern operators o are stands.
    subst (AreMoves pattern (operators ++ o ∷ [])) (sym c.in_ok-push.ensures.items)
    (one_move_more pattern operators c.args.moves.now.items o c.args.found are stands)

pub returns-then-is_idle : goal.returns-then-is_idle
returns-then-is_idle c = λ pattern operators o are stands.
    none_more pattern operators c.args.moves.now.items o c.args.found are stands (c.is_idle.ensures.0 c.if-is_idle.true)
