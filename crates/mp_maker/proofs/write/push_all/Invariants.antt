use Rattle.std.proofs.Common.{◌≡◌, ◌++◌, drop}
use Rattle.std.specs.List.{flat_map}
use Rattle.mp_maker.proofs.write.push_all.Given as goal

-- the text so far and the pieces that are left make the whole
abbrev pub invariant-loop-piece : goal.invariant-loop-piece
invariant-loop-piece l =
    l.text ++ flat_map (λ piece. piece.now) (drop l.piece-index l.pieces)
    ≡ l.fn.text ++ flat_map (λ piece. piece.now) l.pieces
