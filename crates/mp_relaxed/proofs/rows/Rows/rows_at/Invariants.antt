use Rattle.std.proofs.Common.{◌≡◌, [], get_or, take, map}
use Rattle.mp_relaxed.proofs.rows.Rows.rows_at.Given as goal

abbrev pub invariant-loop-k : goal.invariant-loop-k
invariant-loop-k l = l.rows ≡ map (λ k. get_or l.self k []) (take l.k-index l.numbers)
