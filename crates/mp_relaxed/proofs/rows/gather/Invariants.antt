use Rattle.std.proofs.Common.{◌≡◌, ◌≤◌, ◌+◌, ◌++◌, take, map}
use Rattle.std.specs.Prelude.{vec_len}
use Rattle.mp_relaxed.proofs.rows.gather.Given as goal

abbrev pub invariant-loop-fact : goal.invariant-loop-fact
invariant-loop-fact l =
    (l.facts.items ≡ l.fn.facts.items ++ take l.fact-index l.fact-items)
    × (vec_len l.fn.facts ≤ vec_len l.facts)

abbrev pub invariant-loop-k : goal.invariant-loop-k
invariant-loop-k l =
    (l.facts.items ≡ l.fn.facts.items ++ (l.pub_facts ++ map (λ k. l.publics + k) (take l.k-index l.k-items)))
    × (vec_len l.fn.facts ≤ vec_len l.facts)
