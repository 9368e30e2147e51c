use Rattle.std.proofs.Common.{◌≡◌, ℕ, None, arith, replicate, subst}
use Rattle.mp_nodes.proofs.nodes.Nodes.new.Goals as goal

pub returns : goal.returns
returns g c =
    let below = c.loop.auto.counter-end in
    let last = c.loop-test.false in
    subst (λ (n : ℕ). c.loop.places.items ≡ replicate n None) (omega arith) c.loop.invariant
