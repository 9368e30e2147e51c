use Rattle.std.proofs.Common.{◌≡◌, length, subst, arith}
use Rattle.mp_relaxed.specs.Dominated.{AreKept}
use Rattle.mp_relaxed.proofs.KeptLemmas.{kept_none}
use Rattle.mp_relaxed.proofs.kept.kept_of.Goals as goal

pub loop-k-init : goal.loop-k-init
loop-k-init c = record {
  some = c.in_ok-places.ensures;
  kept = kept_none c.args.problem.now.operators c.new-kept.result.items c.new-kept.ensures.items;
}

pub returns : goal.returns
returns c =
    let all : c.loop-k.k ≡ length c.args.problem.now.operators = omega (arith, c.operators-count.ensures.value) in
    subst (λ n. AreKept c.args.problem.now.operators n c.loop-k.kept.items) all c.loop-k.invariant.kept
