use Rattle.std.proofs.Common.{◌≡◌, ◌+◌, ℕ, suc, arith, subst, ◌∙◌}
use Rattle.mp_post.specs.Halts.{HasHalted, HasHaltedAt}
use Rattle.mp_post.proofs.Lists.{halted_at}
use Rattle.mp_post.proofs.halting.halt_all.Goals as goal

pub loop-place-preserved : goal.loop-place-preserved
loop-place-preserved g c =
    let l = c.loop-place in
    let by = c.args.by in
    let v = c.args.seat.now.me.0 in
    let u = l.seat.me.0 in
    let w = c.halt_at.new.seat.me.0 in
    let post : c.agent_at.result ≡ suc l.place = let a = c.agent_at.ensures in omega arith in
    let next : suc l.place ≡ l.place + 1 = omega arith in
    record {
      same = c.halt_at.ensures.same ∙ l.invariant.same;
      free = c.halt_at.ensures.free;
      held = (halted_at by c.agent_at.result u w l.invariant.held c.halt_at.ensures.halted).holds;
      halted = subst (λ (n : ℕ). HasHalted by n v w) next
          (u, l.invariant.halted, subst (λ (n : ℕ). HasHaltedAt by n u w) post c.halt_at.ensures.halted);
    }
