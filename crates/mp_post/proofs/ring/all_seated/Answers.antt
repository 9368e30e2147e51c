use Rattle.std.proofs.Common.{arith, sym, subst}
use Rattle.mp_post.specs.Desks.{HoldsParty, IsDeskOf}
use Rattle.mp_post.specs.declared.ring.Seated.{Seated}
use Rattle.mp_post.proofs.Each.{all_more}
use Rattle.mp_post.proofs.ring.all_seated.Goals as goal

pub loop-left-preserved : goal.loop-left-preserved
loop-left-preserved g c =
    let posts = c.args.posts.now.shared in
    let before = c.loop-left in
    let low = c.loop-left-test.true in
    let high = before.invariant.at_most in
    let number = c.agent_at-agent.ensures in
    record {
      from_1 = omega arith;
      at_most = omega arith;
      desk = c.split.ensures.desk;
      held = λ agent first last. c.split.ensures.others agent (λ same. absurd (omega arith))
          (before.invariant.held agent first (omega arith));
      made = all_more before.all.items c.push.new.self.items _
          (λ (s : Seated). IsDeskOf posts.table_id posts.key s.desk × HoldsParty s.agent s.desk.view)
          c.in_ok-push.ensures.items before.invariant.made (c.in_ok-desk.ensures.new, c.in_ok-desk.ensures.holds);
    }

pub returns : goal.returns
returns g c =
    let posts = c.args.posts.now.shared in
    let last = c.loop-left in
    all_more last.all.items c.push-2.new.self.items _
    (λ (s : Seated). IsDeskOf posts.table_id posts.key s.desk × HoldsParty s.agent s.desk.view)
    c.in_ok-push-2.ensures.items last.invariant.made
    (last.invariant.desk, subst (λ a. HoldsParty a last.first.view) (sym c.agent_at.ensures) (last.invariant.held 1 (omega arith) last.invariant.from_1))
