use Rattle.std.proofs.Common.{◌≡◌, ◌==◌, true, false, not, ap, sym, subst, ◌∙◌}
use Rattle.std.proofs.lemmas.Result.{on_ok_weaker}
use Rattle.mp_schedule.specs.GoingOn.{TakesAll}
use Rattle.mp_schedule.specs.TeamRun.{HasDone}
use Rattle.mp_schedule.proofs.Onward.{nothing_done, one_done}
use Rattle.mp_search.specs.Concern.{one_if}
use Rattle.mp_world.specs.RoundRobin.{ForEach}
use Rattle.mp_schedule.proofs.team.World.take_from.Goals as goal

pub returns-then-eq-clause-done : goal.returns-then-eq-clause-done
returns-then-eq-clause-done g c =
    let a = c.args.self.now in
    let is : (c.args.number == c.args.by) ≡ true = ap (λ n. n == c.args.by) (sym c.in-Some.ensures.value)
    ∙ sym c.if-eq.ensures in
    subst (λ b. HasDone (ForEach (TakesAll g.H.Heuristic.value c.args.by) (one_if (not b) c.args.number)) a a)
    (sym is) (nothing_done a)

pub returns-clause-done : goal.returns-clause-done
returns-clause-done g c =
    let takes = TakesAll g.H.Heuristic.value c.args.by in
    let a = c.args.self.now in
    let b = c.take_all.new.self in
    let is : (c.args.number == c.args.by) ≡ false = ap (λ n. n == c.args.by) (sym c.in-Some.ensures.value)
    ∙ sym c.if-eq.ensures in
    on_ok_weaker c.take_all.result
    (λ (done : HasDone (takes c.in-Some.from) a b).
    subst (λ t. HasDone (ForEach takes (one_if (not t) c.args.number)) a b) (sym is)
    (one_done takes c.args.number a b (subst (λ n. HasDone (takes n) a b) c.in-Some.ensures.value done)))
    c.take_all.ensures.done
