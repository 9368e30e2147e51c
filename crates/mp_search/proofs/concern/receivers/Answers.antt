use Rattle.std.proofs.Common.{ℕ, ◌+◌, ◌∷◌, [], List, ◌++◌, sym, ap, ◌∙◌, arith}
use Rattle.std.specs.List.{filter, range_with_len}
use Rattle.mp_task.specs.AgentTask.{AgentTask}
use Rattle.mp_search.specs.Concern.{is_receiver, one_if}
use Rattle.mp_search.specs.StateKeys.{reached_state}
use Rattle.mp_search.proofs.SendingSteps.{numbers_more, first_alone}
use Rattle.mp_search.proofs.concern.receivers.Goals as goal

pub loop-before-init : goal.loop-before-init
loop-before-init c =
    let passes = is_receiver c.args.task.now (reached_state c.args.state.now) in
    let first = c.args.first in
    let number = c.number-before.ensures.number in
    let is = c.requires.first in
    let most = is.within in
    record {
      within = omega arith;
      made =
          c.in_ok-push.ensures.ok
          ∙ ap (λ (xs : List ℕ). xs ++ first ∷ []) c.new-to.ensures
          ∙ first_alone passes first is.from_1 is.is is.none_before
          ∙ ap (λ (k : ℕ). filter passes (range_with_len 1 k)) (sym number);
    }

pub loop-before-preserved : goal.loop-before-preserved
loop-before-preserved c =
    let passes = is_receiver c.args.task.now (reached_state c.args.state.now) in
    let n = c.loop-before.before in
    let agents = ap (λ (x : AgentTask). x.agents) c.task.view_is in
    let inside = c.loop-before-test.true in
    record {
      within = omega arith;
      made =
          c.in_ok-add_receiver.ensures
          ∙ ap (λ (xs : List ℕ). xs ++ one_if (passes (n + 1)) (n + 1)) c.loop-before.invariant.made
          ∙ sym (numbers_more passes n);
    }
