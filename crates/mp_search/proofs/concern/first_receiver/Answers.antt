use Rattle.std.proofs.Common.{◌≡◌, ◌+◌, ◌-◌, ◌||◌, Bool, true, false, sym, ap, ◌∙◌, arith}
use Rattle.std.proofs.lemmas.Bool.{or_left}
use Rattle.std.specs.List.{list_any, range_with_len}
use Rattle.mp_search.proofs.SendingSteps.{first_found, none_more}
use Rattle.mp_task.specs.AgentTask.{AgentTask}
use Rattle.mp_search.specs.Concern.{is_receiver}
use Rattle.mp_search.specs.StateKeys.{reached_state}
use Rattle.mp_search.proofs.ConcernLemmas.{some_kept, first_left, none_left}
use Rattle.mp_search.proofs.concern.first_receiver.Goals as goal

pub loop-before-preserved : goal.loop-before-preserved
loop-before-preserved c =
    let passes = is_receiver c.args.task.now (reached_state c.args.state.now) in
    let n = c.args.task.now.agents in
    let b = c.loop-before.before in
    let agents : c.task.inside.agents ≡ n = ap (λ (x : AgentTask). x.agents) c.task.view_is in
    let not : passes (b + 1) ≡ false = sym c.receiver-found.ensures.some ∙ sym c.is_some.ensures ∙ c.if-is_some.false in
    record {
      left =
          ap (λ (x : Bool). x || list_any passes (range_with_len (b + 1 + 1) (n - (b + 1)))) (sym not)
          ∙ sym (first_left passes n b (omega (arith, agents, c.loop-before-test.true)))
          ∙ c.loop-before.invariant.left;
      none = none_more passes b not c.loop-before.invariant.none;
    }

pub returns-then-is_some : goal.returns-then-is_some
returns-then-is_some c =
    let t = c.args.task.now in
    let s = reached_state c.args.state.now in
    let passes = is_receiver t s in
    let n = t.agents in
    let b = c.loop-before.before in
    let agents : c.task.inside.agents ≡ n = ap (λ (x : AgentTask). x.agents) c.task.view_is in
    let found = sym c.is_some.ensures ∙ c.if-is_some.true in
    let is : passes (b + 1) ≡ true = sym c.receiver-found.ensures.some ∙ found in
    record {
      some =
          found
          ∙ sym
          (some_kept passes (range_with_len 1 n)
          ∙ sym c.loop-before.invariant.left
          ∙ first_left passes n b (omega (arith, agents, c.loop-before-test.true))
          ∙ or_left (passes (b + 1)) _ is);
      first = first_found t s b c.receiver-found.result (omega (arith, agents, c.loop-before-test.true)) is c.loop-before.invariant.none c.receiver-found.ensures.agent;
    }

pub returns-clause-some : goal.returns-clause-some
returns-clause-some c =
    let passes = is_receiver c.args.task.now (reached_state c.args.state.now) in
    let n = c.args.task.now.agents in
    let agents : c.task.inside.agents ≡ n = ap (λ (x : AgentTask). x.agents) c.task.view_is in
    sym
    (some_kept passes (range_with_len 1 n)
    ∙ sym c.loop-before.invariant.left
    ∙ none_left passes n c.loop-before.before (omega (arith, agents, c.loop-before-test.false)))
