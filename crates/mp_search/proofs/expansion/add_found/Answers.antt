use Rattle.std.proofs.Common.{◌≡◌, Option, false, true, sym, ap, subst, ◌∙◌}
use Rattle.std.specs.Option.{option_map_or}
use Rattle.std.proofs.lemmas.Result.{IfOk-weaker}
use Rattle.mp_task.specs.declared.act.Act.{Act}
use Rattle.mp_search.specs.AgentState.{AgentState, applies}
use Rattle.mp_search.specs.Expansion.{with_successor}
use Rattle.mp_search.specs.StateKeys.{reached_state}
use Rattle.mp_search.specs.Steps.{HasSent, parent_of}
use Rattle.mp_search.proofs.SendingSteps.{action_sent, successor_sent}
use Rattle.mp_search.proofs.expansion.add_found.Goals as goal

pub returns-clause-sent : goal.returns-clause-sent
returns-clause-sent g c =
    let t = c.args.context.now.task in
    let value = g.H.Heuristic.value t in
    let p = parent_of c.args.parent.now in
    let act = c.action-act.result.now in
    let old = c.args.progress.now.states in
    let new = c.send_if_due.new.states in
    let may : applies act p.state ≡ true = ap (λ (o : Option Act). option_map_or (λ act. applies act p.state) o false) (sym c.action-act.ensures) ∙ c.requires.found in
    IfOk-weaker c.send_if_due.result _ _
    (λ answer sent. record {
      act = act;
      is = c.action-act.ensures;
      sent = action_sent t value p c.args.number act old new answer may
          (subst (λ (s : AgentState). HasSent t (with_successor t value p c.args.number act s old.kept) old new answer) c.follow.ensures.state
          (successor_sent t value p c.args.number act (reached_state c.follow.new.self) (reached_state c.offer_new.new.reached)
          old c.offer_new.new.progress.states new _ answer
          c.offer_new.ensures.state c.in_ok-found.ensures.kept c.in_ok-found.ensures.longer c.first_due-due.ensures.due sent));
    })
    c.send_if_due.ensures
