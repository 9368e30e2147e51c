use Rattle.std.proofs.Common.{◌||◌, sym, ap, ◌∙◌, List}
use Rattle.std.specs.List.{list_any}
use Rattle.mp_checker.specs.declared.fact.FactNumbers.{FactNumbers}
use Rattle.mp_checker.specs.AgentView.{AgentView}
use Rattle.mp_checker.specs.At.{is_true, numbers_of}
use Rattle.mp_checker.specs.Marked.{true_facts}
use Rattle.mp_checker.specs.Team.{starts}
use Rattle.mp_checker.proofs.StartLemmas.{agent_more, agents_none, agents_all}
use Rattle.mp_checker.proofs.start.start.Goals as goal

pub loop-factor-init : goal.loop-factor-init
loop-factor-init c = λ names of f.
    ap (λ (ks : List FactNumbers). list_any (λ (w : AgentView). starts w f) c.args.team.now || is_true ks (numbers_of names f)) c.no_facts-facts.ensures
    ∙ agents_none c.args.team.now f names

pub loop-factor-preserved : goal.loop-factor-preserved
loop-factor-preserved c = λ names of f.
    let l = c.loop-factor in
    agent_more names c.args.team.now l.factor-index c.factor-item.result (true_facts l.facts) (true_facts c.add_start.new.facts) f
    c.loop-factor-test.true c.factor-item.is of c.in_ok-add_start.ensures
    ∙ l.invariant names of f

pub returns : goal.returns
returns c = λ names of f.
    let l = c.loop-factor in
    sym (agents_all c.args.team.now l.factor-index f (is_true (true_facts l.facts) (numbers_of names f)) c.loop-factor-test.false) ∙ l.invariant names of f
