use Rattle.std.proofs.Common.{sym, ap, refl, ◌∙◌}
use Rattle.mp_joint.specs.Instance.{State}
use Rattle.mp_checker.specs.AgentView.{names_of}
use Rattle.mp_checker.specs.At.{named_state}
use Rattle.mp_checker.specs.Marked.{true_facts}
use Rattle.mp_checker.specs.Taken.{failing}
use Rattle.mp_checker.specs.Team.{goals_of}
use Rattle.mp_checker.proofs.AskLemmas.{same_state}
use Rattle.mp_checker.proofs.MarkLemmas.{stayed_none, stayed_again}
use Rattle.mp_checker.proofs.StartLemmas.{goals_more, goals_end, goals_all}
use Rattle.mp_checker.proofs.goals.failing_goal.Goals as goal

pub loop-factor-init : goal.loop-factor-init
loop-factor-init c = (stayed_none c.args.facts.now, λ names of. refl)

pub returns-in-Some : goal.returns-in-Some
returns-in-Some c = λ names of.
    let l = c.loop-factor in
    let v = c.factor-item.result in
    let kept = true_facts c.args.facts.now in
    let first = c.in_ok-first.ensures.failing ∙ ap (λ (s : State). failing s (goals_of v)) (same_state (names_of v) c.args.facts.now l.facts l.invariant.0) in
    goals_end names c.args.team.now l.factor-index v kept c.in_ok-first.field-0 c.in-Some.first
    c.loop-factor-test.true c.factor-item.is of first c.in-Some.is
    ∙ l.invariant.1 names of

pub loop-factor-preserved : goal.loop-factor-preserved
loop-factor-preserved c =
    let l = c.loop-factor in
    let v = c.factor-item.result in
    let kept = true_facts c.args.facts.now in
    let first = c.in_ok-first.ensures.failing ∙ ap (λ (s : State). failing s (goals_of v)) (same_state (names_of v) c.args.facts.now l.facts l.invariant.0) in (
      stayed_again c.args.facts.now l.facts c.failing_goal_of.new.facts l.invariant.0 c.in_ok-first.ensures.stays,
      λ names of.
          goals_more names c.args.team.now l.factor-index v kept c.in_ok-first.field-0
          c.loop-factor-test.true c.factor-item.is of first c.in_default.is
          ∙ l.invariant.1 names of,
    )

pub returns : goal.returns
returns c = λ names of.
    let l = c.loop-factor in
    sym (goals_all (named_state names (true_facts c.args.facts.now)) c.args.team.now l.factor-index c.loop-factor-test.false) ∙ l.invariant.1 names of
