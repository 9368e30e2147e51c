use Rattle.std.proofs.Common.{◌≡◌, ◌-◌, ◌++◌, ◌∷◌, [], suc, length, ap, sym, subst, ◌∙◌, arith}
use Rattle.std.proofs.lemmas.List.{length-append}
use Rattle.mp_task.specs.Projected.{projected}
use Rattle.mp_pdb.specs.Masks.{SizedPattern}
use Rattle.mp_pdb.specs.Pattern.{grown, pattern_of}
use Rattle.mp_pdb.proofs.GrowthLemmas.{grown-more, grown-none, grown-whole}
use Rattle.mp_pdb.proofs.operators.pattern_for.Goals as goal

pub grow-preserved : goal.grow-preserved
grow-preserved c =
    let problem = projected c.args.task.now in
    let facts = c.grow.pattern.facts in
    let fact = c.in-Some.fact in
    let new = ap (λ (s : SizedPattern). s.facts) c.in_ok-push.ensures in
    let longer = length-append facts (fact ∷ []) in
    let long = c.len.ensures.len in
    let room = c.grow-test.true in
    let left : 12 - length facts ≡ suc (12 - length (facts ++ fact ∷ [])) = omega arith in
    record {
      size = ap (λ (s : SizedPattern). s.size) c.in_ok-push.ensures ∙ c.grow.invariant.size;
      whole =
          subst (λ fs. grown problem.operators (12 - length fs) fs ≡ pattern_of problem) (sym new)
          (sym (grown-more problem.operators (12 - length (facts ++ fact ∷ [])) facts fact c.in-Some.ensures.least)
          ∙ ap (λ n. grown problem.operators n facts) (sym left)
          ∙ c.grow.invariant.whole);
    }

pub returns-in_default-clause-made : goal.returns-in_default-clause-made
returns-in_default-clause-made c =
    let problem = projected c.args.task.now in
    let facts = c.grow.pattern.facts in
    λ j. record {
      size = c.grow.invariant.size j;
      facts = (sym (grown-whole problem.operators (12 - length facts) facts c.in_default.ensures.least) ∙ c.grow.invariant.whole) j;
    }

pub returns-clause-made : goal.returns-clause-made
returns-clause-made c =
    let problem = projected c.args.task.now in
    let facts = c.grow.pattern.facts in
    let long = c.len.ensures.len in
    let full = c.grow-test.false in
    let none : 0 ≡ 12 - length facts = omega arith in
    λ j. record {
      size = c.grow.invariant.size j;
      facts = (sym (grown-none problem.operators facts) ∙ ap (λ n. grown problem.operators n facts) none ∙ c.grow.invariant.whole) j;
    }

pub returns-clause-limits : goal.returns-clause-limits
returns-clause-limits c = c.in_ok-pattern.ensures.limits

pub returns-in_default-clause-limits : goal.returns-in_default-clause-limits
returns-in_default-clause-limits c = c.in_ok-pattern.ensures.limits
