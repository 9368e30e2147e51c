use Rattle.mp_ground_facts.proofs.Basics.{ℕ, ◌+◌, ◌++◌, List, drop, sym, ap, ◌∙◌, numbers_where, is_initial}
use Rattle.mp_typing.proofs.Placing.{placed, skipped, all_placed}
use Rattle.mp_ground_facts.proofs.numbering.start_numbers.Goals.{then-is_start_fact+in_ok-push, else-is_start_fact}
use Rattle.mp_ground_facts.proofs.numbering.start_numbers.Goals as goal

pub loop-fact-preserved : goal.loop-fact-preserved
loop-fact-preserved c =
    let test = is_initial c.args.start.now in
    let facts = c.args.facts.now in
    let l = c.loop-fact in
    let whole = numbers_where 0 test facts in
    let rest = numbers_where (l.number + 1) test (drop (l.fact-index + 1) facts) in
    record {
      counted = ap (λ (n : ℕ). n + 1) l.invariant.counted;
      left = elim c.if-is_start_fact.branch [
        | then-is_start_fact+in_ok-push w ↦
            ap (λ (ns : List ℕ). ns ++ rest) (w.out-is ∙ w.in_ok-push.ensures.ok)
            ∙ placed test l.out whole l.number l.fact-index facts c.fact-item.result c.loop-fact-test.true c.fact-item.is
            (sym c.is_start_fact.ensures ∙ w.if-is_start_fact.true) l.invariant.left
        | else-is_start_fact w ↦
            ap (λ (ns : List ℕ). ns ++ rest) w.out-is
            ∙ skipped test l.out whole l.number l.fact-index facts c.fact-item.result c.loop-fact-test.true c.fact-item.is
            (sym c.is_start_fact.ensures ∙ w.if-is_start_fact.false) l.invariant.left
      ];
    }

pub returns : goal.returns
returns c =
    let test = is_initial c.args.start.now in
    all_placed test c.loop-fact.out (numbers_where 0 test c.args.facts.now) c.loop-fact.number c.loop-fact.fact-index c.args.facts.now
    c.loop-fact-test.false c.loop-fact.invariant.left
