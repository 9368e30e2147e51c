use Rattle.std.proofs.Common.{length, ap, sym, ◌∙◌}
use Rattle.std.proofs.lemmas.Bool.{eqb-true}
use Rattle.std.proofs.lemmas.List.{nil_from_length}
use Rattle.mp_relaxed.specs.Relaxed.{state_of}
use Rattle.mp_relaxed.specs.Values.{fact_values, greatest}
use Rattle.mp_relaxed.proofs.values.Search.find_greatest.Goals as goal

pub returns-then-is_empty-clause-value : goal.returns-then-is_empty-clause-value
returns-then-is_empty-clause-value c =
    let none = nil_from_length c.args.facts.now (eqb-true (length c.args.facts.now) 0 (sym c.is_empty.ensures ∙ c.if-is_empty.true)) in
    ap (greatest (fact_values c.args.problem.now.operators (state_of c.args.problem.now c.args.publics.now.members c.args.privates.now.members))) (sym none)
