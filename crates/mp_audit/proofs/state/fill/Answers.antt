use Rattle.std.proofs.Common.{List, ℕ, get_or, take, sym, ap, ◌∙◌}
use Rattle.std.proofs.lemmas.List.{take_all, take_more}
use Rattle.std.specs.Cmp.{nat_cmp_total}
use Rattle.std.specs.FinSet as set
use Rattle.mp_sets.specs.Numbers.{Numbers, SizedSet}
use Rattle.mp_audit.specs.Audited.{set_of}
use Rattle.mp_audit.proofs.state.fill.Goals as goal

pub loop-fact-preserved : goal.loop-fact-preserved
loop-fact-preserved c =
    let l = c.loop-fact in
    let facts = c.args.facts.now in
    let x = get_or facts l.fact-index 0 in
    let size = c.args.made.now.size in
    c.insert.ensures
    ∙ ap (λ (s : SizedSet). record { size = s.size; members = set.insert s.members x }) l.invariant
    ∙ ap (λ (m : Numbers). record { size = size; members = m })
    (sym (set.from_list_push nat_cmp_total set.nat_cmp-IsAntisymmetric (take l.fact-index facts) x)
    ∙ ap set_of (sym (take_more facts l.fact-index 0 c.loop-fact-test.true)))

pub returns : goal.returns
returns c =
    let l = c.loop-fact in
    l.invariant ∙ ap (λ (xs : List ℕ). record { size = c.args.made.now.size; members = set_of xs }) (take_all l.fact-index c.args.facts.now c.loop-fact-test.false)
