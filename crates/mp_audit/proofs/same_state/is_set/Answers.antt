use Rattle.std.proofs.Common.{sym, ◌∙◌}
use Rattle.std.proofs.lemmas.Bool.{false≢true}
use Rattle.mp_audit.proofs.SameLemmas.{differs, ends_as, not_walked, walked_on}
use Rattle.mp_audit.proofs.same_state.is_set.Goals as goal

pub loop-fact-init : goal.loop-fact-init
loop-fact-init c = not_walked c.args.facts.now c.args.set.now.members

pub loop-fact-preserved : goal.loop-fact-preserved
loop-fact-preserved c =
    let l = c.loop-fact in
    walked_on c.args.facts.now c.args.set.now.members c.requires l.fact-index l.from l.invariant c.loop-fact-test.true
    (c.is_least.ensures.least.0 c.if-not-is_least.false)

pub returns-then-not-is_least : goal.returns-then-not-is_least
returns-then-not-is_least c =
    let l = c.loop-fact in
    differs c.args.facts.now c.args.set.now.members c.requires l.fact-index l.from l.invariant c.loop-fact-test.true
    (λ least. false≢true (sym c.if-not-is_least.true ∙ c.is_least.ensures.least.1 least))

pub returns : goal.returns
returns c =
    let l = c.loop-fact in
    ends_as c.args.facts.now c.args.set.now.members c.requires l.fact-index l.from l.invariant c.has_none.result c.loop-fact-test.false c.has_none.ensures
