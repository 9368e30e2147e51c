use Rattle.std.proofs.Common.{sym}
use Rattle.std.proofs.lemmas.Option.{none-some}
use Rattle.mp_checker.proofs.AskLemmas.{asked_none, asked_one, asked_failing, asked_all, noted_all}
use Rattle.mp_checker.proofs.MarkLemmas.{stayed_again}
use Rattle.mp_checker.proofs.PlaceLemmas.{grown_again}
use Rattle.mp_checker.proofs.asked.first_failing.Goals as goal

pub loop-place-init : goal.loop-place-init
loop-place-init c =
    asked_none c.args.facts.now c.args.agent c.args.args.now c.args.literals.now c.clear.new.self.items c.clear-2.new.self.items
    c.clear.ensures.items c.clear-2.ensures.items

pub loop-place-preserved : goal.loop-place-preserved
loop-place-preserved c =
    let l = c.loop-place in
    asked_one c.args.facts.now l.facts c.holds_at.new.facts c.args.agent c.args.args.now c.args.literals.now l.place c.index-literals-place.result c.in_ok-holds_at.field-0
    l.places.needs.items l.places.against.items c.holds_at.new.places.needs.items c.holds_at.new.places.against.items
    l.invariant c.loop-place-test.true c.index-literals-place.is c.in_ok-holds_at.ensures.grows c.in_ok-holds_at.ensures.stays
    c.in_ok-holds_at.ensures.holds c.if-not-branch.false c.in_ok-holds_at.ensures.noted

pub returns-then-not-branch-clause-grows : goal.returns-then-not-branch-clause-grows
returns-then-not-branch-clause-grows c =
    let l = c.loop-place in
    grown_again c.args.facts.now.known.keys l.facts.known.keys c.holds_at.new.facts.known.keys l.invariant.grown c.in_ok-holds_at.ensures.grows

pub returns-then-not-branch-clause-stays : goal.returns-then-not-branch-clause-stays
returns-then-not-branch-clause-stays c =
    let l = c.loop-place in
    stayed_again c.args.facts.now l.facts c.holds_at.new.facts l.invariant.stayed c.in_ok-holds_at.ensures.stays

pub returns-then-not-branch-clause-place : goal.returns-then-not-branch-clause-place
returns-then-not-branch-clause-place c =
    let l = c.loop-place in
    asked_failing c.args.facts.now l.facts c.args.agent c.args.args.now c.args.literals.now l.place c.index-literals-place.result c.in_ok-holds_at.field-0
    l.places.needs.items l.places.against.items l.invariant c.loop-place-test.true c.index-literals-place.is
    c.in_ok-holds_at.ensures.holds c.if-not-branch.true

pub returns-then-not-branch-clause-noted : goal.returns-then-not-branch-clause-noted
returns-then-not-branch-clause-noted c = λ none. absurd (none-some c.loop-place.place (sym none))

pub returns-clause-grows : goal.returns-clause-grows
returns-clause-grows c = c.loop-place.invariant.grown

pub returns-clause-stays : goal.returns-clause-stays
returns-clause-stays c = c.loop-place.invariant.stayed

pub returns-clause-place : goal.returns-clause-place
returns-clause-place c =
    let l = c.loop-place in
    asked_all c.args.facts.now l.facts c.args.agent c.args.args.now c.args.literals.now l.place l.places.needs.items l.places.against.items
    l.invariant c.loop-place-test.false

pub returns-clause-noted : goal.returns-clause-noted
returns-clause-noted c = λ none.
    let l = c.loop-place in
    noted_all c.args.facts.now l.facts c.args.agent c.args.args.now c.args.literals.now l.place l.places.needs.items l.places.against.items
    l.invariant c.loop-place-test.false
