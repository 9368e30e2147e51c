use Rattle.std.proofs.Common.{length, sym, ◌∙◌, arith}
use Rattle.std.proofs.lemmas.Bool.{eqb-false, eqb-true}
use Rattle.mp_messages.specs.Parts.{parts}
use Rattle.mp_messages.proofs.Parts.{no_state, bytes_left, whole_read}
use Rattle.mp_messages.proofs.reading.whole_state_into.Goals as goal

pub returns-in_default-clause-read : goal.returns-in_default-clause-read
returns-in_default-clause-read c =
    no_state c.args.agents c.args.publics c.args.bytes.now (omega (arith, c.ranges.publics.fits)) (λ i. omega (arith, c.type_inv.bytes i)) (rw c.in_default.is at c.in_ok-numbers.ensures.read)

pub returns-then-not-is_empty-clause-read : goal.returns-then-not-is_empty-clause-read
returns-then-not-is_empty-clause-read c =
    bytes_left c.args.agents c.args.publics c.args.bytes.now (omega (arith, c.ranges.publics.fits)) (λ i. omega (arith, c.type_inv.bytes i)) (parts c.in-Some.numbers c.state_into.new.facts.members c.state_into.new.tags) c.in-Some.rest.now
    (rw c.in-Some.is at c.in_ok-numbers.ensures.read)
    (eqb-false (length c.in-Some.rest.now) 0 (sym c.is_empty.ensures ∙ c.if-not-is_empty.true))

pub returns-clause-read : goal.returns-clause-read
returns-clause-read c =
    whole_read c.args.agents c.args.publics c.args.bytes.now (omega (arith, c.ranges.publics.fits)) (λ i. omega (arith, c.type_inv.bytes i)) (parts c.in-Some.numbers c.state_into.new.facts.members c.state_into.new.tags) c.in-Some.rest.now
    (rw c.in-Some.is at c.in_ok-numbers.ensures.read)
    (eqb-true (length c.in-Some.rest.now) 0 (sym c.is_empty.ensures ∙ c.if-not-is_empty.false))
