use Rattle.std.proofs.Common.{sym}
use Rattle.mp_messages.proofs.Parts.{no_costs, no_facts, no_tags, state_read}
use Rattle.mp_messages.proofs.reading.state_into.Goals as goal

pub returns-in_default-clause-read : goal.returns-in_default-clause-read
returns-in_default-clause-read c = no_costs c.args.agents c.args.publics c.args.bytes.now (sym c.in_default.ensures.value)

pub returns-in_default-counted_into-clause-read : goal.returns-in_default-counted_into-clause-read
returns-in_default-counted_into-clause-read c =
    no_facts c.args.agents c.args.publics c.args.bytes.now c.in-Some.sent c.in-Some.g c.in-Some.h c.in-Some.rest.now (sym c.in-Some.ensures.value)
    c.in_default-counted_into.ensures.read

pub returns-in_default-2-clause-read : goal.returns-in_default-2-clause-read
returns-in_default-2-clause-read c =
    no_tags c.args.agents c.args.publics c.args.bytes.now c.in-Some.sent c.in-Some.g c.in-Some.h c.in-Some.rest.now (sym c.in-Some.ensures.value)
    c.counted_into.new.facts.members c.in-Some-counted_into.rest.now c.in-Some-counted_into.ensures.read (rw c.in_default-2.is at c.in_ok-rest.ensures)

pub returns-clause-read : goal.returns-clause-read
returns-clause-read c =
    state_read c.args.agents c.args.publics c.args.bytes.now c.in-Some.sent c.in-Some.g c.in-Some.h c.in-Some.rest.now (sym c.in-Some.ensures.value)
    c.counted_into.new.facts.members c.in-Some-counted_into.rest.now c.in-Some-counted_into.ensures.read c.tags_into.new.tags c.in-Some-2.rest.now
    (rw c.in-Some-2.is at c.in_ok-rest.ensures)
