use Rattle.std.proofs.Common.{◌≤◌, ◌≡◌, ◌+◌, ◌++◌, ◌∙◌, subst, take, arith, length-take, rules, vec_len}
use Rattle.mp_outside.proofs.Acts.{last_count, last_one, no_more, one_more}
use Rattle.std.proofs.lemmas.Grind.{common_steps}
use Rattle.std.specs.Io.KnownBytes.{Consumes}
use Rattle.mp_outside.proofs.Losing.{consumes_more, loses, loses_more}
use Rattle.mp_outside.proofs.reading.read_front.Goals as goal

pub returns-in_default-clause-taken : goal.returns-in_default-clause-taken
returns-in_default-clause-taken g c =
    loses_more _ _ _ c.loop-room.bytes.items _ _ c.loop-room.invariant.took c.in_default.ensures.lost (omega (arith, length-take c.min-asked.result c.loop-room.piece, c.loop-room.bytes.ok))

pub returns-then-taken-eq0-clause-taken : goal.returns-then-taken-eq0-clause-taken
returns-then-taken-eq0-clause-taken g c =
    loses_more _ _ _ c.loop-room.bytes.items c.in-Ok.taken _ c.loop-room.invariant.took
    (loses _ _ (take c.in-Ok.taken c.read.new.buf) _ c.in-Ok.ensures.bytes (omega (arith, length-take c.in-Ok.taken c.read.new.buf)))
    (omega (arith, c.loop-room.bytes.ok))

pub returns-then-is_err-clause-taken : goal.returns-then-is_err-clause-taken
returns-then-is_err-clause-taken g c =
    loses_more _ _ _ c.loop-room.bytes.items c.in-Ok.taken _ c.loop-room.invariant.took
    (loses _ _ (take c.in-Ok.taken c.read.new.buf) _ c.in-Ok.ensures.bytes (omega (arith, length-take c.in-Ok.taken c.read.new.buf)))
    (omega (arith, c.loop-room.bytes.ok, c.in-Ok.ensures.count, length-take c.min-asked.result c.loop-room.piece))

pub returns-in_default-clause-acts : goal.returns-in_default-clause-acts
returns-in_default-clause-acts g c =
    last_one _ _ _ _ _ _ c.loop-room.invariant.acts c.in_default.ensures.failed_act (omega (arith, length-take c.min-asked.result c.loop-room.piece, c.loop-room.bytes.ok))

pub returns-then-taken-eq0-clause-acts : goal.returns-then-taken-eq0-clause-acts
returns-then-taken-eq0-clause-acts g c =
    last_count _ _ _ _ c.in-Ok.taken _ c.loop-room.invariant.acts c.in-Ok.ensures.act (omega (arith, c.loop-room.bytes.ok, c.in-Ok.ensures.count, length-take c.min-asked.result c.loop-room.piece))

pub returns-then-is_err-clause-acts : goal.returns-then-is_err-clause-acts
returns-then-is_err-clause-acts g c =
    last_count _ _ _ _ c.in-Ok.taken _ c.loop-room.invariant.acts c.in-Ok.ensures.act (omega (arith, c.loop-room.bytes.ok, c.in-Ok.ensures.count, length-take c.min-asked.result c.loop-room.piece))

pub returns-clause-acts : goal.returns-clause-acts
returns-clause-acts g c = no_more _ _ _ _ c.loop-room.invariant.acts (omega (arith, c.loop-room.invariant.room))

pub loop-room-preserved : goal.loop-room-preserved
loop-room-preserved g c =
    let some : 1 ≤ c.in-Ok.taken = search rules in
    let grown : vec_len c.loop-room.bytes + c.in-Ok.taken ≡ vec_len c.extend_from_slice.new.self = search rules in
    let items : c.loop-room.bytes.items ++ take c.in-Ok.taken c.read.new.buf ≡ c.extend_from_slice.new.self.items = grind (arith, common_steps) in
    record {
      held = c.read.ensures.held ∙ c.loop-room.invariant.held;
      no_fault = c.in-Ok.ensures.no_fault ∙ c.loop-room.invariant.no_fault;
      is_begun = c.in-Ok.ensures.still.0;
      begun = c.in-Ok.ensures.still.1 ∙ c.loop-room.invariant.begun;
      took = subst (Consumes _ _) items (consumes_more _ _ _ _ _ c.loop-room.invariant.took c.in-Ok.ensures.bytes);
      room = search rules;
      acts = one_more _ _ _ _ _ _ c.loop-room.invariant.acts c.in-Ok.ensures.act some grown;
    }
