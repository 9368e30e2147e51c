use Rattle.std.proofs.Common.{refl, sym, ◌∙◌}
use Rattle.mp_text.proofs.PutLemmas.{added, passed}
use Rattle.mp_text.proofs.trace.push_puts.Goals as goal
use Rattle.mp_text.proofs.trace.push_puts.Goals.{in-Put+then-eq+in_ok-push_message-in-Put, in-Put+else-eq, in-Act+else-eq-2, in-Took+else-eq-3}

pub loop-at-preserved : goal.loop-at-preserved
loop-at-preserved c =
    elim c.match-entry.branch [
      | in-Put+then-eq+in_ok-push_message-in-Put w ↦
          rw (w.text-is, w.in_ok-push_message-in-Put.ensures)
          (added _ _ _ c.loop-at.at _ c.args.log.now _ c.loop-at.text _ w.in-Put.ensures.rest refl (sym w.eq.ensures ∙ w.if-eq.true) c.loop-at.invariant)
      | in-Put+else-eq w ↦
          rw w.text-is (passed _ c.loop-at.at c.args.log.now _ c.loop-at.text _ w.in-Put.ensures.rest (sym w.eq.ensures ∙ w.if-eq.false) c.loop-at.invariant)
      | in-Act+else-eq-2 w ↦
          rw w.text-is (passed _ c.loop-at.at c.args.log.now _ c.loop-at.text _ w.in-Act.ensures.rest (sym w.eq-in-Act.ensures ∙ w.if-eq-2.false) c.loop-at.invariant)
      | in-Took+else-eq-3 w ↦
          rw w.text-is (passed _ c.loop-at.at c.args.log.now _ c.loop-at.text _ w.in-Took.ensures.rest (sym w.eq-in-Took.ensures ∙ w.if-eq-3.false) c.loop-at.invariant)
    ]
