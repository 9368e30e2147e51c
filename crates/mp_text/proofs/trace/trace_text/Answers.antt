use Rattle.mp_messages.specs.LogFields.{shown}
use Rattle.mp_text.specs.Trace.{trace_text as trace_text_of}
use Rattle.mp_text.proofs.PutLemmas.{entry_added}
use Rattle.mp_text.proofs.trace.trace_text.Goals as goal

pub loop-at-preserved : goal.loop-at-preserved
loop-at-preserved c =
    let log = c.args.log.now in
    entry_added c.loop-at.at log (shown c.entry.result) c.loop-at.text c.push_entry.new.text (trace_text_of log)
    c.entry.ensures.rest c.in_ok-push_entry.ensures c.loop-at.invariant
