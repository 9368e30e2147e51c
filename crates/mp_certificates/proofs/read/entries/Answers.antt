use Rattle.std.proofs.Common.{◌+◌, ◌<◌, ◌∷◌, [], sym, ◌∙◌, ap, length, length-append, arith}
use Rattle.std.proofs.lemmas.List.Elements.{All-push}
use Rattle.mp_audit.specs.Flat.{entry_of}
use Rattle.mp_certificates.specs.Accepted.{IsEntry}
use Rattle.mp_certificates.proofs.EntryLemmas.{entries_more, entry_refused, filled}
use Rattle.mp_certificates.proofs.LineLemmas.{entry_read, entry_shorter}
use Rattle.mp_certificates.proofs.read.entries.Goals as goal

pub loop-rest-preserved : goal.loop-rest-preserved
loop-rest-preserved c =
    let tasks = c.args.tasks.now in
    let rest = c.loop-rest.rest.now in
    let bound = entry_of c.in-Ok.head.0 c.in-Ok.head.1 c.entry.new.lists in
    let later = c.in-Ok.later.now in
    let before = c.loop-rest.bounds.entries in
    let invariant = c.loop-rest.invariant in
    let read = entry_read tasks rest (bound, later) c.requires.few c.requires.limits c.in-Ok.ensures.entry in
    let size = length-append before (bound ∷ []) in
    let shorter : length later < length rest = entry_shorter tasks rest (bound, later) read in
    let short = invariant.short in
    rw c.in_ok-bounds-in-Ok.ensures (record {
      is = entries_more before bound c.args.text.now rest later invariant.is read.is;
      fit = All-push (IsEntry tasks) before bound invariant.fit read.entry;
      agents = invariant.agents;
      short = omega (arith, size, shorter, short);
    })

pub loop-rest-smaller : goal.loop-rest-smaller
loop-rest-smaller c =
    let tasks = c.args.tasks.now in
    let rest = c.loop-rest.rest.now in
    let bound = entry_of c.in-Ok.head.0 c.in-Ok.head.1 c.entry.new.lists in
    let later = c.in-Ok.later.now in
    let read = entry_read tasks rest (bound, later) c.requires.few c.requires.limits c.in-Ok.ensures.entry in
    entry_shorter tasks rest (bound, later) read

pub returns-in-Err-OtherForm-clause-refused : goal.returns-in-Err-OtherForm-clause-refused
returns-in-Err-OtherForm-clause-refused c =
    let invariant = c.loop-rest.invariant in
    entry_refused c.args.tasks.now c.loop-rest.bounds.entries c.args.text.now c.loop-rest.rest.now _ c.requires.few c.requires.limits
    invariant.fit invariant.is (filled c.loop-rest.rest.now (sym c.is_empty.ensures ∙ c.loop-rest-test.true))
    (rw c.in-Err-OtherForm.field-0-is at c.in-Err-OtherForm.ensures.entry) (ap (λ n. n + 2) c.len.ensures)
