use Rattle.std.proofs.Common.{◌≡◌, ◌+◌, ◌<◌, ◌≤◌, List, None, Some, length, get_or, refl, slice_get, sym, ap, ◌∙◌, arith}
use Rattle.std.proofs.lemmas.Option.{get_or_from_slice_get}
use Rattle.mp_audit.specs.declared.verdict.AuditVerdict.{AuditVerdict}
use Rattle.mp_audit.specs.Failures.{entry_failures}
use Rattle.mp_audit.proofs.FirstLemmas.{empty_of, item_at, numbered_end, numbered_found, numbered_passed}
use Rattle.mp_audit.proofs.entries.first_failing_entry.Goals as goal

pub failure_at-requires-clause-inside : goal.failure_at-requires-clause-inside
failure_at-requires-clause-inside c = let lt = c.loop-place-test.true in let count = c.len-place-end.ensures in omega (arith, lt, count)

pub loop-place-init : goal.loop-place-init
loop-place-init c = record { state = c.in_ok-state.ensures.sizes; actions = c.in_ok-found.ensures; reached = c.in_ok-reached.ensures.sizes; left = refl }

pub loop-place-preserved : goal.loop-place-preserved
loop-place-preserved c =
    let d = c.args.known.now in
    let l = c.loop-place in
    let entries = d.bounds.now.entries in
    let gives = entry_failures d.tasks.now entries in
    let lt : l.place < length entries = (let test = c.loop-place-test.true in let count = c.len-place-end.ensures in omega (arith, test, count)) in
    let item = item_at entries l.place lt in
    let is : item.0 ≡ get_or entries l.place item.0 = sym (get_or_from_slice_get entries l.place item.0 item.0 item.1) in
    let first : None ≡ slice_get (gives (l.place + 1) item.0) 0 = sym c.in_default.is ∙ c.failure_at.ensures.first item.0 item.1 in
    record {
      state = c.failure_at.ensures.state;
      actions = c.failure_at.ensures.actions;
      reached = c.failure_at.ensures.reached;
      left = numbered_passed gives entries (l.place + 1) l.place item.0 lt is (empty_of (gives (l.place + 1) item.0) first) ∙ l.invariant.left;
    }

pub returns-in-Some : goal.returns-in-Some
returns-in-Some c =
    let d = c.args.known.now in
    let l = c.loop-place in
    let entries = d.bounds.now.entries in
    let gives = entry_failures d.tasks.now entries in
    let lt : l.place < length entries = (let test = c.loop-place-test.true in let count = c.len-place-end.ensures in omega (arith, test, count)) in
    let item = item_at entries l.place lt in
    let is : item.0 ≡ get_or entries l.place item.0 = sym (get_or_from_slice_get entries l.place item.0 item.0 item.1) in
    let first : Some c.in-Some.failure ≡ slice_get (gives (l.place + 1) item.0) 0 = sym c.in-Some.is ∙ c.failure_at.ensures.first item.0 item.1 in
    numbered_found gives entries (l.place + 1) l.place item.0 lt is c.in-Some.failure first
    ∙ ap (λ (vs : List AuditVerdict). slice_get vs 0) l.invariant.left

pub returns : goal.returns
returns c =
    let d = c.args.known.now in
    let l = c.loop-place in
    let entries = d.bounds.now.entries in
    let gives = entry_failures d.tasks.now entries in
    let past : length entries ≤ l.place = (let test = c.loop-place-test.false in let count = c.len-place-end.ensures in omega (arith, test, count)) in
    ap (λ (vs : List AuditVerdict). slice_get vs 0)
    (sym (numbered_end gives entries (l.place + 1) l.place past) ∙ l.invariant.left)
