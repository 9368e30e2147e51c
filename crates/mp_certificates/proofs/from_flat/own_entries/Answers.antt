use Rattle.std.proofs.Common.{◌≡◌, ◌∙◌, ◌∷◌, ◌++◌, [], Some, ap, length, slice_get, sym}
use Rattle.mp_audit.specs.declared.certificate.Bound.{Bound}
use Rattle.mp_certificates.proofs.TakenLemmas.{all_taken, fewer_left, one_more_taken}
use Rattle.mp_certificates.proofs.from_flat.own_entries.Goals as goal

pub loop-entry-preserved : goal.loop-entry-preserved
loop-entry-preserved c =
    let bounds = c.loop-entry.bounds in
    let entries = c.args.flat.now.entries in
    let entry = c.in-Some.entry in
    let there : slice_get entries (length bounds) ≡ Some entry = sym (c.in-Some.ensures ∙ ap (slice_get entries) c.len-in-loop-entry.ensures) in
    let is : c.push.new.self ≡ bounds ++ entry ∷ [] =
    c.in_ok-push.ensures.ok ∙ ap (λ (b : Bound). bounds ++ b ∷ []) c.in_ok-own_entry.ensures in
    one_more_taken entries bounds c.loop-entry.invariant entry c.push.new.self there is

pub loop-entry-smaller : goal.loop-entry-smaller
loop-entry-smaller c =
    let bounds = c.loop-entry.bounds in
    let entries = c.args.flat.now.entries in
    let entry = c.in-Some.entry in
    let there : slice_get entries (length bounds) ≡ Some entry = sym (c.in-Some.ensures ∙ ap (slice_get entries) c.len-in-loop-entry.ensures) in
    let is : c.push.new.self ≡ bounds ++ entry ∷ [] =
    c.in_ok-push.ensures.ok ∙ ap (λ (b : Bound). bounds ++ b ∷ []) c.in_ok-own_entry.ensures in
    fewer_left entries bounds c.loop-entry.invariant entry c.push.new.self there is

pub returns : goal.returns
returns c =
    let entries = c.args.flat.now.entries in
    all_taken entries c.loop-entry.bounds c.loop-entry.invariant
    (sym (c.in_default.ensures ∙ ap (slice_get entries) c.len-in-loop-entry.ensures))
