use Rattle.std.proofs.Common.{◌≡◌, ◌+◌, ◌<◌, ◌≤◌, ℕ, length, None, Some, slice_get, refl, sym, ap, subst, ◌∙◌, arith}
use Rattle.std.proofs.lemmas.Option.{slice_get-get_or}
use Rattle.mp_task.specs.Plan.{JointState}
use Rattle.mp_reach.specs.LeadsOn.{Known}
use Rattle.mp_audit.specs.declared.certificate.Bound.{Bound}
use Rattle.mp_audit.specs.Audited.{known_of}
use Rattle.mp_audit.specs.Fits.{BoundFits}
use Rattle.mp_audit.specs.States.{known_by}
use Rattle.mp_audit.proofs.StateLemmas.{state_is}
use Rattle.mp_audit.proofs.TableLemmas.{all_once, looked_for, no_repeat, repeat}
use Rattle.mp_audit.proofs.table.table_of.Goals as goal

-- a joint state in the search of an agent
abbrev record_of : ℕ → JointState → Known
record_of agent s = record { agent = agent; state = s }

pub entry-bound-requires : goal.entry-bound-requires
entry-bound-requires c = let lt = c.loop-place-test.true in let count = c.len-place-end.ensures in omega (arith, lt, count)

pub set_to-requires-clause-fits : goal.set_to-requires-clause-fits
set_to-requires-clause-fits c =
    let lt : c.loop-place.place < length c.args.bounds.now.entries = (let test = c.loop-place-test.true in let count = c.len-place-end.ensures in omega (arith, test, count)) in
    subst (BoundFits c.args.tasks.now) (sym c.entry-bound.ensures.is) (c.requires c.loop-place.place c.entry-bound.result lt)

pub loop-place-init : goal.loop-place-init
loop-place-init c = record {
  chained = c.in_ok-chains.ensures.chained c.args.tasks.now c.args.bounds.now.entries;
  count = c.in_ok-chains.ensures.none;
  sizes = c.in_ok-state.ensures.sizes;
  left = refl;
}

pub add-requires : goal.add-requires
add-requires c = c.loop-place.invariant.chained.some_place

pub loop-place-preserved : goal.loop-place-preserved
loop-place-preserved c =
    let l = c.loop-place in
    let b = c.entry-bound.result in
    let lt : l.place < length c.args.bounds.now.entries = (let test = c.loop-place-test.true in let count = c.len-place-end.ensures in omega (arith, test, count)) in
    let tasks = c.args.tasks.now in
    let bounds = c.args.bounds.now.entries in
    let state = c.set_to.new.state in
    let agent = c.agent-agent.result in
    let fit = subst (BoundFits tasks) (sym c.entry-bound.ensures.is) (c.requires l.place b lt) in
    let here : slice_get bounds (length l.chains.before.items) ≡ Some b =
    ap (slice_get bounds) l.invariant.count ∙ slice_get-get_or bounds l.place b lt ∙ ap (λ (x : Bound). Some x) (sym c.entry-bound.ensures.is) in
    record {
      chained =
          c.in_ok-add.ensures.chained tasks bounds b l.invariant.chained here
          (state_is tasks agent state b fit.privates c.set_to.ensures.sizes (sym (λ j. record_of (c.agent-agent.ensures j) (c.set_to.ensures.joint j))));
      count = c.in_ok-add.ensures.more ∙ ap (λ (n : ℕ). n + 1) l.invariant.count;
      sizes = c.set_to.ensures.sizes;
      left =
          no_repeat bounds l.place b lt c.entry-bound.ensures.is
          (looked_for bounds None (length l.chains.before.items) l.place (known_by agent state) (known_of b) l.invariant.count (λ j. record_of (c.agent-agent.ensures j) (c.set_to.ensures.joint j)) c.in_default.ensures)
          ∙ l.invariant.left;
    }

pub returns-in-Some : goal.returns-in-Some
returns-in-Some c =
    let l = c.loop-place in
    let b = c.entry-bound.result in
    let lt : l.place < length c.args.bounds.now.entries = (let test = c.loop-place-test.true in let count = c.len-place-end.ensures in omega (arith, test, count)) in
    let bounds = c.args.bounds.now.entries in
    let state = c.set_to.new.state in
    let agent = c.agent-agent.result in
    repeat bounds l.place b lt c.entry-bound.ensures.is _
    (looked_for bounds (Some _) (length l.chains.before.items) l.place (known_by agent state) (known_of b) l.invariant.count (λ j. record_of (c.agent-agent.ensures j) (c.set_to.ensures.joint j)) c.in-Some.ensures)
    l.invariant.left

pub returns : goal.returns
returns c =
    let l = c.loop-place in
    let past : length c.args.bounds.now.entries ≤ l.place = (let test = c.loop-place-test.false in let count = c.len-place-end.ensures in omega (arith, test, count)) in
    let within = l.invariant.chained.within in
    let count = l.invariant.count in
    (record { chained = l.invariant.chained; all = omega (arith, past, within, count) }, all_once c.args.bounds.now.entries l.place past l.invariant.left)
