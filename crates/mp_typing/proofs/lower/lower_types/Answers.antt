use Rattle.mp_typing.proofs.Basics.{◌∙◌, ◌≤◌, ◌+◌, [], ℕ, List, ap, arith, length, subst, slice_get, with_lower, with_types}
use Rattle.mp_typing.proofs.Finding.{all_looked_at, looked_on, none_looked_at}
use Rattle.mp_typing.proofs.lower.lower_types.Goals as goal

pub loop-place-init : goal.loop-place-init
loop-place-init c =
    c.in_ok-add_types.ensures ∙ ap (λ (ns : List (List ℕ)). with_types ns c.as_slice.result.now) c.new-found.ensures.empty
    ∙ ap (with_types []) c.as_slice.ensures ∙ none_looked_at c.args.types.now c.args.asked.now

pub loop-place-preserved : goal.loop-place-preserved
loop-place-preserved c =
    let l = c.loop-place in
    looked_on c.args.types.now c.args.asked.now c.add_lower.new.found.keys l.place
    (c.in_ok-add_lower.ensures c.args.types.now c.requires
    ∙ ap (λ (ns : List (List ℕ)). with_lower c.args.types.now ns (slice_get ns l.place)) l.invariant)

pub returns-then-place-len : goal.returns-then-place-len
returns-then-place-len c =
    let l = c.loop-place in
    let seen : length l.found.keys ≤ l.place =
    let count = c.len.ensures.len in
    let at = c.if-place-len.true in
    omega arith in
    let within : l.place ≤ length c.args.asked.now + length c.args.types.now =
    let below = c.loop-place-test.true in
    let a = ap length c.as_slice-2.ensures in
    let b = ap length c.as_slice-3.ensures in
    omega arith in
    l.invariant ∙ all_looked_at c.args.types.now c.args.asked.now l.place within (subst (λ (ns : List (List ℕ)). length ns ≤ l.place) l.invariant seen)
