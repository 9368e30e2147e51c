use Rattle.std.proofs.Common.{◌≡◌, ◌+◌, ◌-◌, ◌*◌, ◌<◌, ◌≤◌, length, ap, sym, arith}
use Rattle.mp_audit.proofs.FlatLemmas.{length_cut, part_cut, part_is_cut}
use Rattle.mp_audit.proofs.flat_lists.FlatLists.part.Goals as goal

pub start_at-requires : goal.start_at-requires
start_at-requires c =
    let inside = c.self.inside in
    omega (arith, length_cut 0 inside.ends.items inside.numbers.items, ap length c.self.view_is, ap length c.as_slice-ends.ensures.value)

pub overflow_add-result : goal.overflow_add-result
overflow_add-result c =
    let inside = c.self.inside in
    let total : length c.args.self.now ≡ length c.as_slice-ends.result.now = omega (arith, length_cut 0 inside.ends.items inside.numbers.items, ap length c.self.view_is, ap length c.as_slice-ends.ensures.value) in
    let fits : (length c.as_slice-ends.result.now < 18446744073709551616) × (length c.as_slice-ends.result.now * 4 < 9223372036854775808) = c.as_slice-ends.type_inv in
    omega arith

pub offset_bounds-ends-first : goal.offset_bounds-ends-first
offset_bounds-ends-first c =
    let inside = c.self.inside in
    let total : length c.args.self.now ≡ length c.as_slice-ends.result.now = omega (arith, length_cut 0 inside.ends.items inside.numbers.items, ap length c.self.view_is, ap length c.as_slice-ends.ensures.value) in
    let fits : (length c.as_slice-ends.result.now < 18446744073709551616) × (length c.as_slice-ends.result.now * 4 < 9223372036854775808) = c.as_slice-ends.type_inv in
    omega arith

pub slice_bounds-result-end : goal.slice_bounds-result-end
slice_bounds-result-end c =
    let inside = c.self.inside in
    let total : length c.args.self.now ≡ length c.as_slice-ends.result.now = omega (arith, length_cut 0 inside.ends.items inside.numbers.items, ap length c.self.view_is, ap length c.as_slice-ends.ensures.value) in
    omega arith

pub invariant_of-result : goal.invariant_of-result
invariant_of-result c =
    let inside = c.self.inside in
    let total : length c.args.self.now ≡ length inside.ends.items = omega (arith, length_cut 0 inside.ends.items inside.numbers.items, ap length c.self.view_is) in
    let room : c.args.first ≤ length inside.ends.items = omega arith in
    let count : c.args.first + c.args.count - c.args.first ≡ c.args.count = omega arith in
    rw (c.start_at.ensures, c.as_slice-ends.ensures.value, c.as_slice.ensures.value, count)
    (part_is_cut 0 inside.ends.items inside.numbers.items c.args.first c.args.count room c.self.invariant.are_cut)

pub returns : goal.returns
returns c =
    let inside = c.self.inside in
    let count : c.args.first + c.args.count - c.args.first ≡ c.args.count = omega arith in
    rw (c.start_at.ensures, c.as_slice-ends.ensures.value, c.as_slice.ensures.value, count, ← c.self.view_is)
    (sym (part_cut 0 inside.ends.items inside.numbers.items c.args.first c.args.count))
