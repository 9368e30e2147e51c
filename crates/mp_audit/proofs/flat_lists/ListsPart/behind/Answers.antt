use Rattle.std.proofs.Common.{◌+◌, ◌<◌, length, ap, arith}
use Rattle.mp_audit.proofs.FlatLemmas.{list_behind, place_within, rising_at, within_behind}
use Rattle.mp_audit.proofs.flat_lists.ListsPart.behind.Goals as goal

pub offset_bounds-ends-at : goal.offset_bounds-ends-at
offset_bounds-ends-at c =
    let inside = c.self.inside in
    let place : c.args.at + 1 < length inside.ends.now = place_within inside.start inside.ends.now inside.numbers.now (c.args.at + 1) (length c.args.self.now) (ap length c.self.view_is) c.requires in
    let told = c.self.told in
    omega arith

pub bounds-ends-at : goal.bounds-ends-at
bounds-ends-at c =
    let inside = c.self.inside in
    let place : c.args.at + 1 < length inside.ends.now = place_within inside.start inside.ends.now inside.numbers.now (c.args.at + 1) (length c.args.self.now) (ap length c.self.view_is) c.requires in
    omega arith

pub overflow_add-end : goal.overflow_add-end
overflow_add-end c =
    let inside = c.self.inside in
    let place : c.args.at + 1 < length inside.ends.now = place_within inside.start inside.ends.now inside.numbers.now (c.args.at + 1) (length c.args.self.now) (ap length c.self.view_is) c.requires in
    let told = c.self.told in
    omega arith

pub offset_bounds-ends-at-2 : goal.offset_bounds-ends-at-2
offset_bounds-ends-at-2 c =
    let inside = c.self.inside in
    let place : c.args.at + 1 < length inside.ends.now = place_within inside.start inside.ends.now inside.numbers.now (c.args.at + 1) (length c.args.self.now) (ap length c.self.view_is) c.requires in
    let told = c.self.told in
    omega arith

pub bounds-ends-at-2 : goal.bounds-ends-at-2
bounds-ends-at-2 c =
    let inside = c.self.inside in
    let place : c.args.at + 1 < length inside.ends.now = place_within inside.start inside.ends.now inside.numbers.now (c.args.at + 1) (length c.args.self.now) (ap length c.self.view_is) c.requires in
    place

pub offset_bounds-self-inside-start : goal.offset_bounds-self-inside-start
offset_bounds-self-inside-start c =
    let inside = c.self.inside in
    let place : c.args.at + 1 < length inside.ends.now = place_within inside.start inside.ends.now inside.numbers.now (c.args.at + 1) (length c.args.self.now) (ap length c.self.view_is) c.requires in
    let within = within_behind inside.start inside.ends.now (length inside.numbers.now) c.args.at place c.self.invariant.within in
    let told = c.self.told in
    omega arith

pub slice_bounds-result-count : goal.slice_bounds-result-count
slice_bounds-result-count c =
    let inside = c.self.inside in
    let place : c.args.at + 1 < length inside.ends.now = place_within inside.start inside.ends.now inside.numbers.now (c.args.at + 1) (length c.args.self.now) (ap length c.self.view_is) c.requires in
    let within = within_behind inside.start inside.ends.now (length inside.numbers.now) c.args.at place c.self.invariant.within in
    within.0

pub slice_bounds-result-start : goal.slice_bounds-result-start
slice_bounds-result-start c =
    let inside = c.self.inside in
    let place : c.args.at + 1 < length inside.ends.now = place_within inside.start inside.ends.now inside.numbers.now (c.args.at + 1) (length c.args.self.now) (ap length c.self.view_is) c.requires in
    let within = within_behind inside.start inside.ends.now (length inside.numbers.now) c.args.at place c.self.invariant.within in
    within.0

pub slice_bounds-result-end : goal.slice_bounds-result-end
slice_bounds-result-end c =
    let inside = c.self.inside in
    let place : c.args.at + 1 < length inside.ends.now = place_within inside.start inside.ends.now inside.numbers.now (c.args.at + 1) (length c.args.self.now) (ap length c.self.view_is) c.requires in
    let within = within_behind inside.start inside.ends.now (length inside.numbers.now) c.args.at place c.self.invariant.within in
    within.1

pub returns-clause-list : goal.returns-clause-list
returns-clause-list c =
    let inside = c.self.inside in
    let place : c.args.at + 1 < length inside.ends.now = place_within inside.start inside.ends.now inside.numbers.now (c.args.at + 1) (length c.args.self.now) (ap length c.self.view_is) c.requires in
    rw (← c.self.view_is) (list_behind inside.start inside.ends.now inside.numbers.now c.args.at place)

pub returns-clause-rising : goal.returns-clause-rising
returns-clause-rising c =
    let inside = c.self.inside in
    let place : c.args.at + 1 < length inside.ends.now = place_within inside.start inside.ends.now inside.numbers.now (c.args.at + 1) (length c.args.self.now) (ap length c.self.view_is) c.requires in
    rising_at _ (c.args.at + 1) _ c.self.invariant.rise (list_behind inside.start inside.ends.now inside.numbers.now c.args.at place)
