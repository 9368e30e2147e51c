use Rattle.std.proofs.Common.{◌<◌, length, ap, arith}
use Rattle.mp_audit.proofs.FlatLemmas.{list_at, place_within, rising_at, within_at}
use Rattle.mp_audit.proofs.flat_lists.ListsPart.list.Goals as goal

pub start_at-start-requires : goal.start_at-start-requires
start_at-start-requires c =
    let inside = c.self.inside in
    let place : c.args.at < length inside.ends.now = place_within inside.start inside.ends.now inside.numbers.now c.args.at (length c.args.self.now) (ap length c.self.view_is) c.requires in
    omega arith

pub offset_bounds-self-inside-at : goal.offset_bounds-self-inside-at
offset_bounds-self-inside-at c =
    let inside = c.self.inside in
    let place : c.args.at < length inside.ends.now = place_within inside.start inside.ends.now inside.numbers.now c.args.at (length c.args.self.now) (ap length c.self.view_is) c.requires in
    let told = c.self.told in
    omega arith

pub bounds-self-inside-at : goal.bounds-self-inside-at
bounds-self-inside-at c =
    let inside = c.self.inside in
    let place : c.args.at < length inside.ends.now = place_within inside.start inside.ends.now inside.numbers.now c.args.at (length c.args.self.now) (ap length c.self.view_is) c.requires in
    place

pub offset_bounds-self-inside-start : goal.offset_bounds-self-inside-start
offset_bounds-self-inside-start c =
    let inside = c.self.inside in
    let place : c.args.at < length inside.ends.now = place_within inside.start inside.ends.now inside.numbers.now c.args.at (length c.args.self.now) (ap length c.self.view_is) c.requires in
    let within = within_at inside.start inside.ends.now (length inside.numbers.now) c.args.at place c.self.invariant.within in
    let told = c.self.told in
    let start = c.start_at-start.ensures in
    omega arith

pub slice_bounds-result-count : goal.slice_bounds-result-count
slice_bounds-result-count c =
    let inside = c.self.inside in
    let place : c.args.at < length inside.ends.now = place_within inside.start inside.ends.now inside.numbers.now c.args.at (length c.args.self.now) (ap length c.self.view_is) c.requires in
    let within = within_at inside.start inside.ends.now (length inside.numbers.now) c.args.at place c.self.invariant.within in
    rw c.start_at-start.ensures within.0

pub slice_bounds-result-start : goal.slice_bounds-result-start
slice_bounds-result-start c =
    let inside = c.self.inside in
    let place : c.args.at < length inside.ends.now = place_within inside.start inside.ends.now inside.numbers.now c.args.at (length c.args.self.now) (ap length c.self.view_is) c.requires in
    let within = within_at inside.start inside.ends.now (length inside.numbers.now) c.args.at place c.self.invariant.within in
    rw c.start_at-start.ensures within.0

pub slice_bounds-result-end : goal.slice_bounds-result-end
slice_bounds-result-end c =
    let inside = c.self.inside in
    let place : c.args.at < length inside.ends.now = place_within inside.start inside.ends.now inside.numbers.now c.args.at (length c.args.self.now) (ap length c.self.view_is) c.requires in
    let within = within_at inside.start inside.ends.now (length inside.numbers.now) c.args.at place c.self.invariant.within in
    within.1

pub returns-clause-list : goal.returns-clause-list
returns-clause-list c =
    let inside = c.self.inside in
    let place : c.args.at < length inside.ends.now = place_within inside.start inside.ends.now inside.numbers.now c.args.at (length c.args.self.now) (ap length c.self.view_is) c.requires in
    rw (c.start_at-start.ensures, ← c.self.view_is) (list_at inside.start inside.ends.now inside.numbers.now c.args.at place)

pub returns-clause-rising : goal.returns-clause-rising
returns-clause-rising c =
    let inside = c.self.inside in
    let place : c.args.at < length inside.ends.now = place_within inside.start inside.ends.now inside.numbers.now c.args.at (length c.args.self.now) (ap length c.self.view_is) c.requires in
    rw c.start_at-start.ensures
    (rising_at _ c.args.at _ c.self.invariant.rise (list_at inside.start inside.ends.now inside.numbers.now c.args.at place))
