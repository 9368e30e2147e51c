use Rattle.std.proofs.Common.{◌<◌, length, sym, subst, arith}
use Rattle.mp_messages.specs.LogFields.{IsInside}
use Rattle.mp_messages.proofs.lines.place_there.Goals as goal

pub are_bytes_at-requires : goal.are_bytes_at-requires
are_bytes_at-requires c =
    let size = length c.args.area.now in
    let at = c.index-lines-at in
    let there : c.args.at < length c.args.lines.now = omega arith in
    c.place_of-place.ensures.inside size (subst (IsInside size) (sym at.is) (c.requires c.args.at at.result there))

pub returns-then-are_bytes_at-clause-place : goal.returns-then-are_bytes_at-clause-place
returns-then-are_bytes_at-clause-place c =
    let size = length c.args.area.now in
    let at = c.index-lines-at in
    let there : c.args.at < length c.args.lines.now = omega arith in
    c.place_of-place.ensures.inside size (subst (IsInside size) (sym at.is) (c.requires c.args.at at.result there))
