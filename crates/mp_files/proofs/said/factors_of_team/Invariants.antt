use Rattle.std.proofs.Common.{◌≡◌, ◌≤◌, length, map, drop}
use Rattle.std.specs.Vec.Iter.{into_iter_items}
use Rattle.mp_files.specs.File.{Checks}
use Rattle.mp_files.specs.Reading.{AreRead}
use Rattle.mp_files.specs.Said.{parts_of}
use Rattle.mp_files.proofs.said.factors_of_team.Given as goal

-- the factors so far are those of the first agents, and the others' parts are left
abbrev pub invariant-loop-more : goal.invariant-loop-more
invariant-loop-more l = record {
  next : (goal.iterator-loop-more).can_next l.more-iterator;
  finite : (goal.iterator-loop-more).is_finite l.more-iterator;
  within : length l.team ≤ length l.fn.parts.items;
  left : into_iter_items l.more-iterator ≡ drop (length l.team) l.fn.parts.items;
  checked : AreRead Checks (map parts_of l.fn.parts.items) l.team;
}
