use Rattle.std.proofs.Common.{◌≡◌, ◌≤◌, length, map, drop}
use Rattle.std.specs.Vec.Iter.{into_iter_items}
use Rattle.mp_files.specs.Fetched.{texts_of}
use Rattle.mp_files.specs.Reading.{AreRead}
use Rattle.mp_files.specs.Said.{parts_of}
use Rattle.mp_files.specs.Team.{Says}
use Rattle.mp_files.proofs.said.said_by_team.Given as goal

-- the parts so far are what the first texts say, and the others are left
abbrev pub invariant-loop-more : goal.invariant-loop-more
invariant-loop-more l = record {
  next : (goal.iterator-loop-more).can_next l.more-iterator;
  finite : (goal.iterator-loop-more).is_finite l.more-iterator;
  within : length l.parts.items ≤ length l.fn.texts.items;
  left : into_iter_items l.more-iterator ≡ drop (length l.parts.items) l.fn.texts.items;
  said : AreRead Says (map texts_of l.fn.texts.items) (map parts_of l.parts.items);
}
