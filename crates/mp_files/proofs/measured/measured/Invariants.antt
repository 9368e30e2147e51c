use Rattle.std.proofs.Common.{◌≡◌, ◌≤◌, All, length, map, drop}
use Rattle.std.specs.Vec.Iter.{into_iter_items}
use Rattle.mp_files.specs.Fetched.{IsShort, texts_of}
use Rattle.mp_files.specs.Reading.{AreRead}
use Rattle.mp_files.specs.Team.{MeasuresTwo}
use Rattle.mp_files.proofs.measured.measured.Given as goal

-- the first texts are measured, and the others are left
abbrev pub invariant-loop-more : goal.invariant-loop-more
invariant-loop-more l = record {
  next : (goal.iterator-loop-more).can_next l.more-iterator;
  finite : (goal.iterator-loop-more).is_finite l.more-iterator;
  within : length l.measured.items ≤ length l.fn.texts.items;
  left : into_iter_items l.more-iterator ≡ drop (length l.measured.items) l.fn.texts.items;
  fits : AreRead MeasuresTwo (map texts_of l.fn.texts.items) (map texts_of l.measured.items);
  short : All (λ t. IsShort (texts_of t)) l.measured.items;
}
