use Rattle.std.proofs.Common.{◌≡◌, ◌+◌, ◌<◌, ◌≤◌, ◌++◌, length, take}
use Rattle.mp_store.specs.Keys.{same_key}
use Rattle.mp_store.specs.Laws.{IsSound}
use Rattle.mp_trail.specs.Walk.{walk}
use Rattle.mp_trail.proofs.trail.note_walk.Given as goal

-- what is noted, with what is still to be noted, is all that the walk notes
abbrev pub invariant-origins : goal.invariant-origins
invariant-origins l = record {
  sound : IsSound same_key l.store;
  inside : l.number < length l.store.entries;
  small : l.back + l.number ≤ l.fn.back + l.entry;
  noted : l.noted.items ++ (walk l.store l.number l.back).noted ≡ l.fn.noted.items ++ (walk l.store l.entry l.fn.back).noted;
  end : (walk l.store l.number l.back).end ≡ (walk l.store l.entry l.fn.back).end;
  longer : length l.fn.noted.items ≤ length l.noted.items;
  known : take (length l.fn.noted.items) l.noted.items ≡ l.fn.noted.items;
}

abbrev pub decreases-origins : goal.decreases-origins
decreases-origins l = l.number
