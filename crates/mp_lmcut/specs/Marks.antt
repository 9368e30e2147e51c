-- Facts that are marked, and those of them from which what they lead to is still to be marked.
use Rattle.std.specs.Prelude.{ℕ, Bool, List}
use Rattle.mp_lmcut.specs.declared.marks.Marks.TheInside.{Inside}

pub record MarkLists : Type 0 where
  pub flags : List Bool
  pub todo : List ℕ

abbrev pub mark_lists : Inside → MarkLists
mark_lists m = record { flags = m.flags.items; todo = m.todo.items }
