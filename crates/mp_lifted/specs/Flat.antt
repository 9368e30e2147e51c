-- Bindings whose objects stand behind one another in one list: what the fields of a flat list stand for.
use Rattle.std.specs.Prelude.{ℕ, ◌≤◌, List, All, length, map, slice_range}
use Rattle.mp_lifted.specs.Binding.{ActionBinding}
use Rattle.mp_lifted.specs.declared.bindings.Head.{Head}
use Rattle.mp_lifted.specs.declared.bindings.ActionBindingList.TheInside.{Inside}

-- a head with its objects, which are some of all
abbrev pub with_objects : List ℕ → Head → ActionBinding
with_objects all head =
    record { action = head.action; objects = slice_range all head.start head.end; cost = head.cost }

abbrev pub bindings : Inside → List ActionBinding
bindings l = map (with_objects l.objects.items) l.heads.items

-- a head's objects are among so many
abbrev pub IsWithin : ℕ → Head → Type 0
IsWithin count head = (head.start ≤ head.end) × (head.end ≤ count)

abbrev pub IsFlat : Inside → Type 0
IsFlat l = All (IsWithin (length l.objects.items)) l.heads.items
