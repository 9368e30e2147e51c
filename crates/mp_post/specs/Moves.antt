-- Parties of two desks in one.
use Rattle.std.specs.Prelude.{Bool, false, true, List}
use Rattle.mp_stamps.specs.declared.stamped.Stamped.{Stamped}

-- whether one desk or the other holds a party
abbrev pub either_mark : Bool → Bool → Bool
either_mark true other = true
either_mark false other = other

-- the list of a party: that of the desk that holds it, and of the first where both do or neither
abbrev pub chosen : Bool → Bool → List Stamped → List Stamped → List Stamped
chosen true other list others = list
chosen false true list others = others
chosen false false list others = list
