-- The messages from one agent to another, after a schedule and after its cut (Chandy and Lamport
-- 1985).
use Rattle.std.specs.Prelude.{◌≡◌, Bool, true, false, List, ◌∷◌, ◌++◌}

-- The sender has recorded, and its marker is under way: before the marker are the messages that are
-- under way after the cut, too, and behind it later ones. The counted ones are those that the
-- receiver has taken since it recorded.
pub record IsParted {X : Type 0} (marker : X) (counted first second : List X) : Type 0 where
  pub rest : List X
  pub later : List X
  pub then : second ≡ counted ++ rest
  pub now : first ≡ rest ++ marker ∷ later

-- The messages under way after a schedule, first, and after its cut, second: by whether the sender
-- has recorded, and whether the receiver has recorded and has taken the sender's marker. The counted
-- ones are those that the receiver has taken from the sender since it recorded, up to that marker.
abbrev pub AreCut : {X : Type 0} → X → Bool → Bool → List X → List X → List X → Type 0
AreCut marker false taken counted first second = second ≡ counted ++ first
AreCut marker true false counted first second = IsParted marker counted first second
AreCut marker true true counted first second = second ≡ counted
