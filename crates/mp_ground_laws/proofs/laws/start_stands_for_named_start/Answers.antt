use Rattle.mp_ground_laws.proofs.Basics.{◌≡◌, Bool, true, false, not, if◌then◌else◌, ap}
use Rattle.mp_ground_laws.proofs.Parts.{parts_of}
use Rattle.mp_ground_laws.proofs.Starts.{same_start}
use Rattle.mp_ground_laws.proofs.laws.start_stands_for_named_start.Goals as goal

by_sign : (complement a b : Bool) → a ≡ b → (if complement then not a else a) ≡ (if not complement then b else not b)
by_sign true a b h = ap not h
by_sign false a b h = h

pub returns-clause-atoms : goal.returns-clause-atoms
returns-clause-atoms c = λ agent factor view a h range. same_start agent factor view a h (parts_of factor h.no_fault) range

pub returns-clause-facts : goal.returns-clause-facts
returns-clause-facts c = λ agent factor view f h range. by_sign f.is_complement _ _ (same_start agent factor view _ h (parts_of factor h.no_fault) range)
