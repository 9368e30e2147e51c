-- The arrays of a pattern as the pattern that contracts see.
use Rattle.std.specs.Prelude.{length}
use Rattle.mp_pdb.specs.declared.pattern.Pattern.TheInside.{Inside}
use Rattle.mp_pdb.specs.Masks.{SizedPattern}

abbrev pub sized_pattern : Inside → SizedPattern
sized_pattern p = record { size = length p.places.items; facts = p.facts.items }
