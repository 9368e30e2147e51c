-- How facts are spelled in what agents show each other.
use Rattle.std.specs.Prelude.{List, ◌∷◌, ◌++◌, codes, if◌then◌else◌}
use Rattle.std.specs.List.{join_with_byte}
use Rattle.mp_joint.specs.declared.fact.NamedFact.{NamedFact}
use Rattle.mp_joint.specs.declared.fact.SignedFact.{SignedFact}
use Rattle.mp_joint.specs.Fact.{Text}

-- names between brackets, with one space between each two
abbrev pub bracketed : List Text → Text
bracketed names = codes "(" ++ join_with_byte 32 names ++ codes ")"

-- `(p a b)`
abbrev pub fact_text : NamedFact → Text
fact_text f = bracketed (f.predicate ∷ f.args)

-- `(not (p a b))` for a complement
abbrev pub signed_text : SignedFact → Text
signed_text x = if x.positive then fact_text x.fact else codes "(not " ++ fact_text x.fact ++ codes ")"
