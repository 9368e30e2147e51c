-- The public part of what an agent has grounded (MA-STRIPS, Brafman and Domshlak 2008).
use Rattle.std.specs.Prelude.{Bool, List, map, filter}
use Rattle.std.specs.Option.{is_none}
use Rattle.mp_joint.specs.declared.fact.SignedFact.{SignedFact}
use Rattle.mp_joint.specs.Fact.{Text}
use Rattle.mp_lifting.specs.Texts.{signed_text}
use Rattle.mp_views.specs.Sorted.{sorted_once}

-- a fact, or the complement of one, is public
abbrev pub is_public : SignedFact → Bool
is_public x = is_none x.fact.owner

-- the texts of the public ones of some facts and complements
abbrev pub public_texts : List SignedFact → List Text
public_texts facts = sorted_once (map signed_text (filter is_public facts))
