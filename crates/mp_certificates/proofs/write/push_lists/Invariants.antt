use Rattle.std.proofs.Common.{◌≡◌, ◌++◌, take}
use Rattle.std.specs.List.{flat_map}
use Rattle.mp_certificates.specs.Text.{blank_facts}
use Rattle.mp_certificates.proofs.write.push_lists.Given as goal

-- the text has grown by the lists so far
abbrev pub invariant-loop-facts : goal.invariant-loop-facts
invariant-loop-facts l = l.text ≡ l.fn.text ++ flat_map blank_facts (take l.facts-index l.lists)
