use Rattle.std.proofs.Common.{◌≡◌, ◌++◌, length, take}
use Rattle.std.specs.List.{flat_map}
use Rattle.mp_messages.specs.Spelling.{short_number}
use Rattle.mp_messages.proofs.encoding.put_facts.Given as goal

abbrev pub invariant-loop-fact : goal.invariant-loop-fact
invariant-loop-fact l =
    l.out ≡ l.fn.out ++ (short_number (length l.numbers) ++ flat_map short_number (take l.fact-index l.numbers))
