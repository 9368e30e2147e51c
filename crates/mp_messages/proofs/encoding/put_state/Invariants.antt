use Rattle.std.proofs.Common.{◌≡◌, ◌++◌, take}
use Rattle.std.specs.List.{flat_map}
use Rattle.mp_messages.specs.Spelling.{number, counted, tag}
use Rattle.mp_messages.proofs.encoding.put_state.Given as goal

abbrev pub invariant-loop-tag : goal.invariant-loop-tag
invariant-loop-tag l =
    l.out ≡ l.fn.out ++ (number l.s.sent ++ (number l.s.g ++ (number l.s.h ++ (counted l.s.facts ++ flat_map tag (take l.tag-index l.tag-items)))))
