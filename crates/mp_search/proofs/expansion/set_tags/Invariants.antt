use Rattle.std.proofs.Common.{◌≡◌, take}
use Rattle.mp_search.proofs.expansion.set_tags.Given as goal

abbrev pub invariant-loop-tag : goal.invariant-loop-tag
invariant-loop-tag l = l.tags ≡ take l.tag-index l.other
