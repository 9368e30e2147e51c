use Rattle.mp_typing.proofs.Basics.{◌≡◌, ◌++◌, ℕ, List, take, items_of, listed_by}
use Rattle.mp_typing.proofs.by_type.add_to_each.Given as goal

abbrev pub invariant-loop-word : goal.invariant-loop-word
invariant-loop-word g l =
    (name : List ℕ)
    → items_of l.items.entries name ≡ items_of l.fn.items.entries name ++ listed_by l.item (take l.word-index l.types) name
