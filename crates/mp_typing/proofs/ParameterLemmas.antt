-- Parameters of one action, one after the other, as a loop finds those that come second.
use Rattle.mp_typing.proofs.Basics.{◌≡◌, ℕ, ◌+◌, ◌<◌, ◌≤◌, List, [], ◌∷◌, ◌++◌, length, get_or, take, drop, Option, sym, ◌∙◌, drop_of_length-le, drop_more, take_more, Domain, Typed, Fault, is_earlier, leftmost, parameter_faults, twice_if}
use Rattle.mp_typing.specs.Repeats.{is_second}
use Rattle.mp_list.proofs.FirstLemmas.{leftmost_append}

-- one parameter is looked at, and what follows
pub goes_on : (o o' whole : Option Fault) (ps : List Typed) (i : ℕ) (p : Typed) (later : List Typed)
    → i < length ps → p ≡ get_or ps i p → later ≡ drop (i + 1) ps
    → o' ≡ leftmost o (twice_if (is_second (take i ps) p later) Domain p.word)
    → leftmost o (parameter_faults (take i ps) (drop i ps)) ≡ whole
    → leftmost o' (parameter_faults (take (i + 1) ps) (drop (i + 1) ps)) ≡ whole
unfolding parameter_faults
goes_on o o' whole ps i p later lt is behind found so_far =
    rw (found, behind, take_more ps i p lt, ← is)
    (sym (leftmost_append is_earlier o (twice_if (is_second (take i ps) p (drop (i + 1) ps)) Domain p.word) (parameter_faults (take i ps ++ p ∷ []) (drop (i + 1) ps)))
    ∙ rw (drop_more ps i p lt, ← is) at so_far)

-- all are looked at
pub ends : (o whole : Option Fault) (ps : List Typed) (i : ℕ) → length ps ≤ i
    → leftmost o (parameter_faults (take i ps) (drop i ps)) ≡ whole → o ≡ whole
unfolding parameter_faults
ends o whole ps i le so_far = rw (drop_of_length-le ps le) at so_far
