-- A map that has the first cost of each function, while values are read.
use Rattle.mp_factor.proofs.Basics.{◌≡◌, ℕ, suc, ◌+◌, ◌<◌, ◌≤◌, Bool, true, false, not, cond, List, [], ◌∷◌, ◌++◌, length, map, get_or, take, drop, Option, Some, None, Result, Ok, refl, sym, ap, subst, ◌∙◌, drop-cons, arith, ◌==◌}
use Rattle.mp_factor.proofs.Basics.{if◌then◌else◌, lookup, drop_of_length-le, append_assoc, append-nil, map-append, flat_map-append, Tree, Node, node_of, nodes_in, Place, parts, place_of, is_headed, codes, name_rule, each, said, Fault, names_of_atom, Word, Reading, Says, Wrong, both}
use Rattle.mp_factor.proofs.Basics.{costly, all_right, found_in, second_found, nothing_found, AreFirst, Fact, Given, given_in, given, fact_rule, same_names, differs, differing}
use Rattle.std.proofs.lemmas.List.{take_more}
use Rattle.std.specs.Option.{option_or}
use Rattle.mp_forms.proofs.ValueLaws.{same_by_test}
use Rattle.mp_factor.specs.FirstCosts.{first_cost, function_words, given_by, words_in}
use Rattle.mp_forms.specs.declared.atom_values.Atom.{Atom}
use Rattle.mp_forms.specs.declared.atom_values.Term.{Term}
use Rattle.mp_forms.specs.declared.init_values.Value.{Value}
use Rattle.mp_forms.specs.declared.init_values.Fact.TheVariants.{Holds, Gives}
use Rattle.mp_forms.specs.Limits.{name_of_term}
use Rattle.mp_forms.specs.Parts.{word_of}
use Rattle.mp_forms.specs.Rules.Atoms.{applied_rule, object_rule}
use Rattle.mp_factor.proofs.FoundLemmas.{checks_begin, found_all_right, found_says, nothing_second, second_assoc}

-- the entries of a map from names to costs
abbrev pub Entries : Type 0
Entries = List (List (List ℕ) × ℕ)

-- ---- values that differ

abbrev pub is_other : Option ℕ → ℕ → Bool
is_other None cost = false
is_other (Some first) cost = not (first == cost)

abbrev names : Given → List (List ℕ)
names g = names_of_atom g.value.of

differs_by_names : (before : List Given) (g : Given) → differs before g ≡ is_other (first_cost (names g) before) g.value.cost
unfolding differs first_cost
differs_by_names [] g = refl
differs_by_names (e ∷ es) g = grind (arith, differs_by_names es g)

-- what is wrong with values behind others
abbrev pub wrong_behind : List Given → List Given → Result (Unit {0}) Fault
wrong_behind before gs = found_in (all_right (λ g. costly g.at) (differing before gs))

one_wrong : (b : Bool) (g : Given) → found_in (all_right (λ g. costly g.at) ((if b then g ∷ [] else []) ++ [])) ≡ found_in (if b then costly g.at else Says tt)
unfolding all_right both
one_wrong true g = refl
one_wrong false g = refl

-- what the map says of a value
pub fault_by : (costs : Entries) (before : List Given) (g : Given) (key : List (List ℕ)) (first : Option ℕ) → AreFirst costs before
    → key ≡ names_of_atom g.value.of → lookup (same_names key) costs ≡ first
    → found_in (if is_other first g.value.cost then costly g.at else Says tt) ≡ wrong_behind before (g ∷ [])
unfolding differing
fault_by costs before g key first holds is found =
    rw (← found, is, holds (names g), ← differs_by_names before g) (sym (one_wrong (differs before g) g))

-- ---- one more value

one_more : (key : List (List ℕ)) (before : List Given) (g : Given)
    → first_cost key (before ++ g ∷ []) ≡ option_or (first_cost key before) (if same_names (names g) key then Some g.value.cost else None)
unfolding first_cost
one_more key [] g = refl
one_more key (e ∷ es) g = grind (arith, one_more key es g)

-- a function that has a first cost keeps it
pub known : (costs : Entries) (before : List Given) (g : Given) (key : List (List ℕ)) (first : ℕ) → AreFirst costs before
    → key ≡ names_of_atom g.value.of → lookup (same_names key) costs ≡ Some first → AreFirst costs (before ++ g ∷ [])
known costs before g key first holds is found q =
    grind (arith, one_more q before g, holds q, holds key, same_by_test key q)

-- a function that has no first cost yet
pub new : (costs after : Entries) (before : List Given) (g : Given) (key : List (List ℕ)) → AreFirst costs before
    → key ≡ names_of_atom g.value.of → lookup (same_names key) costs ≡ None
    → ((q : List (List ℕ)) → lookup (same_names q) after ≡ cond (same_names key q) (Some g.value.cost) (lookup (same_names q) costs))
    → AreFirst after (before ++ g ∷ [])
new costs after before g key holds is found puts q =
    grind (arith, one_more q before g, holds q, holds key, puts q, same_by_test key q)

-- ---- member after member

all_right_append : {A : Type 0} → (rule : A → Reading (Unit {0})) (as' bs : List A)
    → found_in (all_right rule (as' ++ bs)) ≡ second_found (found_in (all_right rule as')) (found_in (all_right rule bs))
unfolding all_right
all_right_append rule [] bs = sym (checks_begin (found_in (all_right rule bs)))
all_right_append rule (a ∷ as') bs = rw (found_all_right, found_all_right, all_right_append rule as' bs, second_assoc) refl

differing_append : (before gs hs : List Given) → differing before (gs ++ hs) ≡ differing before gs ++ differing (before ++ gs) hs
unfolding differing
differing_append before [] hs = rw append-nil refl
differing_append before (g ∷ gs) hs = simp (differing_append (before ++ g ∷ []) gs hs, append_assoc)

-- what is wrong with values, and with others behind them
pub wrong_append : (gs hs : List Given) → wrong_behind [] (gs ++ hs) ≡ second_found (wrong_behind [] gs) (wrong_behind gs hs)
wrong_append gs hs = rw (differing_append [] gs hs) (all_right_append (λ g. costly g.at) (differing [] gs) (differing gs hs))

pub none_differs : (before : List Given) → wrong_behind before [] ≡ nothing_found
unfolding differing all_right
none_differs before = refl

-- where a member gives no value
pub ruleset none_given = (none_differs, nothing_second, append-nil)

given_found : (r : Reading Fact) → given_by (found_in r) ≡ given_in r
given_found (Says (Holds atom)) = refl
given_found (Says (Gives value at)) = refl
given_found (Wrong f fs) = refl

-- the values as far as one member more
pub given_next : (trees : List Tree) (i : ℕ) (tree : Tree) (fact : Result Fact Fault) → i < length trees → tree ≡ get_or trees i tree
    → fact ≡ found_in (fact_rule (node_of tree)) → given (nodes_in (take (i + 1) trees)) ≡ given (nodes_in (take i trees)) ++ given_by fact
unfolding given
given_next trees i tree fact lt is read =
    rw (read, given_found, take_more trees i tree lt, ← is, map-append, flat_map-append, append-nil) refl

-- ---- the words of a function

word_says : (n : Node) (w : Word) → name_rule n ≡ Says w → word_of n ≡ w.name
unfolding name_rule
word_says n w is = grind arith

objects_say : (ns : List Node) (ts : List Term) → each object_rule ns ≡ Says ts → map word_of ns ≡ map name_of_term ts
unfolding each both said
objects_say [] ts is = grind arith
objects_say (n ∷ ns) ts is = grind (arith, word_says, objects_say ns)

function_says : (n : Node) (atom : Atom) → applied_rule name_rule object_rule n ≡ Says atom → words_in n ≡ names_of_atom atom
unfolding applied_rule both
function_says n atom is = grind (arith, word_says, objects_say)

value_says : (n : Node) (value : Value) (at : Place) → fact_rule n ≡ Says (Gives value at) → function_words n ≡ names_of_atom value.of
unfolding fact_rule both said
value_says n value at is = grind (arith, function_says)

-- what is found to give a value stands at its function's words
pub found_of : (n : Node) (value : Value) (at : Place) → Ok (Gives value at) ≡ found_in (fact_rule n) → function_words n ≡ names_of_atom value.of
found_of n value at is = value_says n value at (found_says (fact_rule n) (Gives value at) (sym is))
