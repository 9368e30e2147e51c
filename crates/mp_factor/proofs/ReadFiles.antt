-- A file that is read part after part.
use Rattle.mp_factor.proofs.Basics.{◌≡◌, ◌<◌, false, List, [], ◌∷◌, length, Option, Result, Err, refl, sym, ap, ◌∙◌, arith, codes, Place, Tree, Node, nodes_in, Fault, Word, Typed, Literal, Start, place_of}
use Rattle.mp_factor.proofs.Basics.{parts, IsFirst, Reading, Says, faults_in, misshapen, besides, found_in, said_found, second_found, problem_from, objects, empty_start, in_section, listed_rule, named_rule, start_rule, goal_rule}
use Rattle.mp_factor.proofs.Basics.{define_members, file_rule, problem_of, problem_parts}
use Rattle.std.specs.Prelude.{ℕ, Bool, IsOk, MatchOption}
use Rattle.mp_forms.specs.Rules.Sections.{metric_rule}
use Rattle.mp_factor.proofs.FoundLemmas.{found_both, found_says, found_wrong}
use Rattle.mp_factor.proofs.PartLemmas.{paired, with_six}

-- a file by the members of its list; a word has none
pub file_members : {X : Type 0} → (kind : List ℕ) (inside : Place → Reading Word → List Node → Reading X) (node : Node)
    → file_rule kind inside node ≡ define_members kind inside (place_of node) (parts node)
unfolding file_rule
file_members kind inside node = grind arith

pub by_members : {X : Type 0} → (kind : List ℕ) (inside : Place → Reading Word → List Node → Reading X) (node : Node) (place : Place) (ns : List Node)
    → place ≡ place_of node → ns ≡ parts node → file_rule kind inside node ≡ define_members kind inside place ns
by_members kind inside node place ns at is = rw (at, is) (file_members kind inside node)

pub too_few : {X : Type 0} → (kind : List ℕ) (inside : Place → Reading Word → List Node → Reading X) (whole : Place) (trees : List Tree)
    → length trees < 2 → define_members kind inside whole (nodes_in trees) ≡ misshapen whole
too_few kind inside whole [] lt = refl
too_few kind inside whole (t ∷ []) lt = refl
too_few kind inside whole (t ∷ u ∷ ts) lt = absurd (omega (arith, lt))

pub besides_found : {X Y : Type 0} → (a : Reading X) (b : Reading Y) (first : Result X Fault) (second out : Result Y Fault)
    → first ≡ found_in a → second ≡ found_in b → out ≡ second_found first second → out ≡ found_in (besides a b)
besides_found a b first second out is_first is_second is = grind (arith, found_both)

-- what is said behind two readings that say nothing
pub behind_two : {P X : Type 0} → (of : P → X) (a b : Reading (Unit {0})) (r : Reading X) (first second : Result (Unit {0}) Fault) (p inner out : Result P Fault)
    → first ≡ found_in a → second ≡ found_in b → said_found of p ≡ found_in r → inner ≡ second_found second p → out ≡ second_found first inner
    → said_found of out ≡ found_in (besides a (besides b r))
behind_two of a b r first second p inner out is_first is_second is_p is_inner is = grind (arith, found_both)

-- a problem, part by part
pub problem_read : (whole : Place) (title : Reading Word) (sections : List Node)
    → (name : Result Word Fault) (known : Result ((Word × Word) × List Typed) Fault)
    (found : Result (((((Word × Word) × List Typed) × Start) × List Literal) × Bool) Fault)
    → name ≡ found_in title
    → known ≡ paired (paired name (found_in (in_section (codes ":domain") named_rule (misshapen whole) sections)))
    (found_in (in_section (codes ":objects") (listed_rule objects) (Says []) sections))
    → found ≡ paired (paired (paired known (found_in (in_section (codes ":init") start_rule (Says empty_start) sections)))
    (found_in (in_section (codes ":goal") goal_rule (Says []) sections)))
    (found_in (in_section (codes ":metric") metric_rule (Says false) sections))
    → said_found problem_from found ≡ found_in (problem_parts whole title sections)
unfolding problem_parts
problem_read whole title sections name known found is_name is_known is =
    let domain = in_section (codes ":domain") named_rule (misshapen whole) sections in
    let declared = in_section (codes ":objects") (listed_rule objects) (Says []) sections in
    let init = in_section (codes ":init") start_rule (Says empty_start) sections in
    let goals = in_section (codes ":goal") goal_rule (Says []) sections in
    let metric = in_section (codes ":metric") metric_rule (Says false) sections in
    let read : found ≡ paired (paired (paired (paired (paired (found_in title) (found_in domain)) (found_in declared)) (found_in init)) (found_in goals)) (found_in metric) = cc in
    ap (λ r. said_found problem_from r) read ∙ sym (with_six problem_of title domain declared init goals metric)

-- the first of what is wrong, where there is something
pub first_fault : {P X : Type 0} → (of : P → X) (found : Result P Fault) (reading : Reading X) (o : Option Fault)
    → said_found of found ≡ found_in reading → MatchOption o (IsOk found) (λ fault. found ≡ Err fault)
    → MatchOption o (faults_in reading ≡ []) (λ fault. IsFirst (faults_in reading) fault)
first_fault of found reading o is right = grind (arith, found_says, found_wrong)
