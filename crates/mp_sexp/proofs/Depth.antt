-- What is read has at most a hundred brackets open at any place.
use Rattle.std.proofs.Common.{◌≡◌, ℕ, ◌+◌, ◌≤◌, ◌<◌, Bool, true, false, cond, ltb, max, List, [], ◌∷◌, ◌++◌, length, Result, Ok, Err, refl, subst, arith}
use Rattle.std.proofs.lemmas.Bool.{ltb-true}
use Rattle.mp_sexp.specs.declared.tree.Place.{Place}
use Rattle.mp_sexp.specs.declared.bytes.Kind.{Kind}
use Rattle.mp_sexp.specs.declared.bytes.Kind.TheVariants as kinds
use Rattle.mp_sexp.specs.Part.{Part}
use Rattle.mp_sexp.specs.Part as parts
use Rattle.mp_sexp.specs.Kinds.{kind_of}
use Rattle.mp_sexp.specs.Node.{Node, word, list, nodes_from, depth, depth_of_all}
use Rattle.mp_sexp.specs.Spelling.{next_place, place_after, deepest}
use Rattle.mp_sexp.specs.Reading.{State, Level, start, ended, opened, closed, spelled_on, read_byte, step, run, finished, single_list, node_at}
use Rattle.mp_sexp.specs.declared.refusal.ReadRefusal.{ReadRefusal}
use Rattle.mp_sexp.specs.declared.refusal.ReadRefusal.TheVariants as refusals
use Rattle.mp_sexp.proofs.Complete.{not_none, reading}
use Rattle.mp_sexp.proofs.Sound.{Leads, second_trails}

abbrev IsShallow : List Node → List Level → Type 0
IsShallow members [] = depth_of_all (nodes_from members) ≤ 100
IsShallow members (level ∷ around) = (depth_of_all (nodes_from members) + length (level ∷ around) ≤ 100) × IsShallow level.members around

push_depth : (ns : List Node) (n : Node) → depth_of_all (nodes_from (ns ++ n ∷ [])) ≡ max (depth_of_all (nodes_from ns)) (depth n)
push_depth [] n = omega arith
push_depth (m ∷ ns) n = let h = push_depth ns n in omega (arith, h)

ended_depth : (part : Part) (ns : List Node) → depth_of_all (nodes_from (ended part ns)) ≡ depth_of_all (nodes_from ns)
ended_depth parts.Gap ns = refl
ended_depth parts.Comment ns = refl
ended_depth (parts.Word name place) ns = omega (arith, push_depth ns (word name place))

ended_shallow : (part : Part) (around : List Level) (ns : List Node) → IsShallow ns around → IsShallow (ended part ns) around
ended_shallow part [] ns h = rw (ended_depth part ns) h
ended_shallow part (level ∷ around) ns h = (rw (ended_depth part ns) h.0, h.1)

-- whatever a step makes is shallow
abbrev Stays : Result State ReadRefusal → Type 0
Stays (Err e) = Unit {0}
Stays (Ok t) = IsShallow t.members t.around

opened_if : (b : Bool) (at : Place) (members : List Node) (around : List Level) → (b ≡ true → length around < 100) → IsShallow members around
    → Stays (cond b (Ok (reading parts.Gap [] (record { members = members; inner = at } ∷ around))) (Err (refusals.Deep at)))
opened_if true at members around few h = (let k = few refl in omega (arith, k), h)
opened_if false at members around few h = tt

opened_shallow : (around : List Level) (at : Place) (members : List Node) → IsShallow members around → Stays (opened at members around)
opened_shallow [] at [] h = (omega arith, h)
opened_shallow [] at (m ∷ ms) h = rw (second_trails at m ms) tt
opened_shallow (level ∷ around) at members h =
    rw (not_none level around) (opened_if (ltb (length (level ∷ around)) deepest) at members (level ∷ around) (λ e. ltb-true (length (level ∷ around)) deepest e) h)

closed_list : (level : Level) (around : List Level) (n : Node) → depth n + length around ≤ 100 → IsShallow level.members around → IsShallow (level.members ++ n ∷ []) around
closed_list level [] n d h = omega (arith, push_depth level.members n)
closed_list level (other ∷ around) n d h = (omega (arith, push_depth level.members n), h.1)

closed_shallow : (around : List Level) (at : Place) (members : List Node) → IsShallow members around → Stays (closed at members around)
closed_shallow [] at members h = tt
closed_shallow (level ∷ around) at members h = closed_list level around (list (nodes_from members) level.inner) (omega arith) h.1

spelled_shallow : (s : State) (around : List Level) (at : Place) (b : ℕ) → IsShallow s.members around → Stays (spelled_on (reading s.part s.members around) at b)
spelled_shallow s [] at b h = tt
spelled_shallow s (level ∷ around) at b h = rw (not_none level around) h

byte_shallow : (k : Kind) (s : State) (at : Place) (b : ℕ) → IsShallow s.members s.around → Stays (read_byte k s at b)
unfolding read_byte
byte_shallow kinds.Space s at b h = ended_shallow s.part s.around s.members h
byte_shallow kinds.Comment s at b h = ended_shallow s.part s.around s.members h
byte_shallow kinds.Open s at b h = opened_shallow s.around at (ended s.part s.members) (ended_shallow s.part s.around s.members h)
byte_shallow kinds.Close s at b h = closed_shallow s.around at (ended s.part s.members) (ended_shallow s.part s.around s.members h)
byte_shallow kinds.Word s at b h = spelled_shallow s s.around at b h
byte_shallow kinds.Foreign s at b h = tt

step_shallow : (part : Part) (members : List Node) (around : List Level) (at : Place) (b : ℕ) → IsShallow members around → Stays (step (reading part members around) at b)
unfolding step
step_shallow parts.Gap members around at b h = byte_shallow (kind_of b) (reading parts.Gap members around) at b h
step_shallow parts.Comment members around at b h = h
step_shallow (parts.Word name begin) members around at b h = byte_shallow (kind_of b) (reading (parts.Word name begin) members around) at b h

single_depth : (members : List Node) (at : Place) (node : Node) → single_list at members ≡ Ok node → depth_of_all (nodes_from members) ≤ 100 → depth node ≤ 100
single_depth [] at node e h = absurd (cc (e))
single_depth (word name place ∷ ns) at node e h = absurd (cc (e))
single_depth (list nodes place ∷ []) at node e h = let same : list nodes place ≡ node = cc (e) in subst (λ (n : Node). depth n ≤ 100) same (omega arith)
single_depth (list nodes place ∷ n ∷ ns) at node e h = absurd (cc (e))

end_depth : (around : List Level) (part : Part) (members : List Node) (at : Place) (node : Node) → IsShallow members around → finished at (reading part members around) ≡ Ok node → depth node ≤ 100
end_depth [] part members at node h e = single_depth (ended part members) at node e (ended_shallow part [] members h)
end_depth (level ∷ around) part members at node h e = absurd (cc (e))

leads_depth : (text : List ℕ) (o : Result State ReadRefusal) (at : Place) (node : Node)
    → ((t : State) → IsShallow t.members t.around → run t at text ≡ Ok node → depth node ≤ 100)
    → Stays o → Leads o at text node → depth node ≤ 100
leads_depth text (Err d) at node rest h e = absurd (cc (e))
leads_depth text (Ok t) at node rest h e = rest t h e

run_depth : (text : List ℕ) (s : State) (at : Place) (node : Node) → IsShallow s.members s.around → run s at text ≡ Ok node → depth node ≤ 100
unfolding run
run_depth [] s at node h e = end_depth s.around s.part s.members at node h e
run_depth (b ∷ text) s at node h e =
    leads_depth text (step s at b) (next_place at b) node (λ t shallow f. run_depth text t (next_place at b) node shallow f) (step_shallow s.part s.members s.around at b h) e

-- no node is read that is deeper
pub depth_is_read : (text : List ℕ) (node : Node) → node_at text ≡ Ok node → depth node ≤ deepest
unfolding node_at
depth_is_read text node e = run_depth text start (place_after []) node (omega arith) e
