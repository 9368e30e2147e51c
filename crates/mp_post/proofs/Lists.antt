-- Lists of parties, as views and desks have them.
use Rattle.std.proofs.Common.{◌≡◌, ◌≢◌, ℕ, zero, suc, ◌+◌, ◌-◌, ◌<◌, ◌≤◌, List, [], ◌∷◌, ◌++◌, length, map, get_or, set, refl, sym, ap, subst, ◌∙◌, arith, get_or-set_same, get_or-set_other, Some, None}
use Rattle.std.specs.Prelude.{All, Bool, Option, false, replicate, slice_get, true}
use Rattle.std.specs.Option.{is_some, option_map}
use Rattle.std.proofs.lemmas.Option.{none-some, same_Some}
use Rattle.std.proofs.lemmas.List.{get_or-replicate, length-replicate, length-set, set-get_or, set-set}
use lib.ListN.{length-map}
use mathlib.Core.Logic.{dite}
use native.Mathlib.Decide.{ℕ_discrete}
use Rattle.mp_messages.specs.declared.history.Entry.{Entry}
use Rattle.mp_stamps.specs.Lists.{IsAgentOf, clock, last_stamp}
use Rattle.mp_stamps.specs.declared.stamped.Stamped.{Stamped}
use Rattle.mp_post_rule.specs.Queues.{stamped_after}
use Rattle.mp_post_rule.specs.Kinds.{HoldsAll, Seated}
use Rattle.mp_post_rule.specs.Table.{IsFree}
use Rattle.mp_post_rule.specs.Views.{first_view, list_at, list_in, lists_of, marked, new_party, party_at, party_in}
use Rattle.mp_post_rule.specs.declared.view.Party.{Party}
use Rattle.mp_post_rule.specs.declared.view.View.{View}
use Rattle.mp_post.specs.Desks.{HasList, HasLists, HasNewList, HoldsParty}
use Rattle.mp_post.specs.Halts.{HasHalted, HasHaltedAt}

-- the clock after a batch
last_more : (n : ℕ) (xs ys : List Stamped) → last_stamp n (xs ++ ys) ≡ last_stamp (last_stamp n xs) ys
last_more n [] ys = refl
last_more n (x ∷ xs) ys = last_more x.stamp xs ys

batch_last : (n : ℕ) (batch : List Entry) → last_stamp n (stamped_after n batch) ≡ n + length batch
batch_last n [] = omega arith
batch_last n (e ∷ es) = batch_last (suc n) es ∙ omega arith

pub clock_more : (list : List Stamped) (batch : List Entry) → clock (list ++ stamped_after (clock list) batch) ≡ clock list + length batch
clock_more list batch = last_more 0 list (stamped_after (clock list) batch) ∙ batch_last (clock list) batch

-- a party has a place
pub within : (ps : List (Option Party)) (a : ℕ) (p : Party) → party_in ps a ≡ Some p → a - 1 < length ps
within ps zero p e = absurd (none-some p e)
within [] (suc k) p e = absurd (none-some p e)
within (q ∷ qs) (suc zero) p e = omega arith
within (q ∷ qs) (suc (suc k)) p e = let h = within qs (suc k) p e in omega arith

at_place : (ps : List (Option Party)) (a : ℕ) (p : Party) → party_in ps a ≡ Some p → get_or ps (a - 1) None ≡ Some p
at_place ps zero p e = absurd (none-some p e)
at_place ps (suc k) p e = ap (λ (i : ℕ). get_or ps i None) (omega arith) ∙ e

pub from_place : (ps : List (Option Party)) (a : ℕ) (p : Party) → 1 ≤ a → get_or ps (a - 1) None ≡ Some p → party_in ps a ≡ Some p
from_place ps zero p low e = absurd (omega arith)
from_place ps (suc k) p low e = ap (λ (i : ℕ). get_or ps i None) (omega arith) ∙ e

pub positive : (ps : List (Option Party)) (a : ℕ) (p : Party) → party_in ps a ≡ Some p → 1 ≤ a
positive ps zero p e = absurd (none-some p e)
positive ps (suc k) p e = omega arith

-- a party in its place again
pub set_same : (ps : List (Option Party)) (a : ℕ) (p : Party) → party_in ps a ≡ Some p → set ps (a - 1) (Some p) ≡ ps
set_same ps a p e = ap (set ps (a - 1)) (sym (at_place ps a p e)) ∙ set-get_or ps (a - 1) None

-- a party with a new list
pub new_list : (a : ℕ) (old new : List Stamped) (v w : View) → HasList a old v → HasNewList a new v w → HasList a new w
new_list a old new v w has changed = (
  changed.0,
  from_place w.parties a changed.0 (positive v.parties a has.0 has.1)
      (ap (λ l. get_or l (a - 1) None) changed.1 ∙ get_or-set_same v.parties (a - 1) (Some changed.0) None (within v.parties a has.0 has.1)),
  changed.2,
)

pub newer_list : (a : ℕ) (one two : List Stamped) (v u w : View) → HasNewList a one v u → HasNewList a two u w → HasNewList a two v w
newer_list a one two v u w first second = (
  second.0,
  second.1 ∙ (ap (λ l. set l (a - 1) (Some second.0)) first.1 ∙ set-set v.parties (a - 1) (Some first.0) (Some second.0)),
  second.2,
)

pub same_list : (a : ℕ) (old : List Stamped) (v w : View) → HasList a old v → w.parties ≡ v.parties → HasNewList a old v w
same_list a old v w has same = (has.0, same ∙ sym (set_same v.parties a has.0 has.1), has.2)

pub list_at_is : (a : ℕ) (list : List Stamped) (v : View) → HasList a list v → list ≡ list_at v a
list_at_is a list v has = has.2 ∙ sym (ap list_in has.1)

-- lists of a desk
pub map_set : {A B : Type 0} (f : A → B) (l : List A) (i : ℕ) (x : A) → map f (set l i x) ≡ set (map f l) i (f x)
map_set f [] i x = refl
map_set f (y ∷ ys) zero x = refl
map_set f (y ∷ ys) (suc i) x = ap (λ l. f y ∷ l) (map_set f ys i x)

pub get_map : (ps : List (Option Party)) (i : ℕ) → get_or (map list_in ps) i [] ≡ list_in (get_or ps i None)
get_map [] i = refl
get_map (p ∷ ps) zero = refl
get_map (p ∷ ps) (suc i) = get_map ps i

pub mark_at : (ps : List (Option Party)) (i : ℕ) → get_or (map is_some ps) i false ≡ is_some (get_or ps i None)
mark_at [] i = refl
mark_at (p ∷ ps) zero = refl
mark_at (p ∷ ps) (suc i) = mark_at ps i

module _ (lists : List (List Stamped)) (held : List Bool) (v : View) (has : HasLists lists held v) (a : ℕ) (holds : HoldsParty a v) where
  pub list_within : a - 1 < length lists
  list_within = let n = ap length has.0 ∙ length-map v.parties list_in in let h = within v.parties a holds.0 holds.1 in omega arith

  pub own_is : (own : List Stamped) → own ≡ get_or lists (a - 1) [] → own ≡ holds.0.list
  own_is own is = is ∙ (ap (λ l. get_or l (a - 1) []) has.0 ∙ (get_map v.parties (a - 1) ∙ ap list_in (at_place v.parties a holds.0 holds.1)))

  pub lists_after : (own : List Stamped) (w : View) (new : List (List Stamped)) → HasNewList a own v w
      → new ≡ set (set lists (a - 1) []) (a - 1) own → HasLists new held w
  lists_after own w new changed is =
      let p = changed.0 in (
        is ∙ (set-set lists (a - 1) [] own ∙ (ap (λ l. set l (a - 1) own) has.0
            ∙ (ap (set (map list_in v.parties) (a - 1)) changed.2
            ∙ (sym (map_set list_in v.parties (a - 1) (Some p)) ∙ ap (map list_in) (sym changed.1))))),
        has.1 ∙ (ap (map is_some) (sym (set_same v.parties a holds.0 holds.1))
            ∙ (map_set is_some v.parties (a - 1) (Some holds.0)
            ∙ (sym (map_set is_some v.parties (a - 1) (Some p)) ∙ ap (map is_some) (sym changed.1)))),
      )

-- the stamp of the last entry
pub last_is : (n : ℕ) (list : List Stamped) (s : Stamped) → slice_get list (length list - 1) ≡ Some s → last_stamp n list ≡ s.stamp
last_is n [] s e = absurd (none-some s e)
last_is n (x ∷ []) s e = ap (λ (t : Stamped). t.stamp) (same_Some x s e)
last_is n (x ∷ y ∷ ys) s e =
    let at : length (x ∷ y ∷ ys) - 1 ≡ suc (length (y ∷ ys) - 1) = omega arith in
    last_is x.stamp (y ∷ ys) s (ap (slice_get (x ∷ y ∷ ys)) (sym at) ∙ e)

-- a desk that holds everybody
lists_all : (n : ℕ) → map list_in (replicate n (Some new_party)) ≡ replicate n []
lists_all zero = refl
lists_all (suc n) = ap (λ l. [] ∷ l) (lists_all n)

marks_all : (n : ℕ) → map is_some (replicate n (Some new_party)) ≡ replicate n true
marks_all zero = refl
marks_all (suc n) = ap (λ l. true ∷ l) (marks_all n)

pub opened : (agents : ℕ) (m : Seated) (lists : List (List Stamped)) (held : List Bool) → m ≡ (first_view agents, [])
    → lists ≡ replicate agents [] → held ≡ replicate agents true → IsFree m × HasLists lists held m.0
opened agents m lists held is none all = (
  record { no_turn = ap (λ x. x.0.turn) is; no_slot = ap (λ x. x.1) is },
  (none ∙ (sym (lists_all agents) ∙ ap (λ x. lists_of x.0) (sym is)), all ∙ (sym (marks_all agents) ∙ ap (λ x. map is_some x.0.parties) (sym is))),
)

pub all_held : (agents : ℕ) → HoldsAll agents (first_view agents)
all_held agents = record { many = length-replicate agents (Some new_party); each = λ agent is. (new_party, there agent is) }
  where
    there : (agent : ℕ) → IsAgentOf agents agent → party_at (first_view agents) agent ≡ Some new_party
    there agent is = let low = is.from_1 in let high = is.at_most in
        from_place (replicate agents (Some new_party)) agent new_party low (get_or-replicate agents (agent - 1) (Some new_party) None (omega arith))

pub all_three : (v : View) → length v.parties ≡ 3 → HoldsParty 1 v → HoldsParty 2 v → HoldsParty 3 v → HoldsAll 3 v
all_three v many one two three = record { many = many; each = each }
  where
    each : (agent : ℕ) → IsAgentOf 3 agent → HoldsParty agent v
    each zero is = let low = is.from_1 in absurd (omega arith)
    each (suc zero) is = one
    each (suc (suc zero)) is = two
    each (suc (suc (suc zero))) is = three
    each (suc (suc (suc (suc n)))) is = let high = is.at_most in absurd (omega arith)

-- a party that was halted stays where it is, with its list
set_alike : {B : Type 0} (f : Option Party → B) (ps : List (Option Party)) (a : ℕ) (p q : Party) → party_in ps a ≡ Some p
    → f (Some q) ≡ f (Some p) → map f (set ps (a - 1) (Some q)) ≡ map f ps
set_alike f ps a p q has same =
    map_set f ps (a - 1) (Some q) ∙ (ap (set (map f ps) (a - 1)) same
    ∙ (sym (map_set f ps (a - 1) (Some p)) ∙ ap (map f) (set_same ps a p has)))

-- a party at another place
pub set_other : (ps : List (Option Party)) (a : ℕ) (q : Option Party) → 1 ≤ a → (agent : ℕ) → agent ≢ a
    → party_in (set ps (a - 1) q) agent ≡ party_in ps agent
set_other ps a q low zero other = refl
set_other ps a q low (suc k) other = get_or-set_other ps (a - 1) k q None (λ same. other (omega arith))

-- who is held stays held where one party changes
pub still_held : (a : ℕ) (v w : View) → HoldsParty a w → ((agent : ℕ) → agent ≢ a → party_at w agent ≡ party_at v agent)
    → (agent : ℕ) → HoldsParty agent v → HoldsParty agent w
still_held a v w now others agent holds = dite (ℕ_discrete agent a)
    (λ same. subst (λ n. HoldsParty n w) (sym same) now)
    (λ other. (holds.0, others agent other ∙ holds.1))

-- what stays of a view
pub record StaysFor (by : ℕ) (v w : View) : Type 0 where
  pub holds : HoldsParty by w
  pub lists : lists_of w ≡ lists_of v
  pub marks : map is_some w.parties ≡ map is_some v.parties
  pub many : length w.parties ≡ length v.parties
  pub others : (agent : ℕ) → agent ≢ by → party_at w agent ≡ party_at v agent

pub halted_at : (by post : ℕ) (v w : View) → HoldsParty by v → HasHaltedAt by post v w → StaysFor by v w
halted_at by post v w holds halt =
    let p = holds.0 in
    let e : w.parties ≡ set v.parties (by - 1) (Some (marked p)) =
    ap (λ x. x.parties) halt.view ∙ ap (λ o. set v.parties (by - 1) (option_map marked o)) holds.1 in
    record {
      holds = (
        marked p,
        from_place w.parties by (marked p) (positive v.parties by p holds.1)
            (ap (λ l. get_or l (by - 1) None) e ∙ get_or-set_same v.parties (by - 1) (Some (marked p)) None (within v.parties by p holds.1)),
      );
      lists = ap (map list_in) e ∙ set_alike list_in v.parties by p (marked p) holds.1 refl;
      marks = ap (map is_some) e ∙ set_alike is_some v.parties by p (marked p) holds.1 refl;
      many = ap length e ∙ length-set v.parties (by - 1) (Some (marked p));
      others = λ agent other. ap (λ l. party_in l agent) e ∙ set_other v.parties by (Some (marked p)) (positive v.parties by p holds.1) agent other;
    }

pub halted_all : (by n : ℕ) (v w : View) → HoldsParty by v → HasHalted by n v w → StaysFor by v w
halted_all by zero v w holds same = record {
  holds = (holds.0, ap (λ x. party_at x by) same ∙ holds.1);
  lists = ap lists_of same;
  marks = ap (λ x. map is_some x.parties) same;
  many = ap (λ x. length x.parties) same;
  others = λ agent other. ap (λ x. party_at x agent) same;
}
halted_all by (suc n) v w holds halts =
    let u = halts.0 in
    let first = halted_all by n v u holds halts.1 in
    let next = halted_at by (suc n) u w first.holds halts.2 in
    record {
      holds = next.holds;
      lists = next.lists ∙ first.lists;
      marks = next.marks ∙ first.marks;
      many = next.many ∙ first.many;
      others = λ agent other. next.others agent other ∙ first.others agent other;
    }

pub second : {A B : Type 0} → A × B → B
second p = p.1

-- a desk whose marks are all set holds everybody
pub all_marked : (v : View) (held : List Bool) → held ≡ map is_some v.parties → All (λ mark. mark ≡ true) held
    → HoldsAll (length v.parties) v
all_marked v held are all = record { many = refl; each = each }
  where
    is_there : (agent : ℕ) → 1 ≤ agent → (q : Option Party) → get_or v.parties (agent - 1) None ≡ q → is_some q ≡ true → HoldsParty agent v
    is_there agent low (Some p) e mark = (p, from_place v.parties agent p low e)
    is_there agent low None e mark = absurd cc

    each : (agent : ℕ) → IsAgentOf (length v.parties) agent → HoldsParty agent v
    each agent is =
        let low = is.from_1 in
        let high = is.at_most in
        let many = ap length are ∙ length-map v.parties is_some in
        is_there agent low (get_or v.parties (agent - 1) None) refl
        (sym (mark_at v.parties (agent - 1)) ∙ (ap (λ l. get_or l (agent - 1) false) (sym are) ∙ all (agent - 1) false (omega arith)))
