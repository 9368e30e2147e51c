-- Bounds of entries, from the last entry of an agent to the first.
use Rattle.std.proofs.Common.{◌≡◌, ℕ, suc, ◌+◌, ◌-◌, ◌<◌, ◌≤◌, Bool, true, false, not, ◌&&◌, List, [], ◌∷◌, ◌++◌, length, map, reverse, get_or, take, drop, flat_map, Option, Some, None, slice_get, All, refl, sym, ap, ◌∙◌, subst, drop-cons, arith}
use Rattle.std.specs.Prelude.{nat_lt, IsSomeAnd}
use Rattle.std.specs.Option.{option_map_or}
use Rattle.std.proofs.lemmas.List.{drop_all, flat_map_more, get_or-take, length-take-le, map-append, reverse-append}
use Rattle.std.proofs.lemmas.List.Elements.{All-nil}
use Rattle.std.proofs.lemmas.Option.{get_or_from_slice_get, slice_get_within}
use Rattle.mp_store.specs.declared.entry.Entry.{Entry}
use Rattle.mp_search.specs.AgentState.{AgentState}
use Rattle.mp_search.specs.declared.states.Shown.{Shown}
use Rattle.mp_search.specs.StateKeys.{IsShown}
use Rattle.mp_machine.specs.Machine.{AgentMachine}
use Rattle.mp_world.specs.Joint.{joint}
use Rattle.mp_schedule.specs.Machines.{tasks_of, world_of}
use Rattle.mp_audit.specs.declared.certificate.Bound.{Bound}
use Rattle.mp_audit.specs.Fits.{publics_of}
use Rattle.mp_audit.specs.LastCut.{said_by, worth}
use Rattle.mp_audit.proofs.FitLemmas.{mapped_more}
use Rattle.mp_certify.specs.declared.key.StateKey.{StateKey}
use Rattle.mp_certify.specs.Keys.{AreKeysOf}
use Rattle.mp_certify.specs.Latest.{has_state, latest, latest_bounds_of}
use Rattle.mp_certify.specs.Made.{shown_state, shown_worth, with_first, AreMade, IsStateIn}
use Rattle.mp_certify.specs.Team.{privates_of, AreOfTeam, IsOfTeam}

mapped_first : {X Y : Type 0} (f : X → Y) (more : Bool) (x : X) (xs : List X) → map f (with_first more x xs) ≡ with_first more (f x) (map f xs)
mapped_first f true x xs = refl
mapped_first f false x xs = refl

-- one bound more at the end stands in front where they are turned round
pub turned_more : (made : List Bound) (b : Bound) → map said_by (reverse (made ++ b ∷ [])) ≡ said_by b ∷ map said_by (reverse made)
turned_more made b = ap (map said_by) (reverse-append made (b ∷ []))

pub shown_entry : (o : Option (Entry AgentState)) (x : Shown) → IsSomeAnd o (IsShown x) → (e : Entry AgentState) × (o ≡ Some e) × IsShown x e
shown_entry None x is = absurd is
shown_entry (Some e) x is = (e, refl, is)

module _ (machines : List AgentMachine) (me cost : ℕ) where
  pub none_made : (entries : List (Entry AgentState)) (keys : List StateKey) (made : List Bound) → entries ≡ [] → keys ≡ [] → made ≡ []
      → AreMade machines me cost entries keys made
  none_made entries keys made no_entries no_keys none =
      subst (λ (es : List (Entry AgentState)). AreMade machines me cost es keys made) (sym no_entries)
      (subst (λ (ks : List StateKey). AreMade machines me cost [] ks made) (sym no_keys)
      (subst (λ (bs : List Bound). AreMade machines me cost [] [] bs) (sym none)
      (record { known = λ k of. refl; said = refl; team = All-nil (IsOfTeam (tasks_of machines)) })))

  module _ (x : Shown) (e : Entry AgentState) (is : IsShown x e) where
    state_is : shown_state x ≡ e.key
    state_is = λ j. record { publics = is.publics j; mine = is.mine j; tags = is.tags j }

    worth_is : shown_worth machines cost me x ≡ worth (world_of machines []) cost me e
    worth_is = λ j. (record { agent = me; state = joint (world_of machines []) me (state_is j) }, cost - is.g j)

    -- one entry more is looked at
    pub more_made : IsStateIn machines me x → (later : List (Entry AgentState)) (old_keys new_keys : List StateKey) (old new : List Bound) (fresh : Bool)
        → ((f : Entry AgentState) (after : List (Entry AgentState)) → IsShown x f → AreKeysOf x.publics.size x.mine.size after old_keys
        → (fresh ≡ not (has_state after f)) × AreKeysOf x.publics.size x.mine.size (f ∷ after) new_keys)
        → map said_by (reverse new) ≡ with_first (nat_lt x.g cost && fresh) (shown_worth machines cost me x) (map said_by (reverse old))
        → (All (IsOfTeam (tasks_of machines)) old → All (IsOfTeam (tasks_of machines)) new)
        → AreMade machines me cost later old_keys old
        → AreMade machines me cost (e ∷ later) new_keys new
    more_made of later old_keys new_keys old new fresh met said team made =
        let publics = publics_of (tasks_of machines) in
        let privates = privates_of machines me in
        let before : AreKeysOf x.publics.size x.mine.size later old_keys =
        subst (λ (n : ℕ). AreKeysOf n x.mine.size later old_keys) (sym of.publics_size)
        (subst (λ (n : ℕ). AreKeysOf publics n later old_keys) (sym of.own_size) made.known) in
        let seen = met e later is before in
        record {
          known =
              subst (λ (n : ℕ). AreKeysOf publics n (e ∷ later) new_keys) of.own_size
              (subst (λ (n : ℕ). AreKeysOf n x.mine.size (e ∷ later) new_keys) of.publics_size seen.1);
          said =
              said
              ∙ (λ j. with_first (nat_lt (is.g j) cost && seen.0 j) (worth_is j) (made.said j))
              ∙ sym (mapped_first (worth (world_of machines []) cost me) (nat_lt e.g cost && not (has_state later e)) e (latest cost later));
          team = team made.team;
        }

-- the entry before those that were looked at
pub next_entry : (entries : List (Entry AgentState)) (count later : ℕ) (e : Entry AgentState) → later < count → count ≤ length entries
    → slice_get entries (count - 1 - later) ≡ Some e
    → drop (count - (later + 1)) (take count entries) ≡ e ∷ drop (count - later) (take count entries)
next_entry entries count later e lt within there =
    let lengths : length (take count entries) ≡ count = length-take-le count entries within in
    let low : count - 1 - later < count = omega (arith, lt) in
    let inside : count - 1 - later < length (take count entries) = omega (arith, lt, lengths) in
    let is : get_or (take count entries) (count - 1 - later) e ≡ e =
    get_or-take count entries (count - 1 - later) e low ∙ get_or_from_slice_get entries (count - 1 - later) e e there in
    let place : count - (later + 1) ≡ count - 1 - later = omega arith in
    let next : suc (count - 1 - later) ≡ count - later = omega (arith, lt) in
    ap (λ (n : ℕ). drop n (take count entries)) place
    ∙ drop-cons (take count entries) (count - 1 - later) e inside
    ∙ (λ j. is j ∷ drop (next j) (take count entries))

-- at first no entry was looked at
pub no_entry_yet : (entries : List (Entry AgentState)) (count later : ℕ) → later ≡ 0 → count ≤ length entries → drop (count - later) (take count entries) ≡ []
no_entry_yet entries count later none within =
    let lengths : length (take count entries) ≡ count = length-take-le count entries within in
    drop_all (count - later) (take count entries) (omega (arith, lengths, none))

-- and at last all
pub all_entries : (entries : List (Entry AgentState)) (count later : ℕ) → count ≤ later → drop (count - later) (take count entries) ≡ take count entries
all_entries entries count later past =
    let none : count - later ≡ 0 = omega (arith, past) in
    ap (λ (n : ℕ). drop n (take count entries)) none

-- ---- agents

module _ (machines : List AgentMachine) (team : AreOfTeam machines) (me : ℕ) (m : AgentMachine) (from_1 : 1 ≤ me) (there : slice_get machines (me - 1) ≡ Some m) where
  pub me_within : me ≤ length machines
  me_within = let inside = slice_get_within machines (me - 1) m there in omega (arith, from_1, inside)

  pub me_is : m.done.task.me ≡ me
  me_is = let is = team.numbered (me - 1) m there in omega (arith, from_1, is)

  pub state_in : (x : Shown) (n : ℕ) → IsSomeAnd (slice_get m.done.search.kept.entries n) (IsShown x)
      → x.publics.size ≡ m.done.task.publics → x.mine.size ≡ m.done.task.privates
      → IsStateIn machines me x
  state_in x n shown publics privates =
      let e = shown_entry (slice_get m.done.search.kept.entries n) x shown in
      record {
        publics_size = publics ∙ team.publics (me - 1) m there;
        own_size = privates ∙ sym (ap (λ (o : Option AgentMachine). option_map_or (λ y. y.done.task.privates) o 0) there);
        tags_length = ap length e.2.tags ∙ team.tags (me - 1) n m e.0 there e.1;
      }

-- the bounds of one agent more
pub bounds_more : (machines : List AgentMachine) (cost i : ℕ) (m : AgentMachine) (bounds made more : List Bound) → i < length machines → m ≡ get_or machines i m
    → more ≡ bounds ++ made
    → map said_by made ≡ latest_bounds_of (world_of machines []) cost m.done
    → map said_by bounds ≡ flat_map (latest_bounds_of (world_of machines []) cost) (map (λ (x : AgentMachine). x.done) (take i machines))
    → map said_by more ≡ flat_map (latest_bounds_of (world_of machines []) cost) (map (λ (x : AgentMachine). x.done) (take (i + 1) machines))
bounds_more machines cost i m bounds made more lt is added one so_far =
    ap (map said_by) added
    ∙ map-append said_by bounds made
    ∙ (λ j. so_far j ++ one j)
    ∙ flat_map_more (latest_bounds_of (world_of machines []) cost) [] (map (λ (x : AgentMachine). x.done) (take i machines)) m.done
    ∙ ap (flat_map (latest_bounds_of (world_of machines []) cost)) (sym (mapped_more (λ (x : AgentMachine). x.done) machines i m lt is))
