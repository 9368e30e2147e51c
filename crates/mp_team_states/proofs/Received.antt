-- What agents know of the states that they and others sent.
use Rattle.mp_world.proofs.Basics.{◌≡◌, ◌≢◌, ℕ, ◌-◌, ◌<◌, ◌≤◌, ◌⊎◌, Bool, true, false, List, [], ◌∷◌, length, get_or, Option, Some, None, All, refl, sym, ap, subst, ◌∙◌, arith, inl, inr, IfSome, filter_map, not, slice_get, if◌then◌else◌, cons_option, cases_eq}
use Rattle.mp_world.proofs.Basics.{lt-ltb, get_or-set_other, get_or-set_same, length-set, All-cons, All-contains, All-map, All-nil, Contains-get_or}
use Rattle.std.specs.FinSet as set
use Rattle.mp_sets.proofs.NumbersLemmas.{All_at}
use Rattle.mp_tokens.specs.Order.{set_at}
use Rattle.mp_tokens.proofs.Orders.{order_only}
use Rattle.mp_tokens.proofs.Places.{at_place}
use Rattle.mp_search.specs.Receipt.{own_set, own_tag}
use Rattle.mp_search.specs.Sending.{message_of_entry}
use Rattle.mp_search.proofs.KeyedStates.{all_get}
use Rattle.mp_world.specs.AgentWords.{AgentTask, IsWithinLimits, is_met, State, AgentRecord}
use Rattle.mp_world.specs.SearchWords.{Tag, AllBelow, Numbers, place, Entry, Record, AgentState, no_tag, with_tag, IsStateFor, is_byte_right, is_token_given, state_of, sent_sets, tokens_given}
use Rattle.mp_world.specs.World.{World, agent_at}
use Rattle.mp_world.specs.Joint.{sets_of, told_by}
use Rattle.mp_team_states.specs.Sent.{IsSentIn}
use Rattle.mp_team_states.specs.Sound.{AreTold, IsSoundAgent, IsStateOf, IsTold, tag_of}
use Rattle.mp_team_states.proofs.Growth.{sent_token}
use Rattle.mp_team_states.proofs.WorldsGrow.{sets_at}

-- ---- sets of facts that there are

pub list_below : (size : ℕ) (xs : List ℕ) → All (λ x. x < size) xs → AllBelow size (set.from_list xs)
list_below size xs all x here = All_at (λ x. x < size) xs x all (sym (set.contains-from_list_nat xs x) ∙ here)

found_all : {X : Type 0} (P : X → Type 0) (f : ℕ → Option X) (ns : List ℕ) → ((n : ℕ) (x : X) → f n ≡ Some x → P x) → All P (filter_map f ns)
found_all P f [] each = All-nil P
found_all {X} P f (n ∷ ns) each = by (f n) refl (found_all P f ns each)
  where
    by : (o : Option X) → f n ≡ o → All P (filter_map f ns) → All P (cons_option o (filter_map f ns))
    by None is rest = rest
    by (Some x) is rest = All-cons P x (filter_map f ns) (each n x is) rest

module _ (w : World) (t : AgentTask) (limits : IsWithinLimits t) (r : Record AgentState) (states : All (λ e. IsStateOf w t e.key) r.entries) where
  sent_below : All (AllBelow t.privates) (sent_sets r)
  sent_below =
      All-map (AllBelow t.privates) (λ (e : Entry AgentState). e.key.mine) (filter_map (slice_get r.entries) r.sent)
      (found_all (λ (e : Entry AgentState). AllBelow t.privates e.key.mine) (slice_get r.entries) r.sent
      (λ n e is. (all_get (λ (e : Entry AgentState). IsStateOf w t e.key) r.entries n e states is).mine))

  -- all sets with tokens have facts that there are
  tokens_below : All (AllBelow t.privates) (tokens_given t r)
  tokens_below k d h =
      let start : Numbers = set.from_list t.start_priv in
      let s = get_or (tokens_given t r) k d in
      All-contains (AllBelow t.privates) (start ∷ sent_sets r) s
      (All-cons (AllBelow t.privates) start (sent_sets r) (list_below t.privates t.start_priv limits.start_priv) sent_below)
      (order_only start (sent_sets r) s (Contains-get_or (tokens_given t r) k d h))

-- ---- tags in their places

place_other : (a b : ℕ) → 1 ≤ a → 1 ≤ b → a ≢ b → a - 1 ≢ b - 1
place_other a b a_low b_low other same = other (omega arith)

pub tag_same : (tags : List Tag) (me : ℕ) (tag : Tag) → 1 ≤ me → me ≤ length tags → tag_of (with_tag tags me tag) me ≡ tag
tag_same tags me tag low high = get_or-set_same tags (me - 1) tag no_tag (omega arith)

pub tag_other : (tags : List Tag) (me agent : ℕ) (tag : Tag) → 1 ≤ me → 1 ≤ agent → agent ≢ me → tag_of (with_tag tags me tag) agent ≡ tag_of tags agent
tag_other tags me agent tag low agent_low other = get_or-set_other tags (me - 1) (agent - 1) tag no_tag (place_other agent me agent_low low other)

-- ---- an agent of a world

module _ (w : World) (t : AgentTask) (limits : IsWithinLimits t) (r : AgentRecord) (there : agent_at w t.me ≡ Some r) (sound : IsSoundAgent w t r) where
  pub sets_me : sets_of w t.me ≡ tokens_given t r.search.kept
  sets_me = sets_at w t.me r there ∙ ap (λ (u : AgentTask). tokens_given u r.search.kept) sound.task

  -- the agent's own tag of a state that it sent
  own_told : (k n : ℕ) (e : Entry AgentState) → slice_get r.search.kept.sent k ≡ Some n → slice_get r.search.kept.entries n ≡ Some e
      → IsTold w t.me (record { token = place (tokens_given t r.search.kept) e.key.mine; met = is_met t e.key.mine })
  own_told k n e sent at =
      let sets = tokens_given t r.search.kept in
      let token = place sets e.key.mine in
      let given : token < length sets = sent_token t r.search.kept k n e sent at in
      let tag : Tag = record { token = token; met = is_met t e.key.mine } in
      let told : told_by w (t.me, tag) ≡ e.key.mine = ap (λ (xs : List Numbers). get_or xs token set.empty) sets_me ∙ at_place sets e.key.mine given in
      record {
        given = subst (λ (xs : List Numbers). token < length xs) (sym sets_me) given;
        byte =
            subst (λ (o : Option AgentRecord). IfSome o (λ r. is_met t e.key.mine ≡ is_met r.task (told_by w (t.me, tag)))) (sym there)
            (λ j. is_met (sym sound.task j) (sym told j));
      }

  -- of a state that it sent, each agent told its tag
  pub sent_told : (m : State) → IsSentIn t r.search.kept m → AreTold w m.tags
  unfolding message_of_entry
  sent_told m sent agent low high = by (cases_eq agent t.me)
    where
      e : Entry AgentState
      e = sent.entry

      is : IsStateOf w t e.key
      is = all_get (λ (e : Entry AgentState). IsStateOf w t e.key) r.search.kept.entries sent.number e sound.states sent.there

      own : Tag
      own = record { token = place (tokens_given t r.search.kept) e.key.mine; met = is_met t e.key.mine }

      tags : m.tags ≡ with_tag e.key.tags t.me own
      tags = ap (λ (m : State). m.tags) sent.is

      by : (agent ≡ t.me) ⊎ (agent ≡ t.me → ⊥) → IsTold w agent (tag_of m.tags agent)
      by (inl same) =
          let number = is.number in
          let in_team = limits.in_team in
          let tag : tag_of m.tags agent ≡ own = (λ j. tag_of (tags j) (same j)) ∙ tag_same e.key.tags t.me own limits.from_1 (omega arith) in
          subst (λ (x : Tag). IsTold w agent x) (sym tag)
          (subst (λ (a : ℕ). IsTold w a own) (sym same) (own_told m.sent sent.number e sent.sent sent.there))
      by (inr other) =
          let number = is.number in
          let as_many : length m.tags ≡ length e.key.tags = ap length tags ∙ length-set e.key.tags (t.me - 1) own in
          let tag : tag_of m.tags agent ≡ tag_of e.key.tags agent =
          ap (λ (xs : List Tag). tag_of xs agent) tags ∙ tag_other e.key.tags t.me agent own limits.from_1 low other
          in
          subst (λ (x : Tag). IsTold w agent x) (sym tag) (is.others agent low (omega arith) other)

  -- ---- a state that comes

  module _ (m : State) (fits : IsStateFor t m) (told : AreTold w m.tags) where
    my_tag : IsTold w t.me (own_tag t m)
    my_tag = let number = fits.tags in let in_team = limits.in_team in told t.me limits.from_1 (omega arith)

    token_below : (own_tag t m).token < length (tokens_given t r.search.kept)
    token_below = subst (λ (xs : List Numbers). (own_tag t m).token < length xs) sets_me my_tag.given

    pub token_given : is_token_given t r.search.kept m ≡ true
    token_given = lt-ltb (own_tag t m).token (length (tokens_given t r.search.kept)) token_below

    my_byte : (own_tag t m).met ≡ is_met t (own_set t r.search.kept m)
    my_byte =
        subst (λ (o : Option AgentRecord). IfSome o (λ r. (own_tag t m).met ≡ is_met r.task (told_by w (t.me, own_tag t m)))) there my_tag.byte
        ∙ (λ j. is_met (sound.task j) (set_at (sets_me j) (own_tag t m).token))

    pub byte_right : is_byte_right t r.search.kept m ≡ true
    byte_right = by (own_tag t m).met (is_met t (own_set t r.search.kept m)) my_byte
      where
        by : (a b : Bool) → a ≡ b → (if a then b else not b) ≡ true
        by true b same = sym same
        by false b same = λ j. not (sym same j)

    pub state_known : IsStateOf w t (state_of t r.search.kept m)
    state_known =
        let as_many = fits.tags in
        let in_team = limits.in_team in
        record {
          publics = list_below t.publics m.facts fits.facts;
          mine = tokens_below w t limits r.search.kept sound.states (own_tag t m).token set.empty token_below;
          number = length-set m.tags (t.me - 1) no_tag ∙ fits.tags;
          own = tag_same m.tags t.me no_tag limits.from_1 (omega arith);
          others = λ agent low high other.
              subst (λ (x : Tag). IsTold w agent x) (sym (tag_other m.tags t.me agent no_tag limits.from_1 low other)) (told agent low (omega arith));
        }
