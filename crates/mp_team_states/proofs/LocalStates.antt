-- What a step of an agent does to what it knows and sent.
use Rattle.mp_world.proofs.Basics.{◌≡◌, ◌≢◌, ℕ, ◌*◌, ◌-◌, ◌<◌, ◌≤◌, Bool, true, false, ◌&&◌, ◌||◌, Option, List, [], ◌∷◌, length, get_or, Some, All, refl, sym, ap, subst, ◌∙◌, arith, not, ◌==◌, flat_map, and_parts, eqb-false, length-set, All-append, All-contains}
use Rattle.mp_world.proofs.Basics.{All-head, All-map, All-nil, All-tail, All-weaker, Contains-get_or}
use Rattle.std.specs.FinSet as set
use Rattle.std.specs.List.{list_any}
use Rattle.std.specs.List.Sorted.{IsStrictlyIncreasing}
use Rattle.mp_sets.specs.Numbers.{after, listed}
use Rattle.mp_sets.proofs.ListedLemmas.{passing_below}
use Rattle.mp_sets.proofs.NumbersLemmas.{All_at, contains-after, listed-IsStrictlyIncreasing}
use Rattle.mp_task.proofs.Agreeing.{Contains-slice_get}
use Rattle.mp_messages.specs.declared.message.Message.TheVariants as kinds
use Rattle.mp_search.specs.Sending.{message_of_entry}
use Rattle.mp_search.proofs.KeyedStates.{all_get}
use Rattle.mp_machine.specs.MemberFields.{EntryFits, SendingFits}
use Rattle.mp_machine.proofs.EntriesFit.{FitsUpTo, HasExpanded, expanded_fits, received_fits}
use Rattle.mp_world.specs.AgentWords.{Act, AgentTask, ActFits, IsWithinLimits, Message, State, IfState, AgentRecord, outgoing_of, with_search, Outgoing, Step, without_messages, with_state}
use Rattle.mp_world.specs.SearchWords.{AllBelow, Numbers, Entry, IsSound, Record, Sending, AgentState, same_state, successor, expanded, IsStateFor, received, SearchRecord, is_open_below, is_spent, may_expand}
use Rattle.mp_world.specs.Team.{most_expansions}
use Rattle.mp_world.specs.World.{World, agent_at}
use Rattle.mp_team_states.specs.Sent.{IsSentIn}
use Rattle.mp_team_states.specs.Sound.{AreTold, IsSoundAgent, IsStateOf}
use Rattle.mp_team_states.proofs.Changes.{changes_all, changes_sent, changes_sound}
use Rattle.mp_team_states.proofs.Expanding.{IsLedTo, IsReceived, Led, expanded_changes, received_changes}
use Rattle.mp_team_states.proofs.Quiet.{IsOther, IsQuiet}
use Rattle.mp_team_states.proofs.Received.{state_known}

-- where a message that goes out is a state, it fits the team and was sent
abbrev pub GoesOut : AgentTask → Record AgentState → Outgoing → Type 0
GoesOut t r x = IfState (λ m. IsStateFor t m × IsSentIn t r m) x.message

-- after a step of an agent
pub record IsSoundStep (w : World) (t : AgentTask) (s : Step) : Type 0 where
  pub agent : IsSoundAgent w t s.after
  pub out : All (GoesOut t s.after.search.kept) s.out

-- ---- steps that leave the search as it is

other_goes : (t : AgentTask) (r : Record AgentState) (m : Message) → IsOther m → IfState (λ m. IsStateFor t m × IsSentIn t r m) m
other_goes t r (kinds.State x) other = absurd other
other_goes t r (kinds.Marker n) other = tt
other_goes t r (kinds.Report f) other = tt
other_goes t r (kinds.Pick n) other = tt
other_goes t r (kinds.Trace sent back) other = tt
other_goes t r (kinds.Length n) other = tt
other_goes t r (kinds.Done e) other = tt

pub quiet_sound : (w : World) (t : AgentTask) (r : AgentRecord) (s : Step) → IsSoundAgent w t r → IsQuiet r.task r.limit r.search s → IsSoundStep w t s
quiet_sound w t r s sound quiet = record {
  agent = record {
    task = quiet.task ∙ sound.task;
    limit = subst (λ (n : ℕ). n ≤ most_expansions) (sym quiet.limit_is) sound.limit;
    within = subst (λ (n : ℕ). s.after.search.expansions ≤ n) (sym quiet.limit_is) (subst (λ (x : SearchRecord). x.expansions ≤ r.limit) (sym quiet.search_is) sound.within);
    sent = subst (λ (x : SearchRecord). length x.kept.sent ≤ 200000 * x.expansions) (sym quiet.search_is) sound.sent;
    kept = subst (λ (x : SearchRecord). IsSound same_state x.kept) (sym quiet.search_is) sound.kept;
    fits = subst (λ (x : SearchRecord). All EntryFits x.kept.entries) (sym quiet.search_is) sound.fits;
    states = subst (λ (x : SearchRecord). All (λ e. IsStateOf w t e.key) x.kept.entries) (sym quiet.search_is) sound.states;
  };
  out = All-weaker (λ x. IsOther x.message) (GoesOut t s.after.search.kept) (λ x other. other_goes t s.after.search.kept x.message other) s.out quiet.out;
}

-- ---- an expansion

after_below : (size : ℕ) (s : Numbers) (del add : List ℕ) → AllBelow size s → All (λ x. x < size) add → AllBelow size (after s del add)
after_below size s del add below adds x here = by (list_any (λ y. y == x) add) refl
  where
    left : (a b c : Bool) → ((a && not b) || c) ≡ true → c ≡ false → a ≡ true
    left true b c is none = refl
    left false b true is none = absurd (let impossible : ⊥ = cc in impossible)
    left false b false is none = is

    by : (b : Bool) → list_any (λ y. y == x) add ≡ b → x < size
    by true is = All_at (λ x. x < size) add x adds is
    by false is =
        below x (left (set.contains s x) (list_any (λ y. y == x) del) (list_any (λ y. y == x) add) (sym (contains-after s del add x) ∙ here) is)

successor_known : (w : World) (t : AgentTask) (act : Act) (s : AgentState) → ActFits t.publics t.privates act → IsStateOf w t s → IsStateOf w t (successor act s)
successor_known w t act s fits is = record {
  publics = after_below t.publics s.publics act.del_pub act.add_pub is.publics fits.add_pub;
  mine = after_below t.privates s.mine act.del_priv act.add_priv is.mine fits.add_priv;
  number = is.number;
  own = is.own;
  others = is.others;
}

flat_out : (P : Outgoing → Type 0) (xs : List Sending) → All (λ y. (to : ℕ) → P (record { to = to; message = kinds.State y.state })) xs → All P (flat_map outgoing_of xs)
flat_out P [] all = All-nil P
flat_out P (y ∷ ys) all =
    All-append P (outgoing_of y) (flat_map outgoing_of ys)
    (All-map P (λ to. record { to = to; message = kinds.State y.state }) y.to
    (λ k d h. All-head (λ y. (to : ℕ) → P (record { to = to; message = kinds.State y.state })) y ys all (get_or y.to k d)))
    (flat_out P ys (All-tail (λ y. (to : ℕ) → P (record { to = to; message = kinds.State y.state })) y ys all))

-- the message of a sent state fits the team
state_fits : (w : World) (t : AgentTask) (r : Record AgentState) (y : Sending) → All (λ e. IsStateOf w t e.key) r.entries → SendingFits y → IsSentIn t r y.state → IsStateFor t y.state
unfolding message_of_entry
state_fits w t r y states small sent =
    let e = sent.entry in
    let is = all_get (λ (e : Entry AgentState). IsStateOf w t e.key) r.entries sent.number e states sent.there in
    let facts = listed (record { size = t.publics; members = e.key.publics }) in
    let same : y.state.facts ≡ facts = ap (λ (m : State). m.facts) sent.is in
    let tags = ap (λ (m : State). m.tags) sent.is in
    record {
      numbers = small.numbers;
      facts = subst (λ (xs : List ℕ). All (λ x. x < t.publics) xs) (sym same) (passing_below (set.contains e.key.publics) t.publics);
      rising = subst (λ (xs : List ℕ). IsStrictlyIncreasing xs) (sym same) (listed-IsStrictlyIncreasing (record { size = t.publics; members = e.key.publics }));
      tags = ap length tags ∙ length-set e.key.tags (t.me - 1) _ ∙ is.number;
    }

module _ (w : World) (r : AgentRecord) (limits : IsWithinLimits r.task) (sound : IsSoundAgent w r.task r) (value : Numbers → Numbers → Option ℕ) where
  up : FitsUpTo 0 (200000 * r.search.expansions) r.search.kept
  up = record { entries = sound.fits; longer = omega arith; sent = sound.sent }

  few : may_expand r.limit r.search ≡ true → r.search.expansions < r.limit
  few may =
      let parts = and_parts (not (is_spent r.limit r.search)) (is_open_below r.search.kept) may in
      let unspent : r.search.expansions ≢ r.limit = eqb-false r.search.expansions r.limit (flipped (is_spent r.limit r.search) parts.0) in
      let within = sound.within in
      omega (arith, unspent)
    where
      flipped : (b : Bool) → not b ≡ true → b ≡ false
      flipped true h = sym h
      flipped false h = refl

  led_known : (kept : Record AgentState) (new : Entry AgentState) → IsLedTo r.task value r.search.kept kept new → All (λ e. IsStateOf w r.task e.key) kept.entries → IsStateOf w r.task new.key
  led_known kept new led all =
      let is = all_get (λ (e : Entry AgentState). IsStateOf w r.task e.key) kept.entries led.parent led.from all led.there in
      let fits = All-contains (ActFits r.task.publics r.task.privates) r.task.acts led.act limits.acts (Contains-slice_get r.task.acts led.action led.act led.own) in
      subst (λ (s : AgentState). IsStateOf w r.task s) (sym led.is.key) (successor_known w r.task led.act led.from.key fits is)

  pub expansion_sound : may_expand r.limit r.search ≡ true → IsSoundStep w r.task (with_search r (expanded r.task value r.search))
  expansion_sound may =
      let t = r.task in
      let d = expanded t value r.search in
      let most = sound.limit in
      let below = few may in
      let fits : HasExpanded 0 r.search d = expanded_fits 0 t limits value r.search (omega arith) up in
      let changes = expanded_changes t value r.search in
      let one = fits.one in
      let states : All (λ e. IsStateOf w t e.key) d.1.kept.entries =
      changes_all (Led t value r.search.kept) t (IsStateOf w t) led_known r.search.kept d.1.kept d.0 changes sound.states
      in
      record {
        agent = record {
          task = refl;
          limit = sound.limit;
          within = omega arith;
          sent = fits.up.sent;
          kept = changes_sound (Led t value r.search.kept) t r.search.kept d.1.kept d.0 changes sound.kept;
          fits = fits.up.entries;
          states = states;
        };
        out =
            flat_out (GoesOut t d.1.kept) d.0
            (λ k y h to.
            let x = get_or d.0 k y in
            let sent : IsSentIn t d.1.kept x.state = changes_sent (Led t value r.search.kept) t r.search.kept d.1.kept d.0 changes sound.kept x (Contains-get_or d.0 k y h) in
            (state_fits w t d.1.kept x states (fits.out k y h) sent, sent));
      }

  -- ---- a state that comes

  module _ (there : agent_at w r.task.me ≡ Some r) (from : ℕ) (m : State) (fits : IsStateFor r.task m) (told : AreTold w m.tags) where
    pub receipt_sound : IsSoundStep w r.task (without_messages (with_state value r from m))
    unfolding with_state
    receipt_sound =
        let t = r.task in
        let changes = received_changes t value from m r.search.kept in
        let last = (received t value from m r.search.kept).1 in
        let Comes = IsReceived t value from m r.search.kept in
        let up_now : FitsUpTo 0 (200000 * r.search.expansions) last = received_fits 0 t limits value (200000 * r.search.expansions) from m r.search.kept fits.numbers up in
        record {
          agent = record {
            task = refl;
            limit = sound.limit;
            within = sound.within;
            sent = up_now.sent;
            kept = changes_sound Comes t r.search.kept last [] changes sound.kept;
            fits = up_now.entries;
            states =
                changes_all Comes t (IsStateOf w t)
                (λ kept new is all. subst (λ (s : AgentState). IsStateOf w t s) (sym is.key) (state_known w t limits r there sound m fits told))
                r.search.kept last [] changes sound.states;
          };
          out = All-nil (GoesOut t last);
        }
