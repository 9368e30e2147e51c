-- An event leaves what agents told, know and sent as it is: what they keep and send only grows.
use Rattle.mp_world.proofs.Basics.{◌≡◌, ℕ, suc, ◌+◌, ◌-◌, ◌<◌, ◌⊎◌, Bool, true, false, cond, List, [], ◌∷◌, length, map, get_or, Option, Some, None, refl, sym, ap, subst, ◌∙◌, arith, inl, inr, IfSome, IsSomeAnd, Ok, Err, not, ◌==◌, enumerate_from, option_map_or}
use Rattle.mp_world.proofs.Basics.{cases_eq, eqb-false, get_or_default, length-append, same_Some}
use Rattle.std.specs.FinSet as set
use Rattle.std.proofs.lemmas.List.{get_or_append_left}
use Rattle.mp_messages.specs.declared.message.Message.TheVariants as kinds
use Rattle.mp_machine.specs.declared.event.Local.TheVariants as locals
use Rattle.mp_machine.specs.declared.refusal.BadKind.TheVariants.{NotASpelling}
use Rattle.mp_machine.specs.Taking.{took_state}
use Rattle.mp_world.specs.AgentWords.{AgentTask, is_met, Event, Message, State, message_of, Local, UnknownToken, WrongByte, AgentRecord, local, with_search, Step, without_messages, started, took, took_message, unless_bad, with_state}
use Rattle.mp_world.specs.SearchWords.{Tag, Numbers, AgentState, no_tag, expanded, is_byte_right, is_token_given, received, SearchRecord, tokens_given}
use Rattle.mp_world.specs.Values.{Values}
use Rattle.mp_world.specs.World.{World, agent_at}
use Rattle.mp_world.proofs.LocalCases.{event_holds, good_step}
use Rattle.mp_world.specs.Events.{agent_of, local_of, taken}
use Rattle.mp_world.specs.Joint.{joint, joint_told, private_facts, sets_of, told_by}
use Rattle.mp_world.specs.Steps.{IsStepOf}
use Rattle.mp_team_states.specs.Further.{HaveGrown, HaveSoundRecords, IsFurther}
use Rattle.mp_team_states.specs.Growing.{BeginsWith, HasGrown}
use Rattle.mp_team_states.specs.Sent.{IsSentIn}
use Rattle.mp_team_states.specs.Sound.{AreTold, IsSentState, IsStateOf, IsTold, tag_of}
use Rattle.mp_team_states.proofs.Changes.{changes_grow}
use Rattle.mp_team_states.proofs.Expanding.{IsReceived, Led, expanded_changes, received_changes}
use Rattle.mp_team_states.proofs.Growth.{grown_not, sent_stays, tokens_grow}
use Rattle.mp_team_states.proofs.Quiet.{IsOther, IsQuiet, quiet_message, quiet_started}

-- ---- the step of one agent, taken apart

pub record IsTaking (value : Numbers → Numbers → Option ℕ) (r : AgentRecord) (from : ℕ) (bytes : List ℕ) (s : Step) : Type 0 where
  pub message : Message
  pub reads : message_of r.task.agents r.task.publics bytes ≡ Some message
  pub took : took_message value r from message ≡ Ok s

pub taking : (value : Numbers → Numbers → Option ℕ) (r : AgentRecord) (from : ℕ) (bytes : List ℕ) (s : Step) → took value r from bytes ≡ Ok s
    → IsTaking value r from bytes s
unfolding took
taking value r from bytes s is = by (message_of r.task.agents r.task.publics bytes) refl is
  where
    by : (o : Option Message) → message_of r.task.agents r.task.publics bytes ≡ o → option_map_or (took_message value r from) o (Err NotASpelling) ≡ Ok s
        → IsTaking value r from bytes s
    by None reads is = absurd (let impossible : ⊥ = cc in impossible)
    by (Some m) reads is = record { message = m; reads = reads; took = is }

-- where it is known which message is read
pub took_read : (value : Numbers → Numbers → Option ℕ) (r : AgentRecord) (from : ℕ) (bytes : List ℕ) (s : Step) (m : Message)
    → took value r from bytes ≡ Ok s → message_of r.task.agents r.task.publics bytes ≡ Some m → took_message value r from m ≡ Ok s
unfolding took
took_read value r from bytes s m is reads =
    ap (λ (o : Option Message). option_map_or (took_message value r from) o (Err NotASpelling)) (sym reads) ∙ is

-- a state that was taken
pub state_taken : (value : Numbers → Numbers → Option ℕ) (r : AgentRecord) (from : ℕ) (m : State) (s : Step) → took_state value r from m ≡ Ok s
    → without_messages (with_state value r from m) ≡ s
state_taken value r from m s is = by (is_token_given r.task r.search.kept m) is
  where
    by : (given : Bool)
        → cond (not given) (Err UnknownToken) (unless_bad (not (is_byte_right r.task r.search.kept m)) WrongByte (without_messages (with_state value r from m))) ≡ Ok s
        → without_messages (with_state value r from m) ≡ s
    by true is = (good_step (not (is_byte_right r.task r.search.kept m)) WrongByte (without_messages (with_state value r from m)) s is).1
    by false is = absurd (let impossible : ⊥ = cc in impossible)

-- a message is a state or another one
pub state_or_other : (m : Message) → ((x : State) × (m ≡ kinds.State x)) ⊎ IsOther m
state_or_other (kinds.State x) = inl (x, refl)
state_or_other (kinds.Marker n) = inr tt
state_or_other (kinds.Report f) = inr tt
state_or_other (kinds.Pick n) = inr tt
state_or_other (kinds.Trace sent back) = inr tt
state_or_other (kinds.Length n) = inr tt
state_or_other (kinds.Done e) = inr tt

-- What an agent does, as far as its search goes: it expands an entry, a state comes, or the search stays as it is.
pub record SearchCases
    (value : Numbers → Numbers → Option ℕ)
    (r : AgentRecord)
    (event : Local)
    (bytes : List ℕ)
    (Q : Step → Type 0)
    : Type 0 where
  pub expands : event ≡ locals.Expand → Q (with_search r (expanded r.task value r.search))
  pub receives : (from : ℕ) (m : State) → event ≡ locals.Take from
      → message_of r.task.agents r.task.publics bytes ≡ Some (kinds.State m)
      → Q (without_messages (with_state value r from m))
  pub quiet : (s : Step) → IsQuiet r.task r.limit r.search s → Q s

module _ (value : Numbers → Numbers → Option ℕ) (r : AgentRecord) (event : Local) (bytes : List ℕ) (Q : Step → Type 0)
    (cases : SearchCases value r event bytes Q) where
  abbrev Reads : Message → Type 0
  Reads m = message_of r.task.agents r.task.publics bytes ≡ Some m

  message_searches : (from : ℕ) (m : Message) (s : Step) → event ≡ locals.Take from → Reads m
      → took_message value r from m ≡ Ok s → Q s
  message_searches from m s at reads took = by (state_or_other m)
    where
      by : ((x : State) × (m ≡ kinds.State x)) ⊎ IsOther m → Q s
      by (inl found) =
          subst (λ (m : Message). Reads m → took_message value r from m ≡ Ok s → Q s) (sym found.1)
          (λ reads took. subst Q (state_taken value r from found.0 s took) (cases.receives from found.0 at reads)) reads took
      by (inr other) = cases.quiet s (quiet_message r s value from m other took)

  pub search_holds : (s : Step) → local value r event bytes ≡ Ok s → Q s
  search_holds s is =
      event_holds value r event bytes Q (record {
        expands = cases.expands;
        takes = message_searches;
        starts = λ at. cases.quiet (started r) (quiet_started r);
      }) s is

pub local_further : (value : Numbers → Numbers → Option ℕ) (r : AgentRecord) (s : Step) (event : Local) (bytes : List ℕ)
    → local value r event bytes ≡ Ok s → IsFurther r s.after
unfolding with_state
local_further value r s event bytes is =
    search_holds value r event bytes (λ (s : Step). IsFurther r s.after) (record {
      expands = λ at.
          let d = expanded r.task value r.search in
          record {
            task = refl;
            kept = changes_grow (Led r.task value r.search.kept) r.task r.search.kept d.1.kept d.0
                (expanded_changes r.task value r.search);
          };
      receives = λ from m at reads. record {
        task = refl;
        kept = changes_grow (IsReceived r.task value from m r.search.kept) r.task r.search.kept
            (received r.task value from m r.search.kept).1 [] (received_changes r.task value from m r.search.kept);
      };
      quiet = λ s quiet. record {
        task = quiet.task;
        kept = subst (λ (x : SearchRecord). HasGrown r.search.kept x.kept) (sym quiet.search_is) (grown_not r.search.kept);
      };
    }) s is

-- ---- each agent is further

same_further : (r : AgentRecord) → IsFurther r r
same_further r = record { task = refl; kept = grown_not r.search.kept }

pub step_grows : (value : Values) (w next : World) (event : Event) → IsStepOf value w event next → HaveGrown w next
step_grows value w next event is agent r there = by (cases_eq agent (agent_of event))
  where
    by : (agent ≡ agent_of event) ⊎ (agent ≡ agent_of event → ⊥) → (later : AgentRecord) × (agent_at next agent ≡ Some later) × IsFurther r later
    by (inl same) =
        let one : is.agent ≡ r = same_Some is.agent r (sym is.there ∙ ap (agent_at w) (sym same) ∙ there) in (
          is.step.after,
          ap (agent_at next) same ∙ is.after,
          subst (λ (x : AgentRecord). IsFurther x is.step.after) one
              (local_further (value is.agent.task) is.agent is.step (local_of event) (taken w event) is.local),
        )
    by (inr other) = (r, is.others agent other ∙ there, same_further r)

-- ---- sets with tokens

pub sets_at : (w : World) (agent : ℕ) (r : AgentRecord) → agent_at w agent ≡ Some r → sets_of w agent ≡ tokens_given r.task r.search.kept
sets_at w agent r is = ap (λ (o : Option AgentRecord). option_map_or (λ r. tokens_given r.task r.search.kept) o []) is

map_places : {X Y : Type 0} (f g : ℕ × X → Y) (n : ℕ) (xs : List X) → ((i : ℕ) (d : X) → i < length xs → f (n + i, get_or xs i d) ≡ g (n + i, get_or xs i d))
    → map f (enumerate_from n xs) ≡ map g (enumerate_from n xs)
map_places f g n [] same = refl
map_places {X} {Y} f g n (x ∷ xs) same =
    let first : f (n, x) ≡ g (n, x) = subst (λ (m : ℕ). f (m, x) ≡ g (m, x)) (let e : n + 0 ≡ n = omega arith in e) (same 0 x (omega arith)) in
    let rest = map_places f g (n + 1) xs (λ i d h.
    subst (λ (m : ℕ). f (m, get_or xs i d) ≡ g (m, get_or xs i d)) (let e : n + suc i ≡ n + 1 + i = omega arith in e) (same (suc i) d (omega arith))) in
    λ j. first j ∷ rest j

module _ (w next : World) (sound : HaveSoundRecords w) (grown : HaveGrown w next) where
  pub sets_begin : (agent : ℕ) → BeginsWith (sets_of w agent) (sets_of next agent)
  sets_begin agent = by (agent_at w agent) refl
    where
      by : (o : Option AgentRecord) → agent_at w agent ≡ o → BeginsWith (option_map_or (λ r. tokens_given r.task r.search.kept) o []) (sets_of next agent)
      by None is = record { more = sets_of next agent; is = refl }
      by (Some r) is =
          let later = grown agent r is in
          let same : sets_of next agent ≡ tokens_given r.task later.0.search.kept =
          sets_at next agent later.0 later.1 ∙ ap (λ (t : AgentTask). tokens_given t later.0.search.kept) later.2.task
          in
          subst (λ (xs : List Numbers). BeginsWith (tokens_given r.task r.search.kept) xs) (sym same)
          (tokens_grow r.task r.search.kept later.0.search.kept (sound agent r is).sent later.2.kept)

  module _ (agent : ℕ) (tag : Tag) (told : IsTold w agent tag) where
    pub told_same : told_by next (agent, tag) ≡ told_by w (agent, tag)
    told_same =
        let more = sets_begin agent in
        ap (λ (xs : List Numbers). get_or xs tag.token set.empty) more.is
        ∙ get_or_append_left (sets_of w agent) more.more set.empty tag.token told.given

    pub told_stays : IsTold next agent tag
    told_stays = record {
      given = let more = sets_begin agent in let longer = ap length more.is in omega (arith, told.given, length-append (sets_of w agent) more.more);
      byte = by (agent_at w agent) refl told.byte told.given;
    }
      where
        by : (o : Option AgentRecord) → agent_at w agent ≡ o → IfSome o (λ r. tag.met ≡ is_met r.task (told_by w (agent, tag)))
            → tag.token < length (option_map_or (λ r. tokens_given r.task r.search.kept) o [])
            → IfSome (agent_at next agent) (λ r. tag.met ≡ is_met r.task (told_by next (agent, tag)))
        by None is byte given = absurd (omega arith)
        by (Some r) is byte given =
            let later = grown agent r is in
            subst (λ (o : Option AgentRecord). IfSome o (λ r. tag.met ≡ is_met r.task (told_by next (agent, tag)))) (sym later.1)
            (byte ∙ (λ j. is_met (sym later.2.task j) (sym told_same j)))

  pub all_told_stay : (tags : List Tag) → AreTold w tags → AreTold next tags
  all_told_stay tags told agent low high = told_stays agent (tag_of tags agent) (told agent low high)

  pub state_stays : (t : AgentTask) (s : AgentState) → IsStateOf w t s → IsStateOf next t s
  state_stays t s is = record {
    publics = is.publics;
    mine = is.mine;
    number = is.number;
    own = is.own;
    others = λ agent low high other. told_stays agent (tag_of s.tags agent) (is.others agent low high other);
  }

  pub sent_state_stays : (t : AgentTask) (m : State) → IsSentState w t m → IsSentState next t m
  sent_state_stays t m is = by (agent_at w t.me) refl is
    where
      by : (o : Option AgentRecord) → agent_at w t.me ≡ o → IsSomeAnd o (λ r. IsSentIn t r.search.kept m) → IsSentState next t m
      by None there is = absurd is
      by (Some r) there is =
          let later = grown t.me r there in
          subst (λ (o : Option AgentRecord). IsSomeAnd o (λ r. IsSentIn t r.search.kept m)) (sym later.1)
          (sent_stays t r.search.kept later.0.search.kept m (sound t.me r there).sent later.2.kept is)

  -- ---- joint states

  pub joint_same : (t : AgentTask) (s : AgentState) → IsStateOf w t s → joint next t.me s ≡ joint w t.me s
  joint_same t s is =
      let same : map (private_facts next t.me s.mine) (enumerate_from 1 s.tags) ≡ map (private_facts w t.me s.mine) (enumerate_from 1 s.tags) =
      map_places (private_facts next t.me s.mine) (private_facts w t.me s.mine) 1 s.tags (λ i d h. by i d h (1 + i == t.me) refl)
      in
      λ j. record { publics = s.publics; privates = same j }
    where
      by : (i : ℕ) (d : Tag) → i < length s.tags → (b : Bool) → (1 + i == t.me) ≡ b
          → cond b s.mine (told_by next (1 + i, get_or s.tags i d)) ≡ cond b s.mine (told_by w (1 + i, get_or s.tags i d))
      by i d h true test = refl
      by i d h false test =
          let place : 1 + i - 1 ≡ i = omega arith in
          let tag : get_or s.tags i d ≡ tag_of s.tags (1 + i) = get_or_default s.tags i d no_tag h ∙ ap (λ (k : ℕ). get_or s.tags k no_tag) (sym place) in
          let number = is.number in
          let told : IsTold w (1 + i) (get_or s.tags i d) =
          subst (λ (x : Tag). IsTold w (1 + i) x) (sym tag) (is.others (1 + i) (omega arith) (omega arith) (λ e. eqb-false (1 + i) t.me test e))
          in
          told_same (1 + i) (get_or s.tags i d) told

  pub joint_told_same : (m : State) → AreTold w m.tags → joint_told next m ≡ joint_told w m
  joint_told_same m told =
      let same : map (told_by next) (enumerate_from 1 m.tags) ≡ map (told_by w) (enumerate_from 1 m.tags) =
      map_places (told_by next) (told_by w) 1 m.tags (λ i d h.
      let place : 1 + i - 1 ≡ i = omega arith in
      let tag : get_or m.tags i d ≡ tag_of m.tags (1 + i) = get_or_default m.tags i d no_tag h ∙ ap (λ (k : ℕ). get_or m.tags k no_tag) (sym place) in
      told_same (1 + i) (get_or m.tags i d) (subst (λ (x : Tag). IsTold w (1 + i) x) (sym tag) (told (1 + i) (omega arith) (omega arith))))
      in
      λ j. record { publics = set.from_list m.facts; privates = same j }
