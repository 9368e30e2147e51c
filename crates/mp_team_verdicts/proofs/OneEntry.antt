-- An agent has one entry for each path: so no two of its entries are of the same message.
use Rattle.mp_world.proofs.Basics.{◌≡◌, ◌≢◌, ℕ, ◌+◌, ◌*◌, ◌≤◌, ◌<◌, ◌^◌, Bool, true, false, List, [], ◌∷◌, length, map, get_or, Option, Some, None, All, refl, sym, ap, subst, ◌∙◌, arith, IsSomeAnd, filter, if◌then◌else◌, slice_get, get_or-map, length-map}
use Rattle.mp_world.proofs.Basics.{All-contains, All-filter, All-map, get_or_from_slice_get, same_Some, slice_get-get_or, slice_get_within}
use Rattle.std.specs.Prelude.{AllPairs}
use Rattle.std.specs.Cmp.{unsigned_Decides}
use Rattle.std.proofs.lemmas.List.Elements.{filter_passes}
use Rattle.std.proofs.lemmas.List.Kept.{AllPairs-filter}
use Rattle.std.proofs.lemmas.List.Sums.{sum_by-cons}
use Rattle.std.proofs.lemmas.Map.Made.{IsDistinct-from_AllPairs, is_member-Decides}
use Rattle.std.proofs.lemmas.Map.Steps.{length-le_from_distinct_below}
use Rattle.mp_search.proofs.KeyedStates.{Decides-state, all_get}
use Rattle.mp_world.specs.AgentWords.{state_after, AgentTask, TaskStep, joint_start, task_cost, team_system, AgentRecord}
use Rattle.mp_world.specs.SearchWords.{Entry, Origin, Root, Own, From, new_entry, AgentState, same_state, start_state}
use Rattle.mp_world.specs.Joint.{joint}
use Rattle.mp_world.specs.Team.{AreTeamTasks}
use Rattle.mp_world.specs.World.{IsTeamWorld, World, agent_at}
use Rattle.mp_world.proofs.Agents.{agree_numbered, member_of}
use Rattle.mp_world.proofs.Mail.{agent_of_team}
use Rattle.mp_world.proofs.Stepping.{team_size}
use Rattle.mp_team_states.specs.Paths.{AreReached, IsPath, IsReached, IsSentAt}
use Rattle.mp_team_states.specs.Paths.IsPath.{at_root, by_action, by_message}
use Rattle.mp_team_states.specs.Sound.{AreStatesSound, IsStateOf}
use Rattle.mp_team_states.proofs.GoodStates.{equal_if_joint}
use Rattle.mp_team_states.proofs.ReachedEntries.{entry_in, one_path, origins, same_sent}
use Rattle.mp_team_states.proofs.StepsSound.{agent_sound, limits_of}
use Rattle.mp_team_verdicts.proofs.OwnEntries.{HasFewOwn, own_count, own_one}

-- the path to an entry of a message is that to the entry that was sent
record IsSentPath (w : World) (sender sent : ℕ) (steps : List TaskStep) : Type 0 where
  there : ℕ
  given : IsSentAt w sender sent there
  path : IsPath w sender there steps

sent_path : (w : World) (agent number : ℕ) (r : AgentRecord) (e : Entry AgentState) (steps : List TaskStep) (sender sent : ℕ) → agent_at w agent ≡ Some r
    → slice_get r.search.kept.entries number ≡ Some e → e.origin ≡ From sender sent → IsPath w agent number steps → IsSentPath w sender sent steps
sent_path w agent number r e steps sender sent there at from (at_root _ _ f is root) =
    absurd (let same = origins w agent number e f (From sender sent) Root (entry_in w agent number r e there at) is from root in let impossible : ⊥ = cc in impossible)
sent_path w agent number r e steps sender sent there at from (by_action _ _ f action parent before is own path) =
    absurd (let same = origins w agent number e f (From sender sent) (Own action parent) (entry_in w agent number r e there at) is from own in let impossible : ⊥ = cc in impossible)
sent_path w agent number r e steps sender sent there at from (by_message _ _ f sender_too sent_too place _ is from_too given path) =
    let same = origins w agent number e f (From sender sent) (From sender_too sent_too) (entry_in w agent number r e there at) is from from_too in
    let senders : sender_too ≡ sender = cc in
    let numbers : sent_too ≡ sent = cc in
    record {
      there = place;
      given = subst (λ (n : ℕ). IsSentAt w sender n place) numbers (subst (λ (s : ℕ). IsSentAt w s sent_too place) senders given);
      path = subst (λ (s : ℕ). IsPath w s place steps) senders path;
    }

module _ (tasks : List AgentTask) (are : AreTeamTasks tasks) (w : World) (team : IsTeamWorld tasks w) (sound : AreStatesSound tasks w)
    (reached : AreReached tasks w) (agent : ℕ) (r : AgentRecord) (there : agent_at w agent ≡ Some r) where
  abbrev At : ℕ → Entry AgentState → Type 0
  At n e = slice_get r.search.kept.entries n ≡ Some e

  known : (n : ℕ) (e : Entry AgentState) → At n e → IsStateOf w r.task e.key
  known n e at =
      all_get (λ (e : Entry AgentState). IsStateOf w r.task e.key) r.search.kept.entries n e
      (agent_sound tasks are w team sound agent r there).states at

  -- of two entries of one path the later one would cost less
  not_twice : (m n : ℕ) (d e : Entry AgentState) → m < n → At m d → At n e
      → (x : IsReached tasks w agent m d) (y : IsReached tasks w agent n e) → x.steps ≡ y.steps → ⊥
  not_twice m n d e before at_m at_n x y same =
      let joints : joint w agent d.key ≡ joint w agent e.key =
      same_Some (joint w agent d.key) (joint w agent e.key) (sym x.leads ∙ ap (λ (xs : List TaskStep). state_after (team_system tasks) (joint_start tasks) xs) same ∙ y.leads) in
      let keys : d.key ≡ e.key =
      equal_if_joint tasks are w team sound agent r d.key e.key there (known m d at_m) (known n e at_n) joints in
      let costs : d.g ≡ e.g = sym x.cost ∙ ap (λ (xs : List TaskStep). task_cost tasks xs) same ∙ y.cost in
      let is_m = get_or_from_slice_get r.search.kept.entries m d d at_m in
      let is_n = get_or_from_slice_get r.search.kept.entries n e d at_n in
      let falls = (agent_sound tasks are w team sound agent r there).kept.falling m n d before (slice_get_within r.search.kept.entries n e at_n)
      ((λ k. same_state (is_m k).key (is_n k).key) ∙ (Decides-state d.key e.key).1 keys) in
      let less : e.g < d.g = subst (λ (x : Entry AgentState). x.g < d.g) is_n (subst (λ (x : Entry AgentState). (get_or r.search.kept.entries n d).g < x.g) is_m falls) in
      omega arith

  -- no two entries are of one message
  one_of_message : (m n : ℕ) (d e : Entry AgentState) (sender sent : ℕ) → m < n → At m d → At n e → d.origin ≡ From sender sent → e.origin ≡ From sender sent → ⊥
  one_of_message m n d e sender sent before at_m at_n d_from e_from =
      let x = reached agent m d (entry_in w agent m r d there at_m) in
      let y = reached agent n e (entry_in w agent n r e there at_n) in
      let a = sent_path w agent m r d x.steps sender sent there at_m d_from x.path in
      let b = sent_path w agent n r e y.steps sender sent there at_n e_from y.path in
      let place = same_sent w sender sent b.there a.there b.given a.given in
      not_twice m n d e before at_m at_n x y
      (one_path w sender a.there x.steps y.steps a.path (subst (λ (k : ℕ). IsPath w sender k y.steps) place b.path))

-- ---- how many entries are of messages

abbrev pub is_heard : Origin → Bool
is_heard Root = false
is_heard (Own action parent) = false
is_heard (From agent sent) = true

-- a number for each sender and each of its sent numbers
abbrev number_of : Origin → ℕ
number_of Root = 0
number_of (Own action parent) = 0
number_of (From agent sent) = agent * 2 ^ 41 + sent

abbrev pub heard_in : List (Entry AgentState) → List (Entry AgentState)
heard_in es = filter (λ e. is_heard e.origin) es

-- an entry is of a message or it is not
own_or_heard : (o : Origin) → own_one o + (if is_heard o then 1 else 0) ≡ 1
own_or_heard Root = refl
own_or_heard (Own action parent) = refl
own_or_heard (From agent sent) = refl

pub count_both : (es : List (Entry AgentState)) → length es ≡ own_count es + length (heard_in es)
count_both [] = refl
count_both (e ∷ es) =
    let both = own_or_heard e.origin in
    let own = sum_by-cons (λ (e : Entry AgentState). own_one e.origin) e es in
    let heard : length (heard_in (e ∷ es)) ≡ (if is_heard e.origin then 1 else 0) + length (heard_in es) = by (is_heard e.origin) in
    let rest = count_both es in
    omega arith
  where
    by : (b : Bool) → length (if b then e ∷ heard_in es else heard_in es) ≡ (if b then 1 else 0) + length (heard_in es)
    by true = omega arith
    by false = omega arith

-- the numbers in it are small
abbrev HasSmall : Origin → Type 0
HasSmall Root = Unit {0}
HasSmall (Own action parent) = Unit {0}
HasSmall (From agent sent) = (agent ≤ 16) × (sent < 2 ^ 41)

number_below : (o : Origin) → HasSmall o → number_of o < 17 * 2 ^ 41
number_below Root small = omega arith
number_below (Own action parent) small = omega arith
number_below (From agent sent) small = let a = small.0 in let b = small.1 in omega arith

-- two numbers are of two messages
two_numbers : (a b : Origin) → is_heard a ≡ true → is_heard b ≡ true → HasSmall a → HasSmall b → number_of a ≡ number_of b → a ≡ b
two_numbers Root b heard_a heard_b small_a small_b same = absurd (let impossible : ⊥ = cc in impossible)
two_numbers (Own action parent) b heard_a heard_b small_a small_b same = absurd (let impossible : ⊥ = cc in impossible)
two_numbers (From i m) Root heard_a heard_b small_a small_b same = absurd (let impossible : ⊥ = cc in impossible)
two_numbers (From i m) (Own action parent) heard_a heard_b small_a small_b same = absurd (let impossible : ⊥ = cc in impossible)
two_numbers (From i m) (From j n) heard_a heard_b small_a small_b same =
    let below_m = small_a.1 in
    let below_n = small_b.1 in
    let senders : i ≡ j = omega arith in
    let numbers : m ≡ n = omega arith in
    λ k. From (senders k) (numbers k)

-- ---- few entries

module _ (tasks : List AgentTask) (are : AreTeamTasks tasks) (w : World) (team : IsTeamWorld tasks w) (sound : AreStatesSound tasks w)
    (reached : AreReached tasks w) (agent : ℕ) (r : AgentRecord) (there : agent_at w agent ≡ Some r) where
  pub few_agents : length w.agents ≤ 16
  few_agents =
      let fit = limits_of tasks are w team agent r there in
      let of = member_of tasks (agree_numbered tasks are.agree) w team agent r there in
      let size = team_size tasks w team in
      let many = of.agents in
      let most = fit.at_most_16_agents in
      omega arith

  -- a number that was sent is small
  pub sent_small : (sender sent number : ℕ) → IsSentAt w sender sent number → (sender ≤ 16) × (sent < 2 ^ 41)
  sent_small sender sent number given = by (agent_at w sender) refl given
    where
      by : (o : Option AgentRecord) → agent_at w sender ≡ o → IsSomeAnd o (λ r. slice_get r.search.kept.sent sent ≡ Some number) → (sender ≤ 16) × (sent < 2 ^ 41)
      by None at is = absurd is
      by (Some u) at is =
          let inside = slice_get_within u.search.kept.sent sent number is in
          let known_u = agent_sound tasks are w team sound sender u at in
          let limit = known_u.limit in
          let within = known_u.within in
          let many = known_u.sent in
          let high = (agent_of_team w sender u at).at_most in
          let few = few_agents in
          (omega arith, omega arith)

  small_at : (n : ℕ) (e : Entry AgentState) → slice_get r.search.kept.entries n ≡ Some e → HasSmall e.origin
  small_at n e at = by e.origin refl
    where
      by : (o : Origin) → e.origin ≡ o → HasSmall o
      by Root is = tt
      by (Own action parent) is = tt
      by (From sender sent) is =
          let x = reached agent n e (entry_in w agent n r e there at) in
          let a = sent_path w agent n r e x.steps sender sent there at is x.path in
          sent_small sender sent a.there a.given

  es : List (Entry AgentState)
  es = r.search.kept.entries

  hs : List (Entry AgentState)
  hs = heard_in es

  -- what holds of an entry of a message
  record IsHeard (e : Entry AgentState) : Type 0 where
    heard : is_heard e.origin ≡ true
    small : HasSmall e.origin

  all_small : All (λ e. HasSmall e.origin) es
  unfolding es
  all_small k d inside = small_at k (get_or r.search.kept.entries k d) (slice_get-get_or r.search.kept.entries k d inside)

  all_heard : (k : ℕ) (d : Entry AgentState) → k < length hs → IsHeard (get_or hs k d)
  unfolding hs es
  all_heard k d inside = record {
    heard = filter_passes (λ (e : Entry AgentState). is_heard e.origin) r.search.kept.entries k d inside;
    small = All-filter (λ (e : Entry AgentState). is_heard e.origin) (λ (e : Entry AgentState). HasSmall e.origin) r.search.kept.entries all_small k d inside;
  }

  -- two of them are of two messages
  Apart : Entry AgentState → Entry AgentState → Type 0
  Apart d e = is_heard d.origin ≡ true → d.origin ≡ e.origin → ⊥

  all_apart : AllPairs Apart es
  unfolding es Apart
  all_apart i j d before inside heard same =
      let at_i = slice_get-get_or r.search.kept.entries i d (omega arith) in
      let at_j = slice_get-get_or r.search.kept.entries j d inside in
      by (get_or r.search.kept.entries i d).origin refl heard (sym same)
    where
      by : (o : Origin) → (get_or r.search.kept.entries i d).origin ≡ o → is_heard o ≡ true → (get_or r.search.kept.entries j d).origin ≡ o → ⊥
      by Root is heard too = absurd (let impossible : ⊥ = cc in impossible)
      by (Own action parent) is heard too = absurd (let impossible : ⊥ = cc in impossible)
      by (From sender sent) is heard too =
          one_of_message tasks are w team sound reached agent r there i j (get_or r.search.kept.entries i d) (get_or r.search.kept.entries j d) sender sent before
          (slice_get-get_or r.search.kept.entries i d (omega arith)) (slice_get-get_or r.search.kept.entries j d inside) is too

  heard_apart : AllPairs Apart hs
  unfolding hs
  heard_apart = AllPairs-filter Apart (λ (e : Entry AgentState). is_heard e.origin) es all_apart

  number : Entry AgentState → ℕ
  number e = number_of e.origin

  numbers : List ℕ
  numbers = map number hs

  numbers_differ : AllPairs (λ (x y : ℕ). x ≢ y) numbers
  unfolding numbers number Apart
  numbers_differ i j d before inside same =
      let e0 : Entry AgentState = new_entry (start_state r.task) 0 0 Root false in
      let long = length-map hs (λ (e : Entry AgentState). number_of e.origin) in
      let at_i = get_or-map (λ (e : Entry AgentState). number_of e.origin) hs i e0 d (omega arith) in
      let at_j = get_or-map (λ (e : Entry AgentState). number_of e.origin) hs j e0 d (omega arith) in
      let a = all_heard i e0 (omega arith) in
      let b = all_heard j e0 (omega arith) in
      heard_apart i j e0 before (omega arith) a.heard
      (two_numbers (get_or hs i e0).origin (get_or hs j e0).origin a.heard b.heard a.small b.small (sym at_i ∙ same ∙ at_j))

  numbers_small : All (λ x. x < 17 * 2 ^ 41) numbers
  unfolding numbers number
  numbers_small =
      All-map (λ (x : ℕ). x < 17 * 2 ^ 41) (λ (e : Entry AgentState). number_of e.origin) hs
      (λ k d inside. number_below (get_or hs k d).origin (all_heard k d inside).small)

  few_heard : length hs ≤ 17 * 2 ^ 41
  unfolding numbers number
  few_heard =
      let long = length-map hs (λ (e : Entry AgentState). number_of e.origin) in
      let few = length-le_from_distinct_below numbers (17 * 2 ^ 41) (IsDistinct-from_AllPairs unsigned_Decides numbers numbers_differ)
      (λ q here. All-contains (λ (x : ℕ). x < 17 * 2 ^ 41) numbers q numbers_small ((is_member-Decides unsigned_Decides numbers q).0 here)) in
      omega arith

  pub few_entries : HasFewOwn r → length r.search.kept.entries < 2 ^ 46
  unfolding hs es
  few_entries own =
      let both = count_both r.search.kept.entries in
      let heard = few_heard in
      let known_r = agent_sound tasks are w team sound agent r there in
      let limit = known_r.limit in
      let within = known_r.within in
      let few = own in
      omega arith
