-- Over how many messages a plan is walked back: a walk that goes on at another agent is over one message fewer, and an entry
-- is reached over fewer messages than there are entries.
use Rattle.mp_world.proofs.Basics.{◌≡◌, ◌≢◌, ℕ, zero, suc, ◌+◌, ◌*◌, ◌≤◌, ◌<◌, ◌^◌, List, [], ◌∷◌, length, Option, Some, refl, sym, ap, subst, ◌∙◌, arith, ◌⊎◌, inl, inr, Contains, slice_get, option_map_or, same_Some, slice_get_within}
use Rattle.mp_list.proofs.Members.{contains_cases, contains_one, no_member}
use Rattle.mp_trail.specs.declared.steps.Walked.TheVariants.{Root as AtRoot}
use Rattle.mp_world.specs.AgentWords.{Hop, origin_of, walk, walk_from, walk_within, AgentRecord}
use Rattle.mp_world.specs.SearchWords.{Entry, Origin, Root, Own, From, AgentState}
use Rattle.mp_world.specs.Team.{IsTeam, Team}
use Rattle.mp_world.specs.World.{World, agent_at}
use Rattle.mp_team_snapshots.specs.Team.{IsTeamOf}
use Rattle.mp_team_states.specs.Further.{HaveGrown}
use Rattle.mp_team_states.specs.Paths.{IsEntryAt, IsOver, IsSentAt}
use Rattle.mp_team_states.specs.Paths.IsOver.{at_start, by_own, over_one}
use Rattle.mp_team_states.proofs.Messages.{one_number}
use Rattle.mp_team_states.proofs.ReachedEntries.{entry_stays, has_it}
use Rattle.mp_team_verdicts.proofs.Few.{keeps_few}
use Rattle.mp_team_states.proofs.ReachedEntries.{sent_at_stays}
use Rattle.mp_team_verdicts.proofs.FewStates.{AreApart, few_apart}
use Rattle.mp_team_verdicts.proofs.ReachedWorlds.{IsReached, known}
use Rattle.mp_team_verdicts.proofs.Stuck.{of_there}

-- ---- the number of messages stays

module _ (w next : World) (grown : HaveGrown w next) where
  pub over_stays : (agent number messages : ℕ) → IsOver w agent number messages → IsOver next agent number messages
  over_stays agent number messages (at_start _ _ e is root) =
      let later = entry_stays w next grown agent number e is in
      at_start agent number later.0 later.1 (later.2.origin ∙ root)
  over_stays agent number messages (by_own _ _ e action parent _ is own less rest) =
      let later = entry_stays w next grown agent number e is in
      by_own agent number later.0 action parent messages later.1 (later.2.origin ∙ own) less (over_stays agent parent messages rest)
  over_stays agent number messages (over_one _ _ e sender sent there before is from given rest) =
      let later = entry_stays w next grown agent number e is in
      over_one agent number later.0 sender sent there before later.1 (later.2.origin ∙ from)
      (sent_at_stays w next grown sender sent there given) (over_stays sender there before rest)

-- ---- a walk that goes on at another agent

-- it goes on at the entry of a number that was sent, which was reached over one message fewer
pub record GoesOnOver (w : World) (sender sent messages : ℕ) : Type 0 where
  pub there : ℕ
  pub given : IsSentAt w sender sent there
  pub fewer : ℕ
  pub over : IsOver w sender there fewer
  pub one : messages ≡ fewer + 1

module _ (w : World) (agent : ℕ) (r : AgentRecord) (there : agent_at w agent ≡ Some r) where
  origin_is : (number : ℕ) (e : Entry AgentState) (o : Origin) → IsEntryAt w agent number e → e.origin ≡ o → origin_of r.search.kept number ≡ o
  origin_is number e o is from =
      let h = has_it w agent number e is in
      let one : h.agent_is ≡ r = same_Some h.agent_is r (sym h.there ∙ there) in
      let at : slice_get r.search.kept.entries number ≡ Some e = subst (λ (r : AgentRecord). slice_get r.search.kept.entries number ≡ Some e) one h.at in
      ap (λ (o : Option (Entry AgentState)). option_map_or (λ e. e.origin) o Root) at ∙ from

  goes_on : (fuel number back messages sender sent n : ℕ) → number < fuel → IsOver w agent number messages
      → (walk_within fuel r.search.kept number back).end ≡ Hop sender sent n → GoesOnOver w sender sent messages
  unfolding walk_within
  goes_on zero number back messages sender sent n less over is = absurd (omega arith)
  goes_on (suc fuel) number back messages sender sent n less (at_start _ _ e at root) is =
      let now : AtRoot back ≡ Hop sender sent n =
      sym (ap (λ (o : Origin). (walk_from (walk_within fuel r.search.kept) o back).end) (origin_is number e Root at root)) ∙ is in
      absurd (let impossible : ⊥ = cc in impossible)
  goes_on (suc fuel) number back messages sender sent n less (by_own _ _ e action parent _ at own earlier rest) is =
      goes_on fuel parent (back + 1) messages sender sent n (omega arith) rest
      (sym (ap (λ (o : Origin). (walk_from (walk_within fuel r.search.kept) o back).end) (origin_is number e (Own action parent) at own)) ∙ is)
  goes_on (suc fuel) number back messages sender sent n less (over_one _ _ e from number_sent place before at origin given rest) is =
      let now : Hop from number_sent back ≡ Hop sender sent n =
      sym (ap (λ (o : Origin). (walk_from (walk_within fuel r.search.kept) o back).end) (origin_is number e (From from number_sent) at origin)) ∙ is in
      let senders : from ≡ sender = cc in
      let numbers : number_sent ≡ sent = cc in
      record {
        there = place;
        given = subst (λ (k : ℕ). IsSentAt w sender k place) numbers (subst (λ (k : ℕ). IsSentAt w k number_sent place) senders given);
        fewer = before;
        over = subst (λ (k : ℕ). IsOver w k place before) senders rest;
        one = refl;
      }

  pub hop_over : (number back messages sender sent n : ℕ) → IsOver w agent number messages
      → (walk r.search.kept number back).end ≡ Hop sender sent n → GoesOnOver w sender sent messages
  hop_over number back messages sender sent n over is = goes_on (number + 1) number back messages sender sent n (omega arith) over is

-- ---- messages are fewer than entries

-- one number for an agent and an entry
abbrev code : ℕ → ℕ → ℕ
code agent number = 70368744177664 * agent + number

same_code : (a b m n : ℕ) → m < 2 ^ 46 → n < 2 ^ 46 → code a m ≡ code b n → (a ≡ b) × (m ≡ n)
same_code a b m n small small_too same = (omega arith, omega arith)

code_below : (a m : ℕ) → a ≤ 16 → m < 2 ^ 46 → code a m < 17 * 2 ^ 46
code_below a m few small = omega arith

-- the code of an entry that was reached over at most so many messages
record IsCodeOf (w : World) (most code_is : ℕ) : Type 0 where
  agent : ℕ
  number : ℕ
  messages : ℕ
  over : IsOver w agent number messages
  at_most : messages ≤ most
  few_agents : agent ≤ 16
  few : number < 2 ^ 46
  is : code_is ≡ code agent number

-- one entry for each number of messages
record HasCodes (w : World) (messages : ℕ) : Type 0 where
  codes : List ℕ
  long : messages < length codes
  apart : AreApart codes
  each : (c : ℕ) → Contains codes c → IsCodeOf w messages c

no_member_of : (x y : ℕ) → Contains [] y → x ≢ y
no_member_of x y here = absurd (no_member y here)

-- an entry that was reached over one message more than all others
module _ (w : World) (agent number before : ℕ) (mine : IsOver w agent number (before + 1)) (few_agents : agent ≤ 16) (few : number < 2 ^ 46)
    (later : HasCodes w before) where
  is_another : (y : ℕ) → Contains later.codes y → code agent number ≢ y
  is_another y here same =
      let other = later.each y here in
      let both = same_code agent other.agent number other.number few other.few (same ∙ other.is) in
      let over : IsOver w agent number other.messages =
      subst (λ (k : ℕ). IsOver w k number other.messages) (sym both.0)
      (subst (λ (k : ℕ). IsOver w other.agent k other.messages) (sym both.1) other.over) in
      let equal = one_number w agent number (before + 1) other.messages mine over in
      let at_most = other.at_most in
      let impossible : ⊥ = omega arith in
      impossible

  is_code : (c : ℕ) → (code agent number ≡ c) ⊎ Contains later.codes c → IsCodeOf w (before + 1) c
  is_code c (inl same) = record {
    agent = agent;
    number = number;
    messages = before + 1;
    over = mine;
    at_most = omega arith;
    few_agents = few_agents;
    few = few;
    is = sym same;
  }
  is_code c (inr here) =
      let other = later.each c here in
      let most = other.at_most in
      record {
        agent = other.agent;
        number = other.number;
        messages = other.messages;
        over = other.over;
        at_most = omega arith;
        few_agents = other.few_agents;
        few = other.few;
        is = other.is;
      }

  one_code_more : HasCodes w (before + 1)
  one_code_more =
      let enough = later.long in
      record {
        codes = code agent number ∷ later.codes;
        long = omega arith;
        apart = (is_another, later.apart);
        each = λ c here. is_code c (contains_cases (code agent number) later.codes c here);
      }

module _ (team : Team) (is_team : IsTeam team) (publics : ℕ) (of_team : IsTeamOf publics team.tasks) (w : World)
    (at : IsReached team w) where
  open team use {tasks}

  entry_few : (agent number : ℕ) (e : Entry AgentState) → IsEntryAt w agent number e → (agent ≤ 16) × (number < 2 ^ 46)
  entry_few agent number e is =
      let h = has_it w agent number e is in
      let k = known team is_team publics of_team w at in
      let few = keeps_few tasks is_team.tasks w k.team k.so_far agent h.agent_is h.there in
      let inside = slice_get_within h.agent_is.search.kept.entries number e h.at in
      let of = of_there team is_team publics of_team w at agent h.agent_is h.there in
      let high = of.at_most in
      let small = of_team.agents in
      (omega arith, omega arith)

  codes_of : (agent number messages : ℕ) → IsOver w agent number messages → HasCodes w messages
  codes_of agent number messages (at_start _ _ e is root) =
      let few = entry_few agent number e is in
      record {
        codes = code agent number ∷ [];
        long = omega arith;
        apart = (λ y here. no_member_of (code agent number) y here, tt);
        each = λ c here. record {
          agent = agent;
          number = number;
          messages = 0;
          over = at_start agent number e is root;
          at_most = omega arith;
          few_agents = few.0;
          few = few.1;
          is = contains_one (code agent number) c here;
        };
      }
  codes_of agent number messages (by_own _ _ e action parent _ is own less rest) = codes_of agent parent messages rest
  codes_of agent number messages (over_one _ _ e sender sent there before is from given rest) =
      let few = entry_few agent number e is in
      one_code_more w agent number before (over_one agent number e sender sent there before is from given rest) few.0 few.1
      (codes_of sender there before rest)

  pub few_messages : (agent number messages : ℕ) → IsOver w agent number messages → messages < 17 * 2 ^ 46
  few_messages agent number messages over =
      let has = codes_of agent number messages over in
      let long = has.long in
      let few = few_apart has.codes (17 * 2 ^ 46) has.apart
      (λ c here.
      let one = has.each c here in
      subst (λ (k : ℕ). k < 17 * 2 ^ 46) (sym one.is) (code_below one.agent one.number one.few_agents one.few)) in
      omega arith
