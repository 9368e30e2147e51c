-- Round robin takes few rounds in all: while the search goes on, and from then on until all have ended.
use Rattle.mp_world.proofs.Basics.{◌≡◌, ℕ, zero, suc, ◌+◌, ◌*◌, ◌≤◌, ◌<◌, ◌^◌, Bool, true, false, length, Option, Some, refl, sym, ap, subst, ◌∙◌, arith, ◌⊎◌, inl, inr, IfSome, false≢true}
use Rattle.mp_world.specs.AgentWords.{Notes, AgentRecord, given_verdict, is_deciding}
use Rattle.mp_world.specs.RoundRobin.{is_over}
use Rattle.mp_world.specs.Team.{IsTeam, Team}
use Rattle.mp_world.specs.World.{World, agent_at}
use Rattle.mp_world.proofs.Agents.{agent_there}
use Rattle.mp_team_snapshots.specs.Team.{IsTeamOf}
use Rattle.mp_team_snapshots.proofs.Worlds.{note_at, note_of}
use Rattle.mp_team_verdicts.specs.Going.{AreGoingRounds, IsGoingRound}
use Rattle.mp_team_verdicts.specs.Quiet.{AreSearchRounds, IsSearchRound}
use Rattle.mp_team_verdicts.proofs.Calm.{Reached, goes_reached, rises}
use Rattle.mp_team_verdicts.proofs.Decided.{few_rounds}
use Rattle.mp_team_verdicts.proofs.Nearer.{near_round, near_start}
use Rattle.mp_team_verdicts.proofs.Nearing.{IsNear}
use Rattle.mp_team_verdicts.proofs.Nearing.IsNear.{asked, chosen, one_ended}
use Rattle.mp_team_verdicts.proofs.Points.{round_runs}
use Rattle.mp_team_verdicts.proofs.Stuck.{is_agent, is_first}

module _ (team : Team) (is_team : IsTeam team) (publics : ℕ) (of_team : IsTeamOf publics team.tasks) where
  open team use {tasks, value}

  abbrev n : ℕ
  n = length tasks

  abbrev At : World → Type 0
  At = Reached team is_team publics of_team

  reach : (w v : World) → At w → IsGoingRound value n w v → At v
  reach w v at q = goes_reached team is_team publics of_team q.events w v at (round_runs value n w v q.events q.round)

  -- numbers of agent 1's snapshots rise over the rounds
  rise : (rounds : ℕ) (w last : World) → At w → AreGoingRounds value n rounds w last → (note_at w 1).number ≤ (note_at last 1).number
  rise zero w last at same =
      let is : (note_at last 1).number ≡ (note_at w 1).number = ap (λ (v : World). (note_at v 1).number) same in
      omega arith
  rise (suc rounds) w last at (next, q, rest) =
      let first = rises team is_team publics of_team 1 q.events w next at (round_runs value n w next q.events q.round) in
      let later = rise rounds next last (reach w next at q) rest in
      omega arith

  -- ---- once the search is decided

  none_near : (w : World) → IsNear n publics w 0 → ⊥
  none_near w (one_ended agent ended some) = omega arith
  none_near w (asked from to messages asks some) = omega arith
  none_near w (chosen to pick some) = omega arith

  -- no round goes on from where all have ended
  none_goes : (rounds : ℕ) (w last : World) → is_over w ≡ true → AreGoingRounds value n rounds w last → rounds ≡ 0
  none_goes zero w last over same = refl
  none_goes (suc rounds) w last over (next, q, rest) = absurd (false≢true (sym q.on ∙ over))

  ending_rounds : (rounds many : ℕ) (w last : World) → At w → IsNear n publics w many → AreGoingRounds value n rounds w last → rounds ≤ many
  ending_rounds zero many w last at near same = omega arith
  ending_rounds (suc rounds) zero w last at near (next, q, rest) = absurd (none_near w near)
  ending_rounds (suc rounds) (suc many) w last at near (next, q, rest) =
      by (near_round team is_team publics of_team w next q.events at q.round (reach w next at q) many near)
      (λ later. ending_rounds rounds many next last (reach w next at q) later rest)
    where
      by : (is_over next ≡ true) ⊎ IsNear n publics next many → (IsNear n publics next many → rounds ≤ many) → suc rounds ≤ suc many
      by (inl over) later = let none = none_goes rounds next last over rest in omega arith
      by (inr nearer) later = let few = later nearer in omega arith

  -- ---- in all

  -- the search goes on over some rounds, and is decided in the next one
  record IsDecidedIn (rounds : ℕ) (w last : World) : Type 0 where
    before : ℕ
    middle : World
    searched : AreSearchRounds value n before w middle
    at_middle : At middle
    decided : World
    at_decided : At decided
    first : AgentRecord
    there : agent_at decided 1 ≡ Some first
    decides : is_deciding (given_verdict first) ≡ true
    after : ℕ
    rest : AreGoingRounds value n after decided last
    rises_to : (note_at middle 1).number ≤ (note_at last 1).number
    long : rounds ≡ before + 1 + after

  searches_or_decides : (rounds : ℕ) (w last : World) → At w → AreGoingRounds value n rounds w last
      → AreSearchRounds value n rounds w last ⊎ IsDecidedIn rounds w last
  searches_or_decides zero w last at same = inl same
  searches_or_decides (suc rounds) w last at (next, q, rest) =
      by (is_deciding (given_verdict who.0)) refl (searches_or_decides rounds next last at_next rest)
    where
      at_next : At next
      at_next = reach w next at q

      who : (r : AgentRecord) × (agent_at next 1 ≡ Some r)
      who =
          agent_there next 1
          (is_agent team is_team publics of_team next at_next 1 (is_first team is_team publics of_team next at_next))

      by : (b : Bool) → is_deciding (given_verdict who.0) ≡ b → AreSearchRounds value n rounds next last ⊎ IsDecidedIn rounds next last
          → AreSearchRounds value n (suc rounds) w last ⊎ IsDecidedIn (suc rounds) w last
      by true decides more = inr (record {
        before = 0;
        middle = w;
        searched = refl;
        at_middle = at;
        decided = next;
        at_decided = at_next;
        first = who.0;
        there = who.1;
        decides = decides;
        after = rounds;
        rest = rest;
        rises_to = rise (suc rounds) w last at (next, q, rest);
        long = omega arith;
      })
      by false goes_on more = either more
        where
          search : IsSearchRound value n w next
          search = record {
            events = q.events;
            round = q.round;
            undecided = subst (λ (o : Option AgentRecord). IfSome o (λ r. is_deciding (given_verdict r) ≡ false)) (sym who.1) goes_on;
          }

          either : AreSearchRounds value n rounds next last ⊎ IsDecidedIn rounds next last
              → AreSearchRounds value n (suc rounds) w last ⊎ IsDecidedIn (suc rounds) w last
          either (inl searched) = inl (next, search, searched)
          either (inr d) =
              let long = d.long in
              inr (record {
                before = suc d.before;
                middle = d.middle;
                searched = (next, search, d.searched);
                at_middle = d.at_middle;
                decided = d.decided;
                at_decided = d.at_decided;
                first = d.first;
                there = d.there;
                decides = d.decides;
                after = d.after;
                rest = d.rest;
                rises_to = d.rises_to;
                long = omega arith;
              })

  pub all_rounds : (rounds : ℕ) (w last : World) (first : AgentRecord) → At w → AreGoingRounds value n rounds w last
      → agent_at last 1 ≡ Some first → first.snapshot.number + 1 < 2 ^ 60 → rounds < 2 ^ 51
  all_rounds rounds w last first at goes there room = by (searches_or_decides rounds w last at goes)
    where
      by : AreSearchRounds value n rounds w last ⊎ IsDecidedIn rounds w last → rounds < 2 ^ 51
      by (inl searched) =
          let few = few_rounds team is_team publics of_team rounds w last first at searched there room in
          omega arith
      by (inr d) =
          let long = d.long in
          let who = agent_there d.middle 1
          (is_agent team is_team publics of_team d.middle d.at_middle 1
          (is_first team is_team publics of_team d.middle d.at_middle)) in
          let here = ap (λ (s : Notes). s.number) (note_of d.middle 1 who.0 who.1) in
          let end = ap (λ (s : Notes). s.number) (note_of last 1 first there) in
          let low = d.rises_to in
          let few = few_rounds team is_team publics of_team d.before w d.middle who.0 at d.searched who.1 (omega arith) in
          let few_more = ending_rounds d.after (17 * 2 ^ 46 + 2) d.decided last d.at_decided
          (near_start team is_team publics of_team d.decided d.at_decided d.first d.there d.decides) d.rest in
          omega arith
