-- The places of a worker's agents.
use Rattle.std.proofs.Common.{◌≡◌, ◌≢◌, ℕ, zero, suc, ◌+◌, ◌<◌, ◌≤◌, true, List, [], ◌∷◌, length, get_or, set, refl, sym, ap, subst, ◌∙◌, arith, get_or-set_same, get_or-set_other, Some, None}
use Rattle.std.specs.Prelude.{Bool, IfSome, Option, Result, Ok, Err}
use Rattle.std.specs.Option.{option_map}
use Rattle.std.proofs.lemmas.Bool.{false≢true}
use Rattle.std.proofs.lemmas.Option.{same_Some}
use Rattle.std.proofs.lemmas.List.{length-set}
use Rattle.mp_world.specs.Values.{Values}
use mathlib.Core.Logic.{dite}
use native.Mathlib.Decide.{ℕ_discrete}
use Rattle.atomic_table.specs.Seated.{TableId}
use Rattle.mp_post_rule.specs.Views.{party_at}
use Rattle.mp_post_rule.specs.declared.view.Party.{Party}
use Rattle.mp_post_rule.specs.declared.view.View.{View}
use Rattle.mp_stamps.specs.Lists.{entries}
use Rattle.mp_post.specs.Desks.{IsDeskOf, SeenDesk}
use Rattle.mp_nodes.specs.Nodes.{AreSameAgents, AreServed, IsNodeAt, IsPlaceAt, SeenNode, node_at, orders}
use Rattle.mp_nodes.specs.Served.{Answers, IsAnswer, IsRound, PlaceGoesOn, StopsPlace}
use Rattle.mp_nodes.specs.Steps.{GoesOn, IsBad, IsBadAt, IsSeenHalted, Stops, me_of}
use Rattle.mp_nodes.specs.declared.served.Stop.{Stop}
use Rattle.mp_nodes.specs.declared.served.Stop.TheVariants as stops
use Rattle.mp_nodes.specs.declared.served.Served.{Served}
use Rattle.mp_nodes.specs.declared.served.Served.TheVariants.{Ended, Halted, Bad, OutOfMemory}
use Rattle.mp_nodes.proofs.OneAfterAnother.{same_me}
use Rattle.mp_nodes.proofs.Parties.{marked_by}

-- ---- places

pub at_place : (nodes : List (Option SeenNode)) (at : ℕ) (agent : ℕ) → agent ≡ at + 1 → node_at nodes agent ≡ get_or nodes at None
at_place nodes at zero is = absurd (omega arith)
at_place nodes at (suc k) is = ap (λ (i : ℕ). get_or nodes i None) (omega arith)

-- what is found at a place
pub is_at : (nodes : List (Option SeenNode)) (at : ℕ) (place : Option SeenNode) → at < length nodes → place ≡ get_or nodes at place
    → get_or nodes at None ≡ place
is_at [] at place inside found = absurd (omega arith)
is_at (n ∷ ns) zero place inside found = sym found
is_at (n ∷ ns) (suc at) place inside found = is_at ns at place (omega arith) found

pub set_here : (nodes : List (Option SeenNode)) (at agent : ℕ) (new : Option SeenNode) → agent ≡ at + 1 → at < length nodes
    → node_at (set nodes at new) agent ≡ new
set_here nodes at agent new is inside =
    at_place (set nodes at new) at agent is ∙ get_or-set_same nodes at new None inside

pub set_elsewhere : (nodes : List (Option SeenNode)) (at agent other : ℕ) (new : Option SeenNode) → agent ≡ at + 1 → other ≢ agent
    → node_at (set nodes at new) other ≡ node_at nodes other
set_elsewhere nodes at agent zero new is differs = refl
set_elsewhere nodes at agent (suc k) new is differs =
    get_or-set_other nodes at k new None (λ same. differs (omega arith))

-- ---- the agents of a worker

module _ (value : Values) (agents : ℕ) where
  pub place_stays : (agent : ℕ) (v w : View) (place : Option SeenNode) → party_at w agent ≡ party_at v agent
      → IsPlaceAt value agents agent v place → IsPlaceAt value agents agent w place
  place_stays agent v w None same is = same ∙ is
  place_stays agent v w (Some n) same is = record { party = is.party; held = same ∙ is.held; fits = is.fits }

  -- an agent that was seen halted is none of the worker's
  pub is_elsewhere : (agent : ℕ) (v : View) (place : Option SeenNode) → IsPlaceAt value agents agent v place
      → IsSeenHalted agents agent v → place ≡ None
  is_elsewhere agent v None is seen = refl
  is_elsewhere agent v (Some n) is seen =
      let marked : is.party.halted ≡ true = subst (λ o. IfSome o (λ (p : Party). p.halted ≡ true)) is.held seen.marked in
      absurd (false≢true (sym is.fits.unmarked ∙ marked))

module _ (value : Values) (table : TableId) (agents agent : ℕ) (nodes : List (Option SeenNode)) (at : ℕ)
    (old new : Option SeenNode) (v : View) (after : SeenDesk) (served : AreServed value agents nodes v)
    (is : agent ≡ at + 1) (inside : at < length nodes) (there : get_or nodes at None ≡ old)
  where
    abbrev others_stay : (answer : Result Bool Served) → PlaceGoesOn value table agents agent old v answer new after → (other : ℕ)
        → other ≢ agent → IsPlaceAt value agents other after.view (node_at (set nodes at new) other)
    others_stay answer goes other differs =
        subst (IsPlaceAt value agents other after.view) (sym (set_elsewhere nodes at agent other new is differs))
        (place_stays value agents other v after.view (node_at nodes other) (goes.others other differs) (served.each other))

    -- one of them had its turn
    served_again : (answer : Result Bool Served) → PlaceGoesOn value table agents agent old v answer new after
        → IsPlaceAt value agents agent after.view new → AreServed value agents (set nodes at new) after.view
    served_again answer goes here = record {
      many = length-set nodes at new ∙ served.many;
      each = λ other. dite (ℕ_discrete other agent)
          (λ same. subst (λ n. IsPlaceAt value agents n after.view (node_at (set nodes at new) n)) (sym same)
          (subst (IsPlaceAt value agents agent after.view) (sym (set_here nodes at agent new is inside)) here))
          (others_stay answer goes other);
    }

    pub round_goes_on : (did : Bool) → PlaceGoesOn value table agents agent old v (Ok did) new after
        → AreServed value agents (set nodes at new) after.view
    round_goes_on did goes = served_again (Ok did) goes goes.leaves

    pub same_agents : (answer : Result Bool Served) → PlaceGoesOn value table agents agent old v answer new after
        → AreSameAgents nodes (set nodes at new)
    same_agents answer goes other = dite (ℕ_discrete other agent)
        (λ same. ap (λ o. option_map orders o) (ap (node_at (set nodes at new)) same ∙ set_here nodes at agent new is inside)
        ∙ (goes.same ∙ ap (λ o. option_map orders o) (sym there ∙ sym (at_place nodes at other (same ∙ is)))))
        (λ differs. ap (λ o. option_map orders o) (set_elsewhere nodes at agent other new is differs))

    -- and does not go on
    pub round_ends : (answer : Served) → PlaceGoesOn value table agents agent old v (Err answer) new after
        → IsAnswer value agents (set nodes at new) after.view answer
    round_ends Ended goes = absurd goes.leaves
    round_ends (Halted other) goes =
        let again = served_again (Err (Halted other)) goes goes.leaves.0 in record {
          served = again;
          of_team = goes.leaves.1.of_team;
          elsewhere = is_elsewhere value agents other after.view (node_at (set nodes at new) other) (again.each other) goes.leaves.1;
          seen = goes.leaves.1.seen;
        }
    round_ends (Bad other) goes =
        let bad = goes.leaves in
        let here : node_at (set nodes at new) agent ≡ Some bad.1.0 = set_here nodes at agent new is inside ∙ bad.1.1 in
        subst (IsAnswer value agents (set nodes at new) after.view) (ap Bad (sym bad.0)) (record {
          many = length-set nodes at new ∙ served.many;
          others = λ k differs. others_stay (Err (Bad other)) goes k differs;
          node = bad.1.0;
          there = here;
          is_bad = bad.1.2;
          marked = bad.2;
          was_halted = bad.3;
        })
    round_ends (OutOfMemory other) goes =
        let lacks = goes.leaves in
        subst (IsAnswer value agents (set nodes at new) after.view) (ap OutOfMemory (sym lacks.0)) (record {
          node = lacks.1.0;
          there = set_here nodes at agent new is inside ∙ lacks.1.1;
          was_halted = lacks.2;
        })

    pub round_of : (answer : Result Bool Served) → PlaceGoesOn value table agents agent old v answer new after
        → IsRound value table agents nodes answer (set nodes at new) after
    round_of (Ok did) goes = record { same = same_agents (Ok did) goes; desk = goes.desk; leaves = round_goes_on did goes }
    round_of (Err served) goes = record { same = same_agents (Err served) goes; desk = goes.desk; leaves = round_ends served goes }

-- ---- a node in its place

module _ (value : Values) (table : TableId) (agents agent : ℕ) (old new : SeenNode) (d e : SeenDesk)
    (mine : me_of old ≡ agent)
  where
    -- its turn, after which it goes on

    -- and after which it does not
    module _ (stop : Stop) (answer : Served) (f : SeenDesk) (g : GoesOn value table agents {A = Bool} old d (Err stop) new e) (some : 1 ≤ agents)
        (desk : IsDeskOf table agents f)
        (others : (other : ℕ) → other ≢ agent → party_at f.view other ≡ party_at e.view other)
      where
        stops_place : Answers agents agent stop answer e.view f.view → StopsPlace value table agents agent (Some new) f.view answer
        stops_place = by stop g.leaves
          where
            me_is : me_of new ≡ agent
            me_is = same_me old new g.same ∙ mine

            by : (why : Stop) → Stops value table agents new e why → Answers agents agent why answer e.view f.view
                → StopsPlace value table agents agent (Some new) f.view answer
            by (stops.Halted other) at a = subst (StopsPlace value table agents agent (Some new) f.view) (sym a.0)
                (subst (λ u. IsNodeAt value agents agent u new × IsSeenHalted agents other u) (sym a.1)
                (subst (λ me. IsNodeAt value agents me e.view new) me_is at.0, at.1))
            by stops.Bad at a =
                let bad = subst (λ me. IsBadAt value agents me e.view new) me_is at in
                let m = marked_by agent agents e.view f.view bad.party some bad.held a.1 in
                subst (StopsPlace value table agents agent (Some new) f.view) (sym a.0) (
                  refl,
                  (new, refl, record { party = m.party; held = m.held; is_bad = bad_again bad.party m.party m.list bad.is_bad }),
                  (λ p there. subst (λ (q : Party). q.halted ≡ true) (same_Some m.party p (sym m.held ∙ there)) m.mark),
                  (e.view, a.1),
                )
              where
                bad_again : (p q : Party) → q.list ≡ p.list → IsBad value agents agent p new → IsBad value agents agent q new
                bad_again p q same b = record {
                  of_team = b.of_team;
                  me = b.me;
                  team = b.team;
                  from = b.from;
                  bytes = b.bytes;
                  kind = b.kind;
                  before = b.before;
                  list = ap entries same ∙ b.list;
                  done = b.done;
                  may = b.may;
                  bad = b.bad;
                  stopped = b.stopped;
                  batch = b.batch;
                }
            by stops.OutOfMemory at a =
                subst (StopsPlace value table agents agent (Some new) f.view) (sym a.0) (refl, (new, refl), (e.view, a.1))

        pub place_off : Answers agents agent stop answer e.view f.view
            → PlaceGoesOn value table agents agent (Some old) d.view (Err answer) (Some new) f
        place_off a = record {
          same = ap Some g.same;
          others = λ other differs. others other differs ∙ g.others other (λ is. differs (is ∙ mine));
          desk = desk;
          leaves = stops_place a;
        }
