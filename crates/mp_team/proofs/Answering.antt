-- Works that were served, and two of them in one.
use Rattle.std.proofs.Common.{◌≡◌, ◌⊎◌, inl, inr, ℕ, ◌&&◌, true, false, List, [], ◌∷◌, ◌++◌, length, Some, None, Ok, Err, refl, sym, ap, ◌∙◌, subst}
use Rattle.std.specs.Prelude.{Contains, IfSome, MatchResult, Option, Result}
use Rattle.std.specs.Option.{option_map_or}
use Rattle.std.proofs.lemmas.Bool.{and_parts}
use Rattle.std.proofs.lemmas.List.Elements.{All-contains, Contains-append_left, Contains-append_right}
use mathlib.Core.Logic.{dite}
use native.Mathlib.Decide.{ℕ_discrete}
use Rattle.atomic_table.specs.Seated.{TableId}
use Rattle.mp_machine.specs.Machine.{AgentMachine}
use Rattle.mp_world.specs.Values.{Values}
use Rattle.mp_nodes.specs.Nodes.{AreSameAgents, IsPlaceAt, SeenNode, has_ended, have_ended, node_at}
use Rattle.mp_nodes.specs.Served.{IsAnswer}
use Rattle.mp_nodes.specs.Steps.{IsSeenHalted}
use Rattle.mp_nodes.specs.declared.served.Served.{Served}
use Rattle.mp_nodes.specs.declared.served.Served.TheVariants as answers
use Rattle.mp_post.specs.Desks.{IsDeskOf}
use Rattle.mp_post.specs.Parts.{HasMerged}
use Rattle.mp_post_rule.specs.Views.{party_at, with_seen}
use Rattle.mp_post_rule.specs.declared.view.Party.{Party}
use Rattle.mp_post_rule.specs.declared.view.View.{View}
use Rattle.mp_team.specs.Joined.{either_node, either_nodes}
use Rattle.mp_schedule.specs.Machines.{AreNew}
use Rattle.mp_team.specs.Kept.{AreKept, Places}
use Rattle.mp_team.specs.Machines.{first_places}
use Rattle.mp_team.specs.Works.{AreAllAnswered, AreAnswered, AreHere, IsAnsweredAt, IsBack, IsFoundOut, first_unended, is_bad, lacks_memory, nodes_of}
use Rattle.mp_team.specs.declared.work.Answered.{Answered}
use Rattle.mp_team.specs.declared.work.Work.{Work}
use Rattle.mp_team.proofs.Changing.{either_at, either_kept, either_length}
use Rattle.mp_team.proofs.Keeping.{agents_kept, both_kept, swap_kept, then_kept}
use Rattle.mp_team.proofs.Serving.{first_held, neither, second_held}

true-false : true ≡ false → ⊥
true-false e = cc

-- ---- all have ended

ended_one : (x y : Option SeenNode) → option_map_or has_ended x true ≡ true → option_map_or has_ended y true ≡ true
    → option_map_or has_ended (either_node x y) true ≡ true
ended_one (Some n) y own other = own
ended_one None y own other = other

ended_either : (ns ms : Places) → have_ended ns ≡ true → have_ended ms ≡ true → have_ended (either_nodes ns ms) ≡ true
ended_either [] ms own other = refl
ended_either (n ∷ ns) [] own other = own
ended_either (n ∷ ns) (m ∷ ms) own other =
    let first = and_parts (option_map_or has_ended n true) (have_ended ns) own in
    let second = and_parts (option_map_or has_ended m true) (have_ended ms) other in
    λ i. ended_one n m first.0 second.0 i && ended_either ns ms first.1 second.1 i

module _ (value : Values) (agents : ℕ) where
  -- ---- an agent that goes on

  goes_on : (agent : ℕ) (v : View) (place : Option SeenNode) → IsPlaceAt value agents agent v place → IsAnsweredAt value agents agent v place
  goes_on agent v None is = is
  goes_on agent v (Some n) is = inl is

  -- an agent of one of two works that are joined
  both_at : (v u w : View) → HasMerged v u w → (agent : ℕ) (x y : Option SeenNode) → IsAnsweredAt value agents agent v x
      → IsAnsweredAt value agents agent u y → IsAnsweredAt value agents agent w (either_node x y)
  both_at v u w merged agent (Some n) y (inl here) there =
      inl (record { party = here.party; held = first_held value agents v u w merged agent here.party here.held; fits = here.fits })
  both_at v u w merged agent (Some n) y (inr here) there =
      inr (record { party = here.party; held = first_held value agents v u w merged agent here.party here.held; is_bad = here.is_bad })
  both_at v u w merged agent None (Some n) here (inl there) =
      inl (record { party = there.party; held = second_held value agents v u w merged agent there.party here there.held; fits = there.fits })
  both_at v u w merged agent None (Some n) here (inr there) =
      inr (record { party = there.party; held = second_held value agents v u w merged agent there.party here there.held; is_bad = there.is_bad })
  both_at v u w merged agent None None here there = neither value agents v u w merged agent here there

  -- who was seen halted in one of two views is so in the one that they become
  module _ (v u w : View) (merged : HasMerged v u w) where
    seen_are : w.seen ≡ with_seen merged.kept.halted v.seen ++ u.seen
    seen_are = ap (λ (x : View). x.seen) merged.view

    more_seen : (o : Option ℕ) (agent : ℕ) → Contains v.seen agent → Contains (with_seen o v.seen) agent
    more_seen None agent seen = seen
    more_seen (Some other) agent seen = Contains-append_right (other ∷ []) v.seen agent seen

    still_seen : (agent : ℕ) → Contains v.seen agent ⊎ Contains u.seen agent → Contains w.seen agent
    still_seen agent (inl seen) = subst (λ l. Contains l agent) (sym seen_are)
        (Contains-append_left (with_seen merged.kept.halted v.seen) u.seen agent (more_seen merged.kept.halted agent seen))
    still_seen agent (inr seen) = subst (λ l. Contains l agent) (sym seen_are)
        (Contains-append_right (with_seen merged.kept.halted v.seen) u.seen agent seen)

    seen_halted : (agent : ℕ) (x : View) → IsSeenHalted agents agent x → Contains v.seen agent ⊎ Contains u.seen agent
        → IsSeenHalted agents agent w
    seen_halted agent x is which =
        let seen = still_seen agent which in record {
          of_team = is.of_team;
          seen = seen;
          marked = All-contains (λ a. IfSome (party_at w a) (λ (p : Party). p.halted ≡ true)) w.seen agent merged.marks seen;
        }

module _ {H : Type 0} (value : Values) (table : TableId) (agents : ℕ) where
  abbrev Answers : List Places → Answered H → Type 0
  Answers old a = AreAnswered value table agents old a

  -- ---- what a worker answers

  module _ (old : Places) (w : Work H) (same : AreSameAgents old w.nodes) where
    here_by : (served : Served) → IsAnswer value agents w.nodes w.desk.view served → lacks_memory served ≡ false
        → AreHere value table agents (old ∷ []) w
    here_by answers.Ended is enough = record {
      many = is.served.many;
      each = λ agent. goes_on value agents agent w.desk.view (node_at w.nodes agent) (is.served.each agent);
      kept = agents_kept old w.nodes same;
    }
    here_by (answers.Halted other) is enough = record {
      many = is.served.many;
      each = λ agent. goes_on value agents agent w.desk.view (node_at w.nodes agent) (is.served.each agent);
      kept = agents_kept old w.nodes same;
    }
    here_by (answers.Bad other) is enough = record { many = is.many; each = each; kept = agents_kept old w.nodes same }
      where
        each : (agent : ℕ) → IsAnsweredAt value agents agent w.desk.view (node_at w.nodes agent)
        each agent = dite (ℕ_discrete agent other)
            (λ it. subst (λ a. IsAnsweredAt value agents a w.desk.view (node_at w.nodes a)) (sym it)
            (subst (IsAnsweredAt value agents other w.desk.view) (sym is.there) (inr is.is_bad)))
            (λ differs. goes_on value agents agent w.desk.view (node_at w.nodes agent) (is.others agent differs))
    here_by (answers.OutOfMemory other) is enough = absurd (true-false enough)

    found_by : (served : Served) → IsAnswer value agents w.nodes w.desk.view served → IsFoundOut value table agents w served
    found_by answers.Ended is = is.ended
    found_by (answers.Halted other) is = record {
      of_team = is.of_team;
      seen = is.seen;
      marked = subst (λ o. IfSome o (λ (p : Party). p.halted ≡ true)) (sym (none_there (node_at w.nodes other) is.elsewhere (is.served.each other))) tt;
    }
      where
        none_there : (place : Option SeenNode) → place ≡ None → IsPlaceAt value agents other w.desk.view place
            → party_at w.desk.view other ≡ None
        none_there place e at = subst (IsPlaceAt value agents other w.desk.view) e at
    found_by (answers.Bad other) is = (is.node, is.there, is.is_bad)
    found_by (answers.OutOfMemory other) is = tt

    pub answered_now : IsDeskOf table agents w.desk → (served : Served) → IsAnswer value agents w.nodes w.desk.view served
        → Answers (old ∷ []) (record { work = w; served = served })
    answered_now desk served is = record { desk = desk; here = here_by served is; found_out = found_by served is }

  -- of a work that is made of others what was answered of it is so of them
  pub answered_before : (old mid : List Places) (a : Answered H) → AreKept old mid → Answers mid a → Answers old a
  answered_before old mid a kept is = record { desk = is.desk; here = λ enough. before (is.here enough); found_out = is.found_out }
    where
      before : AreHere value table agents mid a.work → AreHere value table agents old a.work
      before at = record { many = at.many; each = at.each; kept = then_kept old mid (a.work.nodes ∷ []) kept at.kept }

  -- a work that was served by its worker, or else here
  pub served_back : (old : Work H) (back : Result (Answered H) (Work H)) (r : Answered H) → IsBack value table agents old back
      → MatchResult back (λ answered. r ≡ answered) (λ work. Answers (work.nodes ∷ []) r) → Answers (old.nodes ∷ []) r
  served_back old (Ok a) r back same = subst (Answers (old.nodes ∷ [])) (sym same) back
  served_back old (Err w) r back is = subst (λ (x : Work H). Answers (x.nodes ∷ []) r) back is

  -- where memory ran out nothing else is said
  pub lacking : (old mid : List Places) (a : Answered H) → lacks_memory a.served ≡ true → Answers mid a → Answers old a
  lacking old mid a lacks is = record {
    desk = is.desk;
    here = λ enough. absurd (true-false (sym lacks ∙ enough));
    found_out = is.found_out;
  }

  -- ---- two works in one

  pub many_here : (old : List Places) (a : Answered H) → lacks_memory a.served ≡ false → Answers old a → length a.work.nodes ≡ agents
  many_here old a enough is = (is.here enough).many

  module _ (first second : List Places) (a b : Answered H) (r : Work H) (one : lacks_memory a.served ≡ false)
      (other : lacks_memory b.served ≡ false) (is : Answers first a) (also : Answers second b) (desk : IsDeskOf table agents r.desk)
      (merged : HasMerged a.work.desk.view b.work.desk.view r.desk.view)
      (nodes : r.nodes ≡ either_nodes a.work.nodes b.work.nodes) where
    abbrev ns : Places
    ns = a.work.nodes

    abbrev ms : Places
    ms = b.work.nodes

    abbrev own : AreHere value table agents first a.work
    own = is.here one

    abbrev more : AreHere value table agents second b.work
    more = also.here other

    same_many : length ms ≡ length ns
    same_many = more.many ∙ sym own.many

    node_is : (agent : ℕ) → node_at r.nodes agent ≡ either_node (node_at ns agent) (node_at ms agent)
    node_is agent = ap (λ l. node_at l agent) nodes ∙ either_at ns ms same_many agent

    joined_here : AreHere value table agents (first ++ second) r
    joined_here = record {
      many = ap length nodes ∙ (either_length ns ms ∙ own.many);
      each = λ agent. subst (IsAnsweredAt value agents agent r.desk.view) (sym (node_is agent))
          (both_at value agents a.work.desk.view b.work.desk.view r.desk.view merged agent (node_at ns agent) (node_at ms agent)
          (own.each agent) (more.each agent));
      kept = subst (λ l. AreKept (first ++ second) (l ∷ [])) (sym nodes)
          (then_kept (first ++ second) (ns ∷ ms ∷ []) (either_nodes ns ms ∷ [])
          (both_kept first (ns ∷ []) second (ms ∷ []) own.kept more.kept) (either_kept ns ms same_many));
    }

    found : (s t : Served) → IsFoundOut value table agents a.work s → IsFoundOut value table agents b.work t
        → (is_bad t ≡ true → is_bad s ≡ true) → IsFoundOut value table agents r (first_unended s t)
    found answers.Ended answers.Ended x y bad = ap have_ended nodes ∙ ended_either ns ms x y
    found answers.Ended (answers.Halted agent) x y bad =
        seen_halted value agents a.work.desk.view b.work.desk.view r.desk.view merged agent b.work.desk.view y (inr y.seen)
    found answers.Ended (answers.Bad agent) x y bad = absurd (true-false (sym (bad refl)))
    found answers.Ended (answers.OutOfMemory agent) x y bad = tt
    found (answers.Halted agent) t x y bad =
        seen_halted value agents a.work.desk.view b.work.desk.view r.desk.view merged agent a.work.desk.view x (inl x.seen)
    found (answers.Bad agent) t (n, there, at) y bad = (
      n,
      node_is agent ∙ ap (λ x. either_node x (node_at ms agent)) there,
      record {
        party = at.party;
        held = first_held value agents a.work.desk.view b.work.desk.view r.desk.view merged agent at.party at.held;
        is_bad = at.is_bad;
      },
    )
    found (answers.OutOfMemory agent) t x y bad = tt

    pub joined_answers : (is_bad b.served ≡ true → is_bad a.served ≡ true)
        → Answers (first ++ second) (record { work = r; served = first_unended a.served b.served })
    joined_answers bad = record {
      desk = desk;
      here = λ enough. joined_here;
      found_out = found a.served b.served is.found_out also.found_out bad;
    }

  -- the order of works does not count
  pub turned_answers : (first second : List Places) (a : Answered H) → Answers (second ++ first) a → Answers (first ++ second) a
  turned_answers first second a is = answered_before (first ++ second) (second ++ first) a (swap_kept first second) is

  -- all works of a team, in one
  pub all_answered : (ms : List AgentMachine) → AreNew value ms → agents ≡ length ms → (start : Places) → start ≡ first_places ms
      → (works : List (Work H)) → AreKept (start ∷ []) (nodes_of works) → (a : Answered H) → Answers (nodes_of works) a
      → AreAllAnswered value table agents ms a
  all_answered ms new count start first works kept a is = record {
    new = new;
    count = count;
    answered = subst (λ places. Answers (places ∷ []) a) first (answered_before (start ∷ []) (nodes_of works) a kept is);
  }
