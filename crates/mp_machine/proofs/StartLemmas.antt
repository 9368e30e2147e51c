-- An agent at the start can take a step.
use Rattle.std.proofs.Common.{◌≡◌, ℕ, ◌-◌, ◌<◌, ◌≤◌, ◌^◌, false, [], length, map, Option, None, refl, sym, ap, subst, lit<, arith}
use Rattle.std.specs.Prelude.{IfSome}
use Rattle.std.proofs.lemmas.List.{get_or-replicate, length-replicate}
use Rattle.std.proofs.lemmas.List.Elements.{All-map, All-nil, All-set}
use Rattle.mp_sets.specs.declared.tag.Tag.{Tag}
use Rattle.mp_sets.specs.Numbers.{Numbers}
use Rattle.mp_task.specs.AgentTask.{AgentTask}
use Rattle.mp_task.specs.Limits.{IsWithinLimits, most_expansions}
use Rattle.mp_messages.specs.Spelling.{AreFindings}
use Rattle.mp_store.specs.declared.entry.Origin.TheVariants.{Root}
use Rattle.mp_store.specs.Record.{empty}
use Rattle.mp_search.specs.AgentState.{no_tag, start_state, start_tag}
use Rattle.mp_search.specs.Offering.{own_value, start_record}
use Rattle.mp_search.specs.Search.{AgentSearch}
use Rattle.mp_snapshot.specs.Notes.{Notes}
use Rattle.mp_snapshot.specs.Rules.{before_all, nothing, own}
use Rattle.mp_machine.specs.declared.member.Member.{Member}
use Rattle.mp_machine.specs.MemberFields.{EntryFits, IsAtWork, IsMember, IsReady}
use Rattle.mp_machine.proofs.EntriesFit.{FitsUpTo, up_offered_at}

-- a search and a member that are new
pub record IsNew (t : AgentTask) (value : Numbers → Numbers → Option ℕ) (limit : ℕ) (s : AgentSearch) (m : Member) : Type 0 where
  pub search : s ≡ record { task = t; limit = limit; done = start_record t value; failed = false }
  pub me : m.me ≡ t.me
  pub agents : m.agents ≡ t.agents
  pub publics : m.publics ≡ t.publics
  pub snapshot : m.snapshot ≡ before_all t.me t.agents
  pub goal : m.goal ≡ None
  pub trail : m.trail ≡ []

module _ (t : AgentTask) (task : IsWithinLimits t) (value : Numbers → Numbers → Option ℕ) (limit : ℕ) (most : limit ≤ most_expansions) where
  start : AgentSearch
  start = record { task = t; limit = limit; done = start_record t value; failed = false }

  first_fits : FitsUpTo 0 0 (start_record t value).kept
  first_fits =
      let small : no_tag.token < 2 ^ 60 = lit< tt in
      up_offered_at 0 t 0 (start_state t) 0 (own_value t value (start_state t)) Root empty
      (All-set (λ (x : Tag). x.token < 2 ^ 60) (map start_tag t.met) (t.me - 1) no_tag small
      (All-map (λ (x : Tag). x.token < 2 ^ 60) start_tag t.met (λ k d h. lit< tt))) tt
      (record { entries = All-nil EntryFits; longer = omega arith; sent = omega arith })

  at_work : IsAtWork start
  unfolding start
  at_work = record {
    works = refl;
    task = task;
    limit = most;
    within = omega arith;
    sent = first_fits.sent;
    entries = first_fits.entries;
  }

  own_nothing : own (before_all t.me t.agents) ≡ nothing
  own_nothing =
      let low = task.from_1 in
      let in_team = task.in_team in
      let high = task.at_most_16_agents in
      get_or-replicate 16 (t.me - 1) nothing nothing (omega arith)

  nothing_fits : AreFindings nothing
  nothing_fits = record { number = lit< tt; least = tt; under_way = tt; goal = tt }

  pub member_new : (s : AgentSearch) (m : Member) → IsNew t value limit s m → IsMember s.task m
  member_new s m new =
      let same = ap (λ (x : AgentSearch). x.task) new.search in
      subst (λ (x : AgentTask). IsMember x m) (sym same)
      (record {
        me = new.me;
        agents = new.agents;
        publics = new.publics;
        notes_me = ap (λ (n : Notes). n.me) new.snapshot;
        notes_agents = ap (λ (n : Notes). n.agents) new.snapshot;
      })

  pub ready_new : (s : AgentSearch) (m : Member) → IsNew t value limit s m → IsReady s m
  unfolding start
  ready_new s m new = record {
    search = subst IsAtWork (sym new.search) at_work;
    member = member_new s m new;
    number = subst (λ (n : Notes). n.number < 2 ^ 60) (sym new.snapshot) (lit< tt);
    marked = subst (λ (n : Notes). length n.marked ≡ 16) (sym new.snapshot) (length-replicate 16 false);
    own = subst (λ (n : Notes). AreFindings (own n)) (sym new.snapshot) (subst AreFindings (sym own_nothing) nothing_fits);
    goal = subst (λ (o : Option ℕ). IfSome o (λ n. (n < length s.done.kept.entries) × (n < 2 ^ 60))) (sym new.goal) tt;
    trail = λ unknown. new.trail;
  }
