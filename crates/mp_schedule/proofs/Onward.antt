-- Parts of a schedule, one after another.
use Rattle.std.proofs.Common.{◌≡◌, ◌≢◌, ℕ, zero, suc, ◌+◌, Bool, true, false, List, [], ◌∷◌, ◌++◌}
use Rattle.std.proofs.Common.{refl, sym, ap, subst, ◌∙◌, append-nil, append_assoc, arith}
use Rattle.std.specs.Prelude.{Result, Ok, Err}
use Rattle.std.specs.List.{range_with_len}
use Rattle.mp_messages.specs.declared.history.Event.{Event}
use Rattle.mp_messages.specs.declared.history.Event.TheVariants.{Start}
use Rattle.mp_world.specs.Events.{is_legal}
use Rattle.mp_world.specs.RoundRobin.{AsLongAsItMay, ForEach, IfItMay, Nothing, Round, Rounds, StartsIfFirst, Then}
use Rattle.mp_world.specs.RoundRobin.{is_over}
use Rattle.mp_world.specs.RoundRobin.AsLongAsItMay.{no_more, once_more}
use Rattle.mp_world.specs.RoundRobin.IfItMay.{not_now, now}
use Rattle.mp_world.specs.RoundRobin.Rounds.{over, round}
use Rattle.mp_world.specs.RoundRobin.StartsIfFirst.{first, another}
use Rattle.mp_world.specs.Values.{Values}
use Rattle.mp_world.specs.World.{World}
use Rattle.mp_world.proofs.Runs.{run_of_team}
use Rattle.mp_schedule.specs.declared.refusal.EventRefusal.{EventRefusal}
use Rattle.mp_schedule.specs.declared.refusal.EventRefusal.TheVariants.{OutOfMemory}
use Rattle.mp_schedule.specs.Happening.{IsAnswer}
use Rattle.mp_schedule.specs.GoingOn.{DidHappen, HappensIf, LeadsTo}
use Rattle.mp_schedule.specs.TeamRun.{HasDone, IsLogged, IsSameTeam, TeamRun, team_in}

abbrev pub Part : Type 1
Part = World → List Event → World → Type 0

-- it is the same team over two parts
same_team : (a b c : TeamRun) → IsSameTeam a b → IsSameTeam b c → IsSameTeam a c
same_team a b c one two = record { tasks = two.tasks ∙ one.tasks; limit = two.limit ∙ one.limit }

itself : (a : TeamRun) → IsSameTeam a a
itself a = record { tasks = refl; limit = refl }

both_appended : (xs ys zs es fs : List Event) → ys ≡ xs ++ es → zs ≡ ys ++ fs → zs ≡ xs ++ (es ++ fs)
both_appended xs ys zs es fs one two = two ∙ ap (λ es. es ++ fs) one ∙ append_assoc xs es fs

-- ---- parts that are done

pub nothing_done : (a : TeamRun) → HasDone Nothing a a
nothing_done a = record {
  events = [];
  done = record { none = refl; same = refl };
  appended = sym (append-nil a.schedule);
  same = itself a;
  kept = refl;
}

pub then_done : (P Q : Part) (a b c : TeamRun) → HasDone P a b → HasDone Q b c → HasDone (Then P Q) a c
then_done P Q a b c one two = record {
  events = one.events ++ two.events;
  done = record {
    first = one.events;
    middle = b.world;
    second = two.events;
    done = one.done;
    then = two.done;
    is
        = refl;
  };
  appended = both_appended a.schedule b.schedule c.schedule one.events two.events one.appended two.appended;
  same = same_team a b c one.same two.same;
  kept = two.kept ∙ one.kept;
}

each_more : (P : ℕ → Part) (xs ys : List ℕ) (u v w : World) (es fs : List Event)
    → ForEach P xs u es v → ForEach P ys v fs w → ForEach P (xs ++ ys) u (es ++ fs) w
each_more P [] ys u v w es fs one two =
    subst (λ t. ForEach P ys t (es ++ fs) w) one.same
    (subst (λ gs. ForEach P ys v (gs ++ fs) w) (sym one.none) two)
each_more P (x ∷ xs) ys u v w es fs one two = record {
  first = one.first;
  middle = one.middle;
  second = one.second ++ fs;
  done = one.done;
  then = each_more P xs ys one.middle v w one.second fs one.then two;
  is = ap (λ gs. gs ++ fs) one.is ∙ append_assoc one.first one.second fs;
}

-- some agents, and then some more
pub each_done : (P : ℕ → Part) (xs ys zs : List ℕ) (a b c : TeamRun) → zs ≡ xs ++ ys
    → HasDone (ForEach P xs) a b → HasDone (ForEach P ys) b c
    → HasDone (ForEach P zs) a c
each_done P xs ys zs a b c is one two = record {
  events = one.events ++ two.events;
  done = subst (λ agents. ForEach P agents a.world (one.events ++ two.events) c.world) (sym is)
      (each_more P xs ys a.world b.world c.world one.events two.events one.done two.done);
  appended = both_appended a.schedule b.schedule c.schedule one.events two.events one.appended two.appended;
  same = same_team a b c one.same two.same;
  kept = two.kept ∙ one.kept;
}

pub one_done : (P : ℕ → Part) (agent : ℕ) (a b : TeamRun) → HasDone (P agent) a b → HasDone (ForEach P (agent ∷ [])) a b
one_done P agent a b one = then_done (P agent) Nothing a b b one (nothing_done b)

-- ---- parts that go on

pub leads_itself : (P : Part) (a : TeamRun) → LeadsTo P a a
leads_itself P a = record {
  events = [];
  onward = λ later last p. p;
  appended = sym (append-nil a.schedule);
  same = itself a;
  kept = refl;
}

-- one step more
leads_more : (P : Part) (a b c : TeamRun) (events : List Event) → LeadsTo P a b
    → ((later : List Event) (last : World) → P c.world later last → P b.world (events ++ later) last)
    → c.schedule ≡ b.schedule ++ events → IsSameTeam b c → c.failed ≡ b.failed → LeadsTo P a c
leads_more P a b c events one more appended same kept = record {
  events = one.events ++ events;
  onward = λ later last p. subst (λ es. P a.world es last) (sym (append_assoc one.events events later))
      (one.onward (events ++ later) last (more later last p));
  appended = both_appended a.schedule b.schedule c.schedule one.events events one.appended appended;
  same = same_team a b c one.same same;
  kept = kept ∙ one.kept;
}

-- nothing goes on
leads_done : (P : Part) (a b : TeamRun) → LeadsTo P a b → P b.world [] b.world → HasDone P a b
leads_done P a b one last = record {
  events = one.events;
  done = subst (λ es. P a.world es b.world) (append-nil one.events) (one.onward [] b.world last);
  appended = one.appended;
  same = one.same;
  kept = one.kept;
}

-- the same point of a run
done_again : (P : Part) (a b c : TeamRun) → c ≡ b → HasDone P a b → HasDone P a c
done_again P a b c is = subst (HasDone P a) (sym is)

module _ (value : Values) where
  -- ---- as long as it may

  pub takes_on : (event : Event) (a b c : TeamRun) → LeadsTo (AsLongAsItMay value event) a b
      → DidHappen value b event c → LeadsTo (AsLongAsItMay value event) a c
  takes_on event a b c one did =
      leads_more (AsLongAsItMay value event) a b c (event ∷ []) one
      (λ later last p. once_more b.world c.world last later did.happened.leads p)
      did.happened.appended did.same did.happened.kept

  pub takes_no_more : (event : Event) (a b c : TeamRun) → LeadsTo (AsLongAsItMay value event) a b
      → (is_legal b.world event ≡ false) × (c ≡ b) → HasDone (AsLongAsItMay value event) a c
  takes_no_more event a b c one (test, is) =
      done_again (AsLongAsItMay value event) a b c is (leads_done (AsLongAsItMay value event) a b one
      (no_more b.world test))

  -- ---- once if it may

  pub if_it_may : (event : Event) (a b : TeamRun) (did : Bool) → HappensIf value a event did b
      → HasDone (IfItMay value event) a b
  if_it_may event a b true did = record {
    events = event ∷ [];
    done = now a.world b.world did.happened.leads;
    appended = did.happened.appended;
    same = did.same;
    kept = did.happened.kept;
  }
  if_it_may event a b false (test, is) =
      done_again (IfItMay value event) a a b is (record {
        events = [];
        done = not_now a.world test;
        appended = sym (append-nil a.schedule);
        same = itself a;
        kept = refl;
      })

  pub starts_first : (agent : ℕ) (a b : TeamRun) → agent ≡ 1 → HasDone (IfItMay value Start) a b
      → HasDone (StartsIfFirst value agent) a b
  starts_first agent a b is one = record {
    events = one.events;
    done = first is one.done;
    appended = one.appended;
    same = one.same;
    kept = one.kept;
  }

  pub starts_another : (agent : ℕ) (a : TeamRun) → agent ≢ 1 → HasDone (StartsIfFirst value agent) a a
  starts_another agent a apart = record {
    events = [];
    done = another apart (record { none = refl; same = refl });
    appended = sym (append-nil a.schedule);
    same = itself a;
    kept = refl;
  }

  -- ---- rounds

  pub round_on : (agents : ℕ) (a b c : TeamRun) → LeadsTo (Rounds value agents) a b → is_over b.world ≡ false
      → HasDone (Round value agents) b c → LeadsTo (Rounds value agents) a c
  round_on agents a b c one test done =
      leads_more (Rounds value agents) a b c done.events one
      (λ later last p. round b.world c.world last done.events later test done.done p)
      done.appended done.same done.kept

  pub rounds_over : (agents : ℕ) (a b : TeamRun) → LeadsTo (Rounds value agents) a b → is_over b.world ≡ true
      → HasDone (Rounds value agents) a b
  rounds_over agents a b one test = leads_done (Rounds value agents) a b one (over b.world test)

-- ---- an event that happened

abbrev Worked : {A : Type 0} → Result A EventRefusal → Bool → Type 0
Worked answer failed = failed ≡ true → answer ≡ Err OutOfMemory

worked : (failed : Bool) → Worked {A = Unit {0}} (Ok tt) failed → failed ≡ false
worked true again = absurd (let same : Ok tt ≡ Err OutOfMemory = again refl in cc)
worked false again = refl

pub did_happen : (value : Values) (a b : TeamRun) (event : Event)
    → IsAnswer value {A = Unit {0}} a event (Ok tt) b
    → (a.failed ≡ false → IsLogged value a) → DidHappen value a event b
did_happen value a b event answer runs = record {
  happened = answer.says;
  same = answer.same;
  team = run_of_team (team_in value a) a.schedule a.world (runs (worked a.failed answer.again)).leads;
}

-- numbers from 1 on, and one more
pub one_more : (n : ℕ) → range_with_len 1 (n + 1) ≡ range_with_len 1 n ++ (n + 1) ∷ []
one_more n = from 1 n (n + 1) (omega arith)
  where
    from : (a n last : ℕ) → a + n ≡ last → range_with_len a (n + 1) ≡ range_with_len a n ++ last ∷ []
    from a zero last is =
        let same : a ≡ last = omega arith in
        ap (λ x. x ∷ []) same
    from a (suc n) last is =
        let rest : range_with_len (a + 1) (n + 1) ≡ range_with_len (a + 1) n ++ last ∷ [] = from (a + 1) n last
        (omega arith) in
        let many : suc n + 1 ≡ suc (n + 1) = omega arith in
        ap (range_with_len a) many ∙ ap (λ xs. a ∷ xs) rest
