-- In silence agent 1 has the findings of all agents after three rounds more, unless it starts another snapshot.
use Rattle.mp_world.proofs.Basics.{◌≡◌, ◌≢◌, ℕ, ◌+◌, ◌≤◌, ◌<◌, true, List, [], ◌++◌, length, sym, ap, subst, ◌∙◌, arith, ◌⊎◌, inl, inr, cases_eq}
use Rattle.mp_runs.proofs.Runs.{run-after, run-none}
use Rattle.mp_world.specs.AgentWords.{Event, Notes, has, is_complete, is_whole, AgentRecord}
use Rattle.mp_world.specs.Events.{after_event}
use Rattle.mp_world.specs.Team.{IsTeam, Team}
use Rattle.mp_world.specs.World.{World}
use Rattle.mp_world.proofs.Agents.{agent_there}
use Rattle.mp_team_snapshots.specs.Messages.{marker_of, report_of}
use Rattle.mp_team_snapshots.specs.Team.{IsTeamOf}
use Rattle.mp_team_snapshots.proofs.Due.{begun_in, begun_is, begun_number}
use Rattle.mp_team_snapshots.proofs.Protocol.{IsOf, Sound}
use Rattle.mp_team_snapshots.proofs.Worlds.{note_at, note_of, view}
use Rattle.mp_team_verdicts.proofs.Calm.{AllGo, Goes, IsQuietRound, Reached, goes_reached, marked_on, none_of_part, number_at, reported_on, rises, takes_all, went_on}
use Rattle.mp_team_verdicts.proofs.Complete.{begun_by, complete_by, marked_by, reported_by, whole_by}
use Rattle.mp_team_verdicts.proofs.Points.{round_runs}
use Rattle.mp_team_verdicts.proofs.Stuck.{is_agent, is_first, list_themselves, sound_view}

module _ (team : Team) (is_team : IsTeam team) (publics : ℕ) (of_team : IsTeamOf publics team.tasks) where
  open team use {tasks, value}

  abbrev n : ℕ
  n = length tasks

  abbrev At : World → Type 0
  At = Reached team is_team publics of_team

  abbrev Leads : World → List Event → World → Type 0
  Leads = Goes team is_team publics of_team

  abbrev Go : World → Type 0
  Go = AllGo team is_team publics of_team

  abbrev Quiet : World → World → Type 0
  Quiet = IsQuietRound team is_team publics of_team

  abbrev num : World → ℕ → ℕ
  num = number_at team is_team publics of_team

  pub round_leads : (w v : World) (q : Quiet w v) → Leads w q.events v
  round_leads w v q = round_runs value n w v q.events q.round

  pub leads_on : (u v w : World) (es fs : List Event) → Leads u es v → Leads v fs w → Leads u (es ++ fs) w
  leads_on u v w es fs one two = run-after (after_event value) u v es fs one ∙ two

  seen : (w : World) → At w → Sound n (view publics w)
  seen = sound_view team is_team publics of_team

  one : (w : World) → At w → IsOf n 1
  one = is_first team is_team publics of_team

  -- no agent is ahead of agent 1
  pub behind : (w : World) → At w → (j : ℕ) → IsOf n j → num w j ≤ num w 1
  behind w at j is_j = by ((seen w at).follows j is_j).number
    where
      by : ((note_at w j).number ≡ (note_at w 1).number)
          ⊎ (((note_at w j).number + 1 ≡ (note_at w 1).number) × (((note_at w j).number ≡ 0) ⊎ (is_whole (note_at w j) ≡ true)))
          → (note_at w j).number ≤ (note_at w 1).number
      by (inl same) = omega arith
      by (inr earlier) = let next = earlier.0 in omega arith

  module _ (w0 w1 w2 w3 : World) (at0 : At w0) (q1 : Quiet w0 w1) (q2 : Quiet w1 w2) (q3 : Quiet w2 w3) (go3 : Go w3)
      (same : num w3 1 ≡ num w0 1) (some : 1 ≤ num w0 1) where
    at1 : At w1
    at1 = goes_reached team is_team publics of_team q1.events w0 w1 at0 (round_leads w0 w1 q1)

    at2 : At w2
    at2 = goes_reached team is_team publics of_team q2.events w1 w2 at1 (round_leads w1 w2 q2)

    at3 : At w3
    at3 = goes_reached team is_team publics of_team q3.events w2 w3 at2 (round_leads w2 w3 q3)

    from1 : Leads w1 (q2.events ++ q3.events) w3
    from1 = leads_on w1 w2 w3 q2.events q3.events (round_leads w1 w2 q2) (round_leads w2 w3 q3)

    from0 : Leads w0 (q1.events ++ (q2.events ++ q3.events)) w3
    from0 = leads_on w0 w1 w3 q1.events (q2.events ++ q3.events) (round_leads w0 w1 q1) from1

    go2 : Go w2
    go2 = went_on team is_team publics of_team q3.events w2 w3 at2 (round_leads w2 w3 q3) go3

    go1 : Go w1
    go1 = went_on team is_team publics of_team (q2.events ++ q3.events) w1 w3 at1 from1 go3

    rise : (j : ℕ) (es : List Event) (u v : World) → At u → Leads u es v → num u j ≤ num v j
    rise = rises team is_team publics of_team

    -- agent 1 has begun no other snapshot on the way
    still : (x : World) (es fs : List Event) → At x → Leads w0 es x → Leads x fs w3 → num x 1 ≡ num w0 1
    still x es fs at_x before after =
        let low = rise 1 es w0 x at0 before in
        let high = rise 1 fs x w3 at_x after in
        omega arith

    -- after one round all have begun
    begun1 : (j : ℕ) → IsOf n j → num w1 j ≡ num w0 1
    begun1 j is_j = by (cases_eq j 1)
      where
        last1 : num w1 1 ≡ num w0 1
        last1 = still w1 q1.events (q2.events ++ q3.events) at1 (round_leads w0 w1 q1) from1

        by : (j ≡ 1) ⊎ (j ≡ 1 → ⊥) → num w1 j ≡ num w0 1
        by (inl is) = ap (num w1) is ∙ last1
        by (inr other) =
            let is_1 = one w0 at0 in
            let off : 1 ≢ j = λ e. other (sym e) in
            let t = takes_all team is_team publics of_team w0 w1 at0 q1 go1 1 j is_1 is_j off in
            let u = t.at_world in
            let number : num u 1 ≡ num w0 1 =
            still u t.before (t.after ++ (q2.events ++ q3.events)) t.are_reached t.ran
            (leads_on u w1 w3 t.after (q2.events ++ q3.events) t.goes_on from1) in
            let none = none_of_part team is_team publics of_team w0 w1 at0 q1 go1 1 j is_1 is_j off marker_of in
            let begun = begun_number (num u 1) (num u j)
            (begun_by n of_team.agents (view publics u) (seen u t.are_reached) (omega arith) j is_j (λ e. none)) in
            let later = rise j t.after u w1 t.are_reached t.goes_on in
            let most_j = behind w1 at1 j is_j in
            let last = last1 in
            omega arith

    -- and so it is from then on
    begun_at : (x : World) (es fs : List Event) → At x → Leads w1 es x → Leads x fs w3 → (j : ℕ) → IsOf n j
        → num x j ≡ num w0 1
    begun_at x es fs at_x before after j is_j =
        let first = begun1 j is_j in
        let later = rise j es w1 x at1 before in
        let most_j = behind x at_x j is_j in
        let last = still x (q1.events ++ es) fs at_x (leads_on w0 w1 x q1.events es (round_leads w0 w1 q1) before) after in
        omega arith

    begun_in_at : (x : World) (es fs : List Event) → At x → Leads w1 es x → Leads x fs w3 → (j : ℕ) → IsOf n j
        → begun_in (num x 1) (num x j) ≡ true
    begun_in_at x es fs at_x before after j is_j =
        let mine = begun_at x es fs at_x before after j is_j in
        let first = begun_at x es fs at_x before after 1 (one x at_x) in
        begun_is (num x 1) (num x j) (omega arith) (omega arith)

    -- after two rounds all have taken all markers
    marked2 : (i j : ℕ) → IsOf n i → IsOf n j → has (note_at w2 j).marked i ≡ true
    marked2 i j is_i is_j = by (cases_eq i j)
      where
        by : (i ≡ j) ⊎ (i ≡ j → ⊥) → has (note_at w2 j).marked i ≡ true
        by (inl is) =
            subst (λ k. has (note_at w2 j).marked k ≡ true) (sym is)
            (((seen w2 at2).follows j is_j).itself (begun_in_at w2 q2.events q3.events at2 (round_leads w1 w2 q2) (round_leads w2 w3 q3) j is_j))
        by (inr off) =
            let t = takes_all team is_team publics of_team w1 w2 at1 q2 go2 i j is_i is_j off in
            let u = t.at_world in
            let after = leads_on u w2 w3 t.after q3.events t.goes_on (round_leads w2 w3 q3) in
            let none = none_of_part team is_team publics of_team w1 w2 at1 q2 go2 i j is_i is_j off marker_of in
            let first = begun_at u t.before (t.after ++ q3.events) t.are_reached t.ran after 1 (one u t.are_reached) in
            let here = begun_at u t.before (t.after ++ q3.events) t.are_reached t.ran after j is_j in
            let there = begun_at w2 q2.events q3.events at2 (round_leads w1 w2 q2) (round_leads w2 w3 q3) j is_j in
            marked_on team is_team publics of_team i j is_i t.after u w2 t.are_reached t.goes_on (omega arith)
            (marked_by n of_team.agents (view publics u) (seen u t.are_reached) (omega arith) i j is_i is_j (λ e. none)
            (begun_in_at u t.before (t.after ++ q3.events) t.are_reached t.ran after i is_i)
            (begun_in_at u t.before (t.after ++ q3.events) t.are_reached t.ran after j is_j))

    -- from then on none awaits a marker
    whole_at : (x : World) (es fs : List Event) → At x → Leads w2 es x → Leads x fs w3 → (j : ℕ) → IsOf n j
        → is_whole (note_at x j) ≡ true
    whole_at x es fs at_x before after j is_j =
        let there = begun_at w2 q2.events q3.events at2 (round_leads w1 w2 q2) (round_leads w2 w3 q3) j is_j in
        let here = begun_at x (q2.events ++ es) fs at_x (leads_on w1 w2 x q2.events es (round_leads w1 w2 q2) before) after j is_j in
        let first = begun_at x (q2.events ++ es) fs at_x (leads_on w1 w2 x q2.events es (round_leads w1 w2 q2) before) after 1 (one x at_x) in
        whole_by n of_team.agents (view publics x) (seen x at_x) (omega arith) j is_j
        (λ i is_i.
        marked_on team is_team publics of_team i j is_i es w2 x at2 before (here ∙ sym there) (marked2 i j is_i is_j))

    -- after three rounds agent 1 has all reports
    reported3 : (i : ℕ) → IsOf n i → i ≢ 1 → has (note_at w3 1).reported i ≡ true
    reported3 i is_i off =
        let is_1 = one w2 at2 in
        let t = takes_all team is_team publics of_team w2 w3 at2 q3 go3 i 1 is_i is_1 off in
        let u = t.at_world in
        let before = leads_on w1 w2 u q2.events t.before (round_leads w1 w2 q2) t.ran in
        let none = none_of_part team is_team publics of_team w2 w3 at2 q3 go3 i 1 is_i is_1 off report_of in
        let first = begun_at u (q2.events ++ t.before) t.after t.are_reached before t.goes_on 1 (one u t.are_reached) in
        let number = same in
        reported_on team is_team publics of_team i 1 is_i t.after u w3 t.are_reached t.goes_on (omega arith)
        (reported_by n of_team.agents (view publics u) (seen u t.are_reached) (omega arith) i is_i off none
        (begun_in_at u (q2.events ++ t.before) t.after t.are_reached before t.goes_on i is_i)
        (whole_at u t.before t.after t.are_reached t.ran t.goes_on i is_i))

    -- so it has all findings
    pub complete3 : is_complete (note_at w3 1) ≡ true
    complete3 =
        let is_1 = one w3 at3 in
        let found = agent_there w3 1 (is_agent team is_team publics of_team w3 at3 1 is_1) in
        let first : AgentRecord = found.0 in
        let noted : note_at w3 1 ≡ first.snapshot = note_of w3 1 first found.1 in
        let me : first.snapshot.me ≡ 1 = ap (λ (s : Notes). s.me) (sym noted) ∙ ((seen w3 at3).notes 1 is_1).me in
        let number = same in
        let begun : 0 < (note_at w3 1).number = omega arith in
        let itself : has (note_at w3 1).reported 1 ≡ true =
        ap (λ (s : Notes). has s.reported 1) noted
        ∙ ap (has first.snapshot.reported) (sym me)
        ∙ (list_themselves team is_team publics of_team w3 at3 1 first found.1).listed
        (subst (λ (s : Notes). 0 < s.number) noted begun) in
        complete_by n of_team.agents (view publics w3) (seen w3 at3) begun
        (whole_at w3 q3.events [] at3 (round_leads w2 w3 q3) (run-none (after_event value) w3) 1 is_1) is_1 itself reported3
