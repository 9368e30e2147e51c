-- What is so of snapshots in a world, over its notes and messages alone, and back.
use Rattle.mp_world.proofs.Basics.{◌≡◌, ◌≢◌, ℕ, ◌≤◌, true, ◌&&◌, List, length, Some, sym, ap, subst, ◌∙◌, arith, nat_lt, option_map_or}
use Rattle.mp_world.specs.AgentWords.{AgentTask, Notes, before_all, has, is_whole, own, AgentRecord}
use Rattle.mp_world.specs.World.{IsAgent, IsTeamWorld, World, agent_at}
use Rattle.mp_world.proofs.Agents.{agent_there, member_of}
use Rattle.mp_world.proofs.Mail.{agent_of_team}
use Rattle.mp_world.proofs.Stepping.{team_size}
use Rattle.mp_team_snapshots.specs.Messages.{markers, reports}
use Rattle.mp_team_snapshots.specs.Snapshots.{AreNotesOf, AreSnapshotsSound, AreTwo}
use Rattle.mp_team_snapshots.specs.Team.{IsTeamOf}
use Rattle.mp_team_snapshots.proofs.Due.{begun_in, due_marker, due_report}
use Rattle.mp_team_snapshots.proofs.Protocol.{Follows, HasFound, IsOf, Sound, View}

-- the notes of an agent of a world
abbrev pub note_at : World → ℕ → Notes
note_at w i = option_map_or (λ r. r.snapshot) (agent_at w i) (before_all 0 0)

abbrev pub view : ℕ → World → View
view publics w = record {
  note = note_at w;
  markers = markers publics w;
  reports = λ i. reports publics w i 1;
}

pub note_of : (w : World) (i : ℕ) (r : AgentRecord) → agent_at w i ≡ Some r → note_at w i ≡ r.snapshot
note_of w i r there = ap (λ o. option_map_or (λ (r : AgentRecord). r.snapshot) o (before_all 0 0)) there

-- the agents of a world are those of a team, by their numbers
pub record HasNumbers (tasks : List AgentTask) (w : World) : Type 0 where
  pub size : length w.agents ≡ length tasks
  pub me : (i : ℕ) (r : AgentRecord) → agent_at w i ≡ Some r → r.task.me ≡ i

pub team_numbers : (publics : ℕ) (tasks : List AgentTask) → IsTeamOf publics tasks → (w : World) → IsTeamWorld tasks w → HasNumbers tasks w
team_numbers publics tasks team w is = record {
  size = team_size tasks w is;
  me = λ i r there. (member_of tasks team.numbered w is i r there).me;
}

module _ (publics : ℕ) (tasks : List AgentTask) (team : IsTeamOf publics tasks) (w : World) (is : HasNumbers tasks w) where
  size : length w.agents ≡ length tasks
  size = is.size

  pub is_agent_of : (i : ℕ) → IsOf (length tasks) i → IsAgent w i
  is_agent_of i of = record { from_1 = of.from_1; at_most = subst (λ n. i ≤ n) (sym size) of.at_most }

  pub is_of_agent : (i : ℕ) → IsAgent w i → IsOf (length tasks) i
  is_of_agent i agent = record { from_1 = agent.from_1; at_most = subst (λ n. i ≤ n) size agent.at_most }

  pub is_of_there : (i : ℕ) (r : AgentRecord) → agent_at w i ≡ Some r → IsOf (length tasks) i
  is_of_there i r there = is_of_agent i (agent_of_team w i r there)

  pub me_of : (i : ℕ) (r : AgentRecord) → agent_at w i ≡ Some r → r.task.me ≡ i
  me_of i r there = is.me i r there

  pub at_me : (i : ℕ) (r : AgentRecord) → agent_at w i ≡ Some r → agent_at w r.task.me ≡ Some r
  at_me i r there = subst (λ k. agent_at w k ≡ Some r) (sym (me_of i r there)) there

  -- what holds of each record holds of each number
  whoever : (Holds : ℕ → Type 0) → ((r : AgentRecord) → agent_at w r.task.me ≡ Some r → Holds r.task.me) → (i : ℕ) → IsOf (length tasks) i → Holds i
  whoever Holds given i of =
      let found = agent_there w i (is_agent_of i of) in
      subst Holds (me_of i found.0 found.1) (given found.0 (at_me i found.0 found.1))

  pub both : (Holds : ℕ → ℕ → Type 0) → ((a b : AgentRecord) → agent_at w a.task.me ≡ Some a → agent_at w b.task.me ≡ Some b → Holds a.task.me b.task.me)
      → (i j : ℕ) → IsOf (length tasks) i → IsOf (length tasks) j → Holds i j
  both Holds given i j of_i of_j = whoever (λ i. Holds i j) (λ a there_a. whoever (Holds a.task.me) (λ b there_b. given a b there_a there_b) j of_j) i of_i

  abbrev v : View
  v = view publics w

  note_me : (r : AgentRecord) → agent_at w r.task.me ≡ Some r → v.note r.task.me ≡ r.snapshot
  note_me r there = note_of w r.task.me r there

  -- ---- from a world

  module _ (s : AreSnapshotsSound publics w) where
    first_note : v.note 1 ≡ s.first.snapshot
    first_note = note_of w 1 s.first s.first_there

    with_first : (r : AgentRecord) → agent_at w r.task.me ≡ Some r → r.task.me ≢ 1 → AreTwo w s.first r
    with_first r there off = record {
      one = at_me 1 s.first s.first_there;
      other = there;
      different = λ same. off (sym same ∙ s.first_number);
    }

    follows_me : (r : AgentRecord) → agent_at w r.task.me ≡ Some r → Follows (v.note 1).number r.task.me (v.note r.task.me)
    follows_me r there =
        let old = s.keeps_up r there in
        subst (λ f. Follows f.number r.task.me (v.note r.task.me)) (sym first_note)
        (subst (Follows s.first.snapshot.number r.task.me) (sym (note_me r there)) (record { number = old.number; itself = old.itself }))

    sent_me : (a b : AgentRecord) → agent_at w a.task.me ≡ Some a → agent_at w b.task.me ≡ Some b → a.task.me ≢ b.task.me
        → (begun_in (v.note 1).number (v.note b.task.me).number && has (v.note b.task.me).marked a.task.me) ≡ true
        → begun_in (v.note 1).number (v.note a.task.me).number ≡ true
    sent_me a b there_a there_b off taken =
        let e = first_note in
        let e_a = note_me a there_a in
        let e_b = note_me b there_b in
        (λ k. begun_in (e k).number (e_a k).number)
        ∙ s.sent a b (record { one = there_a; other = there_b; different = off })
        (sym (λ k. begun_in (e k).number (e_b k).number && has (e_b k).marked a.task.me) ∙ taken)

    marker_me : (a b : AgentRecord) → agent_at w a.task.me ≡ Some a → agent_at w b.task.me ≡ Some b → a.task.me ≢ b.task.me
        → v.markers a.task.me b.task.me
        ≡ due_marker (v.note 1).number (v.note a.task.me).number (v.note b.task.me).number (has (v.note b.task.me).marked a.task.me)
    marker_me a b there_a there_b off =
        let e = first_note in
        let e_a = note_me a there_a in
        let e_b = note_me b there_b in
        s.marker a b (record { one = there_a; other = there_b; different = off })
        ∙ sym (λ k. due_marker (e k).number (e_a k).number (e_b k).number (has (e_b k).marked a.task.me))

    report_me : (r : AgentRecord) → agent_at w r.task.me ≡ Some r → r.task.me ≢ 1
        → v.reports r.task.me
        ≡ due_report (v.note 1).number (v.note r.task.me).number (is_whole (v.note r.task.me)) (has (v.note 1).reported r.task.me) (own (v.note r.task.me))
    report_me r there off =
        let e = first_note in
        let e_r = note_me r there in
        s.report r (with_first r there off)
        ∙ sym (λ k. due_report (e k).number (e_r k).number (is_whole (e_r k)) (has (e k).reported r.task.me) (own (e_r k)))

    reported_me : (r : AgentRecord) → agent_at w r.task.me ≡ Some r → r.task.me ≢ 1
        → (nat_lt 0 (v.note 1).number && has (v.note 1).reported r.task.me) ≡ true → HasFound (v.note 1) r.task.me (v.note r.task.me)
    reported_me r there off here =
        let old = s.reported r (with_first r there off) (sym (ap (λ f. nat_lt 0 f.number && has f.reported r.task.me) first_note) ∙ here) in
        subst (λ f. HasFound f r.task.me (v.note r.task.me)) (sym first_note)
        (subst (HasFound s.first.snapshot r.task.me) (sym (note_me r there)) (record { done = old.done; found = old.found }))

    pub to_view : Sound (length tasks) (view publics w)
    to_view = record {
      notes = whoever (λ i. AreNotesOf (length tasks) i (v.note i)) (λ r there.
          subst (AreNotesOf (length tasks) r.task.me) (sym (note_me r there)) (subst (λ n. AreNotesOf n r.task.me r.snapshot) size (s.notes r there)));
      follows = whoever (λ i. Follows (v.note 1).number i (v.note i)) follows_me;
      sent = both (λ i j. i ≢ j → (begun_in (v.note 1).number (v.note j).number && has (v.note j).marked i) ≡ true → begun_in (v.note 1).number (v.note i).number ≡ true) sent_me;
      marker = both (λ i j. i ≢ j → v.markers i j ≡ due_marker (v.note 1).number (v.note i).number (v.note j).number (has (v.note j).marked i)) marker_me;
      report = whoever (λ i. i ≢ 1 → v.reports i ≡ due_report (v.note 1).number (v.note i).number (is_whole (v.note i)) (has (v.note 1).reported i) (own (v.note i))) report_me;
      reported = whoever (λ i. i ≢ 1 → (nat_lt 0 (v.note 1).number && has (v.note 1).reported i) ≡ true → HasFound (v.note 1) i (v.note i)) reported_me;
    }

  -- ---- to a world

  module _ (sound : Sound (length tasks) (view publics w)) where
    is_first : IsOf (length tasks) 1
    is_first = record { from_1 = omega arith; at_most = team.some }

    found_first : (r : AgentRecord) × (agent_at w 1 ≡ Some r)
    found_first = agent_there w 1 (is_agent_of 1 is_first)

    abbrev first : AgentRecord
    first = found_first.0

    first_here : v.note 1 ≡ first.snapshot
    first_here = note_of w 1 first found_first.1

    number_first : first.task.me ≡ 1
    number_first = me_of 1 first found_first.1

    pub from_view : AreSnapshotsSound publics w
    from_view = record {
      first = first;
      first_there = found_first.1;
      first_number = number_first;
      notes = λ r there.
          subst (λ n. AreNotesOf n r.task.me r.snapshot) (sym size)
          (subst (AreNotesOf (length tasks) r.task.me) (note_me r there) (sound.notes r.task.me (is_of_there r.task.me r there)));
      keeps_up = λ r there.
          let now = subst (λ f. Follows f.number r.task.me r.snapshot) first_here
          (subst (Follows (v.note 1).number r.task.me) (note_me r there) (sound.follows r.task.me (is_of_there r.task.me r there))) in
          record { number = now.number; itself = now.itself };
      sent = λ a b two taken.
          let e = first_here in
          let e_a = note_me a two.one in
          let e_b = note_me b two.other in
          sym (λ k. begun_in (e k).number (e_a k).number)
          ∙ sound.sent a.task.me b.task.me (is_of_there a.task.me a two.one) (is_of_there b.task.me b two.other) two.different
          ((λ k. begun_in (e k).number (e_b k).number && has (e_b k).marked a.task.me) ∙ taken);
      marker = λ a b two.
          let e = first_here in
          let e_a = note_me a two.one in
          let e_b = note_me b two.other in
          sound.marker a.task.me b.task.me (is_of_there a.task.me a two.one) (is_of_there b.task.me b two.other) two.different
          ∙ (λ k. due_marker (e k).number (e_a k).number (e_b k).number (has (e_b k).marked a.task.me));
      report = λ r two.
          let e = first_here in
          let e_r = note_me r two.other in
          sound.report r.task.me (is_of_there r.task.me r two.other) (λ same. two.different (number_first ∙ sym same))
          ∙ (λ k. due_report (e k).number (e_r k).number (is_whole (e_r k)) (has (e k).reported r.task.me) (own (e_r k)));
      reported = λ r two here.
          let now = subst (λ f. HasFound f r.task.me r.snapshot) first_here
          (subst (HasFound (v.note 1) r.task.me) (note_me r two.other)
          (sound.reported r.task.me (is_of_there r.task.me r two.other) (λ same. two.different (number_first ∙ sym same))
          (ap (λ f. nat_lt 0 f.number && has f.reported r.task.me) first_here ∙ here))) in
          record { done = now.done; found = now.found };
    }
