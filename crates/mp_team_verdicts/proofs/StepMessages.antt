-- An agent's messages go to other agents of its team.
use Rattle.mp_world.proofs.Basics.{◌≡◌, ℕ, ◌+◌, ◌≤◌, true, ◌&&◌, List, Option, refl, sym, subst, ◌∙◌, arith, Ok, ◌==◌, nat_le, not, and_parts, leb-true}
use Rattle.mp_machine.specs.declared.event.Local.TheVariants as locals
use Rattle.mp_machine.proofs.NotesLemmas.{given_at_first}
use Rattle.mp_world.specs.AgentWords.{AgentTask, Message, Marker, Report, Pick, Trace, Length, Done, Proved, after_report, begun, own, with_marker, Local, AgentRecord, is_going, is_another, local, may, Step, after_sending, to_others, findings, judged}
use Rattle.mp_world.specs.AgentWords.{judged_or_reported, with_notes, took_message, with_state}
use Rattle.mp_world.specs.SearchWords.{Numbers, Record, AgentState}
use Rattle.mp_world.proofs.LocalCases.{ActingCases, either_holds, event_holds, from_goal_holds, judged_holds, judges_first, message_holds, walked_holds}
use Rattle.mp_team_verdicts.proofs.CountedStates.{counted_has}
use Rattle.mp_team_verdicts.proofs.Expansions.{GoOut, all_others_go, both_go, expansion_goes, none_goes, one_goes}
use Rattle.mp_team_verdicts.proofs.Named.{NamesOne, given_names}
use Rattle.mp_team_states.proofs.Joint.{IsReceiver, not_equal}
use Rattle.mp_team_verdicts.proofs.Others.{AreOfOthers, EndsAtOther, expanded_of_others, received_of_others, walk_to_other}

-- an agent of a team that knows how many there are, and hears of states from other agents alone
pub record HasOthers (t : AgentTask) (agents : ℕ) (kept : Record AgentState) : Type 0 where
  pub some : 1 ≤ t.agents
  pub notes : agents ≡ t.agents
  pub heard : AreOfOthers t kept

abbrev pub IsSound : AgentRecord → Type 0
IsSound r = HasOthers r.task r.snapshot.agents r.search.kept

-- a step of the agent of a task keeps it so, and what goes out goes to others
pub record IsSoundStep (t : AgentTask) (s : Step) : Type 0 where
  pub task : s.after.task ≡ t
  pub after : IsSound s.after
  pub out : GoOut t s.out

-- messages go out first
said_first : (t : AgentTask) (m : Message) (s : Step) → IsSoundStep t s → IsSoundStep t (after_sending (to_others t m) s)
said_first t m s sound = record {
  task = sound.task;
  after = sound.after;
  out = both_go t (to_others t m) s.out (all_others_go t m) sound.out;
}

acting : (r : AgentRecord) → IsSound r → ActingCases r (IsSoundStep r.task)
acting r sound = record {
  silent = record { task = refl; after = sound; out = none_goes r.task };
  root = λ entry back length is. record { task = refl; after = sound; out = all_others_go r.task (Length length) };
  hop = λ entry back agent sent more is.
      let other = subst (EndsAtOther r.task) is (walk_to_other r.task r.search.kept sound.heard (entry + 1) entry back) in
      record { task = refl; after = sound; out = one_goes r.task agent (Trace sent more) other };
  pick = λ agent cost given other.
      let v = Proved agent cost in
      let given_here = sym (given_at_first r (judges_first r v given)) ∙ given in
      let one = subst (λ (n : ℕ). NamesOne n v) sound.notes (given_names r.snapshot v given_here) in
      let is : IsReceiver r.task agent = record { from_1 = one.0; in_team = one.1; another = other } in
      record { task = refl; after = sound; out = one_goes r.task agent (Pick r.snapshot.number) is };
  ended = λ v kind given. record { task = refl; after = sound; out = all_others_go r.task (Done kind) };
}

judged_goes : (r : AgentRecord) → IsSound r → IsSoundStep r.task (judged r)
judged_goes r sound = judged_holds r (IsSoundStep r.task) (acting r sound)

either_goes : (r : AgentRecord) → IsSound r → IsSoundStep r.task (judged_or_reported r)
either_goes r sound =
    either_holds r (IsSoundStep r.task) (λ first. judged_goes r sound) (λ other whole.
    let is : IsReceiver r.task 1 = record { from_1 = omega arith; in_team = sound.some; another = λ same. other (sym same) } in
    record { task = refl; after = sound; out = one_goes r.task 1 (Report (own r.snapshot)) is })
    (λ other waits. (acting r sound).silent)

module _ (value : Numbers → Numbers → Option ℕ) (r : AgentRecord) (sound : IsSound r) where
  message_goes : (from : ℕ) → IsReceiver r.task from → (m : Message) (s : Step) → took_message value r from m ≡ Ok s → IsSoundStep r.task s
  unfolding with_state
  message_goes from other =
      message_holds value r from (λ m s. IsSoundStep r.task s) (record {
        state = λ m given right.
            let notes = counted_has (λ t. t.agents ≡ r.task.agents) r.snapshot from (m.g + m.h) sound.notes sound.notes in
            let heard = received_of_others r.task value from m r.search.kept other sound.heard in
            record { task = refl; after = record { some = sound.some; notes = notes; heard = heard }; out = none_goes r.task };
        on = λ number goes. either_goes (record r { snapshot = with_marker r.snapshot from }) sound;
        begins = λ number begins.
            let new = with_notes (with_marker (begun r.snapshot number (findings r)) from) r in
            said_first r.task (Marker number) (judged_or_reported new) (either_goes new sound);
        report = λ found good. judged_goes (record r { snapshot = after_report r.snapshot from found }) sound;
        pick = λ number good.
            let new : AgentRecord = record r { picked = true } in
            from_goal_holds new (IsSoundStep r.task) (acting new sound);
        trace = λ sent back entry there good. walked_holds r (IsSoundStep r.task) (acting r sound) entry back;
        length = λ plan good. record { task = refl; after = sound; out = none_goes r.task };
        done = λ kind first. record { task = refl; after = sound; out = none_goes r.task };
      })

-- an agent takes messages of other agents of its team
pub taken_from_other : (r : AgentRecord) (from : ℕ) → may r (locals.Take from) ≡ true → IsReceiver r.task from
taken_from_other r from allowed =
    let now = and_parts (is_going r.ending) (is_another r.task from) allowed in
    let other = and_parts (nat_le 1 from && nat_le from r.task.agents) (not (from == r.task.me)) now.1 in
    let range = and_parts (nat_le 1 from) (nat_le from r.task.agents) other.0 in
    record {
      from_1 = leb-true 1 from range.0;
      in_team = leb-true from r.task.agents range.1;
      another = not_equal from r.task.me other.1;
    }

pub local_goes : (value : Numbers → Numbers → Option ℕ) (r : AgentRecord) (s : Step) (event : Local) (bytes : List ℕ)
    → IsSound r → may r event ≡ true → local value r event bytes ≡ Ok s → IsSoundStep r.task s
local_goes value r s event bytes sound allowed is =
    event_holds value r event bytes (IsSoundStep r.task) (record {
      expands = λ at.
          let heard = expanded_of_others r.task value r.search sound.heard in
          record {
            task = refl;
            after = record { some = sound.some; notes = sound.notes; heard = heard };
            out = expansion_goes r.task value r.search;
          };
      takes = λ from m s at reads took.
          let other = taken_from_other r from (subst (λ (e : Local). may r e ≡ true) at allowed) in
          message_goes value r sound from other m s took;
      starts = λ at.
          let number = r.snapshot.number + 1 in
          let new = with_notes (begun r.snapshot number (findings r)) r in
          said_first r.task (Marker number) (judged new) (judged_goes new sound);
    }) s is
