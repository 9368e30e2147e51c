-- No agent but agent 1 sends an end.
use Rattle.mp_world.proofs.Basics.{◌≡◌, ◌≢◌, ℕ, List, [], ◌∷◌, All, Option, None, refl, Ok, filter_map}
use Rattle.mp_world.specs.AgentWords.{EndKind, Message, Marker, Report, Pick, Trace, Length, own, Local, AgentRecord, local, Outgoing, Step, others, to_others}
use Rattle.mp_world.specs.SearchWords.{Numbers, expanded}
use Rattle.mp_world.proofs.LocalCases.{StepCases, both_such, each_local, each_such, judges_first, none_such, states_such}
use Rattle.mp_team_snapshots.specs.Messages.{end_of}
use Rattle.mp_team_snapshots.proofs.Sendings.{messages_to, none_to}

abbrev pub ends_to : ℕ → List Outgoing → List EndKind
ends_to to out = filter_map end_of (messages_to to out)

abbrev IsNoEnd : Message → Type 0
IsNoEnd m = end_of m ≡ None

abbrev SendsNoEnd : AgentRecord → Step → Type 0
SendsNoEnd r s = r.task.me ≢ 1 → All (λ x. IsNoEnd x.message) s.out

no_ends : StepCases SendsNoEnd
no_ends = record {
  acts = λ r. record {
    silent = λ other. none_such IsNoEnd;
    root = λ entry back length is other. each_such IsNoEnd (Length length) refl (others r.task.me r.task.agents);
    hop = λ entry back agent sent more is other. each_such IsNoEnd (Trace sent more) refl (agent ∷ []);
    pick = λ agent cost given apart other. each_such IsNoEnd (Pick r.snapshot.number) refl (agent ∷ []);
    ended = λ v kind given other. absurd (other (judges_first r v given));
  };
  report = λ r other. each_such IsNoEnd (Report (own r.snapshot)) refl (1 ∷ []);
  notes = λ r new s none. none;
  begins = λ r new number s none other.
      both_such IsNoEnd (to_others r.task (Marker number)) s.out
      (each_such IsNoEnd (Marker number) refl (others r.task.me r.task.agents)) (none other);
  picked = λ r s none. none;
  ended = λ r ending share other. none_such IsNoEnd;
}

pub local_sends : (value : Numbers → Numbers → Option ℕ) (r : AgentRecord) → r.task.me ≢ 1
    → (event : Local) (bytes : List ℕ) (s : Step) → local value r event bytes ≡ Ok s → (to : ℕ) → ends_to to s.out ≡ []
local_sends value r other event bytes s is =
    none_to end_of s.out
    (each_local SendsNoEnd no_ends value r event bytes s
    (λ other. states_such IsNoEnd (λ m. refl) (expanded r.task value r.search).0)
    (λ from x other. none_such IsNoEnd) is other)
