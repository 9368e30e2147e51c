-- Steps that leave a search as it is, and send no states: all but expansions and receipts of states.
use Rattle.mp_world.proofs.Basics.{◌≡◌, ℕ, Bool, List, [], ◌∷◌, Option, All, refl, subst, Ok}
use Rattle.mp_world.specs.AgentWords.{AgentTask, Message, Marker, Report, Pick, Trace, Length, Done, IfState, own, BadKind, AgentRecord, Step, others, to_each, to_others, started, ending_of, took_message, unless_bad, solved}
use Rattle.mp_world.specs.SearchWords.{Numbers, SearchRecord}
use Rattle.mp_world.proofs.LocalCases.{StepCases, both_such, each_message, each_started, each_such, good_step, on_trail}

-- a message that is no state
abbrev pub IsOther : Message → Type 0
IsOther = IfState (λ s. ⊥)

-- a step after which an agent's task, limit and search are these, and that sends no states
pub record IsQuiet (t : AgentTask) (limit : ℕ) (search : SearchRecord) (s : Step) : Type 0 where
  pub task : s.after.task ≡ t
  pub limit_is : s.after.limit ≡ limit
  pub search_is : s.after.search ≡ search
  pub out : All (λ x. IsOther x.message) s.out

abbrev Q : AgentRecord → Step → Type 0
Q r s = IsQuiet r.task r.limit r.search s

-- a message goes to each of some agents
saying : (r : AgentRecord) (agents : List ℕ) (m : Message) → IsOther m → Q r (record { out = to_each agents m; after = r })
saying r agents m other = record { task = refl; limit_is = refl; search_is = refl; out = each_such IsOther m other agents }

quiet_cases : StepCases Q
quiet_cases = record {
  acts = λ r. record {
    silent = saying r [] (Length 0) tt;
    root = λ entry back length is.
        saying (solved (on_trail r entry back) length) (others r.task.me r.task.agents) (Length length) tt;
    hop = λ entry back agent sent more is. saying (on_trail r entry back) (agent ∷ []) (Trace sent more) tt;
    pick = λ agent cost given other. saying r (agent ∷ []) (Pick r.snapshot.number) tt;
    ended = λ v kind given.
        saying (record r { ending = ending_of kind }) (others r.task.me r.task.agents) (Done kind) tt;
  };
  report = λ r. saying r (1 ∷ []) (Report (own r.snapshot)) tt;
  notes = λ r new s quiet. quiet;
  begins = λ r new number s quiet. record {
    task = quiet.task;
    limit_is = quiet.limit_is;
    search_is = quiet.search_is;
    out =
        both_such IsOther (to_others r.task (Marker number)) s.out
        (each_such IsOther (Marker number) tt (others r.task.me r.task.agents)) quiet.out;
  };
  picked = λ r s quiet. quiet;
  ended = λ r ending share. saying (record r { ending = ending; share = share }) [] (Length 0) tt;
}

pub quiet_started : (r : AgentRecord) → Q r (started r)
quiet_started = each_started Q quiet_cases

pub quiet_message : (r : AgentRecord) (s : Step) (value : Numbers → Numbers → Option ℕ) (from : ℕ) (m : Message) → IsOther m
    → took_message value r from m ≡ Ok s → Q r s
quiet_message r s value from m other is =
    each_message Q quiet_cases value r from m s (λ x same. absurd (subst IsOther same other)) is

-- a message that was no bad one
pub not_bad : (bad : Bool) (kind : BadKind) (s taken : Step) → unless_bad bad kind taken ≡ Ok s → taken ≡ s
not_bad bad kind s taken is = (good_step bad kind taken s is).1
