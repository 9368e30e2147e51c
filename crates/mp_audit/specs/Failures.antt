-- What an audit finds: the first of all failures of a certificate. First come the entries that repeat an earlier one, then
-- the agents whose start has too low a bound, and then for each entry whether it is a goal, and where it leads on too cheaply.
use Rattle.std.specs.Prelude.{ℕ, ◌+◌, ◌==◌, Bool, not, ◌&&◌, ◌||◌, nat_lt, List, [], ◌∷◌, ◌++◌, map, flat_map, slice_get, if◌then◌else◌}
use Rattle.std.specs.List.{enumerate_from}
use Rattle.std.specs.Option.{option_map_or}
use Rattle.mp_list.specs.Repeats.{repeats}
use Rattle.mp_task.specs.declared.act.Act.{Act}
use Rattle.mp_task.specs.AgentTask.{AgentTask}
use Rattle.mp_task.specs.Met.{is_met}
use Rattle.mp_task.specs.Plan.{JointState, after_act, applies, goals_hold, joint_start, private_of, task_of}
use Rattle.mp_task.specs.Public.{is_public}
use Rattle.mp_applicable.specs.Far.{may_act}
use Rattle.mp_reach.specs.LeadsOn.{Known}
use Rattle.mp_audit.specs.declared.certificate.Bound.{Bound}
use Rattle.mp_audit.specs.declared.certificate.Certificate.{Certificate}
use Rattle.mp_audit.specs.declared.verdict.AuditVerdict.{AuditVerdict}
use Rattle.mp_audit.specs.declared.verdict.AuditVerdict.TheVariants.{Holds, Double, Start, Goal, Step}
use Rattle.mp_audit.specs.Audited.{bound_of, known_of, same_known, state_of}

-- a failure, where it is one
abbrev pub failure_if : Bool → AuditVerdict → List AuditVerdict
failure_if fails failure = if fails then failure ∷ [] else []

-- the entries that repeat an earlier one
abbrev pub doubles : List Bound → List AuditVerdict
doubles bounds =
    map (λ numbered. Double numbered.0) (repeats same_known (λ numbered. known_of numbered.1) (enumerate_from 1 bounds))

-- the joint start in the search of an agent
abbrev pub root_of : List AgentTask → AgentTask → Known
root_of tasks t = record { agent = t.me; state = joint_start tasks }

-- an agent whose start has a bound below the cost
abbrev pub low_start : List AgentTask → List Bound → ℕ → AgentTask → List AuditVerdict
low_start tasks bounds cost t = failure_if (nat_lt (bound_of bounds (root_of tasks t)) cost) (Start t.me)

-- all of these
abbrev pub low_starts : List AgentTask → List Bound → ℕ → List AuditVerdict
low_starts tasks bounds cost = flat_map (low_start tasks bounds cost) tasks

-- whether an agent knows that a joint state concerns another one
abbrev pub concerns : AgentTask → AgentTask → JointState → Bool
concerns t other s =
    not (other.me == t.me)
    && (may_act t.far other.me s.publics || not (is_met other (private_of s other.me)))

-- whether what an action leads to may be seen by others
abbrev pub is_visible : AgentTask → Act → JointState → JointState → Bool
is_visible t act s reached =
    is_public act || (not (is_met t (private_of s t.me)) && is_met t (private_of reached t.me))

-- an entry leads on too cheaply to a joint state in the search of an agent: what the action costs and the bound there are
-- below the entry's bound together
abbrev pub cheap_in : List Bound → ℕ → Bound → ℕ → Act → JointState → ℕ → List AuditVerdict
cheap_in bounds entry b action act reached agent =
    failure_if (nat_lt (bound_of bounds (record { agent = agent; state = reached }) + act.cost) b.bound) (Step entry action agent)

-- and in the search of another agent that the state concerns
abbrev pub cheap_in_other : List Bound → ℕ → Bound → AgentTask → ℕ → Act → JointState → AgentTask → List AuditVerdict
cheap_in_other bounds entry b t action act reached other =
    if concerns t other reached then cheap_in bounds entry b action act reached other.me else []

-- the searches in which an action leads on too cheaply from an entry: first that of the agent itself, and then those of
-- others, where they may see what the action leads to
abbrev pub cheap_leads : List AgentTask → List Bound → ℕ → Bound → AgentTask → ℕ → Act → JointState → List AuditVerdict
cheap_leads tasks bounds entry b t action act reached =
    cheap_in bounds entry b action act reached t.me
    ++ (if is_visible t act (state_of b) reached then flat_map (cheap_in_other bounds entry b t action act reached) tasks else [])

-- those of an action of the entry's agent, where it applies
abbrev pub cheap_steps : List AgentTask → List Bound → ℕ → Bound → AgentTask → ℕ → Act → List AuditVerdict
cheap_steps tasks bounds entry b t action act =
    let s = state_of b in
    if applies act s.publics (private_of s t.me)
    then cheap_leads tasks bounds entry b t action act (after_act s t.me act)
    else []

-- those of all actions of an entry's agent
abbrev pub cheap_acts : List AgentTask → List Bound → ℕ → Bound → AgentTask → List AuditVerdict
cheap_acts tasks bounds entry b t =
    flat_map (λ numbered. cheap_steps tasks bounds entry b t numbered.0 numbered.1) (enumerate_from 0 t.acts)

-- the failures of an entry; an agent that has no task has no action
abbrev pub entry_failures : List AgentTask → List Bound → ℕ → Bound → List AuditVerdict
entry_failures tasks bounds entry b =
    failure_if (goals_hold tasks (state_of b)) (Goal entry)
    ++ option_map_or (cheap_acts tasks bounds entry b) (task_of tasks b.agent) []

-- those of all entries
abbrev pub all_entry_failures : List AgentTask → List Bound → List AuditVerdict
all_entry_failures tasks bounds =
    flat_map (λ numbered. entry_failures tasks bounds numbered.0 numbered.1) (enumerate_from 1 bounds)

-- all failures in their order
abbrev pub failures : List AgentTask → Certificate → List AuditVerdict
failures tasks certificate =
    doubles certificate.bounds
    ++ (low_starts tasks certificate.bounds certificate.cost ++ all_entry_failures tasks certificate.bounds)

-- what an audit finds: the first failure, or that it holds where there is none
abbrev pub verdict_on : List AgentTask → Certificate → AuditVerdict
verdict_on tasks certificate = option_map_or (λ failure. failure) (slice_get (failures tasks certificate) 0) Holds
