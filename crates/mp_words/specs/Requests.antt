-- Which requests are accepted.
use Rattle.std.specs.Prelude.{ℕ, ◌==◌, ◌%◌, ◌&&◌, nat_le, Bool, List, [], ◌∷◌, Option, Some, None, option_and_then, option_map, unwrap_or, codes, length, take_while, not, ◌||◌, true, false, if◌then◌else◌}
use Rattle.std.specs.List.{list_any}
use Rattle.std.specs.Option.{is_none, is_some}
use Rattle.std.specs.Str.{bytes_eq}
use Rattle.mp_words.specs.declared.asked.Choice.{Choice}
use Rattle.mp_words.specs.declared.asked.Choice.TheVariants.{Max}
use Rattle.mp_words.specs.Asked.{Asked, nothing}
use Rattle.mp_words.specs.Numbers.{number_between}
use Rattle.mp_words.specs.Words.{after_words}

-- How agents search: by which heuristic, and how many entries an agent may expand.
pub record Searching : Type 0 where
  pub heuristic : Choice
  pub limit : ℕ

-- Who searches: so many workers, where that is said, or all on one thread.
pub record Working : Type 0 where
  pub workers : Option ℕ
  pub one : Bool

-- a cheapest plan for the agents of these files, an agent's domain and then its problem, one agent after another
pub record ToSolve : Type 0 where
  pub search : Searching
  pub work : Working
  -- each event is printed
  pub trace : Bool
  pub names : List (List ℕ)

-- what the agents of these files do by the schedule in a file
pub record ToReplay : Type 0 where
  pub search : Searching
  pub schedule : List ℕ
  pub names : List (List ℕ)

-- whether the plan in a file solves the united problem of these files at the cost that it states
pub record ToCheck : Type 0 where
  -- the steps of a plan that does are printed, of actions that may be done at the same time
  pub steps : Bool
  pub plan : List ℕ
  pub names : List (List ℕ)

-- a certificate that no plan for the agents of these files is cheaper than the one that they find
pub record ToCertify : Type 0 where
  -- how many entries an agent may expand
  pub limit : ℕ
  pub names : List (List ℕ)

-- whether the certificate in a file shows that no plan is cheaper than the one in another file, which solves the united
-- problem of these files at the cost that it states
pub record ToAudit : Type 0 where
  pub certificate : List ℕ
  pub plan : List ℕ
  pub names : List (List ℕ)

-- a summary of a cheapest plan for the team of this size and number of the delivery family
pub record ToMake : Type 0 where
  pub search : Searching
  pub work : Working
  -- the files of the team are printed before
  pub show : Bool
  pub size : ℕ
  pub number : ℕ

-- what accepted words ask for
pub data Wanted : Type 0 where
  solves : ToSolve → Wanted
  replays : ToReplay → Wanted
  checks : ToCheck → Wanted
  certifies : ToCertify → Wanted
  audits : ToAudit → Wanted
  makes : ToMake → Wanted

abbrev pub is_even : ℕ → Bool
is_even n = n % 2 == 0

-- so many files are those of 1 to 16 agents, two of each
abbrev pub is_team_size : ℕ → Bool
is_team_size count = nat_le 2 count && (nat_le count 32 && is_even count)

abbrev pub is_team : List (List ℕ) → Bool
is_team names = is_team_size (length names)

-- where they are not given: 200,000 expansions, and hmax
abbrev pub searching : Asked → Searching
searching a = record { heuristic = unwrap_or a.heuristic Max; limit = unwrap_or a.limit 200000 }

abbrev pub working : Asked → Working
working a = record { workers = a.workers; one = a.one }

-- ---- Each command with its options; none where a value is still awaited, an option was given that the command has
-- not, or the plain words are not those of the command.

-- `solve [--limit N] [--h blind|max|cut|pdb] [--one] [--workers N] [--trace] D1 P1 D2 P2 ..`
abbrev pub solve_of : Asked → Option Wanted
solve_of a =
    if is_none a.awaited && (not a.show && is_team a.plain) then
    Some (solves (record { search = searching a; work = working a; trace = a.trace; names = a.plain }))
    else None

-- no option was given that says who searches
abbrev pub has_no_work : Asked → Bool
has_no_work a = not (a.one || is_some a.workers)

-- the names of the agents' files behind that of the schedule
abbrev pub replay_with : Asked → List (List ℕ) → Option Wanted
replay_with a [] = None
replay_with a (schedule ∷ names) =
    if is_team names then
    Some (replays (record { search = searching a; schedule = schedule; names = names }))
    else None

-- `replay [--limit N] [--h blind|max|cut|pdb] SCHEDULE D1 P1 D2 P2 ..`
abbrev pub replay_of : Asked → Option Wanted
replay_of a =
    if is_none a.awaited && (has_no_work a && not (a.trace || a.show)) then replay_with a a.plain else None

-- no option was given that says how agents search
abbrev pub has_no_search : Asked → Bool
has_no_search a = not (is_some a.limit || is_some a.heuristic)

-- the names of the agents' files behind that of the plan
abbrev pub check_with : Bool → List (List ℕ) → Option Wanted
check_with steps [] = None
check_with steps (plan ∷ names) =
    if is_team names then Some (checks (record { steps = steps; plan = plan; names = names })) else None

-- `check PLAN D1 P1 D2 P2 ..`, and the same for `steps`
abbrev pub check_of : Bool → Asked → Option Wanted
check_of steps a =
    if is_none a.awaited && (has_no_search a && (has_no_work a && not (a.trace || a.show))) then check_with steps a.plain
    else None

-- `certify [--limit N] D1 P1 D2 P2 ..`
abbrev pub certify_of : Asked → Option Wanted
certify_of a =
    if is_none a.awaited && (is_none a.heuristic && (has_no_work a && (not (a.trace || a.show) && is_team a.plain))) then
    Some (certifies (record { limit = unwrap_or a.limit 200000; names = a.plain }))
    else None

-- the names of the agents' files behind those of the certificate and the plan
abbrev pub audit_with : List (List ℕ) → Option Wanted
audit_with [] = None
audit_with (certificate ∷ []) = None
audit_with (certificate ∷ plan ∷ names) =
    if is_team names then Some (audits (record { certificate = certificate; plan = plan; names = names })) else None

-- `audit CERTIFICATE PLAN D1 P1 D2 P2 ..`
abbrev pub audit_of : Asked → Option Wanted
audit_of a =
    if is_none a.awaited && (has_no_search a && (has_no_work a && not (a.trace || a.show))) then audit_with a.plain
    else None

-- a size is 1 to 8, and a number up to 999,999
abbrev pub make_with : Asked → List ℕ → List ℕ → Option Wanted
make_with a size number =
    option_and_then
    (λ s. option_map
    (λ n. makes (record { search = searching a; work = working a; show = a.show; size = s; number = n }))
    (number_between 0 999999 number))
    (number_between 1 8 size)

-- the family, the size and the number
abbrev pub make_words : Asked → List (List ℕ) → Option Wanted
make_words a (family ∷ size ∷ number ∷ []) =
    if bytes_eq family (codes "delivery") then make_with a size number else None
make_words a _ = None

-- `make [--limit N] [--h blind|max|cut|pdb] [--one] [--workers N] [--show] delivery SIZE NUMBER`
abbrev pub make_of : Asked → Option Wanted
make_of a = if is_none a.awaited && not a.trace then make_words a a.plain else None

-- what a command asks for, by the words behind it
abbrev pub command_of : List ℕ → Asked → Option Wanted
command_of command a =
    if bytes_eq command (codes "solve") then solve_of a
    else if bytes_eq command (codes "replay") then replay_of a
    else if bytes_eq command (codes "check") then check_of false a
    else if bytes_eq command (codes "steps") then check_of true a
    else if bytes_eq command (codes "certify") then certify_of a
    else if bytes_eq command (codes "audit") then audit_of a
    else if bytes_eq command (codes "make") then make_of a else None

-- A command, and behind it its options, anywhere, and its plain words.
abbrev pub request_of : List (List ℕ) → Option Wanted
request_of [] = None
request_of (command ∷ words) = option_and_then (command_of command) (after_words nothing words)

-- `--one` stands among the words before the first `--`
abbrev pub stands_before_dashes : List (List ℕ) → Bool
stands_before_dashes words =
    list_any (λ w. bytes_eq w (codes "--one")) (take_while (λ w. not (bytes_eq w (codes "--"))) words)

-- Words that need no second thread: there is no command, or it is neither `solve` nor `make`, or `--one` stands among
-- the words before the first `--`.
abbrev pub is_alone : List (List ℕ) → Bool
is_alone [] = true
is_alone (command ∷ words) =
    not (bytes_eq command (codes "solve") || bytes_eq command (codes "make"))
    || stands_before_dashes (command ∷ words)
