-- What a request asks of a team: where its texts are, and what is done with it; and that it keeps the limits.
use Rattle.std.specs.Prelude.{ℕ, ◌≤◌, List, [], ◌∷◌, ◌++◌, length, map, codes, decimal}
use Rattle.std.specs.List.{range_with_len}
use Rattle.mp_hmax.specs.Hmax.{hmax}
use Rattle.mp_lmcut.specs.Cut.{lmcut}
use Rattle.mp_pdb.specs.Pattern.{pattern_value}
use Rattle.mp_joint.specs.Fact.{Text}
use Rattle.mp_maker.specs.Delivery.{delivery}
use Rattle.mp_team_states.specs.Expansions.{nothing_known}
use Rattle.mp_files.specs.Asked.{team_asked}
use Rattle.mp_files.specs.Team.{Two}
use Rattle.mp_outside.specs.Acts.{FileAsked}
use Rattle.mp_words.specs.declared.asked.Choice.{Choice}
use Rattle.mp_words.specs.declared.asked.Choice.TheVariants.{Blind, Max, Cut, Pdb}
use Rattle.mp_words.specs.Requests.{Searching, ToMake, Wanted}
use Rattle.mp_words.specs.Requests.Wanted.{audits, certifies, checks, makes, replays, solves}
use Rattle.mp_world.specs.Team.{most_expansions}
use Rattle.mp_world.specs.Values.{Values}

-- two of each: an agent's domain and then its problem, one agent after another
abbrev pub agents_of : List Text → List Two
agents_of [] = []
agents_of (domain ∷ []) = []
agents_of (domain ∷ problem ∷ others) = record { domain = domain; problem = problem } ∷ agents_of others

-- the values of a heuristic: for each task, and for each set of public and of private facts
abbrev pub values_of : Choice → Values
values_of Blind = nothing_known
values_of Max = hmax
values_of Cut = lmcut
values_of Pdb = pattern_value

-- without a heuristic, with this limit
abbrev pub without_heuristic : ℕ → Searching
without_heuristic limit = record { heuristic = Blind; limit = limit }

-- the greatest number of bytes of a file with a schedule, of one with a certificate, and of one with a plan
abbrev pub longest_schedule : ℕ
longest_schedule = 67108864

abbrev pub longest_certificate : ℕ
longest_certificate = 67108864

abbrev pub longest_plan : ℕ
longest_plan = 4194304

-- where the domains and problems of a team are: in files of these names, or made, and told by these names
pub data Texts : Type 0 where
  in_files : List Two → Texts
  made : List Two → List Two → Texts

abbrev pub names_of_texts : Texts → List Two
names_of_texts (in_files names) = names
names_of_texts (made names texts) = names

-- what is done with a team: a plan is searched for; the schedule of the first file is replayed; the plan of the first file
-- is checked; or the certificate of the first file and the plan of the second one are audited
pub data Work : Type 0 where
  searched : Searching → Work
  replayed : Searching → Work
  checked : Work
  audited : Work

-- what is asked of a team; the first files are those that stand before the files of the agents
pub record TeamRequest : Type 0 where
  pub first : List FileAsked
  pub texts : Texts
  pub work : Work

-- the names of what is made for an agent
abbrev pub made_name : ℕ → Two
made_name agent = record {
  domain = codes "domain " ++ decimal agent;
  problem = codes "problem " ++ decimal agent;
}

-- the team of this size and number of the delivery family
abbrev pub made_texts : ℕ → ℕ → Texts
made_texts size number = made (map made_name (range_with_len 1 size)) (agents_of (delivery size number))

abbrev pub team_request : Wanted → TeamRequest
team_request (solves w) = record { first = []; texts = in_files (agents_of w.names); work = searched w.search }
team_request (replays w) = record {
  first = record { name = w.schedule; longest = longest_schedule } ∷ [];
  texts = in_files (agents_of w.names);
  work = replayed w.search;
}
team_request (checks w) = record {
  first = record { name = w.plan; longest = longest_plan } ∷ [];
  texts = in_files (agents_of w.names);
  work = checked;
}
team_request (certifies w) =
    record { first = []; texts = in_files (agents_of w.names); work = searched (without_heuristic w.limit) }
team_request (audits w) = record {
  first =
      record { name = w.certificate; longest = longest_certificate }
      ∷ record { name = w.plan; longest = longest_plan } ∷ [];
  texts = in_files (agents_of w.names);
  work = audited;
}
team_request (makes w) = record { first = []; texts = made_texts w.size w.number; work = searched w.search }

-- where the texts of its team are
abbrev pub texts_of : Wanted → Texts
texts_of w = (team_request w).texts

-- the files that a source is asked for, in this order: the first ones, and then those of the agents; for what is made it is
-- asked for none
abbrev pub texts_asked : Texts → List FileAsked
texts_asked (in_files names) = team_asked names
texts_asked (made names texts) = []

abbrev pub files_asked : TeamRequest → List FileAsked
files_asked request = request.first ++ texts_asked request.texts

-- an agent may expand 1 to 10,000,000 entries
pub record KeepsLimit (s : Searching) : Type 0 where
  pub from_1 : 1 ≤ s.limit
  pub limit : s.limit ≤ most_expansions

abbrev pub WorkKeepsLimits : Work → Type 0
WorkKeepsLimits (searched s) = KeepsLimit s
WorkKeepsLimits (replayed s) = KeepsLimit s
WorkKeepsLimits checked = Unit {0}
WorkKeepsLimits audited = Unit {0}

-- a team that is made has 1 to 8 agents, and a number up to 999,999
pub record KeepsSize (w : ToMake) : Type 0 where
  pub from_1 : 1 ≤ w.size
  pub size : w.size ≤ 8
  pub number : w.number ≤ 999999

abbrev pub MadeKeepsLimits : Wanted → Type 0
MadeKeepsLimits (solves w) = Unit {0}
MadeKeepsLimits (replays w) = Unit {0}
MadeKeepsLimits (checks w) = Unit {0}
MadeKeepsLimits (certifies w) = Unit {0}
MadeKeepsLimits (audits w) = Unit {0}
MadeKeepsLimits (makes w) = KeepsSize w

-- A request keeps the limits of the program: those of a search and of a team that is made, and there are 1 to 16 agents.
pub record KeepsLimits (w : Wanted) : Type 0 where
  pub work : WorkKeepsLimits (team_request w).work
  pub made : MadeKeepsLimits w
  pub some : 1 ≤ length (names_of_texts (team_request w).texts)
  pub at_most : length (names_of_texts (team_request w).texts) ≤ 16
