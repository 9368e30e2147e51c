-- The factors of a team that texts lead to are checked.
use Rattle.std.proofs.Common.{◌≡◌, ◌<◌, ℕ, zero, suc, List, [], ◌∷◌, length, Option, Some, None, Ok, All, refl, sym, subst, ◌∙◌, arith}
use Rattle.std.specs.Prelude.{slice_get}
use Rattle.std.proofs.lemmas.List.Elements.{All-cons, All-nil}
use Rattle.std.proofs.lemmas.Option.{slice_get_within}
use Rattle.mp_forms.specs.FactorParts.{DomainParts, ProblemParts}
use Rattle.mp_forms.specs.FromFile.{IsDomainOfFile, IsProblemOfFile}
use Rattle.mp_forms.specs.declared.factor.Factor.{Factor}
use Rattle.mp_forms.specs.declared.files.File.TheVariants as file
use Rattle.mp_forms.proofs.TakenFiles.{domain_of_file_fits, domain_of_file_is_named, problem_of_file_fits, problem_of_file_is_named}
use Rattle.mp_files.specs.File.{Checks, Parts, SaysDomain, SaysProblem, file_of}
use Rattle.mp_files.specs.Team.{IsReadTeam, ReadsTexts, Says, Two}
use Rattle.mp_files.specs.declared.refusal.FileOf.{FileOf}
use Rattle.mp_files.proofs.Each.{item_within}
use Rattle.mp_ground_laws.specs.Checked.{IsChecked}
use Rattle.mp_joint.specs.Fact.{Text}
use Rattle.mp_outside.specs.Source.{Files as Held}
use Rattle.mp_top.specs.Asked.{Texts}
use Rattle.mp_top.specs.Asked.Texts.{in_files, made}
use Rattle.mp_top.specs.Team.{IsReadFor, IsTeam}

-- what holds of the item at each place holds of all
all_places : {X : Type 0} (P : X → Type 0) (xs : List X) → ((k : ℕ) (x : X) → slice_get xs k ≡ Some x → P x) → All P xs
all_places P [] f = All-nil P
all_places P (x ∷ xs) f = All-cons P x xs (f zero x refl) (all_places P xs (λ k y at. f (suc k) y at))

domain_said : (at : FileOf) (text : Text) (domain : DomainParts) → SaysDomain at text (Ok domain) → IsDomainOfFile domain
domain_said at text domain (node, tree, says) = record { node = node; says = says }

problem_said : (at : FileOf) (text : Text) (problem : ProblemParts) → SaysProblem at text (Ok problem) → IsProblemOfFile problem
problem_said at text problem (node, tree, says) = record { node = node; says = says }

-- a factor of two files in which nothing is wrong
of_files : (domain : DomainParts) (problem : ProblemParts) (agent : ℕ) (factor : Factor) → IsDomainOfFile domain → IsProblemOfFile problem → Checks agent (record { domain = domain; problem = problem }) (Ok factor) → IsChecked factor
of_files domain problem agent factor d p (is, none) =
    subst IsChecked (sym is) (record {
      no_fault = none;
      domain_limits = domain_of_file_fits domain d;
      problem_limits = problem_of_file_fits problem p;
      domain_names = domain_of_file_is_named domain d;
      problem_names = problem_of_file_is_named problem p;
    })

checked_by : (agent : ℕ) (texts : Two) (parts : Parts) (factor : Factor) → Says agent texts (Ok parts) → Checks agent parts (Ok factor) → IsChecked factor
checked_by agent texts parts factor (domain, d, (problem, p, is)) checks =
    of_files domain problem agent factor
    (domain_said (file_of agent file.Domain) texts.domain domain d)
    (problem_said (file_of agent file.Problem) texts.problem problem p)
    (subst (λ x. Checks agent x (Ok factor)) is checks)

-- of texts
pub checked_texts : (texts : List Two) (team : List Factor) → ReadsTexts texts (Ok team) → All IsChecked team
checked_texts texts team (parts, said, checks) =
    all_places IsChecked team (λ k factor at.
    let less : k < length team = slice_get_within team k factor at in
    let of_parts : length team ≡ length parts = checks.0 in
    let of_texts : length parts ≡ length texts = said.0 in
    let p = item_within parts k (omega (arith, less, of_parts)) in
    let t = item_within texts k (omega (arith, less, of_parts, of_texts)) in
    checked_by k t.0 p.0 factor (said.1.each k t.0 p.0 t.1 p.1) (checks.1.each k p.0 factor p.1 at))

-- and of the team of a request
pub checked_team : (files : Held) (texts : Texts) (team : List Factor) → IsTeam (Some files) texts team → All IsChecked team
checked_team files (in_files names) team (texts, fetched, reads) = checked_texts texts team reads
checked_team files (made names made_texts) team (texts, measured, reads) = checked_texts texts team reads

-- ---- as they were read or made

pub checked_read : (held : Option Held) (texts : Texts) (team : List Factor) → IsReadFor held texts team → All IsChecked team
checked_read held (in_files names) team read = checked_texts read.texts team read.reads
checked_read held (made names made_texts) team (texts, measured, reads) = checked_texts texts team reads

pub team_read : (held : Option Held) (texts : Texts) (team : List Factor) → IsReadFor held texts team → IsTeam held texts team
team_read None (in_files names) team read = tt
team_read (Some files) (in_files names) team read = (read.texts, read.fetched, read.reads)
team_read held (made names texts) team read = read

-- there is one factor for each name
pub read_each : (held : Option Held) (names : List Two) (team : List Factor) → IsReadTeam held names team → length team ≡ length names
read_each held names team read = read.reads.2.0 ∙ read.reads.1.0 ∙ read.one_each
