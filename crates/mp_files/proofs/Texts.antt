-- From the texts of a team to its factors, and to what the files hold.
use Rattle.std.proofs.Common.{◌≡◌, inl, inr, ℕ, List, length, Option, Some, None, Result, Ok, Err, IfOk, IfErr, IfSome, OnOk, ◌∙◌}
use Rattle.mp_forms.specs.declared.factor.Factor.{Factor}
use Rattle.mp_joint.specs.Fact.{Text}
use Rattle.mp_outside.specs.Source.{Files}
use Rattle.mp_sexp.specs.declared.refusal.ReadRefusal.{ReadRefusal}
use Rattle.mp_sexp.specs.declared.refusal.ReadRefusal.TheVariants as text
use Rattle.mp_forms.specs.declared.files.File.TheVariants as file
use Rattle.mp_files.specs.Cause.{Rests, SeenSource}
use Rattle.mp_files.specs.Fetched.{AreAllFetched}
use Rattle.mp_files.specs.File.{Checks, Parts, SaysDomain, SaysProblem, file_of, text_refusal}
use Rattle.mp_files.specs.Reading.{Refuses}
use Rattle.mp_files.specs.Team.{HoldsTeam, IsFirst, ReadsTexts, Says, Two}
use Rattle.mp_files.specs.declared.refusal.FileOf.{FileOf}
use Rattle.mp_files.specs.declared.refusal.Refusal.{Refusal}
use Rattle.mp_files.specs.declared.refusal.Refusal.TheVariants as why

-- no text, no shape and no factor is refused as a file that cannot be read
text_not_read : (e : ReadRefusal) (at other : FileOf) → why.Read other ≡ text_refusal at e → ⊥
text_not_read (text.Char place) at other e = absurd (cc)
text_not_read (text.Unbalanced place) at other e = absurd (cc)
text_not_read (text.Trailing place) at other e = absurd (cc)
text_not_read (text.Deep place) at other e = absurd (cc)
text_not_read text.OutOfMemory at other e = absurd (cc)

domain_not_read : (at other : FileOf) (text : Text) → SaysDomain at text (Err (why.Read other)) → ⊥
domain_not_read at other text (inl h) = text_not_read h.0 at other h.2
domain_not_read at other text (inr h) = absurd (cc)

problem_not_read : (at other : FileOf) (text : Text) → SaysProblem at text (Err (why.Read other)) → ⊥
problem_not_read at other text (inl h) = text_not_read h.0 at other h.2
problem_not_read at other text (inr h) = absurd (cc)

agent_not_read : (agent : ℕ) (texts : Two) (other : FileOf) → Says agent texts (Err (why.Read other)) → ⊥
agent_not_read agent texts other (inl h) = domain_not_read (file_of agent file.Domain) other texts.domain h
agent_not_read agent texts other (inr (d, shape, inl h)) = problem_not_read (file_of agent file.Problem) other texts.problem h
agent_not_read agent texts other (inr (d, shape, inr (p, also, h))) = h

factor_not_read : (agent : ℕ) (parts : Parts) (other : FileOf) → Checks agent parts (Err (why.Read other)) → ⊥
factor_not_read agent parts other h = absurd (cc)

no_read : (texts : List Two) (other : FileOf) → ReadsTexts texts (Err (why.Read other)) → ⊥
no_read texts other (inl h) = agent_not_read h.place h.item other h.refused
no_read texts other (inr (parts, said, h)) = factor_not_read h.place h.item other h.refused

-- a refusal of the texts is the first one of the files
first_in : (held : Option Files) (names texts : List Two) (r : Refusal) → AreAllFetched held names texts → ReadsTexts texts (Err r) → IfSome held (λ files. IsFirst files names r)
first_in None names texts r all h = tt
first_in (Some files) names texts r all h = inr (texts, all, h)

pub texts_first : (source : SeenSource) (names texts : List Two) (r : Refusal) → AreAllFetched source.held names texts → Refuses (ReadsTexts texts) r → Rests source names r
texts_first source names texts (why.Read at) all h = absurd (no_read texts at h)
texts_first source names texts (why.TooLarge at) all h = first_in source.held names texts (why.TooLarge at) all h
texts_first source names texts (why.Fault at kind place) all h = first_in source.held names texts (why.Fault at kind place) all h
texts_first source names texts why.OutOfMemory all h = tt

-- the factors of the texts are those that the files hold
pub team_held : (held : Option Files) (names texts : List Two) (team : List Factor) → AreAllFetched held names texts → ReadsTexts texts (Ok team) → IfSome held (λ files. HoldsTeam files names team)
team_held None names texts team all h = tt
team_held (Some files) names texts team all h = (texts, all, h)

-- there are as many factors as texts
pub same_number : (texts : List Two) (team : List Factor) → ReadsTexts texts (Ok team) → length team ≡ length texts
same_number texts team (parts, said, factors) = factors.0 ∙ said.0

-- through a result
pub weaker : {X Y : Type 0} (r : Result X Y) (P Q : X → Type 0) → ((x : X) → P x → Q x) → IfOk r P → IfOk r Q
weaker (Ok x) P Q h p = h x p
weaker (Err e) P Q h p = tt

pub weaker_err : {X Y : Type 0} (r : Result X Y) (P Q : Y → Type 0) → ((y : Y) → P y → Q y) → IfErr r P → IfErr r Q
weaker_err (Ok x) P Q h p = tt
weaker_err (Err e) P Q h p = h e p

pub on_ok : {X Y : Type 0} (r : Result X Y) (P Q : Type 0) → (P → Q) → OnOk r P → OnOk r Q
on_ok (Ok x) P Q h p = h p
on_ok (Err e) P Q h p = tt
