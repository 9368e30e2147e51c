-- What the files of a team lead to is one thing alone.
use Rattle.std.proofs.Common.{◌≡◌, ◌<◌, ◌≤◌, ◌⊎◌, inl, inr, ℕ, zero, suc, List, [], length, map, Option, Some, None, Result, Ok, Err, refl, sym, ap, ◌∙◌, subst, arith}
use Rattle.std.specs.Prelude.{Contains}
use Rattle.mp_forms.specs.Faults.{IsFirst as IsFirstOf}
use Rattle.mp_forms.specs.Reading.{Reading as ShapeReading, faults_in}
use Rattle.mp_forms.specs.Rules.Files.{domain_rule, problem_rule}
use Rattle.mp_forms.specs.declared.fault.Fault.{Fault as ShapeFault}
use Rattle.mp_forms.specs.declared.factor.Factor.{Factor}
use Rattle.mp_forms.specs.declared.files.File.TheVariants as file
use Rattle.mp_joint.specs.Fact.{Text}
use Rattle.mp_outside.specs.Source.{Files}
use Rattle.mp_sexp.specs.Fault.{ReadFault}
use Rattle.mp_sexp.specs.Node.{Node}
use Rattle.mp_sexp.specs.Spelling.{HasTree}
use Rattle.mp_sexp.specs.declared.refusal.ReadRefusal.{ReadRefusal}
use Rattle.mp_typing.specs.CheckFaults.{check_faults}
use Rattle.mp_typing.specs.Faults.{IsFirst as IsFirstCheck}
use Rattle.mp_typing.specs.declared.fault.Fault.{Fault as CheckFault}
use Rattle.mp_files.specs.File.{Checks, Fetches, HasShape, Parts, SaysDomain, SaysProblem, Spells, check_refusal, file_of, longest_file, shape_refusal, text_refusal}
use Rattle.mp_files.specs.Reading.{Each, Reading}
use Rattle.mp_files.specs.Team.{FetchesTwo, FindsTwo, FoundTwo, HoldsTeam, IsFirst, MeasuresTwo, ReadsFound, ReadsMade, ReadsTeam, ReadsTexts, Says, Two, found_in_memory, found_under}
use Rattle.mp_files.specs.declared.refusal.FileOf.{FileOf}
use Rattle.mp_files.specs.declared.refusal.Refusal.{Refusal}
use Rattle.mp_files.specs.declared.refusal.Refusal.TheVariants as why
use Rattle.mp_files.proofs.Each.{each_mapped, each_unmapped}
use Rattle.mp_files.proofs.Readings.{IsOne, as_err, ok_err, one_each, one_given, one_then, same_ok}

-- the laws that are used: one tree and one first fault of a text, not both, and one first fault of a tree and of a
-- factor
pub record Laws : Type 0 where
  pub one_tree : (text : Text) (m n : Node) → HasTree text m → HasTree text n → m ≡ n
  pub one_fault : (text : Text) (e f : ReadRefusal) → ReadFault text e → ReadFault text f → e ≡ f
  pub not_both : (text : Text) (n : Node) (e : ReadRefusal) → HasTree text n → ReadFault text e → ⊥
  pub one_first : (faults : List ShapeFault) (a b : ShapeFault) → IsFirstOf faults a → IsFirstOf faults b → a ≡ b
  pub one_check : (faults : List CheckFault) (a b : CheckFault) → IsFirstCheck faults a → IsFirstCheck faults b → a ≡ b

-- what is refused of a file, by what is found under its name
fetched_none : (at : FileOf) (v : Result Text Refusal) → Fetches None at v → v ≡ Err (why.Read at)
fetched_none at (Ok t) h = absurd (cc)
fetched_none at (Err (why.Read other)) h = ap (λ a. Err (why.Read a)) h.0
fetched_none at (Err (why.TooLarge other)) h = absurd h.1
fetched_none at (Err (why.Fault other kind place)) h = absurd h
fetched_none at (Err why.OutOfMemory) h = absurd h

fetched_short : (text : Text) (at : FileOf) (v : Result Text Refusal) → length text ≤ longest_file → Fetches (Some text) at v → v ≡ Ok text
fetched_short text at (Ok t) le h = cc
fetched_short text at (Err (why.Read other)) le h = absurd (cc)
fetched_short text at (Err (why.TooLarge other)) le h = absurd (omega (arith, le, h.1))
fetched_short text at (Err (why.Fault other kind place)) le h = absurd h
fetched_short text at (Err why.OutOfMemory) le h = absurd h

fetched_long : (text : Text) (at : FileOf) (v : Result Text Refusal) → longest_file < length text → Fetches (Some text) at v → v ≡ Err (why.TooLarge at)
fetched_long text at (Ok t) lt h =
    let same : text ≡ t = cc in
    let short : length text ≤ longest_file = subst (λ x. length x ≤ longest_file) (sym same) h.1 in
    absurd (omega (arith, lt, short))
fetched_long text at (Err (why.Read other)) lt h = absurd (cc)
fetched_long text at (Err (why.TooLarge other)) lt h = ap (λ a. Err (why.TooLarge a)) h.0
fetched_long text at (Err (why.Fault other kind place)) lt h = absurd h
fetched_long text at (Err why.OutOfMemory) lt h = absurd h

short_or_long : (n m : ℕ) → (n ≤ m) ⊎ (m < n)
short_or_long zero m = inl (omega arith)
short_or_long (suc n) zero = inr (omega arith)
short_or_long (suc n) (suc m) =
    elim (short_or_long n m) [
      | inl le ↦ inl (omega (arith, le))
      | inr lt ↦ inr (omega (arith, lt))
    ]

one_fetched : (found : Option Text) (at : FileOf) → IsOne (Fetches found at)
one_fetched None at v w h k = fetched_none at v h ∙ sym (fetched_none at w k)
one_fetched (Some text) at v w h k =
    elim (short_or_long (length text) longest_file) [
      | inl le ↦ fetched_short text at v le h ∙ sym (fetched_short text at w le k)
      | inr lt ↦ fetched_long text at v lt h ∙ sym (fetched_long text at w lt k)
    ]

one_spelled : Laws → (at : FileOf) (text : Text) → IsOne (Spells at text)
one_spelled laws at text (Ok m) (Ok n) h k = ap Ok (laws.one_tree text m n h k)
one_spelled laws at text (Ok m) (Err r) h k = absurd (laws.not_both text m k.0 h k.1)
one_spelled laws at text (Err r) (Ok n) h k = absurd (laws.not_both text n h.0 k h.1)
one_spelled laws at text (Err r) (Err s) h k =
    ap Err (h.2 ∙ ap (text_refusal at) (laws.one_fault text h.0 k.0 h.1 k.1) ∙ sym k.2)

none_first : (faults : List ShapeFault) (first : ShapeFault) → faults ≡ [] → IsFirstOf faults first → ⊥
none_first faults first none is =
    let among : Contains [] first = subst (λ fs. Contains fs first) none is.among in
    absurd (omega (arith, among.1))

one_shape : {X : Type 0} → Laws → (at : FileOf) (read : ShapeReading X) → IsOne (HasShape at read)
one_shape laws at read (Ok m) (Ok n) h k = ap Ok (let same : m ≡ n = cc in same)
one_shape {X} laws at read (Ok m) (Err r) h k = absurd (none_first (faults_in read) k.0 (ap (λ (s : ShapeReading X). faults_in s) h) k.1)
one_shape {X} laws at read (Err r) (Ok n) h k = absurd (none_first (faults_in read) h.0 (ap (λ (s : ShapeReading X). faults_in s) k) h.1)
one_shape laws at read (Err r) (Err s) h k =
    ap Err (h.2 ∙ ap (shape_refusal at) (laws.one_first (faults_in read) h.0 k.0 h.1 k.1) ∙ sym k.2)

one_domain : Laws → (at : FileOf) (text : Text) → IsOne (SaysDomain at text)
one_domain laws at text =
    one_then (Spells at text) _ (one_spelled laws at text) (λ node. one_shape laws at (domain_rule node))

one_problem : Laws → (at : FileOf) (text : Text) → IsOne (SaysProblem at text)
one_problem laws at text =
    one_then (Spells at text) _ (one_spelled laws at text) (λ node. one_shape laws at (problem_rule node))

none_checked : (faults : List CheckFault) (first : CheckFault) → faults ≡ [] → IsFirstCheck faults first → ⊥
none_checked faults first none is =
    let among : Contains [] first = subst (λ fs. Contains fs first) none is.among in
    absurd (omega (arith, among.1))

one_check : Laws → (agent : ℕ) (parts : Parts) → IsOne (Checks agent parts)
one_check laws agent parts (Ok a) (Ok b) h k = ap Ok (h.0 ∙ sym k.0)
one_check laws agent parts (Ok a) (Err r) h k = absurd (none_checked (check_faults parts.domain parts.problem) k.0 h.1 k.1)
one_check laws agent parts (Err r) (Ok b) h k = absurd (none_checked (check_faults parts.domain parts.problem) h.0 k.1 h.1)
one_check laws agent parts (Err r) (Err s) h k =
    ap Err (h.2 ∙ ap (check_refusal agent) (laws.one_check (check_faults parts.domain parts.problem) h.0 k.0 h.1 k.1) ∙ sym k.2)

one_two : (agent : ℕ) (domain_found problem_found : Option Text) → IsOne (FindsTwo agent domain_found problem_found)
one_two agent domain_found problem_found =
    one_then (Fetches domain_found (file_of agent file.Domain)) _ (one_fetched domain_found (file_of agent file.Domain))
    (λ domain. one_then (Fetches problem_found (file_of agent file.Problem)) _ (one_fetched problem_found (file_of agent file.Problem))
    (λ problem. one_given {X = Two} (record { domain = domain; problem = problem })))

one_said : Laws → (agent : ℕ) (texts : Two) → IsOne (Says agent texts)
one_said laws agent texts =
    one_then (SaysDomain (file_of agent file.Domain) texts.domain) _ (one_domain laws (file_of agent file.Domain) texts.domain)
    (λ domain. one_then (SaysProblem (file_of agent file.Problem) texts.problem) _ (one_problem laws (file_of agent file.Problem) texts.problem)
    (λ problem. one_given {X = Parts} (record { domain = domain; problem = problem })))

one_of_texts : Laws → (texts : List Two) → IsOne (ReadsTexts texts)
one_of_texts laws texts =
    one_then (Each Says texts) _ (one_each Says (one_said laws) texts)
    (λ parts. one_each Checks (one_check laws) parts)

-- what the files of a team lead to is one thing alone
pub one_read : Laws → (files : Files) (names : List Two) → IsOne (ReadsTeam files names)
one_read laws files names =
    one_then (Each (FetchesTwo files) names) ReadsTexts (one_each (FetchesTwo files) (λ agent two. one_two agent (files two.domain) (files two.problem)) names) (one_of_texts laws)

pub one_first : Laws → (files : Files) (names : List Two) (r s : Refusal) → IsFirst files names r → IsFirst files names s → r ≡ s
one_first laws files names r s h k = as_err (Err r) (Err s) r s (one_read laws files names (Err r) (Err s) h k) refl refl

-- where the files hold a team, no refusal is the first
pub found_none : Laws → (files : Files) (names : List Two) (team : List Factor) (r : Refusal) → HoldsTeam files names team → IsFirst files names r → ⊥
found_none laws files names team r h k = ok_err team r (one_read laws files names (Ok team) (Err r) h k)

-- and so it is with texts in memory
pub one_made : Laws → (texts : List Two) → IsOne (ReadsMade texts)
one_made laws texts =
    one_then (Each MeasuresTwo texts) ReadsTexts (one_each MeasuresTwo (λ agent two. one_two agent (Some two.domain) (Some two.problem)) texts) (one_of_texts laws)

pub one_first_made : Laws → (texts : List Two) (r s : Refusal) → ReadsMade texts (Err r) → ReadsMade texts (Err s) → r ≡ s
one_first_made laws texts r s h k = as_err (Err r) (Err s) r s (one_made laws texts (Err r) (Err s) h k) refl refl

pub made_none : Laws → (texts : List Two) (team : List Factor) (r : Refusal) → ReadsMade texts (Ok team) → ReadsMade texts (Err r) → ⊥
made_none laws texts team r h k = ok_err team r (one_made laws texts (Ok team) (Err r) h k)

-- ---- what is found for a team leads to one team, under whatever names

abbrev finds : ℕ → FoundTwo → Reading Two
finds agent two = FindsTwo agent two.domain two.problem

pub one_found : Laws → (found : List FoundTwo) (team other : List Factor) → ReadsFound found (Ok team) → ReadsFound found (Ok other) → other ≡ team
one_found laws found team other h k =
    let one = one_then (Each finds found) ReadsTexts (one_each finds (λ agent two. one_two agent two.domain two.problem) found) (one_of_texts laws) in
    same_ok other team (one (Ok other) (Ok team) k h)

pub held_found : (files : Files) (names : List Two) (team : List Factor) → HoldsTeam files names team → ReadsFound (map (found_under files) names) (Ok team)
held_found files names team (texts, fetched, read) =
    (texts, each_mapped finds (found_under files) names texts fetched, read)

pub found_held : (files : Files) (names : List Two) (team : List Factor) → ReadsFound (map (found_under files) names) (Ok team) → HoldsTeam files names team
found_held files names team (texts, found, read) =
    (texts, each_unmapped finds (found_under files) names texts found, read)

pub made_found : (made : List Two) (team : List Factor) → ReadsMade made (Ok team) → ReadsFound (map found_in_memory made) (Ok team)
made_found made team (texts, measured, read) =
    (texts, each_mapped finds found_in_memory made texts measured, read)
