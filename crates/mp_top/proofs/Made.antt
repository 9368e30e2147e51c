-- Texts of a team that is made: there are two for each agent, and none is a file that cannot be read.
use Rattle.std.proofs.Common.{◌≡◌, ◌+◌, ◌-◌, ◌<◌, ℕ, suc, List, [], ◌∷◌, ◌++◌, length, map, Some, Ok, Err, inl, inr, refl, sym, ap, ◌∙◌, arith, subst, append_assoc}
use Rattle.std.proofs.lemmas.List.{map-append}
use Rattle.std.proofs.lemmas.List.FromFn.{length-map-range_with_len, length-range_with_len}
use Rattle.std.proofs.lemmas.Fmt.{decimal_digit}
use Rattle.std.specs.Prelude.{codes}
use Rattle.std.specs.List.{flat_map, range_with_len}
use Rattle.mp_forms.specs.Reading.{Reading as ShapeReading}
use Rattle.mp_forms.specs.Rules.Files.{domain_rule, problem_rule}
use Rattle.mp_forms.specs.FactorParts.{DomainParts, ProblemParts}
use Rattle.mp_forms.specs.declared.factor.Factor.{Factor}
use Rattle.mp_forms.specs.declared.files.File.TheVariants as file
use Rattle.mp_files.specs.File.{Checks, Fetches, HasShape, Parts, SaysDomain, SaysProblem, Spells, file_of, text_refusal}
use Rattle.mp_files.specs.Reading.{Each, Gives, Reading, Then}
use Rattle.mp_files.specs.Team.{MeasuresTwo, ReadsMade, ReadsTexts, Says, Two}
use Rattle.mp_files.specs.declared.refusal.FileOf.{FileOf}
use Rattle.mp_files.specs.declared.refusal.Refusal.TheVariants as why
use Rattle.mp_joint.specs.Fact.{Text}
use Rattle.mp_maker.specs.Delivery.{delivery}
use Rattle.mp_maker.specs.Domain.{domain}
use Rattle.mp_maker.specs.Problem.{problem}
use Rattle.mp_sexp.specs.declared.refusal.ReadRefusal.{ReadRefusal}
use Rattle.mp_sexp.specs.declared.refusal.ReadRefusal.TheVariants as text
use Rattle.mp_top.specs.Asked.{agents_of, made_name, made_texts, names_of_texts}

-- ---- How many there are.

two_for_each : (d : Text) (p : ℕ → Text) (agents : List ℕ) → length (agents_of (flat_map (λ agent. d ∷ p agent ∷ []) agents)) ≡ length agents
two_for_each d p [] = refl
two_for_each d p (agent ∷ agents) = let h = two_for_each d p agents in omega (arith, h)

made_agents : (size number : ℕ) → length (agents_of (delivery size number)) ≡ size
made_agents size number =
    two_for_each domain (λ agent. problem size number agent) (range_with_len 1 size) ∙ length-range_with_len 1 size

pub made_of : (texts : List Text) (size its_size number its_number : ℕ) → size ≡ its_size → number ≡ its_number → texts ≡ delivery size number → texts ≡ delivery its_size its_number
made_of texts size its_size number its_number e f is = is ∙ (λ i. delivery (e i) (f i))

-- what texts lead to has one factor for each
read_for_each : (texts : List Two) (team : List Factor) → ReadsMade texts (Ok team) → length team ≡ length texts
read_for_each texts team (measured, m, (parts, said, checks)) = checks.0 ∙ said.0 ∙ m.0

pub made_for_each : (texts : List Text) (team : List Factor) (size number : ℕ) → texts ≡ delivery size number → ReadsMade (agents_of texts) (Ok team) → length team ≡ length (names_of_texts (made_texts size number))
made_for_each texts team size number same reads =
    read_for_each (agents_of texts) team reads ∙ ap (λ t. length (agents_of t)) same ∙ made_agents size number
    ∙ sym (length-map-range_with_len made_name 1 size)

-- the names of one of the first agents
pub made_digit : (n : ℕ) → n < 10 → record { domain = codes "domain " ++ (48 + n) ∷ []; problem = codes "problem " ++ (48 + n) ∷ [] } ≡ made_name n
made_digit n less = ap named (sym (decimal_digit n less))
  where
    named : Text → Two
    named digits = record { domain = codes "domain " ++ digits; problem = codes "problem " ++ digits }

-- the names of one agent more
pub one_more : {X : Type 0} (f : ℕ → X) (made whole : List X) (agent end : ℕ) → agent < end → made ++ map f (range_with_len agent (end - agent)) ≡ whole → (made ++ f agent ∷ []) ++ map f (range_with_len (agent + 1) (end - (agent + 1))) ≡ whole
one_more f made whole agent end below left =
    let more : end - agent ≡ suc (end - (agent + 1)) = omega arith in
    let first = subst (λ n. made ++ map f (range_with_len agent n) ≡ whole) more left in
    simp append_assoc first

pub named_more : {A X : Type 0} (g : A → X) (f : ℕ → X) (files new : List A) (more : A) (whole : List X) (agent end : ℕ) → agent < end → new ≡ files ++ more ∷ [] → g more ≡ f agent → map g files ++ map f (range_with_len agent (end - agent)) ≡ whole → map g new ++ map f (range_with_len (agent + 1) (end - (agent + 1))) ≡ whole
named_more g f files new more whole agent end below appended named left =
    let added : map g new ≡ map g files ++ f agent ∷ [] =
    ap (map g) appended ∙ map-append g files (more ∷ []) ∙ ap (λ x. map g files ++ x ∷ []) named in
    ap (λ xs. xs ++ map f (range_with_len (agent + 1) (end - (agent + 1)))) added
    ∙ one_more f (map g files) whole agent end below left

-- ---- None is a file that cannot be read.

module _ (at : FileOf) where
  -- a reading never leads to a file that cannot be read
  abbrev Never : {X : Type 0} → Reading X → Type 0
  Never {X} reading = reading (Err (why.Read at)) → ⊥

  never_then : {X Y : Type 0} (head : Reading X) (next : X → Reading Y) → Never head → ((x : X) → Never (next x)) → Never (Then head next)
  never_then head next h k (inl r) = h r
  never_then head next h k (inr (x, is, r)) = k x r

  never_each : {X Y : Type 0} (read : ℕ → X → Reading Y) (items : List X) → ((place : ℕ) (x : X) → Never (read place x)) → Never (Each read items)
  never_each read items h r = h r.place r.item r.refused

  never_text : (of : FileOf) (first : ReadRefusal) → why.Read at ≡ text_refusal of first → ⊥
  never_text of (text.Char place) e = absurd (cc)
  never_text of (text.Unbalanced place) e = absurd (cc)
  never_text of (text.Trailing place) e = absurd (cc)
  never_text of (text.Deep place) e = absurd (cc)
  never_text of text.OutOfMemory e = absurd (cc)

  never_spelled : (of : FileOf) (t : Text) → Never (Spells of t)
  never_spelled of t (first, fault, e) = never_text of first e

  never_shaped : {X : Type 0} (of : FileOf) (read : ShapeReading X) → Never (HasShape of read)
  never_shaped of read (first, is, e) = absurd (cc)

  never_domain : (of : FileOf) (t : Text) → Never (SaysDomain of t)
  never_domain of t =
      never_then {Y = DomainParts} (Spells of t) (λ node. HasShape of (domain_rule node)) (never_spelled of t) (λ node. never_shaped of (domain_rule node))

  never_problem : (of : FileOf) (t : Text) → Never (SaysProblem of t)
  never_problem of t =
      never_then {Y = ProblemParts} (Spells of t) (λ node. HasShape of (problem_rule node)) (never_spelled of t) (λ node. never_shaped of (problem_rule node))

  never_given : {X : Type 0} (x : X) → Never (Gives x)
  never_given x h = h

  never_said : (agent : ℕ) (texts : Two) → Never (Says agent texts)
  never_said agent texts =
      never_then {Y = Parts} (SaysDomain (file_of agent file.Domain) texts.domain)
      (λ d. Then {Y = Parts} (SaysProblem (file_of agent file.Problem) texts.problem) (λ p. Gives {X = Parts} (record { domain = d; problem = p })))
      (never_domain (file_of agent file.Domain) texts.domain)
      (λ d. never_then {Y = Parts} (SaysProblem (file_of agent file.Problem) texts.problem) (λ p. Gives {X = Parts} (record { domain = d; problem = p }))
      (never_problem (file_of agent file.Problem) texts.problem)
      (λ p. never_given {X = Parts} (record { domain = d; problem = p })))

  never_checked : (agent : ℕ) (parts : Parts) → Never (Checks agent parts)
  never_checked agent parts (first, is, e) = absurd (cc)

  never_fetched : (t : Text) (of : FileOf) → Never (Fetches (Some t) of)
  never_fetched t of (same, none) = absurd (cc)

  never_measured : (agent : ℕ) (texts : Two) → Never (MeasuresTwo agent texts)
  never_measured agent texts =
      never_then {Y = Two} (Fetches (Some texts.domain) (file_of agent file.Domain))
      (λ d. Then {Y = Two} (Fetches (Some texts.problem) (file_of agent file.Problem)) (λ p. Gives {X = Two} (record { domain = d; problem = p })))
      (never_fetched texts.domain (file_of agent file.Domain))
      (λ d. never_then {Y = Two} (Fetches (Some texts.problem) (file_of agent file.Problem)) (λ p. Gives {X = Two} (record { domain = d; problem = p }))
      (never_fetched texts.problem (file_of agent file.Problem))
      (λ p. never_given {X = Two} (record { domain = d; problem = p })))

  pub never_read : (texts : List Two) → ReadsMade texts (Err (why.Read at)) → ⊥
  never_read texts =
      never_then {Y = List Factor} (Each MeasuresTwo texts) ReadsTexts (never_each MeasuresTwo texts never_measured)
      (λ measured. never_then {Y = List Factor} (Each Says measured) (λ parts. Each Checks parts) (never_each Says measured never_said)
      (λ parts. never_each Checks parts never_checked))
