-- The texts of a request have at most one first refusal.
use Rattle.std.proofs.Common.{◌≡◌, ◌<◌, ◌≤◌, ◌⊎◌, inl, inr, ℕ, zero, suc, List, [], ◌∷◌, length, take, All, Option, None, Some, IsSomeAnd, Result, Ok, Err, refl, sym, ap, ◌∙◌, subst, arith}
use Rattle.std.specs.Prelude.{slice_get}
use Rattle.std.proofs.lemmas.Option.{none-some, same_Some}
use Rattle.mp_forms.specs.declared.factor.Factor.{Factor}
use Rattle.mp_files.proofs.One.{Laws, one_read, one_made}
use Rattle.mp_files.proofs.Readings.{as_err, ok_err, same_ok}
use Rattle.mp_grounder.specs.Grounded.{Known}
use Rattle.mp_grounder.specs.Limits.{IsRefusedBy, IsWithin, actions, facts, tries}
use Rattle.mp_grounder.specs.declared.refusal.GroundRefusal.{GroundRefusal}
use Rattle.mp_grounder.specs.declared.refusal.GroundRefusal.TheVariants.{TooManyTries, TooManyActions, TooManyFacts, OutOfMemory}
use Rattle.mp_outside.specs.Acts.{FileAsked}
use Rattle.mp_outside.specs.Source.{Files as Held}
use Rattle.mp_split.specs.Team.{IsFirstRefusal, known_at}
use Rattle.mp_files.specs.declared.refusal.Refusal.{Refusal as FilesRefusal}
use Rattle.mp_ground_laws.specs.Checked.{IsChecked}
use Rattle.mp_joint.specs.Fact.{Text}
use Rattle.mp_world.specs.Values.{Values}
use Rattle.mp_optimality.specs.Audits.{HasCertificate, IsAuditAccepted, IsCertificateRefused}
use Rattle.mp_solutions.specs.Solution.{IsRefusedLine, IsReplayed}
use Rattle.mp_solutions.specs.declared.solution.Solution.{Solution}
use Rattle.mp_plans.specs.Plan.{plan_in}
use Rattle.mp_plans.specs.declared.plan.PlanText.{PlanText}
use Rattle.mp_top.specs.Asked.{TeamRequest, Texts, Work, values_of}
use Rattle.mp_top.specs.Asked.Texts.{in_files, made}
use Rattle.mp_top.specs.Asked.Work.{audited, checked, replayed, searched}
use Rattle.mp_top.specs.First.{IsAccepted, IsAuditLineRefused, IsFileRefused, IsFirst, IsFirstAbsent, IsFirstLong, IsFirstSize, IsLineRefused, IsSizeRefused, IsTextLineRefused, IsTooLarge}
use Rattle.mp_top.specs.FirstText.{AreTextsOf, HaveTexts, IsTextOf, text_at}
use Rattle.mp_top.specs.Team.{IsTeam, IsTextRefused}
use Rattle.mp_top.specs.declared.refusal.Refusal.{Refusal}
use Rattle.mp_top.specs.declared.refusal.Refusal.TheVariants.{Files, First, Sizes}
use Rattle.mp_top.specs.declared.refusal.FirstRefusal.TheVariants as first
use Rattle.mp_top.proofs.Checked.{checked_team}

-- a refusal for a size
abbrev IsSize : GroundRefusal → Type 0
IsSize (TooManyTries agent) = Unit {0}
IsSize (TooManyActions agent n) = Unit {0}
IsSize (TooManyFacts agent n) = Unit {0}
IsSize OutOfMemory = ⊥

-- the factor of an agent that keeps the limits is not refused
breaks : (k : Known) (r : GroundRefusal) → IsSize r → IsWithin k → IsRefusedBy k r → ⊥
breaks k (TooManyTries agent) size within h = let least = within.tries in let more = h.1 in omega (arith, least, more)
breaks k (TooManyActions agent n) size within h =
    let least = within.actions in let more : 200000 < actions k = subst (λ m. 200000 < m) h.2 h.3 in omega (arith, least, more)
breaks k (TooManyFacts agent n) size within h =
    let least = within.facts in let more : 65535 < facts k = subst (λ m. 65535 < m) h.3 h.4 in omega (arith, least, more)
breaks k OutOfMemory size within h = size

same_actions : (a b m n : ℕ) → a ≡ b → m ≡ n → TooManyActions a m ≡ TooManyActions b n
same_actions a b m n e f = cc

same_facts : (a b m n : ℕ) → a ≡ b → m ≡ n → TooManyFacts a m ≡ TooManyFacts b n
same_facts a b m n e f = cc

not_more : (n most : ℕ) {A : Type 0} → n ≤ most → most < n → A
not_more n most least more = absurd (omega (arith, least, more))

-- an agent has one refusal for a size
one_size : (k : Known) (r s : GroundRefusal) → IsSize r → IsSize s → IsRefusedBy k r → IsRefusedBy k s → r ≡ s
one_size k (TooManyTries a) (TooManyTries b) p q h g = ap TooManyTries (h.0 ∙ sym g.0)
one_size k (TooManyTries a) (TooManyActions b n) p q h g = not_more (tries k) 50000000 g.1 h.1
one_size k (TooManyTries a) (TooManyFacts b n) p q h g = not_more (tries k) 50000000 g.1 h.1
one_size k (TooManyActions a m) (TooManyTries b) p q h g = not_more (tries k) 50000000 h.1 g.1
one_size k (TooManyActions a m) (TooManyActions b n) p q h g = same_actions a b m n (h.0 ∙ sym g.0) (h.2 ∙ sym g.2)
one_size k (TooManyActions a m) (TooManyFacts b n) p q h g = not_more (actions k) 200000 g.2 (subst (λ i. 200000 < i) h.2 h.3)
one_size k (TooManyFacts a m) (TooManyTries b) p q h g = not_more (tries k) 50000000 h.1 g.1
one_size k (TooManyFacts a m) (TooManyActions b n) p q h g = not_more (actions k) 200000 h.2 (subst (λ i. 200000 < i) g.2 g.3)
one_size k (TooManyFacts a m) (TooManyFacts b n) p q h g = same_facts a b m n (h.0 ∙ sym g.0) (h.3 ∙ sym g.3)
one_size k OutOfMemory s p q h g = absurd p
one_size k (TooManyTries a) OutOfMemory p q h g = absurd q
one_size k (TooManyActions a m) OutOfMemory p q h g = absurd q
one_size k (TooManyFacts a m) OutOfMemory p q h g = absurd q

of_size : (team : List Factor) (r : GroundRefusal) → IsFirstSize team r → IsSize r × IsFirstRefusal team r
of_size team (TooManyTries agent) h = (tt, h)
of_size team (TooManyActions agent n) h = (tt, h)
of_size team (TooManyFacts agent n) h = (tt, h)
of_size team OutOfMemory h = absurd h

in_order : (m n : ℕ) → (m < n) ⊎ ((n < m) ⊎ (m ≡ n))
in_order zero zero = inr (inr refl)
in_order zero (suc n) = inl (omega arith)
in_order (suc m) zero = inr (inl (omega arith))
in_order (suc m) (suc n) =
    elim (in_order m n) [
      | inl l ↦ inl (omega (arith, l))
      | inr w ↦ elim w [
        | inl l ↦ inr (inl (omega (arith, l)))
        | inr e ↦ inr (inr (ap suc e))
      ]
    ]

module _ (team : List Factor) where
  not_earlier : (r s : GroundRefusal) (h : IsFirstRefusal team r) (g : IsFirstRefusal team s) → IsSize r → h.place < g.place → ⊥
  not_earlier r s h g size less =
      breaks (known_at team h.place h.factor) r size (g.earlier h.place h.factor less h.at) h.refused

  same_place : (r s : GroundRefusal) (h : IsFirstRefusal team r) (g : IsFirstRefusal team s) → IsSize r → IsSize s → h.place ≡ g.place → r ≡ s
  same_place r s h g size other e =
      let there : slice_get team h.place ≡ Some g.factor = subst (λ i. slice_get team i ≡ Some g.factor) (sym e) g.at in
      let same : h.factor ≡ g.factor = same_Some h.factor g.factor (sym h.at ∙ there) in
      let also : IsRefusedBy (known_at team h.place h.factor) s =
      subst (λ f. IsRefusedBy (known_at team h.place f) s) (sym same) (subst (λ i. IsRefusedBy (known_at team i g.factor) s) (sym e) g.refused) in
      one_size (known_at team h.place h.factor) r s size other h.refused also

  one_refusal : (r s : GroundRefusal) → IsSize r → IsSize s → (h : IsFirstRefusal team r) (g : IsFirstRefusal team s) → r ≡ s
  one_refusal r s size other h g =
      elim (in_order h.place g.place) [
        | inl l ↦ absurd (not_earlier r s h g size l)
        | inr w ↦ elim w [
          | inl l ↦ absurd (not_earlier s r g h other l)
          | inr e ↦ same_place r s h g size other e
        ]
      ]

  one_first_size : (r s : GroundRefusal) → IsFirstSize team r → IsFirstSize team s → r ≡ s
  one_first_size r s h g =
      let p = of_size team r h in
      let q = of_size team s g in
      one_refusal r s p.0 q.0 p.1 q.1

  no_size : (r : GroundRefusal) → ((place : ℕ) (factor : Factor) → slice_get team place ≡ Some factor → IsWithin (known_at team place factor)) → IsFirstSize team r → ⊥
  no_size r within h =
      let p = of_size team r h in
      breaks (known_at team p.1.place p.1.factor) r p.0 (within p.1.place p.1.factor p.1.at) p.1.refused

-- the texts lead to one team or to one refusal
one_team : Laws → (files : Held) (texts : Texts) (team other : List Factor) → IsTeam (Some files) texts team → IsTeam (Some files) texts other → team ≡ other
one_team laws files (in_files names) team other h g = same_ok team other (one_read laws files names (Ok team) (Ok other) h g)
one_team laws files (made names texts) team other h g = same_ok team other (one_made laws texts (Ok team) (Ok other) h g)

one_text_refusal : Laws → (files : Held) (texts : Texts) (r s : FilesRefusal) → IsTextRefused (Some files) texts r → IsTextRefused (Some files) texts s → r ≡ s
one_text_refusal laws files (in_files names) r s h g = as_err (Err r) (Err s) r s (one_read laws files names (Err r) (Err s) h g) refl refl
one_text_refusal laws files (made names texts) r s h g = as_err (Err r) (Err s) r s (one_made laws texts (Err r) (Err s) h g) refl refl

team_or_refusal : Laws → (files : Held) (texts : Texts) (team : List Factor) (r : FilesRefusal) → IsTeam (Some files) texts team → IsTextRefused (Some files) texts r → ⊥
team_or_refusal laws files (in_files names) team r h g = ok_err team r (one_read laws files names (Ok team) (Err r) h g)
team_or_refusal laws files (made names texts) team r h g = ok_err team r (one_made laws texts (Ok team) (Err r) h g)

-- ---- the first files

pub one_texts : (files : Held) (first : List FileAsked) (ts us : List Text) → AreTextsOf (Some files) first ts → AreTextsOf (Some files) first us → ts ≡ us
one_texts files [] [] [] h g = refl
one_texts files [] [] (u ∷ us) h g = absurd g
one_texts files [] (t ∷ ts) us h g = absurd h
one_texts files (file ∷ first) [] us h g = absurd h
one_texts files (file ∷ first) (t ∷ ts) [] h g = absurd g
one_texts files (file ∷ first) (t ∷ ts) (u ∷ us) h g =
    let same : t ≡ u = same_Some t u (sym h.0.0 ∙ g.0.0) in
    let others : ts ≡ us = one_texts files first ts us h.1 g.1 in
    λ i. same i ∷ others i

-- the text of one of them
text_of : (held : Option Held) (first : List FileAsked) (texts : List Text) (place : ℕ) (file : FileAsked) → slice_get first place ≡ Some file → AreTextsOf held first texts → (text : Text) × IsTextOf held file text
text_of held [] texts place file at are = absurd (none-some file at)
text_of held (f ∷ first) [] place file at are = absurd are
text_of held (f ∷ first) (t ∷ texts) zero file at are = (t, subst (λ x. IsTextOf held x t) (same_Some f file at) are.0)
text_of held (f ∷ first) (t ∷ texts) (suc place) file at are = text_of held first texts place file at are.1

-- a place before another one is among those before that
get_before : (first : List FileAsked) (place later : ℕ) (file : FileAsked) → place < later → slice_get first place ≡ Some file → slice_get (take later first) place ≡ Some file
get_before [] place later file less at = absurd (none-some file at)
get_before (f ∷ first) place zero file less at = absurd (omega (arith, less))
get_before (f ∷ first) zero (suc later) file less at = at
get_before (f ∷ first) (suc place) (suc later) file less at = get_before first place later file (omega (arith, less)) at

no_text : (files : Held) (file : FileAsked) (t : Text) → files file.name ≡ None → IsTextOf (Some files) file t → ⊥
no_text files file t absent (is, short) = absurd (cc)

long_in : (most : ℕ) (found : Option Text) (t : Text) → found ≡ Some t → length t ≤ most → IsSomeAnd found (λ x. most < length x) → ⊥
long_in most None t is short long = long
long_in most (Some x) t is short long =
    let same : x ≡ t = same_Some x t is in
    let more : most < length t = subst (λ y. most < length y) same long in
    not_more (length t) most short more

long_text : (files : Held) (file : FileAsked) (t : Text) → IsSomeAnd (files file.name) (λ x. file.longest < length x) → IsTextOf (Some files) file t → ⊥
long_text files file t long (is, short) = long_in file.longest (files file.name) t is short long

none_and : {A : Type 0} (o : Option A) (P : A → Type 0) → o ≡ None → IsSomeAnd o P → ⊥
none_and None P is h = h
none_and (Some x) P is h = absurd (cc)

-- the laws of mp_replays: a text has one refused line, and none where it is replayed
pub record LineLaws : Type 0 where
  pub one :
      (value : Values) (limit : ℕ) (team : List Factor) (text : Text) (m n : ℕ)
      → All IsChecked team
      → IsRefusedLine value limit team text m → IsRefusedLine value limit team text n → m ≡ n
  pub none :
      (value : Values) (limit : ℕ) (team : List Factor) (text : Text) (found : Solution) (n : ℕ)
      → All IsChecked team
      → IsReplayed value limit team text found → IsRefusedLine value limit team text n → ⊥

-- the law of mp_optimality: a certificate's text has one refused line, and none where it fits
pub record CertificateLaws : Type 0 where
  pub one :
      (team : List Factor) (text : Text) (m n : ℕ) → All IsChecked team
      → IsCertificateRefused team text m → IsCertificateRefused team text n → m ≡ n
  pub none :
      (team : List Factor) (text : Text) (n : ℕ) → All IsChecked team
      → HasCertificate team text → IsCertificateRefused team text n → ⊥

same_line_of : (read : Result PlanText ℕ) (m n : ℕ) → read ≡ Err m → read ≡ Err n → m ≡ n
same_line_of (Ok plan) m n h g = absurd (cc)
same_line_of (Err k) m n h g = cc

plan_or_line : (read : Result PlanText ℕ) (plan : PlanText) (n : ℕ) → read ≡ Ok plan → read ≡ Err n → ⊥
plan_or_line (Ok p) plan n h g = absurd (cc)
plan_or_line (Err k) plan n h g = absurd (cc)

-- one line of one text
abbrev SameLine : ℕ → ℕ → ℕ → ℕ → Type 0
SameLine place m other n = (place ≡ other) × (m ≡ n)

-- a certificate and a plan have one refused line
one_audit_line : CertificateLaws → (team : List Factor) (certificate plan : Text) (place m other n : ℕ) → All IsChecked team → IsAuditLineRefused team certificate plan place m → IsAuditLineRefused team certificate plan other n → SameLine place m other n
one_audit_line laws team certificate plan zero m zero n all h g = (refl, laws.one team certificate m n all h g)
one_audit_line laws team certificate plan zero m (suc zero) n all h g = absurd (laws.none team certificate m all g.fits h)
one_audit_line laws team certificate plan zero m (suc (suc other)) n all h g = absurd g
one_audit_line laws team certificate plan (suc zero) m zero n all h g = absurd (laws.none team certificate n all h.fits g)
one_audit_line laws team certificate plan (suc zero) m (suc zero) n all h g = (refl, same_line_of (plan_in (length team) plan) m n h.refused g.refused)
one_audit_line laws team certificate plan (suc zero) m (suc (suc other)) n all h g = absurd g
one_audit_line laws team certificate plan (suc (suc place)) m other n all h g = absurd h

no_audit_line : CertificateLaws → (team : List Factor) (certificate plan : Text) (place n : ℕ) → All IsChecked team → IsAuditAccepted team certificate plan → IsAuditLineRefused team certificate plan place n → ⊥
no_audit_line laws team certificate plan zero n all by h = laws.none team certificate n all by.fits h
no_audit_line laws team certificate plan (suc zero) n all by h = plan_or_line (plan_in (length team) plan) by.read n by.is_plan h.refused
no_audit_line laws team certificate plan (suc (suc place)) n all by h = h

-- a team whose sizes do not keep the limits has no tasks
size_or_audit_line : (team : List Factor) (r : GroundRefusal) (certificate plan : Text) (place n : ℕ) → IsFirstSize team r → IsAuditLineRefused team certificate plan place n → ⊥
size_or_audit_line team r certificate plan zero n h g = no_size team r g.team_has.within h
size_or_audit_line team r certificate plan (suc zero) n h g = no_size team r g.fits.team_has.within h
size_or_audit_line team r certificate plan (suc (suc place)) n h g = g

-- a team and the texts of the first files have one refusal, and none where nothing of them is refused
one_line : LineLaws → CertificateLaws → (work : Work) (team : List Factor) (texts : List Text) (place m other n : ℕ) → All IsChecked team → IsTextLineRefused work team texts place m → IsTextLineRefused work team texts other n → SameLine place m other n
one_line lines laws (searched s) team texts place m other n all h g = absurd h
one_line lines laws (replayed s) team texts place m other n all h g =
    (h.0 ∙ sym g.0, lines.one (values_of s.heuristic) s.limit team (text_at texts 0) m n all h.1.1 g.1.1)
one_line lines laws checked team texts place m other n all h g =
    (h.0 ∙ sym g.0, same_line_of (plan_in (length team) (text_at texts 0)) m n h.1 g.1)
one_line lines laws audited team texts place m other n all h g =
    one_audit_line laws team (text_at texts 0) (text_at texts 1) place m other n all h g

no_line_of : LineLaws → CertificateLaws → (work : Work) (team : List Factor) (texts : List Text) (place n : ℕ) → All IsChecked team → IsAccepted work team texts → IsTextLineRefused work team texts place n → ⊥
no_line_of lines laws (searched s) team texts place n all by h = h
no_line_of lines laws (replayed s) team texts place n all by h =
    lines.none (values_of s.heuristic) s.limit team (text_at texts 0) by.1.0 n all by.1.1 h.1.1
no_line_of lines laws checked team texts place n all by h = plan_or_line (plan_in (length team) (text_at texts 0)) by.0 n by.1 h.1
no_line_of lines laws audited team texts place n all by h = no_audit_line laws team (text_at texts 0) (text_at texts 1) place n all by.1 h

one_size_of : (work : Work) (team : List Factor) (r s : GroundRefusal) → IsSizeRefused work team r → IsSizeRefused work team s → r ≡ s
one_size_of (searched s) team r q h g = one_first_size team r q h g
one_size_of (replayed s) team r q h g = one_first_size team r q h g
one_size_of checked team r q h g = absurd h
one_size_of audited team r q h g = one_first_size team r q h g

no_size_where : (work : Work) (team : List Factor) (r : GroundRefusal) (texts : List Text) → IsAccepted work team texts → IsSizeRefused work team r → ⊥
no_size_where (searched s) team r texts by h = no_size team r by h
no_size_where (replayed s) team r texts by h = no_size team r by.0 h
no_size_where checked team r texts by h = h
no_size_where audited team r texts by h = no_size team r by.0 h

size_or_line_of : (work : Work) (team : List Factor) (r : GroundRefusal) (texts : List Text) (place n : ℕ) → IsSizeRefused work team r → IsTextLineRefused work team texts place n → ⊥
size_or_line_of (searched s) team r texts place n h g = g
size_or_line_of (replayed s) team r texts place n h g = no_size team r g.1.0 h
size_or_line_of checked team r texts place n h g = h
size_or_line_of audited team r texts place n h g = size_or_audit_line team r (text_at texts 0) (text_at texts 1) place n h g

-- the least that is known where a refusal comes behind the first files
module _ (laws : Laws) (lines : LineLaws) (certificates : CertificateLaws) (files : Held) (request : TeamRequest) where
  absent_first : (place : ℕ) (h : IsFirstAbsent (Some files) request place) (first : List FileAsked) → HaveTexts (Some files) first → slice_get first place ≡ Some h.file → ⊥
  absent_first place h first (texts, are) at =
      let found = text_of (Some files) first texts place h.file at are in
      no_text files h.file found.0 h.absent found.1

  long_first : (place : ℕ) (h : IsFirstLong (Some files) request place) (first : List FileAsked) → HaveTexts (Some files) first → slice_get first place ≡ Some h.file → ⊥
  long_first place h first (texts, are) at =
      let found = text_of (Some files) first texts place h.file at are in
      long_text files h.file found.0 h.long found.1

  -- all first files fit
  absent_fits : (place : ℕ) → IsFirstAbsent (Some files) request place → HaveTexts (Some files) request.first → ⊥
  absent_fits place h have = absent_first place h request.first have h.asked

  long_fits : (place : ℕ) → IsFirstLong (Some files) request place → HaveTexts (Some files) request.first → ⊥
  long_fits place h have = long_first place h request.first have h.asked

  -- those before another one do
  absent_before : (place later : ℕ) → IsFirstAbsent (Some files) request place → place < later → HaveTexts (Some files) (take later request.first) → ⊥
  absent_before place later h less have =
      absent_first place h (take later request.first) have (get_before request.first place later h.file less h.asked)

  long_before : (place later : ℕ) → IsFirstLong (Some files) request place → place < later → HaveTexts (Some files) (take later request.first) → ⊥
  long_before place later h less have =
      long_first place h (take later request.first) have (get_before request.first place later h.file less h.asked)

  same_absent : (m n : ℕ) → IsFirstAbsent (Some files) request m → IsFirstAbsent (Some files) request n → m ≡ n
  same_absent m n h g =
      elim (in_order m n) [
        | inl l ↦ absurd (absent_before m n h l g.before)
        | inr w ↦ elim w [
          | inl l ↦ absurd (absent_before n m g l h.before)
          | inr e ↦ e
        ]
      ]

  same_long : (m n : ℕ) → IsFirstLong (Some files) request m → IsFirstLong (Some files) request n → m ≡ n
  same_long m n h g =
      elim (in_order m n) [
        | inl l ↦ absurd (long_before m n h l g.before)
        | inr w ↦ elim w [
          | inl l ↦ absurd (long_before n m g l h.before)
          | inr e ↦ e
        ]
      ]

  -- one file is not both
  not_both : (place : ℕ) → IsFirstAbsent (Some files) request place → IsFirstLong (Some files) request place → ⊥
  not_both place h g =
      let same : h.file ≡ g.file = same_Some h.file g.file (sym h.asked ∙ g.asked) in
      none_and (files g.file.name) _ (subst (λ f. files f.name ≡ None) same h.absent) g.long

  absent_or_long : (m n : ℕ) → IsFirstAbsent (Some files) request m → IsFirstLong (Some files) request n → ⊥
  absent_or_long m n h g =
      elim (in_order m n) [
        | inl l ↦ absent_before m n h l g.before
        | inr w ↦ elim w [
          | inl l ↦ long_before n m g l h.before
          | inr e ↦ not_both n (subst (λ k. IsFirstAbsent (Some files) request k) e h) g
        ]
      ]

  line_texts : (place n : ℕ) → IsLineRefused (Some files) request place n → HaveTexts (Some files) request.first
  line_texts place n h = (h.texts, h.are_texts)

  file_or_size : (r : FilesRefusal) (s : GroundRefusal) → IsFileRefused (Some files) request r → IsTooLarge (Some files) request s → ⊥
  file_or_size r s h g = team_or_refusal laws files request.texts g.team r g.is_team h.first

  file_or_line : (r : FilesRefusal) (place n : ℕ) → IsFileRefused (Some files) request r → IsLineRefused (Some files) request place n → ⊥
  file_or_line r place n h g = team_or_refusal laws files request.texts g.team r g.is_team h.first

  size_or_line : (r : GroundRefusal) (place n : ℕ) → IsTooLarge (Some files) request r → IsLineRefused (Some files) request place n → ⊥
  size_or_line r place n h g =
      let same : h.team ≡ g.team = one_team laws files request.texts h.team g.team h.is_team g.is_team in
      size_or_line_of request.work g.team r g.texts place n (subst (λ t. IsSizeRefused request.work t r) same h.refused) g.refused

  same_size : (r s : GroundRefusal) → IsTooLarge (Some files) request r → IsTooLarge (Some files) request s → r ≡ s
  same_size r s h g =
      let same : h.team ≡ g.team = one_team laws files request.texts h.team g.team h.is_team g.is_team in
      one_size_of request.work g.team r s (subst (λ t. IsSizeRefused request.work t r) same h.refused) g.refused

  same_line : (place m other n : ℕ) → IsLineRefused (Some files) request place m → IsLineRefused (Some files) request other n → SameLine place m other n
  same_line place m other n h g =
      let team : h.team ≡ g.team = one_team laws files request.texts h.team g.team h.is_team g.is_team in
      let texts : h.texts ≡ g.texts = one_texts files request.first h.texts g.texts h.are_texts g.are_texts in
      let also : IsTextLineRefused request.work g.team g.texts place m =
      subst (λ t. IsTextLineRefused request.work g.team t place m) texts
      (subst (λ t. IsTextLineRefused request.work t h.texts place m) team h.refused) in
      one_line lines certificates request.work g.team g.texts place m other n (checked_team files request.texts g.team g.is_team) also g.refused

  pub one_first : (r s : Refusal) → IsFirst files request r → IsFirst files request s → r ≡ s
  one_first (Files r) (Files s) h g = ap Files (one_text_refusal laws files request.texts r s h.first g.first)
  one_first (Files r) (Sizes s) h g = absurd (file_or_size r s h g)
  one_first (Files r) (First q first.Read) h g = absurd (absent_fits q g h.first_texts)
  one_first (Files r) (First q first.TooLarge) h g = absurd (long_fits q g h.first_texts)
  one_first (Files r) (First q (first.Line n)) h g = absurd (file_or_line r q n h g)
  one_first (Sizes r) (Files s) h g = absurd (file_or_size s r g h)
  one_first (Sizes r) (Sizes s) h g = ap Sizes (same_size r s h g)
  one_first (Sizes r) (First q first.Read) h g = absurd (absent_fits q g h.first_texts)
  one_first (Sizes r) (First q first.TooLarge) h g = absurd (long_fits q g h.first_texts)
  one_first (Sizes r) (First q (first.Line n)) h g = absurd (size_or_line r q n h g)
  one_first (First p first.Read) (Files s) h g = absurd (absent_fits p h g.first_texts)
  one_first (First p first.Read) (Sizes s) h g = absurd (absent_fits p h g.first_texts)
  one_first (First p first.Read) (First q first.Read) h g = ap (λ i. First i first.Read) (same_absent p q h g)
  one_first (First p first.Read) (First q first.TooLarge) h g = absurd (absent_or_long p q h g)
  one_first (First p first.Read) (First q (first.Line n)) h g = absurd (absent_fits p h (line_texts q n g))
  one_first (First p first.TooLarge) (Files s) h g = absurd (long_fits p h g.first_texts)
  one_first (First p first.TooLarge) (Sizes s) h g = absurd (long_fits p h g.first_texts)
  one_first (First p first.TooLarge) (First q first.Read) h g = absurd (absent_or_long q p g h)
  one_first (First p first.TooLarge) (First q first.TooLarge) h g = ap (λ i. First i first.TooLarge) (same_long p q h g)
  one_first (First p first.TooLarge) (First q (first.Line n)) h g = absurd (long_fits p h (line_texts q n g))
  one_first (First p (first.Line m)) (Files s) h g = absurd (file_or_line s p m g h)
  one_first (First p (first.Line m)) (Sizes s) h g = absurd (size_or_line s p m g h)
  one_first (First p (first.Line m)) (First q first.Read) h g = absurd (absent_fits q g (line_texts p m h))
  one_first (First p (first.Line m)) (First q first.TooLarge) h g = absurd (long_fits q g (line_texts p m h))
  one_first (First p (first.Line m)) (First q (first.Line n)) h g =
      let same = same_line p m q n h g in
      λ i. First (same.0 i) (first.Line (same.1 i))

  no_size_first : (texts : List Text) (team : List Factor) (r : GroundRefusal) → IsTeam (Some files) request.texts team → IsAccepted request.work team texts → IsTooLarge (Some files) request r → ⊥
  no_size_first texts team r is_team by h =
      let same : h.team ≡ team = one_team laws files request.texts h.team team h.is_team is_team in
      no_size_where request.work team r texts by (subst (λ t. IsSizeRefused request.work t r) same h.refused)

  -- no line is refused where the first texts are accepted
  no_line : (texts : List Text) (team : List Factor) (place n : ℕ) → AreTextsOf (Some files) request.first texts → IsTeam (Some files) request.texts team → IsAccepted request.work team texts → IsLineRefused (Some files) request place n → ⊥
  no_line texts team place n are is_team by h =
      let same_team : team ≡ h.team = one_team laws files request.texts team h.team is_team h.is_team in
      let same_texts : texts ≡ h.texts = one_texts files request.first texts h.texts are h.are_texts in
      let accepted : IsAccepted request.work h.team h.texts =
      subst (λ t. IsAccepted request.work t h.texts) same_team (subst (λ t. IsAccepted request.work team t) same_texts by) in
      no_line_of lines certificates request.work h.team h.texts place n (checked_team files request.texts h.team h.is_team) accepted h.refused

  pub none_first : (texts : List Text) (team : List Factor) (r : Refusal) → AreTextsOf (Some files) request.first texts → IsTeam (Some files) request.texts team → IsAccepted request.work team texts → IsFirst files request r → ⊥
  none_first texts team (Files r) are is_team by h = team_or_refusal laws files request.texts team r is_team h.first
  none_first texts team (Sizes r) are is_team by h = no_size_first texts team r is_team by h
  none_first texts team (First place first.Read) are is_team by h = absent_fits place h (texts, are)
  none_first texts team (First place first.TooLarge) are is_team by h = long_fits place h (texts, are)
  none_first texts team (First place (first.Line n)) are is_team by h = no_line texts team place n are is_team by h
