-- From what was fetched to what the files hold.
use Rattle.std.proofs.Common.{◌≡◌, ◌+◌, ◌<◌, ◌≤◌, inl, inr, ℕ, min, length, take, List, [], ◌∷◌, ◌++◌, Option, Some, None, Ok, Err, IfSome, IsSomeAnd, refl, sym, subst, ap, ◌∙◌, arith}
use Rattle.std.specs.Prelude.{slice_get}
use Rattle.std.proofs.lemmas.List.{length-take, take_all}
use Rattle.mp_joint.specs.Fact.{Text}
use Rattle.mp_outside.specs.Source.{Files, FaultAt, IsFrontOf, Lacks}
use Rattle.mp_forms.specs.declared.files.File.{File}
use Rattle.mp_forms.specs.declared.files.File.TheVariants as file
use Rattle.mp_files.specs.Cause.{AreFittingBefore, IsFittingBefore, Rests, SeenSource, name_in}
use Rattle.mp_files.specs.Fetched.{AreFetched, IsFetched, IsTextOf}
use Rattle.mp_files.specs.File.{IsLong, file_of, longest_file}
use Rattle.mp_files.specs.Reading.{AreRead}
use Rattle.mp_files.specs.Team.{FetchesTwo, IsFirst, Two}
use Rattle.mp_files.specs.declared.refusal.Refusal.{Refusal}
use Rattle.mp_files.specs.declared.refusal.Refusal.TheVariants as why
use Rattle.mp_files.proofs.Each.{item_within, read_more}

-- a front that is not longer than a file may be is the whole of it
front_is_whole : (whole bytes : Text) → bytes ≡ take (longest_file + 1) whole → length bytes ≤ longest_file → bytes ≡ whole
front_is_whole whole bytes e h =
    let m : length bytes ≡ min (longest_file + 1) (length whole) = ap length e ∙ length-take (longest_file + 1) whole in
    let within : length whole ≤ longest_file + 1 = omega (arith, m) in
    e ∙ take_all (longest_file + 1) whole within

whole_in : (o : Option Text) (bytes : Text) → IsSomeAnd o (λ whole. bytes ≡ take (longest_file + 1) whole) → length bytes ≤ longest_file → o ≡ Some bytes
whole_in None bytes e h = absurd e
whole_in (Some whole) bytes e h = ap Some (sym (front_is_whole whole bytes e h))

long_in : (o : Option Text) (bytes : Text) → IsSomeAnd o (λ whole. bytes ≡ take (longest_file + 1) whole) → longest_file < length bytes → IsSomeAnd o (λ t. longest_file < length t)
long_in None bytes e h = absurd e
long_in (Some whole) bytes e h =
    let m : length bytes ≡ min (longest_file + 1) (length whole) = ap length e ∙ length-take (longest_file + 1) whole in
    omega (arith, m)

-- a front that is short is the file's text
pub text_held : (held : Option Files) (name bytes : Text) → IsFrontOf held name (longest_file + 1) bytes → length bytes ≤ longest_file → IsTextOf held name bytes
text_held None name bytes f h = tt
text_held (Some files) name bytes f h = whole_in (files name) bytes f h

-- and one that is long shows that the file is
pub long_held : (held : Option Files) (name bytes : Text) → IsFrontOf held name (longest_file + 1) bytes → longest_file < length bytes → IfSome held (λ files. IsSomeAnd (files name) (λ t. longest_file < length t))
long_held None name bytes f h = tt
long_held (Some files) name bytes f h = long_in (files name) bytes f h

-- through options
pub if_both : {A : Type 0} (o : Option A) (P Q R : A → Type 0) → ((x : A) → P x → Q x → R x) → IfSome o P → IfSome o Q → IfSome o R
if_both None P Q R f p q = tt
if_both (Some x) P Q R f p q = f x p q

pub if_more : {A : Type 0} (o : Option A) (P Q : A → Type 0) → ((x : A) → P x → Q x) → IfSome o P → IfSome o Q
if_more None P Q f p = tt
if_more (Some x) P Q f p = f x p

-- the text of a file that fits
fitting_text : (o : Option Text) → IsSomeAnd o (λ t. length t ≤ longest_file) → (t : Text) × (o ≡ Some t) × (length t ≤ longest_file)
fitting_text None h = absurd h
fitting_text (Some t) h = (t, refl, h)

-- a text that is short is that of a file that fits
in_file : (P : Text → Type 0) (o : Option Text) (text : Text) → o ≡ Some text → P text → IsSomeAnd o P
in_file P None text e p = absurd (cc)
in_file P (Some t) text e p = let same : t ≡ text = cc in subst P (sym same) p

-- where both files of the agents before an agent fit, a refusal of one of its files is the first one
module _ (files : Files) (team : List Two) (agent : ℕ) (names : Two) (there : slice_get team agent ≡ Some names) (before : AreFittingBefore files team agent) where
  fetched_before : (other : ℕ) (two : Two) → other < agent → slice_get team other ≡ Some two → (t : Two) × FetchesTwo files other two (Ok t)
  fetched_before other two less at =
      let fit = before other two less at in
      let d = fitting_text (files two.domain) fit.0 in
      let p = fitting_text (files two.problem) fit.1 in
      (record { domain = d.0; problem = p.0 }, (d.0, (d.1, d.2), (p.0, (p.1, p.2), refl)))

  refused_at : (r : Refusal) → FetchesTwo files agent names (Err r) → IsFirst files team r
  refused_at r h = inl (record { place = agent; item = names; at = there; refused = h; earlier = fetched_before })

  absent_first : (which : File) → IsFittingBefore files names which → files (name_in names which) ≡ None → IsFirst files team (why.Read (file_of agent which))
  absent_first file.Domain fits absent = refused_at _ (inl (refl, absent))
  absent_first file.Problem fits absent =
      let d = fitting_text (files names.domain) fits in
      refused_at _ (inr (d.0, (d.1, d.2), inl (refl, absent)))

  long_first : (which : File) → IsFittingBefore files names which → IsLong (files (name_in names which)) → IsFirst files team (why.TooLarge (file_of agent which))
  long_first file.Domain fits long = refused_at _ (inl (refl, long))
  long_first file.Problem fits long =
      let d = fitting_text (files names.domain) fits in
      refused_at _ (inr (d.0, (d.1, d.2), inl (refl, long)))

absent_in : (held : Option Files) (team : List Two) (agent : ℕ) (names : Two) (which : File) → slice_get team agent ≡ Some names → IfSome held (λ files. AreFittingBefore files team agent) → IfSome held (λ files. IsFittingBefore files names which) → Lacks held (name_in names which) → IsSomeAnd held (λ files. IsFirst files team (why.Read (file_of agent which)))
absent_in None team agent names which there before own absent = absurd absent
absent_in (Some files) team agent names which there before own absent = absent_first files team agent names there before which own absent

-- a file that the source does not hold cannot be read
pub absent_file : (source : SeenSource) (team : List Two) (agent : ℕ) (names : Two) (which : File) → slice_get team agent ≡ Some names → IfSome source.held (λ files. AreFittingBefore files team agent) → IfSome source.held (λ files. IsFittingBefore files names which) → Lacks source.held (name_in names which) → Rests source team (why.Read (file_of agent which))
absent_file source team agent names which there before own absent = record {
  own = names;
  named = there;
  because = inl (absent_in source.held team agent names which there before own absent);
}

-- and one at which the source had a fault cannot
pub failed_file : (source : SeenSource) (team : List Two) (agent : ℕ) (names : Two) (which : File) → slice_get team agent ≡ Some names → IfSome source.held (λ files. AreFittingBefore files team agent) → IfSome source.held (λ files. IsFittingBefore files names which) → source.before < source.now → FaultAt source.held source.fault_at (Some (name_in names which)) → Rests source team (why.Read (file_of agent which))
failed_file source team agent names which there before own rose place = record {
  own = names;
  named = there;
  because = inr (record {
    count = rose;
    place = place;
    others = if_both source.held (λ files. AreFittingBefore files team agent) (λ files. IsFittingBefore files names which) _ (λ files a b. (a, b)) before own;
  });
}

pub too_large : (held : Option Files) (team : List Two) (agent : ℕ) (names : Two) (which : File) → slice_get team agent ≡ Some names → IfSome held (λ files. AreFittingBefore files team agent) → IfSome held (λ files. IsFittingBefore files names which) → IfSome held (λ files. IsLong (files (name_in names which))) → IfSome held (λ files. IsFirst files team (why.TooLarge (file_of agent which)))
too_large None team agent names which there before own long = tt
too_large (Some files) team agent names which there before own long = long_first files team agent names there before which own long

-- the files of agents whose texts were fetched fit
fits_of : (o : Option Text) (t : Text) → o ≡ Some t → length t ≤ longest_file → IsSomeAnd o (λ x. length x ≤ longest_file)
fits_of o t e short = in_file (λ x. length x ≤ longest_file) o t e short

fetched_fit : (files : Files) (team texts : List Two) → AreRead (FetchesTwo files) team texts → AreFittingBefore files team (length texts)
fetched_fit files team texts read before other less at =
    let t = item_within texts before less in
    let h = read.each before other t.0 at t.1 in
    (fits_of (files other.domain) h.0 h.1.0 h.1.1, fits_of (files other.problem) h.2.0 h.2.1.0 h.2.1.1)

pub fetched_before_fit : (held : Option Files) (team texts : List Two) → AreFetched held team texts → IfSome held (λ files. AreFittingBefore files team (length texts))
fetched_before_fit held team texts h = if_more held (λ files. AreRead (FetchesTwo files) team texts) _ (λ files r. fetched_fit files team texts r) h

-- the texts of one agent more
pub fetched_more : (held : Option Files) (team texts : List Two) (names two : Two) → AreFetched held team texts → slice_get team (length texts) ≡ Some names → IsFetched held (length texts) names two → AreFetched held team (texts ++ two ∷ [])
fetched_more None team texts names two h at t = tt
fetched_more (Some files) team texts names two h at t = read_more (FetchesTwo files) team texts h names two at t
