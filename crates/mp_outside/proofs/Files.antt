-- The file at a place whose name is the one that is looked for.
use Rattle.std.proofs.Common.{◌≡◌, ℕ, ◌<◌, List, length, drop, get_or, Some, true, refl, ap, sym, ◌∙◌, string_bytes, slice_get}
use Rattle.std.proofs.lemmas.Option.{slice_get_read}
use Rattle.std.proofs.lemmas.Slice.Eq.{bytes_eq-Decides}
use Rattle.std.proofs.Math.Seq.{drop-cons}
use Rattle.std.specs.Str.{bytes_eq}
use Rattle.mp_outside.specs.Memory.{held_in, name_at, rest_at}
use Rattle.mp_outside.specs.declared.named_text.NamedText.{NamedText}

-- the file at a place has a name, which was read as `read`
pub record HasName (files : List NamedText) (place : ℕ) (f : NamedText) (read name : List ℕ) : Type 0 where
  pub within : place < length files
  pub is : f ≡ get_or files place f
  pub value : read ≡ string_bytes f.name
  pub same : true ≡ bytes_eq read name

at_place : (files : List NamedText) (name read : List ℕ) (place : ℕ) (f : NamedText) → HasName files place f read name → slice_get files place ≡ Some f
at_place files name read place f h = slice_get_read files (length files) place f refl h.within h.is

found : (files : List NamedText) (name read : List ℕ) (place : ℕ) (f : NamedText) → HasName files place f read name → held_in (drop place files) name ≡ Some f.text.items
found files name read place f h =
    let t : bytes_eq (string_bytes f.name) name ≡ true = sym (h.same ∙ ap (λ r. bytes_eq r name) h.value) in
    let w : place < length files = h.within in
    rw (drop-cons files place f, ← h.is) (rw t refl)

pub whole_at : (files : List NamedText) (name read : List ℕ) (place : ℕ) (f : NamedText) → HasName files place f read name → held_in (drop place files) name ≡ held_in files name → rest_at files place 0 ≡ held_in files name
whole_at files name read place f h i =
    rw (at_place files name read place f h) (sym (found files name read place f h) ∙ i)

pub named_at : (files : List NamedText) (name read : List ℕ) (place : ℕ) (f : NamedText) → HasName files place f read name → name_at files place ≡ Some name
named_at files name read place f h =
    rw (at_place files name read place f h) (ap Some (sym h.value ∙ (bytes_eq-Decides read name).0 (sym h.same)))
