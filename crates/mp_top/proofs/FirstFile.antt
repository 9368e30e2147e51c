-- From what was fetched of the first file to what it holds.
use Rattle.std.proofs.Common.{◌≡◌, ◌+◌, ◌<◌, ◌≤◌, ◌∙◌, inl, inr, ℕ, min, length, take, Option, Some, None, IfSome, IsSomeAnd, ap, sym, arith}
use Rattle.std.specs.Prelude.{slice_get}
use Rattle.std.proofs.lemmas.List.{length-take, take_all}
use Rattle.mp_joint.specs.Fact.{Text}
use Rattle.mp_outside.specs.Acts.{FileAsked}
use Rattle.mp_outside.specs.Source.{Files as Held, FaultAt, IsFrontOf, Lacks}
use Rattle.mp_files.specs.Cause.{SeenSource}
use Rattle.mp_top.specs.Asked.{TeamRequest}
use Rattle.mp_top.specs.Cause.{CannotReadFirst}
use Rattle.mp_top.specs.First.{IsFirstLong}
use Rattle.mp_top.specs.FirstText.{HaveTexts}

-- a front of n + 1 bytes that is not longer than n is the whole
front_is_whole : (n : ℕ) (whole bytes : Text) → bytes ≡ take (n + 1) whole → length bytes ≤ n → bytes ≡ whole
front_is_whole n whole bytes e h =
    let m : length bytes ≡ min (n + 1) (length whole) = ap length e ∙ length-take (n + 1) whole in
    let within : length whole ≤ n + 1 = omega (arith, m, h) in
    e ∙ take_all (n + 1) whole within

whole_in : (n : ℕ) (o : Option Text) (bytes : Text) → IsSomeAnd o (λ whole. bytes ≡ take (n + 1) whole) → length bytes ≤ n → o ≡ Some bytes
whole_in n None bytes e h = absurd e
whole_in n (Some whole) bytes e h = ap Some (sym (front_is_whole n whole bytes e h))

long_in : (n : ℕ) (o : Option Text) (bytes : Text) → IsSomeAnd o (λ whole. bytes ≡ take (n + 1) whole) → n < length bytes → IsSomeAnd o (λ t. n < length t)
long_in n None bytes e h = absurd e
long_in n (Some whole) bytes e h =
    let m : length bytes ≡ min (n + 1) (length whole) = ap length e ∙ length-take (n + 1) whole in
    omega (arith, m, h)

-- a front that is short is the file's text
pub text_held : (n : ℕ) (held : Option Held) (name bytes : Text) → IsFrontOf held name (n + 1) bytes → length bytes ≤ n → IfSome held (λ files. files name ≡ Some bytes)
text_held n None name bytes f h = tt
text_held n (Some files) name bytes f h = whole_in n (files name) bytes f h

-- and one that is long shows that the file is
pub long_held : (n : ℕ) (held : Option Held) (name bytes : Text) → IsFrontOf held name (n + 1) bytes → n < length bytes → IfSome held (λ files. IsSomeAnd (files name) (λ t. n < length t))
long_held n None name bytes f h = tt
long_held n (Some files) name bytes f h = long_in n (files name) bytes f h

pub too_long : (held : Option Held) (request : TeamRequest) (place : ℕ) (file : FileAsked) → slice_get request.first place ≡ Some file → HaveTexts held (take place request.first) → IfSome held (λ files. IsSomeAnd (files file.name) (λ t. file.longest < length t)) → IsFirstLong held request place
too_long held request place file asked before long = record { file = file; asked = asked; before = before; long = long }

pub absent : (source : SeenSource) (request : TeamRequest) (place : ℕ) (file : FileAsked) → slice_get request.first place ≡ Some file → HaveTexts source.held (take place request.first) → Lacks source.held file.name → CannotReadFirst source request place
absent source request place file asked before lacks = record { file = file; asked = asked; before = before; because = inl lacks }

pub failed : (source : SeenSource) (request : TeamRequest) (place : ℕ) (file : FileAsked) → slice_get request.first place ≡ Some file → HaveTexts source.held (take place request.first) → source.before < source.now → FaultAt source.held source.fault_at (Some file.name) → CannotReadFirst source request place
failed source request place file asked before rose at = record { file = file; asked = asked; before = before; because = inr (rose, at) }
