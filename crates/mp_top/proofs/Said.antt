-- What a sink gained, whether or not the writing ended well.
use Rattle.std.proofs.Common.{◌≡◌, ◌↔◌, IsErr, refl, ℕ, ◌<◌, List, ◌++◌, length, Option, Some, None, Result, Ok, Err, OnOk, OnErr, arith, sym, ap, ◌∙◌}
use Rattle.std.proofs.Math.Seq.{take-length}
use Rattle.std.specs.Io.KnownBytes.{Appends}
use Rattle.mp_outside.specs.Sink.{AppendsBeginning}

-- all of a text is a beginning of it
pub whole_is_beginning : (old new : Option (List ℕ)) (text : List ℕ) → Appends old new text → AppendsBeginning old new text
whole_is_beginning None new text h = tt
whole_is_beginning (Some xs) None text h = tt
whole_is_beginning (Some xs) (Some ys) text h = (length text, h ∙ ap (λ t. xs ++ t) (sym (take-length text)))

pub said : {X Y : Type 0} (r : Result X Y) (old new : Option (List ℕ)) (before now : ℕ) (text : List ℕ) → OnOk r (Appends old new text) → OnErr r (AppendsBeginning old new text) → (IsErr r ↔ (before < now)) → AppendsBeginning old new text × (now ≡ before → Appends old new text)
said (Ok x) old new before now text ok err failed = (whole_is_beginning old new text ok, λ _. ok)
said (Err e) old new before now text ok err failed =
    let risen : before < now = failed.0 refl in
    (err, λ same. absurd (omega arith))
