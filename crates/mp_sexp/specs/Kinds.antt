-- The kinds of bytes, as the reader tells them apart.
use Rattle.std.specs.Prelude.{ℕ, ◌==◌, ◌&&◌, nat_le, Bool, true, false, if◌then◌else◌}
use Rattle.mp_sexp.specs.declared.bytes.Kind.{Kind}
use Rattle.mp_sexp.specs.declared.bytes.Kind.TheVariants.{Space, Comment, Open, Close, Word, Foreign}
use Rattle.mp_sexp.specs.Bytes.{is_space, open_bracket, close_bracket, semicolon}

unfoldable pub kind_of : ℕ → Kind
kind_of b =
    if b == open_bracket then Open
    else if b == close_bracket then Close
    else if b == semicolon then Comment
    else if is_space b then Space
    else if nat_le 33 b && nat_le b 126 then Word
    else Foreign

abbrev pub is_word_kind : Kind → Bool
is_word_kind Space = false
is_word_kind Comment = false
is_word_kind Open = false
is_word_kind Close = false
is_word_kind Word = true
is_word_kind Foreign = false
