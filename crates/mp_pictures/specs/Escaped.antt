-- Bytes as they stand between the tags of an XML document.
use Rattle.std.specs.Prelude.{ℕ, List, [], ◌∷◌, ◌==◌, nat_lt, if◌then◌else◌, codes}

-- `&`, `<` and `>` as entities, and `?` for what is no printed character of ASCII
unfoldable pub escaped_byte : ℕ → List ℕ
escaped_byte b =
    if b == 38 then codes "&amp;"
    else (if b == 60 then codes "&lt;"
    else (if b == 62 then codes "&gt;"
    else (if nat_lt b 32 then 63 ∷ []
    else (if nat_lt 126 b then 63 ∷ [] else b ∷ []))))
