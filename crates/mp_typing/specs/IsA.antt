-- Which types lie under which (typing of PDDL 2.1).
use Rattle.std.specs.Prelude.{◌≡◌, ℕ, List, Contains, codes}
use Rattle.mp_forms.specs.declared.typed_values.Typed.{Typed}
use Rattle.mp_typing.specs.Names.{names_of}

-- the type under which every type lies
unfoldable pub object_name : List ℕ
object_name = codes "object"

-- a declaration puts one type directly under another
pub record DeclaredUnder (declared : List Typed) (sub sup : List ℕ) : Type 0 where
  pub declaration : Typed
  pub listed : Contains declared declaration
  pub lower : declaration.word.name ≡ sub
  pub upper : Contains (names_of declaration.types) sup

-- One type is another or lies under it: the least reflexive and transitive relation that holds where a declaration
-- puts one type directly under another, and that puts every type under `object`.
pub data IsA (declared : List Typed) : List ℕ → List ℕ → Type 0 where
  same : {name : List ℕ} → IsA declared name name
  step : {sub middle sup : List ℕ} → DeclaredUnder declared sub middle → IsA declared middle sup → IsA declared sub sup
  through_object : {sub sup : List ℕ} → IsA declared object_name sup → IsA declared sub sup

-- a type is one of the tops or lies under one
pub record IsUnderOne (declared : List Typed) (tops : List (List ℕ)) (name : List ℕ) : Type 0 where
  pub top : List ℕ
  pub among : Contains tops top
  pub under : IsA declared name top
