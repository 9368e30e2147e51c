-- What is kept of the objects while their declarations are read.
use Rattle.std.specs.Prelude.{◌≡◌, List}
use Rattle.mp_forms.specs.declared.typed_values.Typed.{Typed}
use Rattle.mp_typing.specs.Indexed.{Entry, HasPlaces}
use Rattle.mp_typing.specs.ObjectList.{first_declared}

-- the place of each name, and the first declaration of each name in order
pub record AreFound (declared : List Typed) (places : List Entry) (listed : List Typed) : Type 0 where
  pub placed : HasPlaces places declared
  pub first : listed ≡ first_declared declared
