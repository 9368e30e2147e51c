-- A domain and a problem as contracts see them.
use Rattle.std.specs.Prelude.{Bool, List}
use Rattle.mp_forms.specs.declared.word.Word.{Word}
use Rattle.mp_forms.specs.declared.typed_values.Typed.{Typed}
use Rattle.mp_forms.specs.declared.signature_values.Signature.{Signature}
use Rattle.mp_forms.specs.declared.atom_values.Atom.{Atom}
use Rattle.mp_forms.specs.declared.literal.Literal.{Literal}
use Rattle.mp_forms.specs.declared.init_values.Value.{Value}
use Rattle.mp_forms.specs.declared.schema_values.Schema.{Schema}

pub record DomainParts : Type 0 where
  pub word : Word
  pub types : List Typed
  pub constants : List Typed
  pub predicates : List Signature
  pub functions : List Signature
  pub schemas : List Schema

pub record ProblemParts : Type 0 where
  pub word : Word
  pub domain : Word
  pub objects : List Typed
  pub init : List Atom
  pub values : List Value
  pub goals : List Literal
  pub metric : Bool
