-- Theorems: names with types.
use Rattle.std.specs.Prelude.{ℕ, List, [], All}
use Rattle.std.specs.Coded.{Coded, code_by, coded×, coded_ℕ, coded_list}
use mathlib.Core.Path.{refl}
use Rattle.lf_definitions.specs.Syntax.{LfType}
use Rattle.lf_definitions.specs.Codes.{type_code}
use Rattle.lf_definitions.specs.Signatures.{LfSignature, kinds_in, typing_in}
use Rattle.lf_definitions.specs.Typing.{Formed}

pub record LfTheorem : Type 0 where
  pub name : List ℕ
  pub type : LfType

abbrev theorem_parts : LfTheorem → List ℕ × LfType
theorem_parts theorem = (theorem.name, theorem.type)

abbrev parts_theorem : List ℕ × LfType → LfTheorem
parts_theorem (name, type) = record { name = name; type = type }

-- a code, by which a proof tells values apart of structs that are seen as theorems
abbrev pub theorems_code : Coded (List LfTheorem)
theorems_code = coded_list (code_by (List ℕ × LfType) (coded× (coded_list coded_ℕ) type_code) theorem_parts parts_theorem (λ _. refl))

-- The types of the theorems are well formed over the signature, with no variables around them.
abbrev pub AreFormed : LfSignature → List LfTheorem → Type 0
AreFormed sig theorems = All (λ theorem. Formed (kinds_in sig) (typing_in sig [] []) theorem.type) theorems
