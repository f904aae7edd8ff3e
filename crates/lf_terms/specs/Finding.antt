-- What a name stands for in a signature.
use Rattle.std.specs.Prelude.{◌≡◌, ℕ, List, Some, slice_get}
use Rattle.lf_definitions.specs.Signatures.{LfSignature, family_names, constant_names, IsNewName}
use Rattle.lf_terms.specs.declared.found.Found.{Found}
use Rattle.lf_terms.specs.declared.found.Found.TheVariants.{Family, Const, Absent}

-- the family or the constant of this number has the name, or no entry has it
abbrev pub Finds : LfSignature → List ℕ → Found → Type 0
Finds sig name (Family k) = slice_get (family_names sig) k ≡ Some name
Finds sig name (Const k) = slice_get (constant_names sig) k ≡ Some name
Finds sig name Absent = IsNewName sig name
