-- What a signature keeps, and the entries that it is.
use Rattle.std.specs.Prelude.{◌≡◌, ℕ, zero, suc, ◌<◌, ◌^◌, List, [], ◌∷◌, length}
use Rattle.lf_definitions.specs.Syntax.{SimpleType, shapes_of_types}
use Rattle.lf_definitions.specs.Signatures.{LfEntry, family_entry, constant_entry, LfSignature, names_of, constant_types, FormedSignature}
use Rattle.lf_terms.specs.Types.{type_of}
use Rattle.lf_terms.specs.declared.found.Found.{Found}
use Rattle.lf_terms.specs.declared.found.Found.TheVariants.{Family, Const, Absent}
use Rattle.lf_terms.specs.declared.signature.FamilyEntry.{FamilyEntry}
use Rattle.lf_terms.specs.declared.signature.ConstEntry.{ConstEntry}

abbrev pub entry_of_family : FamilyEntry → LfEntry
entry_of_family f = family_entry f.name f.kind.binders

abbrev pub entry_of_constant : ConstEntry → LfEntry
entry_of_constant c = constant_entry c.name (type_of c.ty)

-- The families and the constants, each the next of its kind, in this order.
abbrev pub signature_entries : List Found → List FamilyEntry → List ConstEntry → LfSignature
signature_entries [] fs cs = []
signature_entries (Family k ∷ order) (f ∷ fs) cs = entry_of_family f ∷ signature_entries order fs cs
signature_entries (Family k ∷ order) [] cs = []
signature_entries (Const k ∷ order) fs (c ∷ cs) = entry_of_constant c ∷ signature_entries order fs cs
signature_entries (Const k ∷ order) fs [] = []
signature_entries (Absent ∷ order) fs cs = signature_entries order fs cs

-- what each entry is found as, where the families and the constants are counted from these numbers
abbrev pub numbers_from : ℕ → ℕ → LfSignature → List Found
numbers_from i j [] = []
numbers_from i j (family_entry name kind ∷ sig) = Family i ∷ numbers_from (suc i) j sig
numbers_from i j (constant_entry name type ∷ sig) = Const j ∷ numbers_from i (suc j) sig

abbrev pub families_in : List Found → ℕ
families_in [] = zero
families_in (Family k ∷ order) = suc (families_in order)
families_in (Const k ∷ order) = families_in order
families_in (Absent ∷ order) = families_in order

abbrev pub constants_in : List Found → ℕ
constants_in [] = zero
constants_in (Family k ∷ order) = constants_in order
constants_in (Const k ∷ order) = suc (constants_in order)
constants_in (Absent ∷ order) = constants_in order

-- what is true of what is kept for the entries
pub record Keeps (sig : LfSignature) (names : List (List ℕ)) (order : List Found) (families : List FamilyEntry) (constants : List ConstEntry) (shapes : List SimpleType) : Type 0 where
  pub names_are : names ≡ names_of sig
  pub order_is : order ≡ numbers_from 0 0 sig
  pub families_are : families_in order ≡ length families
  pub constants_are : constants_in order ≡ length constants
  pub shapes_are : shapes ≡ shapes_of_types (constant_types sig)
  pub few : length sig < 2 ^ 16
  pub formed : FormedSignature sig
