-- What adding an entry to a signature answers, and what the signature then is.
use Rattle.std.specs.Prelude.{◌≡◌, ℕ, ◌<◌, List, [], ◌∷◌, ◌++◌, length, Result, Ok, Err, Some}
use Rattle.basics.specs.Limits.{most_symbols}
use Rattle.lf_definitions.specs.Failures.{FailsType, FailsKind}
use Rattle.lf_definitions.specs.Signatures.{LfEntry, family_entry, constant_entry, LfSignature, name_of_entry, names_of, family_kinds, constant_types, kinds_in, typing_in, FormedEntry, IsNewName}
use Rattle.basics.specs.Places.{place_of}
use Rattle.lf_kernel.specs.declared.sig_fault.SigFault.{SigFault}
use Rattle.lf_kernel.specs.declared.sig_fault.SigFault.TheVariants.{Taken, Full, Ill, NoMemory}

-- how many families or constants stand before the entry, which is its number
abbrev pub number_for : LfSignature → LfEntry → ℕ
number_for sig (family_entry name kind) = length (family_kinds sig)
number_for sig (constant_entry name type) = length (constant_types sig)

-- An entry fails to be well formed over a signature at the path at which its kind or its type does.
abbrev pub FailsEntry : LfSignature → LfEntry → List ℕ → Type 0
FailsEntry sig (family_entry name kind) path = FailsKind (kinds_in sig) (typing_in sig [] []) kind path
FailsEntry sig (constant_entry name type) path = FailsType (kinds_in sig) (typing_in sig [] []) type path

-- The name is new, and there is room for one more entry.
abbrev pub MayAdd : LfSignature → List ℕ → Type 0
MayAdd sig name = IsNewName sig name × (length sig < most_symbols)

-- An entry is added under its number where it is well formed, its name is new and there is room. Otherwise it isn't, and the signature is as it was.
abbrev pub AddsEntry : LfSignature → LfSignature → LfEntry → Result ℕ SigFault → Type 0
AddsEntry before after entry (Ok number) = MayAdd before (name_of_entry entry) × FormedEntry before entry × (number ≡ number_for before entry) × (after ≡ before ++ entry ∷ [])
AddsEntry before after entry (Err (Taken place)) = (place_of (names_of before) (name_of_entry entry) ≡ Some place) × (after ≡ before)
AddsEntry before after entry (Err Full) = IsNewName before (name_of_entry entry) × (length before ≡ most_symbols) × (after ≡ before)
AddsEntry before after entry (Err (Ill path)) = MayAdd before (name_of_entry entry) × FailsEntry before entry path × (after ≡ before)
AddsEntry before after entry (Err (NoMemory name)) = (name ≡ name_of_entry entry) × (after ≡ before)

-- the test of the name and of the room alone
abbrev pub MayAddOr : LfSignature → List ℕ → Result (Unit {0}) SigFault → Type 0
MayAddOr sig name (Ok done) = MayAdd sig name
MayAddOr sig name (Err (Taken place)) = place_of (names_of sig) name ≡ Some place
MayAddOr sig name (Err Full) = IsNewName sig name × (length sig ≡ most_symbols)
MayAddOr sig name (Err (Ill path)) = ⊥
MayAddOr sig name (Err (NoMemory back)) = ⊥
