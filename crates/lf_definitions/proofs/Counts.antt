-- A signature has as many names as kinds and as types.
use Rattle.std.proofs.Common.{◌≡◌, suc, [], ◌∷◌, length, refl, ap}
use Rattle.lf_definitions.specs.Signatures.{family_entry, constant_entry, LfSignature, family_names, family_kinds, constant_names, constant_types}

pub length-family_names : (sig : LfSignature) → length (family_names sig) ≡ length (family_kinds sig)
length-family_names [] = refl
length-family_names (family_entry name kind ∷ sig) = ap suc (length-family_names sig)
length-family_names (constant_entry name type ∷ sig) = length-family_names sig

pub length-constant_names : (sig : LfSignature) → length (constant_names sig) ≡ length (constant_types sig)
length-constant_names [] = refl
length-constant_names (family_entry name kind ∷ sig) = length-constant_names sig
length-constant_names (constant_entry name type ∷ sig) = ap suc (length-constant_names sig)
