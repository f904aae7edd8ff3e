-- Equations, seen as pairs of atoms.
use Rattle.std.specs.Prelude.{ℕ, List, Bool, false, not}
use Rattle.std.specs.Coded.{Coded, code_by, coded×, coded_ℕ, coded_list}
use mathlib.Core.Path.{refl}
use Rattle.lf_definitions.specs.Syntax.{LfTerm, lam, at, Spine, LfAtom}
use Rattle.lf_definitions.specs.Codes.{spine_code}
use Rattle.head_laws.specs.Mentions.{is_rigid}
use Rattle.meta_unify.specs.declared.equations.Equation.{Equation}

-- two atoms, the left one first
abbrev pub atoms_of : Equation → LfAtom × LfAtom
atoms_of e = (record { atom_family = e.left.family; atom_args = e.left.args }, record { atom_family = e.right.family; atom_args = e.right.args })

-- A proof tells lists of pairs apart by their parts.
abbrev PairParts : Type 0
PairParts = (ℕ × Spine) × (ℕ × Spine)

abbrev pub pairs_code : Coded (List (LfAtom × LfAtom))
pairs_code =
    coded_list (code_by PairParts (coded× (coded× coded_ℕ spine_code) (coded× coded_ℕ spine_code))
    (λ p. ((p.0.atom_family, p.0.atom_args), (p.1.atom_family, p.1.atom_args)))
    (λ q. (record { atom_family = q.0.0; atom_args = q.0.1 }, record { atom_family = q.1.0; atom_args = q.1.1 })) (λ _. refl))

-- Its head is a metavariable.
abbrev pub is_flexible : LfTerm → Bool
is_flexible (lam b) = false
is_flexible (at h ts) = not (is_rigid h)
