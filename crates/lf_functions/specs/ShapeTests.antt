-- Whether terms and equations of atoms are shaped: what shows it, where they are.
use Rattle.std.specs.Prelude.{◌≡◌, ℕ, suc, List, [], ◌∷◌, Option, Some, None, option_map}
use Rattle.std.proofs.lemmas.List.Elements.{All-nil, All-cons}
use mathlib.Core.Path.{refl}
use Rattle.lf_definitions.specs.Syntax.{LfHead, LfTerm, lam, at, Spine, no_args, arg, SimpleType, base, arrow, LfAtom, atomic}
use Rattle.lf_definitions.specs.Shaping.{Scope, under, Shaped, shaped_lam, shaped_at, ShapedSpine, shaped_none, shaped_arg, ShapedType, shaped_family}
use Rattle.unification.specs.Equations.{of_atoms, numbered_from}
use Rattle.unification.specs.Solutions.{ShapedEquation, ShapedEquations}

-- a head, where the arguments are shaped as its shape says
abbrev pub head_or_none : (Γ : Scope) (h : LfHead) (ts : Spine) (o : Option SimpleType) → Γ h ≡ o → ((s : SimpleType) → Option (ShapedSpine Γ ts s)) → Option (Shaped Γ (at h ts) base)
head_or_none Γ h ts None is arguments = None
head_or_none Γ h ts (Some s) is arguments = option_map (shaped_at s is) (arguments s)

abbrev pub argument_or_none : (Γ : Scope) (t : LfTerm) (ts : Spine) (a s : SimpleType) → Option (Shaped Γ t a) → Option (ShapedSpine Γ ts s) → Option (ShapedSpine Γ (arg t ts) (arrow a s))
argument_or_none Γ t ts a s None others = None
argument_or_none Γ t ts a s (Some p) others = option_map (shaped_arg p) others

abbrev mutual
  pub shaped_or_none : (Γ : Scope) (t : LfTerm) (s : SimpleType) → Option (Shaped Γ t s)
  shaped_or_none Γ (lam b) base = None
  shaped_or_none Γ (lam b) (arrow a s) = option_map shaped_lam (shaped_or_none (under a Γ) b s)
  shaped_or_none Γ (at h ts) base = head_or_none Γ h ts (Γ h) refl (λ s. spine_or_none Γ ts s)
  shaped_or_none Γ (at h ts) (arrow a s) = None

  pub spine_or_none : (Γ : Scope) (ts : Spine) (s : SimpleType) → Option (ShapedSpine Γ ts s)
  spine_or_none Γ no_args base = Some shaped_none
  spine_or_none Γ no_args (arrow a s) = None
  spine_or_none Γ (arg t ts) base = None
  spine_or_none Γ (arg t ts) (arrow a s) = argument_or_none Γ t ts a s (shaped_or_none Γ t a) (spine_or_none Γ ts s)

-- an atom, where its arguments are shaped as the kind of its family says
abbrev pub family_or_none : (kinds : ℕ → Option SimpleType) (Γ : Scope) (a : LfAtom) (o : Option SimpleType) → kinds a.atom_family ≡ o → Option (ShapedType kinds Γ (atomic a))
family_or_none kinds Γ a None is = None
family_or_none kinds Γ a (Some s) is = option_map (shaped_family s is) (spine_or_none Γ a.atom_args s)

abbrev pub atom_or_none : (kinds : ℕ → Option SimpleType) (Γ : Scope) (a : LfAtom) → Option (ShapedType kinds Γ (atomic a))
atom_or_none kinds Γ a = family_or_none kinds Γ a (kinds a.atom_family) refl

abbrev pub equation_or_none : (kinds : ℕ → Option SimpleType) (Γ : Scope) (n : ℕ) (a b : LfAtom) (rest : List (LfAtom × LfAtom)) → Option (ShapedType kinds Γ (atomic a)) → Option (ShapedType kinds Γ (atomic b)) →
    Option (ShapedEquations kinds Γ (numbered_from (suc n) rest)) → Option (ShapedEquations kinds Γ (numbered_from n ((a, b) ∷ rest)))
equation_or_none kinds Γ n a b rest None other later = None
equation_or_none kinds Γ n a b rest (Some p) None later = None
equation_or_none kinds Γ n a b rest (Some p) (Some q) later = option_map (All-cons (ShapedEquation kinds Γ) (of_atoms (n ∷ []) a b) (numbered_from (suc n) rest) (p, q)) later

-- equations between atoms
abbrev pub equations_or_none : (kinds : ℕ → Option SimpleType) (Γ : Scope) (n : ℕ) (equations : List (LfAtom × LfAtom)) → Option (ShapedEquations kinds Γ (numbered_from n equations))
equations_or_none kinds Γ n [] = Some (All-nil (ShapedEquation kinds Γ))
equations_or_none kinds Γ n (pair ∷ rest) = equation_or_none kinds Γ n pair.0 pair.1 rest (atom_or_none kinds Γ pair.0) (atom_or_none kinds Γ pair.1) (equations_or_none kinds Γ (suc n) rest)
