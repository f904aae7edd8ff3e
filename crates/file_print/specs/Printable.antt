-- Terms and types that can be printed: they have no metavariable, their names are of the signature, and their free variables are among the
-- binders around them.
use Rattle.std.specs.Prelude.{ℕ, suc, ◌<◌, length}
use Rattle.lf_definitions.specs.Syntax.{LfHead, bound, constant, metavariable, LfTerm, lam, at, Spine, no_args, arg, LfType, pi, family}
use Rattle.lf_definitions.specs.Signatures.{LfSignature, constant_names, family_names}

abbrev pub IsPrintableHead : LfSignature → ℕ → LfHead → Type 0
IsPrintableHead sig depth (bound n) = n < depth
IsPrintableHead sig depth (constant c) = c < length (constant_names sig)
IsPrintableHead sig depth (metavariable g) = ⊥

abbrev mutual
  pub IsPrintable : LfSignature → ℕ → LfTerm → Type 0
  IsPrintable sig depth (lam b) = IsPrintable sig (suc depth) b
  IsPrintable sig depth (at h args) = IsPrintableHead sig depth h × ArePrintable sig depth args

  pub ArePrintable : LfSignature → ℕ → Spine → Type 0
  ArePrintable sig depth no_args = Unit {0}
  ArePrintable sig depth (arg t ts) = IsPrintable sig depth t × ArePrintable sig depth ts

abbrev pub IsPrintableType : LfSignature → ℕ → LfType → Type 0
IsPrintableType sig depth (pi a b) = IsPrintableType sig depth a × IsPrintableType sig (suc depth) b
IsPrintableType sig depth (family f args) = (f < length (family_names sig)) × ArePrintable sig depth args
