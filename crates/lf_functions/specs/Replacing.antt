-- What a replacement makes of terms, types and contexts, as functions that are total on all data: terms are put into one another up to a depth.
use Rattle.std.specs.Prelude.{ℕ, zero, suc, [], ◌∷◌}
use Rattle.lf_definitions.specs.Syntax.{LfTerm, lam, at, Spine, no_args, arg, LfType, pi, family, LfAtom, Context}
use Rattle.lf_definitions.specs.Substitution.{Image, stays, becomes, Replacement, up, push}

-- what is made of a term
abbrev pub Replacing : Type 0
Replacing = Replacement → LfTerm → LfTerm

-- A term applied to arguments: `inside` puts them for the variables of its abstractions. More arguments than abstractions don't come where shapes fit.
abbrev pub applied_term : Replacing → Replacement → LfTerm → Spine → LfTerm
applied_term inside σ u no_args = inside σ u
applied_term inside σ (lam b) (arg v vs) = applied_term inside (push v σ) b vs
applied_term inside σ (at h ts) (arg v vs) = at h ts

-- the image of a head, applied to arguments
abbrev pub applied_image : Replacing → Image → Spine → LfTerm
applied_image inside (stays k) vs = at k vs
applied_image inside (becomes u) vs = applied_term inside stays u vs

abbrev mutual
  -- A head is replaced once its arguments are.
  pub replaced_term : Replacing → Replacement → LfTerm → LfTerm
  replaced_term inside σ (lam b) = lam (replaced_term inside (up σ) b)
  replaced_term inside σ (at h ts) = applied_image inside (σ h) (replaced_spine inside σ ts)

  pub replaced_spine : Replacing → Replacement → Spine → Spine
  replaced_spine inside σ no_args = no_args
  replaced_spine inside σ (arg t ts) = arg (replaced_term inside σ t) (replaced_spine inside σ ts)

-- At most so many replacements are done inside one another; where shapes fit no more are needed.
abbrev pub nested : ℕ → Replacing
nested zero σ t = t
nested (suc depth) σ t = replaced_term (nested depth) σ t

-- What a replacement makes of a term, and of each part of a type or a context. It is the result where what is replaced in is shaped and each term that is put has a shape
-- smaller than the depth; on other data the value says nothing.
unfoldable pub replaced : ℕ → Replacement → LfTerm → LfTerm
replaced depth σ t = replaced_term (nested depth) σ t

unfoldable pub replaced_in_spine : ℕ → Replacement → Spine → Spine
replaced_in_spine depth σ ts = replaced_spine (nested depth) σ ts

unfoldable pub replaced_in_type : ℕ → Replacement → LfType → LfType
replaced_in_type depth σ (pi a b) = pi (replaced_in_type depth σ a) (replaced_in_type depth (up σ) b)
replaced_in_type depth σ (family f args) = family f (replaced_in_spine depth σ args)

unfoldable pub replaced_in_atom : ℕ → Replacement → LfAtom → LfAtom
replaced_in_atom depth σ a = record { atom_family = a.atom_family; atom_args = replaced_in_spine depth σ a.atom_args }

unfoldable pub replaced_in_context : ℕ → Replacement → Context → Context
replaced_in_context depth σ [] = []
replaced_in_context depth σ (a ∷ rest) = replaced_in_type depth σ a ∷ replaced_in_context depth (up σ) rest
