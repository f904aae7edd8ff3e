-- How many binders stand around the places of a term or a type, those outside included.
use Rattle.std.specs.Prelude.{ℕ, suc, ◌<◌}
use Rattle.lf_definitions.specs.Syntax.{LfTerm, lam, at, Spine, no_args, arg, LfType, pi, family}

-- Around each place stand fewer than `most`; `depth` stand around the whole.
abbrev mutual
  pub IsWithinDepth : (most depth : ℕ) → LfTerm → Type 0
  IsWithinDepth most depth (lam b) = IsWithinDepth most (suc depth) b
  IsWithinDepth most depth (at h args) = (depth < most) × AreWithinDepth most depth args

  pub AreWithinDepth : (most depth : ℕ) → Spine → Type 0
  AreWithinDepth most depth no_args = Unit {0}
  AreWithinDepth most depth (arg t ts) = IsWithinDepth most depth t × AreWithinDepth most depth ts

abbrev pub IsTypeWithinDepth : (most depth : ℕ) → LfType → Type 0
IsTypeWithinDepth most depth (pi a b) = IsTypeWithinDepth most depth a × IsTypeWithinDepth most (suc depth) b
IsTypeWithinDepth most depth (family f args) = (depth < most) × AreWithinDepth most depth args
