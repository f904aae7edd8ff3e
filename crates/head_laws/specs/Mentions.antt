-- Whether a head occurs, as truth values, and where the heads of a result come from.
use Rattle.std.specs.Prelude.{Bool, true, false, ◌&&◌, ◌||◌, nat_eq, [], ◌∷◌}
use Rattle.lf_definitions.specs.Syntax.{LfHead, bound, constant, metavariable, LfTerm, lam, at, Spine, no_args, arg, LfType, pi, family, Context}
use Rattle.lf_definitions.specs.Renaming.{next}
use Rattle.lf_definitions.specs.Occurrence.{OccursIn}
use Rattle.lf_definitions.specs.Substitution.{Image, stays, becomes}

abbrev pub same_head : LfHead → LfHead → Bool
same_head (bound n) (bound m) = nat_eq n m
same_head (bound n) (constant c) = false
same_head (bound n) (metavariable g) = false
same_head (constant c) (bound n) = false
same_head (constant c) (constant d) = nat_eq c d
same_head (constant c) (metavariable g) = false
same_head (metavariable g) (bound n) = false
same_head (metavariable g) (constant c) = false
same_head (metavariable g) (metavariable m) = nat_eq g m

-- as `OccursIn` says
abbrev mutual
  pub occurs_in : LfHead → LfTerm → Bool
  occurs_in h (lam b) = occurs_in (next h) b
  occurs_in h (at k ts) = same_head h k || occurs_in_spine h ts

  pub occurs_in_spine : LfHead → Spine → Bool
  occurs_in_spine h no_args = false
  occurs_in_spine h (arg t ts) = occurs_in h t || occurs_in_spine h ts

abbrev pub occurs_in_type : LfHead → LfType → Bool
occurs_in_type h (pi a b) = occurs_in_type h a || occurs_in_type (next h) b
occurs_in_type h (family f args) = occurs_in_spine h args

abbrev pub occurs_in_context : LfHead → Context → Bool
occurs_in_context h [] = false
occurs_in_context h (a ∷ rest) = occurs_in_type h a || occurs_in_context (next h) rest

-- Constants and variables are rigid.
abbrev pub is_rigid : LfHead → Bool
is_rigid (bound n) = true
is_rigid (constant c) = true
is_rigid (metavariable g) = false

-- as `OccursRigidly` says
abbrev mutual
  pub occurs_rigidly : LfHead → LfTerm → Bool
  occurs_rigidly h (lam b) = occurs_rigidly (next h) b
  occurs_rigidly h (at k ts) = same_head h k || (is_rigid k && occurs_rigidly_in_spine h ts)

  pub occurs_rigidly_in_spine : LfHead → Spine → Bool
  occurs_rigidly_in_spine h no_args = false
  occurs_rigidly_in_spine h (arg t ts) = occurs_rigidly h t || occurs_rigidly_in_spine h ts

-- A head comes from an image that is this head, or a term in which it occurs.
pub data ComesFrom : LfHead → Image → Type 0 where
  comes_from_head : (h : LfHead) → ComesFrom h (stays h)
  comes_from_term : (h : LfHead) (u : LfTerm) → OccursIn h u → ComesFrom h (becomes u)
