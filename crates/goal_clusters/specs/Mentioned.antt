-- The numbers of the metavariables that something mentions, in the order in which it is read, each as often as it occurs.
use Rattle.std.specs.Prelude.{ℕ, List, [], ◌∷◌, ◌++◌}
use Rattle.lf_definitions.specs.Syntax.{LfHead, bound, constant, metavariable, LfTerm, lam, at, Spine, no_args, arg, LfType, pi, family, Context}

abbrev pub number_of_head : LfHead → List ℕ
number_of_head (bound n) = []
number_of_head (constant c) = []
number_of_head (metavariable m) = m ∷ []

abbrev mutual
  pub numbers_in : LfTerm → List ℕ
  numbers_in (lam b) = numbers_in b
  numbers_in (at h ts) = number_of_head h ++ numbers_in_spine ts

  pub numbers_in_spine : Spine → List ℕ
  numbers_in_spine no_args = []
  numbers_in_spine (arg t ts) = numbers_in t ++ numbers_in_spine ts

abbrev pub numbers_in_type : LfType → List ℕ
numbers_in_type (pi a b) = numbers_in_type a ++ numbers_in_type b
numbers_in_type (family f args) = numbers_in_spine args

abbrev pub numbers_in_context : Context → List ℕ
numbers_in_context [] = []
numbers_in_context (a ∷ rest) = numbers_in_type a ++ numbers_in_context rest
