-- Pairs of atoms as equations.
use Rattle.std.proofs.Common.{ℕ, suc, List, [], ◌∷◌, All}
use Rattle.std.proofs.lemmas.List.Elements.{All-nil, All-cons, All-head, All-tail}
use Rattle.lf_definitions.specs.Syntax.{LfAtom, SimpleType}
use Rattle.unification.specs.Equations.{of_atoms, numbered_from}
use Rattle.unification.specs.Solutions.{ShapedEquation, ShapedEquations}
use Rattle.goals_tests.specs.declared.setting.Setting.{Setting}
use Rattle.goals_tests.specs.Settings.{scope_of, kinds_of, ShapedPair}

pub numbered_shaped : (setting : Setting) (variables : List SimpleType) (n : ℕ) (pairs : List (LfAtom × LfAtom)) → All (ShapedPair setting variables) pairs →
    ShapedEquations (kinds_of setting) (scope_of setting variables) (numbered_from n pairs)
numbered_shaped setting variables n [] all = All-nil (ShapedEquation (kinds_of setting) (scope_of setting variables))
numbered_shaped setting variables n (pair ∷ rest) all =
    All-cons (ShapedEquation (kinds_of setting) (scope_of setting variables)) (of_atoms (n ∷ []) pair.0 pair.1) (numbered_from (suc n) rest) (All-head (ShapedPair setting variables) pair rest all)
    (numbered_shaped setting variables (suc n) rest (All-tail (ShapedPair setting variables) pair rest all))
