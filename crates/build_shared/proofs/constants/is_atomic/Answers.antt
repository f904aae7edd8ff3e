use Rattle.std.proofs.Common.{◌≡◌, ℕ, List, [], ◌∷◌, length, refl, ap, ◌∙◌, arith}
use Rattle.std.specs.Prelude.{nat_eq}
use Rattle.lf_definitions.specs.Syntax.{LfType, family, pis, Spine}
use Rattle.applications.specs.Candidates.{is_atomic}
use Rattle.build_shared.proofs.constants.is_atomic.Goals as goal

is_atomic-pis : (bs : List LfType) (f : ℕ) (args : Spine) → nat_eq (length bs) 0 ≡ is_atomic (pis bs (family f args))
is_atomic-pis [] f args = refl
is_atomic-pis (b ∷ bs) f args = grind arith

pub returns : goal.returns
returns c =
    let ty = c.args.ty.now in
    ap (λ n. nat_eq n 0) c.len.ensures ∙ is_atomic-pis ty.binders ty.family ty.args
