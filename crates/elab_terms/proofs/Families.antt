-- A family with its arguments as the code has them.
use Rattle.std.proofs.Common.{◌≡◌, ℕ, zero, suc, Some, List, [], ◌∷◌, take, refl, sym, ap, ap₂, ◌∙◌, subst}
use mathlib.Core.Path.{fun_ext}
use Rattle.lf_definitions.specs.Syntax.{Context, LfKind}
use Rattle.lf_definitions.specs.Renaming.{next_by, rename_context}
use Rattle.lf_definitions.specs.Typing.{Typing, shapes_of}
use Rattle.lf_definitions.specs.Signatures.{LfSignature, kinds_in}
use Rattle.lf_definitions.specs.ShapedGoals.{ShapedTyping, ShapedContext, kind_shapes_in}
use Rattle.lf_definitions.proofs.Renaming.{same_head, lifted-same_head, rename_type-same_head}
use Rattle.lf_definitions.proofs.ShapedGoals.{ShapedTyping-family}
use Rattle.file_trees.specs.declared.term_tree.TermTree.{TermTree}
use Rattle.file_trees.specs.TermViews.{tree_of, trees_of}
use Rattle.elab_terms.specs.Domains.{Domains}

pub trees_of-take : (ts : List TermTree) (n : ℕ) → trees_of (take n ts) ≡ take n (trees_of ts)
trees_of-take ts zero = refl
trees_of-take [] (suc n) = refl
trees_of-take (t ∷ ts) (suc n) = ap (λ rest. tree_of t ∷ rest) (trees_of-take ts n)

rename_context-same_head : (ctx : Context) → rename_context same_head ctx ≡ ctx
rename_context-same_head [] = refl
rename_context-same_head (a ∷ ctx) =
    ap₂ (λ b rest. b ∷ rest) (rename_type-same_head a) (ap (λ ξ. rename_context ξ ctx) (fun_ext lifted-same_head) ∙ rename_context-same_head ctx)

pub not_raised : (ctx : Context) → rename_context (next_by 0) ctx ≡ ctx
not_raised ctx = rename_context-same_head ctx

pub kind_domains : (sig : LfSignature) (Γ : Typing) (f : ℕ) (kind : LfKind) → ShapedTyping (kinds_in sig) Γ → kinds_in sig f ≡ Some kind → Domains sig Γ 0 kind
kind_domains sig Γ f kind shaped e =
    let here : ShapedContext (kind_shapes_in sig) (shapes_of Γ) kind = ShapedTyping-family (kinds_in sig) Γ shaped f kind e in
    record { declared = here; seen = subst (ShapedContext (kind_shapes_in sig) (shapes_of Γ)) (sym (not_raised kind)) here }
