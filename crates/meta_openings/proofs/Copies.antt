-- Lists, copied one item after another.
use Rattle.std.proofs.Common.{◌≡◌, ℕ, ◌+◌, ◌<◌, List, [], ◌∷◌, ◌++◌, length, get_or, take, refl, sym, ap, ap₂, ◌∙◌}
use Rattle.std.proofs.lemmas.List.{append_assoc}
use Rattle.lf_definitions.specs.Syntax.{Spine, no_args, arg, joined}
use Rattle.lf_terms.specs.declared.term.Term.{Term}
use Rattle.lf_terms.specs.declared.ty.Ty.{Ty}
use Rattle.lf_terms.specs.Terms.{term_of, spine_of}
use Rattle.lf_terms.specs.Types.{type_of, types_of}
use Rattle.lf_terms.proofs.Spines.{spine_of-append, take_more_spine}
use Rattle.lf_terms.proofs.TypeLists.{types_of-append, types_of-take_more}

pub joined_twice : (ts us ws : Spine) → joined (joined ts us) ws ≡ joined ts (joined us ws)
joined_twice no_args us ws = refl
joined_twice (arg t ts) us ws = ap (arg t) (joined_twice ts us ws)

pub one_term_copied : (first old new more : List Term) (i : ℕ) (x r : Term) → i < length more → x ≡ get_or more i x → new ≡ old ++ r ∷ [] → term_of r ≡ term_of x →
    spine_of old ≡ joined (spine_of first) (spine_of (take i more)) → spine_of new ≡ joined (spine_of first) (spine_of (take (i + 1) more))
one_term_copied first old new more i x r within is pushed same upto =
    ap spine_of pushed ∙ spine_of-append old r ∙ ap₂ (λ ts t. joined ts (arg t no_args)) upto same ∙ joined_twice (spine_of first) (spine_of (take i more)) (arg (term_of x) no_args)
    ∙ ap (joined (spine_of first)) (sym (take_more_spine more i x within is))

pub one_type_copied : (first old new more : List Ty) (i : ℕ) (x r : Ty) → i < length more → x ≡ get_or more i x → new ≡ old ++ r ∷ [] → type_of r ≡ type_of x →
    types_of old ≡ types_of first ++ types_of (take i more) → types_of new ≡ types_of first ++ types_of (take (i + 1) more)
one_type_copied first old new more i x r within is pushed same upto =
    ap types_of pushed ∙ types_of-append old r ∙ ap₂ (λ l t. l ++ t ∷ []) upto same ∙ append_assoc (types_of first) (types_of (take i more)) (type_of x ∷ [])
    ∙ ap (λ l. types_of first ++ l) (sym (types_of-take_more more i x within is))
