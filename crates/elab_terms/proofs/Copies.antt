-- Lists that are copied entry by entry, and spines that are joined.
use Rattle.std.proofs.Common.{◌≡◌, ℕ, zero, suc, ◌+◌, ◌<◌, ◌≤◌, List, [], ◌∷◌, ◌++◌, length, get_or, take, drop, refl, sym, ap, ap₂, ◌∙◌, arith}
use Rattle.lf_definitions.specs.Syntax.{Spine, no_args, arg, joined}
use Rattle.lf_terms.specs.declared.term.Term.{Term}
use Rattle.lf_terms.specs.Terms.{term_of, spine_of}
use Rattle.lf_terms.specs.declared.ty.Ty.{Ty}
use Rattle.lf_terms.specs.Types.{type_of, types_of}
use Rattle.std.proofs.lemmas.List.{length-take-le}
use Rattle.lf_terms.proofs.TypeLists.{length-types_of, types_of-append, types_of-take_more}
use Rattle.lf_terms.proofs.Spines.{spine_of-append, take_more_spine}

drop-append : {X : Type 0} (count : ℕ) (xs : List X) (x : X) → count ≤ length xs → drop count (xs ++ x ∷ []) ≡ drop count xs ++ x ∷ []
drop-append zero xs x within = refl
drop-append (suc count) [] x within = absurd (omega arith)
drop-append (suc count) (y ∷ xs) x within = drop-append count xs x (omega arith)

-- one more type, equal to the one read at a place
pub type_copied : (types copies new : List Ty) (count i : ℕ) (t u : Ty) → count ≤ i → i < length types → t ≡ get_or types i t → new ≡ copies ++ u ∷ [] →
    types_of copies ≡ drop count (types_of (take i types)) → type_of u ≡ type_of t → types_of new ≡ drop count (types_of (take (i + 1) types))
type_copied types copies new count i t u past within is pushed before here =
    let prefix = types_of (take i types) in
    let reaches : count ≤ length prefix = omega (arith, length-types_of (take i types), length-take-le i types (omega arith)) in
    ap types_of pushed ∙ types_of-append copies u ∙ ap₂ (λ l x. l ++ x ∷ []) before here ∙ sym (drop-append count prefix (type_of t) reaches)
    ∙ ap (drop count) (sym (types_of-take_more types i t within is))

pub copies_start : (types : List Ty) (count : ℕ) → count ≤ length types → [] ≡ drop count (types_of (take count types))
copies_start types zero within = refl
copies_start [] (suc count) within = refl
copies_start (t ∷ types) (suc count) within = copies_start types count (omega arith)

joined-joined : (ts us vs : Spine) → joined (joined ts us) vs ≡ joined ts (joined us vs)
joined-joined no_args us vs = refl
joined-joined (arg t ts) us vs = ap (arg t) (joined-joined ts us vs)

pub term_copied : (prefix : Spine) (more copies new : List Term) (i : ℕ) (t u : Term) → i < length more → t ≡ get_or more i t → new ≡ copies ++ u ∷ [] →
    spine_of copies ≡ joined prefix (spine_of (take i more)) → term_of u ≡ term_of t → spine_of new ≡ joined prefix (spine_of (take (i + 1) more))
term_copied prefix more copies new i t u within is pushed before here =
    ap spine_of pushed ∙ spine_of-append copies u ∙ ap₂ (λ s x. joined s (arg x no_args)) before here
    ∙ joined-joined prefix (spine_of (take i more)) (arg (term_of t) no_args) ∙ ap (joined prefix) (sym (take_more_spine more i t within is))
