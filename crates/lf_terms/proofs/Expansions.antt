-- Eta-long forms, built in a loop.
use Rattle.std.proofs.Common.{◌≡◌, ℕ, zero, suc, ◌+◌, ◌<◌, ◌≤◌, ◌⊎◌, inl, inr, List, [], ◌∷◌, ◌++◌, length, get_or, drop, refl, sym, ap, ◌∙◌, arith, length-drop, add-one, drop_of_length-le}
use Rattle.std.proofs.lemmas.List.{drop_more}
use Rattle.lf_definitions.specs.Syntax.{bound, LfTerm, lam, Spine, no_args, arg, joined, base, arrows, arity, lams}
use Rattle.lf_definitions.specs.Renaming.{next_by}
use Rattle.lf_definitions.specs.Expansion.{own_variables, eta}
use Rattle.lf_definitions.proofs.Telescopes.{next_by-bound, next_by-constant, next_by-metavariable, arity-arrows}
use Rattle.lf_terms.specs.declared.head.Head.{Head}
use Rattle.lf_terms.specs.declared.head.Head.TheVariants.{Bound, Const, Meta}
use Rattle.lf_terms.specs.declared.term.Term.{Term}
use Rattle.lf_terms.specs.declared.shape.Shape.{Shape}
use Rattle.lf_terms.specs.Terms.{head_of, term_of, spine_of}
use Rattle.lf_terms.specs.Shapes.{simple_type_of, simple_types_of}
use Rattle.lf_terms.proofs.ShapeLists.{length-simple_types_of}
use Rattle.lf_terms.proofs.Spines.{spine_of-append}

pub raised_bound : (h : Head) (n m : ℕ) → h ≡ Bound n → bound (n + m) ≡ next_by m (head_of h)
raised_bound h n m is = ap bound (omega arith) ∙ sym (next_by-bound m n) ∙ ap (λ k. next_by m (head_of k)) (sym is)

pub raised_other : (h : Head) (m : ℕ) → ((c : ℕ) × (h ≡ Const c)) ⊎ ((g : ℕ) × (h ≡ Meta g)) → head_of h ≡ next_by m (head_of h)
raised_other h m (inl p) = ap head_of p.1 ∙ sym (next_by-constant m p.0) ∙ ap (λ k. next_by m (head_of k)) (sym p.1)
raised_other h m (inr p) = ap head_of p.1 ∙ sym (next_by-metavariable m p.0) ∙ ap (λ k. next_by m (head_of k)) (sym p.1)

pub one_lam_more : (n : ℕ) (body t new : LfTerm) → t ≡ lams n body → new ≡ lam t → new ≡ lams (n + 1) body
one_lam_more n body t new before made = made ∙ ap lam before ∙ ap (λ m. lams m body) (sym (add-one n))

-- The variables from a place on begin with the eta-long form of the one at that place.
own_variables_at : (ss : List Shape) (i n : ℕ) (s : Shape) → i < length ss → s ≡ get_or ss i s → suc (i + n) ≡ length ss →
    own_variables (arrows (simple_types_of (drop i ss)) base) ≡ arg (eta (bound n) (simple_type_of s)) (own_variables (arrows (simple_types_of (drop (i + 1) ss)) base))
own_variables_at ss i n s within is number =
    let rest = arrows (simple_types_of (drop (i + 1) ss)) base in
    let rest_arity : arity rest ≡ n =
    arity-arrows (simple_types_of (drop (i + 1) ss)) ∙ length-simple_types_of (drop (i + 1) ss) ∙ length-drop (i + 1) ss ∙ omega arith in
    let variable : next_by (arity rest) (bound zero) ≡ bound n = next_by-bound (arity rest) zero ∙ ap bound (omega arith) in
    ap (λ l. own_variables (arrows (simple_types_of l) base)) (drop_more ss i s within ∙ ap (λ x. x ∷ drop (i + 1) ss) (sym is))
    ∙ ap (λ h. arg (eta h (simple_type_of s)) (own_variables rest)) variable

joined-arg : (ts : Spine) (t : LfTerm) (us : Spine) → joined (joined ts (arg t no_args)) us ≡ joined ts (arg t us)
joined-arg no_args t us = refl
joined-arg (arg u ts) t us = ap (arg u) (joined-arg ts t us)

pub joined-no_args : (ts : Spine) → joined ts no_args ≡ ts
joined-no_args no_args = refl
joined-no_args (arg t ts) = ap (arg t) (joined-no_args ts)

-- one variable more: those made so far and those to come are all
pub own_variables_more : (ss : List Shape) (i n : ℕ) (s : Shape) (made new : List Term) (t : Term) (all : Spine) → i < length ss → s ≡ get_or ss i s → suc (i + n) ≡ length ss →
    new ≡ made ++ t ∷ [] → term_of t ≡ eta (bound n) (simple_type_of s) →
    joined (spine_of made) (own_variables (arrows (simple_types_of (drop i ss)) base)) ≡ all →
    joined (spine_of new) (own_variables (arrows (simple_types_of (drop (i + 1) ss)) base)) ≡ all
own_variables_more ss i n s made new t all within is number pushed here before =
    let rest = own_variables (arrows (simple_types_of (drop (i + 1) ss)) base) in
    ap (λ l. joined l rest) (ap spine_of pushed ∙ spine_of-append made t) ∙ joined-arg (spine_of made) (term_of t) rest
    ∙ ap (λ u. joined (spine_of made) (arg u rest)) here ∙ ap (joined (spine_of made)) (sym (own_variables_at ss i n s within is number)) ∙ before

pub own_variables_end : (ss : List Shape) (made : List Term) (i : ℕ) (all : Spine) → length ss ≤ i →
    joined (spine_of made) (own_variables (arrows (simple_types_of (drop i ss)) base)) ≡ all → spine_of made ≡ all
own_variables_end ss made i all end before =
    sym (joined-no_args (spine_of made)) ∙ ap (λ l. joined (spine_of made) (own_variables (arrows (simple_types_of l) base))) (sym (drop_of_length-le ss end)) ∙ before
