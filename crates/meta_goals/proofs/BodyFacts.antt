-- A body applied to arguments: to its own variables, which change nothing, and to others.
use Rattle.std.proofs.Common.{◌≡◌, ◌⊎◌, inl, inr, ℕ, zero, suc, ◌+◌, ◌-◌, ◌<◌, ◌≤◌, List, [], length, get_or, take, drop, take_all, refl, sym, ap, ap₂, ◌∙◌, subst, subst₂, arith}
use Rattle.lf_definitions.specs.Syntax.{LfHead, bound, constant, metavariable, LfTerm, Spine, at, SimpleType, base, arrows, arity, joined, lams}
use Rattle.lf_definitions.specs.Renaming.{next, Renaming, lifted, lifted_by, next_by, rename}
use Rattle.lf_definitions.specs.Substitution.{stays, push_all, Substituted, Applied}
use Rattle.lf_definitions.specs.Expansion.{own_variables, eta}
use Rattle.lf_definitions.specs.Occurrence.{OccursIn}
use Rattle.lf_definitions.proofs.Renaming.{same_head, rename-same_head}
use Rattle.lf_definitions.proofs.Expansion.{Applied-lams}
use Rattle.lf_definitions.proofs.Telescopes.{own_variables_unit, args_count-length, next_by-bound, next_by-constant, next_by-metavariable}
use Rattle.head_laws.proofs.Heads.{lifted-next}
use Rattle.head_laws.proofs.Occurrence.{rename-agree}
use Rattle.lf_terms.specs.Extents.{StaysWithin, InTerm}
use Rattle.lf_terms.specs.declared.term.Term.{Term}
use Rattle.lf_terms.specs.declared.shape.Shape.{Shape}
use Rattle.lf_terms.specs.Terms.{term_of, spine_of}
use Rattle.lf_terms.specs.Shapes.{simple_type_of, simple_types_of}
use Rattle.lf_terms.proofs.ShapeLists.{take_read}
use Rattle.lf_terms.proofs.Expansions.{own_variables_more, own_variables_end}
use Rattle.lf_terms.specs.Putting.{putting, Puts, TermShaped}
use Rattle.meta_goals.specs.Applies.{Applies}

-- Heads from outside and heads of local binders, under a renaming of those from outside.
lifted_by-next_by : (n : ℕ) (ξ : Renaming) (h : LfHead) → lifted_by n ξ (next_by n h) ≡ next_by n (ξ h)
lifted_by-next_by zero ξ h = refl
lifted_by-next_by (suc n) ξ h = lifted_by-next_by n (lifted ξ) (next h) ∙ ap (next_by n) (lifted-next ξ h)

lifted_by-local : (n i : ℕ) (ξ : Renaming) → i < n → lifted_by n ξ (bound i) ≡ bound i
lifted_by-local zero i ξ less = absurd (omega arith)
lifted_by-local (suc n) i ξ less = at_place (last_or_less less) (λ smaller. lifted_by-local n i (lifted ξ) smaller)
  where
    last_or_less : i < suc n → (i ≡ n) ⊎ (i < n)
    last_or_less less = grind arith

    at_place : (i ≡ n) ⊎ (i < n) → (i < n → lifted_by n (lifted ξ) (bound i) ≡ bound i) → lifted_by n (lifted ξ) (bound i) ≡ bound i
    at_place (inl e) smaller =
        let same : next_by n (bound zero) ≡ bound i = next_by-bound n zero ∙ ap bound (omega arith) in
        ap (lifted_by n (lifted ξ)) (sym same) ∙ lifted_by-next_by n (lifted ξ) (bound zero) ∙ same
    at_place (inr less) smaller = smaller less

-- A term in which no variable from outside occurs doesn't change where those are renamed.
raised_stays : (n : ℕ) (b : LfTerm) → StaysWithin n (InTerm b) → rename (lifted_by n (next_by n)) b ≡ b
raised_stays n b within = rename-agree b (lifted_by n (next_by n)) same_head each ∙ rename-same_head b
  where
    less_or : (i : ℕ) → (i < n) ⊎ (n ≤ i)
    less_or i = grind arith

    variable : (i : ℕ) → OccursIn (bound i) b → (i < n) ⊎ (n ≤ i) → lifted_by n (next_by n) (bound i) ≡ bound i
    variable i here (inl less) = lifted_by-local n i (next_by n) less
    variable i here (inr far) = absurd (within i far here)

    each : (h : LfHead) → OccursIn h b → lifted_by n (next_by n) h ≡ same_head h
    each (bound i) here = variable i here (less_or i)
    each (constant c) here = ap (lifted_by n (next_by n)) (sym (next_by-constant n c)) ∙ lifted_by-next_by n (next_by n) (constant c) ∙ ap (next_by n) (next_by-constant n c) ∙ next_by-constant n c
    each (metavariable g) here =
        ap (lifted_by n (next_by n)) (sym (next_by-metavariable n g)) ∙ lifted_by-next_by n (next_by n) (metavariable g) ∙ ap (next_by n) (next_by-metavariable n g) ∙ next_by-metavariable n g

module _ (shapes : List SimpleType) (body : LfTerm) (args : Spine) (a : Applies shapes body args) where
  applied_to : (r : LfTerm) → Substituted (push_all args stays) body r → Applied stays (lams (length shapes) body) args r
  applied_to r result = subst (λ n. Applied stays (lams n body) args r) (args_count-length shapes a.scope args a.args_shaped) (Applied-lams args stays body r result)

  -- The body is what it gives for its own variables.
  pub applied_to_own : args ≡ own_variables (arrows shapes base) → Applied stays (lams (length shapes) body) args body
  applied_to_own own =
      applied_to body
      (subst₂ (λ vs b. Substituted (push_all vs stays) b body) (sym own) (raised_stays (length shapes) body a.within) (own_variables_unit a.scope shapes [] base body a.body_shaped))

  -- Arguments may be put.
  pub puts_args_in : Puts args shapes 0 0 (TermShaped body)
  puts_args_in =
      record {
        outer = a.scope;
        target = a.scope;
        local = [];
        shape = base;
        depth_is = refl;
        keeps = λ h s e. e;
        shaped_sub = a.args_shaped;
        shaped = a.body_shaped;
      }

  pub applied_by_putting : (r : LfTerm) → Substituted (putting args 0 0) body r → Applied stays (lams (length shapes) body) args r
  applied_by_putting r result = applied_to r result

-- A head under as many abstractions as a shape takes arguments, applied to their variables, is an eta-long form.
pub variable_read : (s : SimpleType) (count number raised : ℕ) (t body : LfTerm) (args : Spine) → t ≡ lams count body → body ≡ at (bound raised) args → raised ≡ number + count →
    count ≡ arity s → args ≡ own_variables s → t ≡ eta (bound number) s
variable_read s count number raised t body args under is raised_is count_is own =
    let head : bound raised ≡ next_by (arity s) (bound number) = ap bound (omega arith) ∙ sym (next_by-bound (arity s) number) in
    under ∙ ap (lams count) (is ∙ ap₂ at head own) ∙ ap (λ n. lams n (at (next_by (arity s) (bound number)) (own_variables s))) count_is

-- The first terms are the first variables, and one more is the next.
pub own_so_far : (terms : List Term) (shapes : List Shape) (i : ℕ) (t : Term) (s : Shape) → length terms ≡ length shapes → i < length shapes → t ≡ get_or terms i t → s ≡ get_or shapes i s →
    term_of t ≡ eta (bound (length shapes - 1 - i)) (simple_type_of s) →
    joined (spine_of (take i terms)) (own_variables (arrows (simple_types_of (drop i shapes)) base)) ≡ own_variables (arrows (simple_types_of shapes) base) →
    joined (spine_of (take (i + 1) terms)) (own_variables (arrows (simple_types_of (drop (i + 1) shapes)) base)) ≡ own_variables (arrows (simple_types_of shapes) base)
own_so_far terms shapes i t s lengths within term_is shape_is here before =
    own_variables_more shapes i (length shapes - 1 - i) s (take i terms) (take (i + 1) terms) t (own_variables (arrows (simple_types_of shapes) base)) within shape_is (omega arith)
    (take_read terms i t (omega arith) term_is) here before

pub own_to_the_end : (terms : List Term) (shapes : List Shape) (i : ℕ) → length terms ≡ length shapes → length shapes ≤ i →
    joined (spine_of (take i terms)) (own_variables (arrows (simple_types_of (drop i shapes)) base)) ≡ own_variables (arrows (simple_types_of shapes) base) →
    spine_of terms ≡ own_variables (arrows (simple_types_of shapes) base)
own_to_the_end terms shapes i lengths end before =
    ap spine_of (sym (take_all i terms (omega arith))) ∙ own_variables_end shapes (take i terms) i (own_variables (arrows (simple_types_of shapes) base)) end before
