-- The type of the argument at a place of an opened type, as the code reads it.
use Rattle.std.proofs.Common.{◌≡◌, ℕ, zero, suc, ◌<◌, ◌≤◌, true, Option, Some, List, [], ◌∷◌, length, get_or, take, refl, sym, ap, ap₂, ◌∙◌, subst, subst₂, arith}
use Rattle.lf_definitions.specs.Syntax.{Spine, no_args, arg, args_count, SimpleType, LfType, pi, family, LfAtom, Context, pis, shape_of, shapes_of_types, binders_of, conclusion_atom}
use Rattle.lf_definitions.specs.Shaping.{Scope, under_all, ShapedSpine, shaped_arg, ShapedList, ShapedType, shaped_family}
use Rattle.lf_definitions.specs.Substitution.{SubstitutedSpine}
use Rattle.lf_definitions.specs.Typing.{type_at}
use Rattle.lf_definitions.proofs.Failures.{binders_of-pis}
use Rattle.lf_terms.specs.declared.shape.Shape.{Shape}
use Rattle.lf_terms.specs.declared.term.Term.{Term}
use Rattle.lf_terms.specs.declared.ty.Ty.{Ty}
use Rattle.lf_terms.specs.Putting.{putting, Puts, ArgsShaped}
use Rattle.lf_terms.specs.Shapes.{simple_type_of, simple_types_of}
use Rattle.lf_terms.specs.Terms.{term_of, spine_of}
use Rattle.lf_terms.specs.Types.{type_of, types_of}
use Rattle.lf_terms.proofs.Spines.{args_count-spine_of}
use Rattle.lf_terms.proofs.ShapeLists.{length-simple_types_of}
use Rattle.lf_terms.proofs.TypeLists.{length-types_of}
use Rattle.typing_laws.proofs.Binders.{length-shapes_of_types}
use Rattle.lf_functions.specs.Instances.{result_of_type, result_of_spine}
use Rattle.lf_functions.proofs.Results.{results_are_the_one_result}
use Rattle.lf_functions.proofs.InstanceLaws.{results_go_part_by_part}
use Rattle.opening_laws.specs.Openings.{LfOpened}
use Rattle.opening_laws.proofs.Existence.{type_at-within}
use Rattle.applications.specs.Candidates.{is_atomic, first_args, argument_atom, argument_type}
use Rattle.application_laws.specs.Conditions.{HasAtomAt}
use Rattle.application_laws.proofs.Arguments.{binder_is_shaped, first_are_shaped}
use Rattle.build_shared.specs.ArgumentTypes.{HasShapedTerms}

type_read : (types : List Ty) (k : ℕ) (x : Ty) (a : LfType) → type_at (types_of types) k ≡ Some a → x ≡ get_or types k x → type_of x ≡ a
type_read [] k x a is here = absurd cc
type_read (t ∷ types) zero x a is here = let same : type_of t ≡ a = cc in ap type_of here ∙ same
type_read (t ∷ types) (suc k) x a is here = type_read types k x a is here

no_binders : (bs : List LfType) (f : ℕ) (args : Spine) → is_atomic (pis bs (family f args)) ≡ true → bs ≡ []
no_binders [] f args is = refl
no_binders (b ∷ bs) f args is = absurd cc

terms_before : (terms : List Term) (k : ℕ) → spine_of (take k terms) ≡ first_args k (spine_of terms)
terms_before [] zero = refl
terms_before [] (suc k) = refl
terms_before (t ∷ terms) zero = refl
terms_before (t ∷ terms) (suc k) = ap (arg (term_of t)) (terms_before terms k)

shapes_before : (items : List Shape) (bs : Context) (k : ℕ) → simple_types_of items ≡ shapes_of_types bs → simple_types_of (take k items) ≡ shapes_of_types (take k bs)
shapes_before [] [] zero e = refl
shapes_before [] [] (suc k) e = refl
shapes_before [] (b ∷ bs) k e = absurd cc
shapes_before (s ∷ items) [] k e = absurd cc
shapes_before (s ∷ items) (b ∷ bs) zero e = refl
shapes_before (s ∷ items) (b ∷ bs) (suc k) e =
    let here : simple_type_of s ≡ shape_of b = cc in
    let later : simple_types_of items ≡ shapes_of_types bs = cc in
    ap₂ (λ x l. x ∷ l) here (shapes_before items bs k later)

-- There are as many terms as binders.
terms_reach : {Γ : Scope} (type : LfType) (k : ℕ) (a : LfType) (ts : Spine) → type_at (binders_of type) k ≡ Some a → ShapedSpine Γ ts (shape_of type) → k < args_count ts
terms_reach (family f args) k a ts is p = absurd cc
terms_reach (pi b c) k a no_args is p = elim p [ ]
terms_reach (pi b c) zero a (arg t ts) is p = omega arith
terms_reach (pi b c) (suc k) a (arg t ts) is (shaped_arg p ps) = omega (arith, terms_reach c k a ts is ps)

args_shaped : {kinds : ℕ → Option SimpleType} {Γ : Scope} {f : ℕ} {args : Spine} → ShapedType kinds Γ (family f args) → (s : SimpleType) × ShapedSpine Γ args s
args_shaped (shaped_family s e ps) = (s, ps)

module _ (bs : Context) (f : ℕ) (args : Spine) (opened : LfOpened) (k : ℕ) (shaped : HasShapedTerms (pis bs (family f args)) opened.terms) (has : HasAtomAt (pis bs (family f args)) k)
    (types : List Ty) (items : List Shape) (terms : List Term) (types_so : types_of types ≡ bs) (shapes_so : simple_types_of items ≡ shapes_of_types bs) (terms_are : spine_of terms ≡ opened.terms) where
  abbrev type : LfType
  type = pis bs (family f args)

  types_are : types_of types ≡ binders_of type
  types_are = types_so ∙ sym (binders_of-pis bs f args)

  shapes_are : simple_types_of items ≡ shapes_of_types (binders_of type)
  shapes_are = shapes_so ∙ ap shapes_of_types (sym (binders_of-pis bs f args))

  pub within_types : k < length types
  within_types = let low = type_at-within (binders_of type) k has.0 has.1 in omega (arith, low, ap length types_are, length-types_of types)

  pub within_shapes : k ≤ length items
  within_shapes =
      let low = type_at-within (binders_of type) k has.0 has.1 in omega (arith, low, ap length shapes_are, length-simple_types_of items, length-shapes_of_types (binders_of type))

  pub within_terms : k ≤ length terms
  within_terms =
      let low = terms_reach type k has.0 opened.terms has.1 shaped.terms_are_shaped in omega (arith, low, ap args_count terms_are, args_count-spine_of terms)

  module _ (x : Ty) (x_is : x ≡ get_or types k x) where
    abbrev Shapes : List SimpleType
    Shapes = shapes_of_types (take k (binders_of type))

    plain : has.0 ≡ family x.family x.args
    plain =
        let whole = type_read types k x has.0 (ap (λ l. type_at l k) types_are ∙ has.1) x_is in
        sym whole ∙ ap (λ l. pis l (family x.family x.args)) (no_binders x.binders x.family x.args (ap is_atomic whole ∙ has.2))

    args_are_shaped : (s : SimpleType) × ShapedSpine (under_all Shapes shaped.scope) x.args s
    args_are_shaped = args_shaped (subst (ShapedType shaped.kinds (under_all Shapes shaped.scope)) plain (binder_is_shaped shaped.type_is_shaped k has.0 has.1))

    put_are_shaped : ShapedList shaped.scope (first_args k opened.terms) Shapes
    put_are_shaped = first_are_shaped type k has.0 opened.terms has.1 shaped.terms_are_shaped

    sub_is : spine_of (take k terms) ≡ first_args k opened.terms
    sub_is = terms_before terms k ∙ ap (first_args k) terms_are

    pub argument_puts : Puts (spine_of (take k terms)) (simple_types_of (take k items)) 0 0 (ArgsShaped x.args)
    argument_puts =
        subst₂ (λ us ss. Puts us ss 0 0 (ArgsShaped x.args)) (sym sub_is) (sym (shapes_before items (binders_of type) k shapes_are))
        (record {
          outer = shaped.scope;
          target = shaped.scope;
          local = [];
          shape = args_are_shaped.0;
          depth_is = refl;
          keeps = λ h s e. e;
          shaped_sub = put_are_shaped;
          shaped = args_are_shaped.1;
        })

    pub argument_is_type : (r : Spine) → SubstitutedSpine (putting (spine_of (take k terms)) 0 0) x.args r → record { atom_family = x.family; atom_args = r } ≡ argument_type type opened k
    argument_is_type r put =
        let sub = first_args k opened.terms in
        let put_so = subst (λ us. SubstitutedSpine (putting us 0 0) x.args r) sub_is put in
        let result : r ≡ result_of_spine Shapes sub x.args =
        (((results_are_the_one_result shaped.kinds shaped.scope Shapes sub put_are_shaped).1 x.args args_are_shaped.0 args_are_shaped.1).0 r).0 put_so in
        let made : argument_type type opened k ≡ conclusion_atom (result_of_type Shapes sub (family x.family x.args)) =
        ap (λ o. argument_atom o Shapes sub opened.end) has.1 ∙ ap (λ a. conclusion_atom (result_of_type Shapes sub a)) plain in
        let atom : Spine → LfAtom = λ us. record { atom_family = x.family; atom_args = us } in
        ap atom result ∙ sym (made ∙ ap conclusion_atom ((results_go_part_by_part Shapes sub).2 x.family x.args))
