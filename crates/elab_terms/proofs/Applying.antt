-- An application and its arguments as the code has them.
use Rattle.std.proofs.Common.{◌≡◌, ℕ, zero, suc, ◌+◌, ◌<◌, Option, Some, List, [], ◌∷◌, ◌++◌, length, get_or, take, drop, refl, sym, ap, ap₂, ◌∙◌, subst, subst₂, take_all, arith}
use Rattle.std.specs.Prelude.{slice_get}
use Rattle.std.proofs.lemmas.List.{take-append-drop}
use Rattle.lf_definitions.specs.Syntax.{LfHead, Spine, no_args, arg, joined, base, shape_of, shapes_of_types, LfType, family, pis, Context}
use Rattle.lf_definitions.specs.Renaming.{next_by, Renaming, lifted, lifted_by, rename_type, rename_context}
use Rattle.lf_definitions.specs.Shaping.{under_all, ShapedType, ShapedList}
use Rattle.lf_definitions.specs.Substitution.{stays, push_all, SubstitutedType}
use Rattle.lf_definitions.specs.Typing.{Typing, TypedSpine, shapes_of}
use Rattle.lf_definitions.specs.Signatures.{LfSignature, kinds_in}
use Rattle.lf_definitions.specs.ShapedGoals.{ShapedContext, ShapedTyping, kind_shapes_in}
use Rattle.lf_definitions.proofs.Typing.{ShapedSpine-TypedSpine}
use Rattle.lf_definitions.proofs.TypedSpines.{SubstitutedType-renamed_outside}
use Rattle.lf_definitions.proofs.ShapedGoals.{ShapedTyping-head, ShapedType-under_pis}
use Rattle.lf_definitions.proofs.Unrenaming.{ShapedType-unrenamed}
use Rattle.lf_terms.specs.declared.term.Term.{Term}
use Rattle.lf_terms.specs.Terms.{term_of, spine_of}
use Rattle.lf_terms.specs.declared.ty.Ty.{Ty}
use Rattle.lf_terms.specs.Types.{type_of, types_of}
use Rattle.lf_terms.specs.declared.shape.Shape.{Shape}
use Rattle.lf_terms.specs.Shapes.{simple_type_of, simple_types_of}
use Rattle.lf_terms.specs.Putting.{Puts, TypeShaped}
use Rattle.lf_terms.proofs.Spines.{args_count-spine_of, spine_of-append}
use Rattle.lf_kernel.specs.declared.head_type.HeadType.{HeadType}
use Rattle.lf_kernel.specs.Heads.{declared_type}
use Rattle.lf_kernel.specs.ShapedPlaces.{binders_scope}
use Rattle.lf_kernel.proofs.Arguments.{TypedUpTo}
use Rattle.lf_kernel.proofs.Expected.{shapes_of-raised}
use Rattle.file_trees.specs.Trees.{Tree}
use Rattle.elab_terms.specs.Names.{Text, Bound}
use Rattle.elab_terms.specs.KnownTypes.{Founded}
use Rattle.elab_terms.specs.Domains.{left_of}
use Rattle.elab_terms.specs.Terms.{ReadsTerm, ReadsArguments, RefusesTerm, RefusesArguments}
use Rattle.elab_terms.specs.declared.elab_fault.ElabFault.{ElabFault}
use Rattle.typing_laws.proofs.Binders.{pis-append}
use Rattle.elab_terms.proofs.Reading.{seen_types, ReadsArguments-more, RefusesArguments-at, split_at, take_next, shaped_take, take-rename_context, arguments_typed}

types_of-take : (types : List Ty) (i : ℕ) → types_of (take i types) ≡ take i (types_of types)
types_of-take types zero = refl
types_of-take [] (suc i) = refl
types_of-take (t ∷ types) (suc i) = ap (λ rest. type_of t ∷ rest) (types_of-take types i)

shapes_of_types-take : (types : Context) (i : ℕ) → shapes_of_types (take i types) ≡ take i (shapes_of_types types)
shapes_of_types-take types zero = refl
shapes_of_types-take [] (suc i) = refl
shapes_of_types-take (a ∷ types) (suc i) = ap (λ rest. shape_of a ∷ rest) (shapes_of_types-take types i)

simple_types_of-take : (ss : List Shape) (i : ℕ) → simple_types_of (take i ss) ≡ take i (simple_types_of ss)
simple_types_of-take ss zero = refl
simple_types_of-take [] (suc i) = refl
simple_types_of-take (s ∷ ss) (suc i) = ap (λ rest. simple_type_of s ∷ rest) (simple_types_of-take ss i)

pub seen_take : (raise : ℕ) (types : List Ty) (i : ℕ) → take i (seen_types raise types) ≡ rename_context (next_by raise) (types_of (take i types))
seen_take raise types i = take-rename_context i (types_of types) (next_by raise) ∙ ap (rename_context (next_by raise)) (sym (types_of-take types i))

slice_get-rename_context : (types : List Ty) (i : ℕ) (ty : Ty) (ξ : Renaming) → i < length types → ty ≡ get_or types i ty → slice_get (rename_context ξ (types_of types)) i ≡ Some (rename_type (lifted_by i ξ) (type_of ty))
slice_get-rename_context [] i ty ξ within is = absurd (omega arith)
slice_get-rename_context (t ∷ types) zero ty ξ within is = ap (λ x. Some (rename_type ξ (type_of x))) (sym is)
slice_get-rename_context (t ∷ types) (suc i) ty ξ within is = slice_get-rename_context types i ty (lifted ξ) (omega arith) is

-- the arguments before a place are typed at the binders before it
pub typed_before : {text : Text} {sig : LfSignature} {binders : Bound} {Γ : Typing} (arguments : List Tree) (raise i : ℕ) (types : List Ty) (domains : Context) (terms : List Term) → Founded (kinds_in sig) Γ →
    types_of types ≡ domains → ShapedContext (kind_shapes_in sig) (shapes_of Γ) (rename_context (next_by raise) domains) → length terms ≡ i →
    ReadsArguments text sig binders Γ stays (take i arguments) (take i (seen_types raise types)) (spine_of terms) → TypedUpTo Γ (next_by raise) terms types i
typed_before {sig = sig} {Γ = Γ} arguments raise i types domains terms founded are shaped count read =
    let seen : ShapedContext (kind_shapes_in sig) (shapes_of Γ) (seen_types raise types) = subst (λ ds. ShapedContext (kind_shapes_in sig) (shapes_of Γ) (rename_context (next_by raise) ds)) (sym are) shaped in
    subst₂ (λ xs ds. TypedSpine Γ stays (spine_of xs) ds) (sym (take_all i terms (omega arith))) (seen_take raise types i)
    (arguments_typed founded (shaped_take (kind_shapes_in sig) (shapes_of Γ) (seen_types raise types) i seen) read)

seen_result : (raise i : ℕ) (terms : List Term) (a c : LfType) → length terms ≡ i → SubstitutedType (push_all (spine_of terms) (λ h. stays (next_by raise h))) a c →
    SubstitutedType (push_all (spine_of terms) stays) (rename_type (lifted_by i (next_by raise)) a) c
seen_result raise i terms a c count result =
    subst (λ n. SubstitutedType (push_all (spine_of terms) stays) (rename_type (lifted_by n (next_by raise)) a) c) (args_count-spine_of terms ∙ count)
    (SubstitutedType-renamed_outside (spine_of terms) (next_by raise) a c result)

module _ {text : Text} {sig : LfSignature} {binders : Bound} {Γ : Typing} (arguments : List Tree) (raise i : ℕ) (types : List Ty) (terms : List Term) {tree : Tree} (ty : Ty) {c : LfType}
    (within : i < length types) (is : ty ≡ get_or types i ty) (there : slice_get arguments i ≡ Some tree) (count : length terms ≡ i)
    (result : SubstitutedType (push_all (spine_of terms) (λ h. stays (next_by raise h))) (type_of ty) c)
    (before : ReadsArguments text sig binders Γ stays (take i arguments) (take i (seen_types raise types)) (spine_of terms)) where
  abbrev domain : LfType
  domain = rename_type (lifted_by i (next_by raise)) (type_of ty)

  here : slice_get (seen_types raise types) i ≡ Some domain
  here = slice_get-rename_context types i ty (next_by raise) within is

  pub argument_read : (t : Term) (new : List Term) → new ≡ terms ++ t ∷ [] → ReadsTerm text sig binders Γ tree c (term_of t) →
      ReadsArguments text sig binders Γ stays (take (i + 1) arguments) (take (i + 1) (seen_types raise types)) (spine_of new)
  argument_read t new pushed read =
      subst (λ us. ReadsArguments text sig binders Γ stays (take (i + 1) arguments) (take (i + 1) (seen_types raise types)) us) (sym (ap spine_of pushed ∙ spine_of-append terms t))
      (subst₂ (λ ts ds. ReadsArguments text sig binders Γ stays ts ds (joined (spine_of terms) (arg (term_of t) no_args))) (sym (take_next arguments i tree there)) (sym (take_next (seen_types raise types) i domain here))
      (ReadsArguments-more before tree domain c (term_of t) (seen_result raise i terms (type_of ty) c count result) read))

  pub argument_refused : (domains : Context) → types_of types ≡ domains → (fault : ElabFault) → RefusesTerm text sig binders Γ tree c fault →
      RefusesArguments text sig binders Γ stays arguments (rename_context (next_by raise) domains) fault
  argument_refused domains are fault refused =
      subst₂ (λ ts ds. RefusesArguments text sig binders Γ stays ts ds fault) (sym (split_at arguments i tree there)) (sym (split_at (seen_types raise types) i domain here) ∙ ap (rename_context (next_by raise)) are)
      (RefusesArguments-at before tree (drop (suc i) arguments) domain c (drop (suc i) (seen_types raise types)) fault (seen_result raise i terms (type_of ty) c count result) refused)

-- all of them
pub arguments_read : {text : Text} {sig : LfSignature} {binders : Bound} {Γ : Typing} (arguments : List Tree) (raise i : ℕ) (types : List Ty) (domains : Context) {ts : Spine} → i ≡ length arguments → types_of types ≡ domains →
    ReadsArguments text sig binders Γ stays (take i arguments) (take i (seen_types raise types)) ts → ReadsArguments text sig binders Γ stays arguments (take (length arguments) (rename_context (next_by raise) domains)) ts
arguments_read {text = text} {sig = sig} {binders = binders} {Γ = Γ} arguments raise i types domains {ts = ts} all are read =
    subst₂ (λ xs ds. ReadsArguments text sig binders Γ stays xs ds ts) (take_all i arguments (omega arith)) (ap₂ (λ n ds. take n (rename_context (next_by raise) ds)) all are) read

-- what putting arguments into the rest of a head's type asks
pub type_after_puts : (sig : LfSignature) (Γ : Typing) (h : LfHead) (found : HeadType) → ShapedTyping (kinds_in sig) Γ → ◌≡◌ {A = Option LfType} (Some (rename_type (next_by found.raise) (declared_type found))) (Γ h) →
    (terms : List Term) (n m : ℕ) (ss : List Shape) → TypedSpine Γ stays (spine_of terms) (take n (rename_context (next_by found.raise) found.binders.now)) → length terms ≡ n → m ≡ n →
    simple_types_of ss ≡ shapes_of_types found.binders.now → Puts (spine_of terms) (simple_types_of (take m ss)) found.raise 0 (TypeShaped (left_of found (length terms)))
type_after_puts sig Γ h found shaped known terms n m ss typed count same shapes_are =
    let ξ = next_by found.raise in
    let bs = found.binders.now in
    let end = family found.family found.args.now in
    let kinds = kind_shapes_in sig in
    let Θ = binders_scope Γ found.raise in
    let declared : ShapedType kinds Θ (pis bs end) =
    ShapedType-unrenamed (declared_type found) ξ Θ (shapes_of Γ) (λ k s e. e) (ShapedTyping-head (kinds_in sig) Γ shaped h (rename_type ξ (declared_type found)) (sym known)) in
    let shapes : simple_types_of (take m ss) ≡ shapes_of_types (take n bs) =
    simple_types_of-take ss m ∙ ap₂ (λ k xs. take k xs) same shapes_are ∙ sym (shapes_of_types-take bs n) in
    let seen : shapes_of_types (take n (rename_context ξ bs)) ≡ shapes_of_types (take n bs) =
    shapes_of_types-take (rename_context ξ bs) n ∙ ap (take n) (shapes_of-raised ξ bs) ∙ sym (shapes_of_types-take bs n) in
    let left : ShapedType kinds (under_all (shapes_of_types (take n bs)) Θ) (pis (drop n bs) end) =
    ShapedType-under_pis (take n bs) (pis (drop n bs) end)
    (subst (ShapedType kinds Θ) (ap (λ cs. pis cs end) (sym (take-append-drop n bs)) ∙ pis-append (take n bs) (drop n bs) end) declared) in record {
      outer = Θ;
      target = shapes_of Γ;
      local = [];
      shape = base;
      depth_is = refl;
      keeps = λ k s e. e;
      shaped_sub = subst (ShapedList (shapes_of Γ) (spine_of terms)) (seen ∙ sym shapes) (ShapedSpine-TypedSpine typed);
      shaped = (kinds, subst₂ (λ l k. ShapedType kinds (under_all l Θ) (pis (drop k bs) end)) (sym shapes) (sym count) left);
    }
