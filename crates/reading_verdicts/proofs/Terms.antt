-- A term is read at a type that is wanted, or it is refused.
use Rattle.std.proofs.Common.{◌≡◌, ℕ, ◌<◌, ◌≤◌, ◌⊎◌, inl, inr, Option, Some, None, List, [], ◌∷◌, ◌++◌, length, refl, sym, ap, ◌∙◌, subst}
use Rattle.lf_definitions.specs.Syntax.{LfHead, lam, Spine, shape_of, shapes_of_types, shape_size, arrows, base, conclusion, LfType, pi, family, pis, Context}
use Rattle.lf_definitions.specs.Shaping.{ShapedType}
use Rattle.lf_definitions.specs.Substitution.{stays, push_all, SubstitutedType}
use Rattle.lf_definitions.specs.Typing.{Typing, with_variable, shapes_of}
use Rattle.lf_definitions.specs.Signatures.{LfSignature, kinds_in}
use Rattle.lf_definitions.specs.ShapedGoals.{kind_shapes_in}
use Rattle.lf_definitions.proofs.Totality.{Goes-stays}
use Rattle.lf_definitions.proofs.Types.{total_type}
use Rattle.lf_definitions.proofs.Failures.{binders_of, family_args_of}
use Rattle.lf_definitions.proofs.Decisions.{SameOrNot, pis-binders_of, Goes-TypedSpine}
use Rattle.lf_definitions.proofs.ShapedGoals.{ShapedTyping-head, ShapedContext-pis, ShapedType-under_pis}
use Rattle.typing_laws.specs.EtaLaws.{expanded}
use Rattle.file_trees.specs.declared.span.Span.{Span}
use Rattle.file_trees.specs.declared.span.BinderSpan.{BinderSpan}
use Rattle.file_trees.specs.Trees.{Tree, leaf, abstraction, head, apply}
use Rattle.file_trees.specs.Places.{tree_place}
use Rattle.elab_terms.specs.Applied.{base_of, arguments_of}
use Rattle.elab_terms.specs.Names.{Text, text_at, binder_name, Bound, named_head}
use Rattle.elab_terms.specs.Terms.{ReadsTerm, reads_abstraction, reads_application, RefusesTerm, refuses_abstraction, refuses_body, refuses_redex, refuses_name, refuses_extra, refuses_in_argument, refuses_result}
use Rattle.elab_terms.specs.KnownTypes.{IsWanted}
use Rattle.elab_terms.specs.declared.elab_fault.ElabFault.TheVariants.{Unknown, Redex, IllTyped}
use Rattle.elab_terms.proofs.Reading.{wanted_binder, wanted_under, arguments_typed}
use Rattle.reading_verdicts.proofs.SameTypes.{same_types}
use Rattle.reading_verdicts.proofs.Entries.{below_or_not, entry_at, pis_append}
use Rattle.reading_verdicts.proofs.Places.{Place, place_under, HasType, head_typed}
use Rattle.reading_verdicts.proofs.Arguments.{Judged, IsJudged, AreJudged, ReadsFirst, ArgumentsJudged, arguments_judged}

module _ (text : Text) (sig : LfSignature) where
  abbrev TermJudged : Bound → Typing → Tree → LfType → Type 0
  TermJudged binders Γ tree wanted = Judged (ReadsTerm text sig binders Γ tree wanted) (RefusesTerm text sig binders Γ tree wanted)

  module _ (binders : Bound) (Γ : Typing) (place : Place sig Γ binders) (tree : Tree) (wanted : LfType) (shaped : IsWanted sig Γ wanted) where
    -- an application, by the type of its head
    module _ (span : Span) (h : LfHead) (domains : Context) (f : ℕ) (args : Spine) (first_is : base_of tree ≡ leaf span) (resolved : named_head sig binders (text_at text span) ≡ Some h)
        (known : Γ h ≡ Some (pis domains (family f args))) where
      abbrev arguments : List Tree
      arguments = arguments_of tree []

      module _ (ts : Spine) (r : ReadsFirst text sig binders Γ stays arguments domains ts) where
        known_parts : Γ h ≡ Some (pis (r.first ++ r.missing) (family f args))
        known_parts = known ∙ ap (λ ds. Some (pis ds (family f args))) r.parts

        compared : (found : LfType) → SubstitutedType (push_all ts stays) (pis r.missing (family f args)) found → SameOrNot found wanted → TermJudged binders Γ tree wanted
        compared found result (inl same) =
            inl (
              expanded h ts (shape_of wanted),
              reads_application binders Γ tree span arguments h r.first r.missing f args ts wanted (first_is, refl) resolved known_parts r.read
                  (subst (SubstitutedType (push_all ts stays) (pis r.missing (family f args))) same result),
            )
        compared found result (inr differ) =
            inr (
              IllTyped (tree_place tree),
              refuses_result binders Γ tree span arguments h r.first r.missing f args ts found wanted (first_is, refl) resolved known_parts r.read result differ,
            )

        head_shaped : ShapedType (kind_shapes_in sig) (shapes_of Γ) (pis r.first (pis r.missing (family f args)))
        head_shaped =
            subst (ShapedType (kind_shapes_in sig) (shapes_of Γ)) (pis_append r.first r.missing (family f args))
            (ShapedTyping-head (kinds_in sig) Γ place.known.founded.shaped h (pis (r.first ++ r.missing) (family f args)) known_parts)

        with_arguments : TermJudged binders Γ tree wanted
        with_arguments =
            let end = pis r.missing (family f args) in
            let typed = arguments_typed place.known.founded (ShapedContext-pis r.first end head_shaped) r.read in
            let found = total_type (shape_size (arrows (shapes_of_types r.first) base)) (ShapedType-under_pis r.first end head_shaped) (shapes_of Γ) (push_all ts stays) (Goes-TypedSpine typed) in
            compared found.0 found.1 (same_types found.0 wanted)

      few_arguments : length arguments ≤ length domains → ArgumentsJudged text sig binders Γ stays arguments domains → TermJudged binders Γ tree wanted
      few_arguments few (inl (ts, read)) = with_arguments ts read
      few_arguments few (inr (fault, refused)) =
          inr (fault, refuses_in_argument binders Γ tree span arguments h domains f args wanted fault (first_is, refl) resolved known few refused)

      counted : AreJudged text sig arguments → (length domains < length arguments) ⊎ (length arguments ≤ length domains) → TermJudged binders Γ tree wanted
      counted all (inl many) =
          let extra = entry_at arguments (length domains) many in
          inr (
            IllTyped (tree_place extra.0),
            refuses_extra binders Γ tree extra.0 span arguments h domains f args wanted (first_is, refl) resolved known extra.1,
          )
      counted all (inr few) =
          let whole = ShapedTyping-head (kinds_in sig) Γ place.known.founded.shaped h (pis domains (family f args)) known in
          few_arguments few (arguments_judged text sig binders Γ place arguments all domains (shapes_of Γ) 0 stays (Goes-stays 0 (shapes_of Γ)) (ShapedContext-pis domains (family f args) whole) few)

    -- by what the name stands for
    named : (span : Span) → base_of tree ≡ leaf span → AreJudged text sig (arguments_of tree []) → (o : Option LfHead) → named_head sig binders (text_at text span) ≡ o → TermJudged binders Γ tree wanted
    named span first_is all None none = inr (Unknown span.start, refuses_name binders Γ tree span (arguments_of tree []) wanted (first_is, refl) none)
    named span first_is all (Some h) resolved =
        let typed : HasType Γ h = head_typed sig Γ binders place (text_at text span) h resolved in
        let domains = binders_of typed.0 in
        counted span h domains (conclusion typed.0) (family_args_of typed.0) first_is resolved (typed.1 ∙ ap (λ a. Some a) (sym (pis-binders_of typed.0))) all
        (below_or_not (length domains) (length (arguments_of tree [])))

    body_judged : (binder : BinderSpan) (body : Tree) (a c : LfType) → base_of tree ≡ abstraction binder body → arguments_of tree [] ≡ [] →
        TermJudged (binder_name text binder ∷ binders) (with_variable a Γ) body c → TermJudged binders Γ tree (pi a c)
    body_judged binder body a c first_is none (inl (b, read)) = inl (lam b, reads_abstraction binders Γ tree binder body a c b (first_is, none) read)
    body_judged binder body a c first_is none (inr (fault, refused)) = inr (fault, refuses_body binders Γ tree binder body a c fault (first_is, none) refused)

  abstracted : (binders : Bound) (Γ : Typing) → Place sig Γ binders → (tree : Tree) (wanted : LfType) → IsWanted sig Γ wanted → (binder : BinderSpan) (body : Tree) → base_of tree ≡ abstraction binder body →
      IsJudged text sig body → (arguments : List Tree) → arguments_of tree [] ≡ arguments → TermJudged binders Γ tree wanted
  abstracted binders Γ place tree wanted shaped binder body first_is judged (argument ∷ arguments) are =
      inr (Redex binder.opening, refuses_redex binders Γ tree argument binder body arguments wanted (first_is, are))
  abstracted binders Γ place tree (family f args) shaped binder body first_is judged [] are =
      inr (IllTyped binder.opening, refuses_abstraction binders Γ tree binder body f args (first_is, are))
  abstracted binders Γ place tree (pi a c) shaped binder body first_is judged [] are =
      body_judged binders Γ place tree (pi a c) shaped binder body a c first_is are
      (judged (binder_name text binder ∷ binders) (with_variable a Γ) (place_under sig Γ binders (binder_name text binder) a place (wanted_binder sig Γ (pi a c) a c refl shaped)) c
      (wanted_under sig Γ (with_variable a Γ) (pi a c) a c refl refl shaped))

  -- The parts of a tree are judged: its arguments, and the body of an abstraction that it begins with.
  abbrev BodyJudged : Tree → Type 0
  BodyJudged (leaf span) = Unit {0}
  BodyJudged (abstraction binder body) = IsJudged text sig body
  BodyJudged (head tree) = ⊥
  BodyJudged (apply tree argument) = ⊥

  abbrev PartsJudged : Tree → Type 0
  PartsJudged tree = ((after : List Tree) → AreJudged text sig after → AreJudged text sig (arguments_of tree after)) × BodyJudged (base_of tree)

  by_first : (tree first : Tree) → base_of tree ≡ first → AreJudged text sig (arguments_of tree []) → BodyJudged first → IsJudged text sig tree
  by_first tree (leaf span) first_is all body binders Γ place wanted shaped =
      named binders Γ place tree wanted shaped span first_is all (named_head sig binders (text_at text span)) refl
  by_first tree (abstraction binder inner) first_is all body binders Γ place wanted shaped =
      abstracted binders Γ place tree wanted shaped binder inner first_is body (arguments_of tree []) refl
  by_first tree (head inner) first_is all body binders Γ place wanted shaped = absurd body
  by_first tree (apply inner argument) first_is all body binders Γ place wanted shaped = absurd body

  by_parts : (tree : Tree) → PartsJudged tree → IsJudged text sig tree
  by_parts tree parts = by_first tree (base_of tree) refl (parts.0 [] tt) parts.1

  parts_judged : (tree : Tree) → PartsJudged tree
  parts_judged (leaf span) = ((λ after all. all), tt)
  parts_judged (abstraction binder body) = ((λ after all. all), by_parts body (parts_judged body))
  parts_judged (head tree) = parts_judged tree
  parts_judged (apply tree argument) =
      let inside = parts_judged tree in
      let last = by_parts argument (parts_judged argument) in
      ((λ after all. inside.0 (argument ∷ after) (last, all)), inside.1)

  pub term_judged : (tree : Tree) → IsJudged text sig tree
  term_judged tree = by_parts tree (parts_judged tree)

  pub terms_judged : (trees : List Tree) → AreJudged text sig trees
  terms_judged [] = tt
  terms_judged (tree ∷ trees) = (term_judged tree, terms_judged trees)
