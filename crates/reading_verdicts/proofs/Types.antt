-- A type is read or refused, and so is a kind.
use Rattle.std.proofs.Common.{◌≡◌, ℕ, suc, ◌<◌, ◌≤◌, ◌⊎◌, inl, inr, Option, Some, None, List, [], ◌∷◌, length, take, refl, sym, ◌∙◌, subst, arith}
use Rattle.std.proofs.lemmas.List.{append-nil, take_all}
use Rattle.basics.specs.Limits.{most_binders}
use Rattle.lf_definitions.specs.Syntax.{LfType, pi, family, LfKind, Spine}
use Rattle.lf_definitions.specs.Substitution.{stays}
use Rattle.lf_definitions.specs.Typing.{Typing, with_variable, shapes_of}
use Rattle.lf_definitions.specs.Signatures.{LfSignature, kinds_in}
use Rattle.lf_definitions.proofs.Totality.{Goes-stays}
use Rattle.lf_definitions.proofs.Typing.{ShapedType-Formed}
use Rattle.lf_definitions.proofs.ShapedGoals.{ShapedTyping-family}
use Rattle.file_trees.specs.declared.span.Span.{Span}
use Rattle.file_trees.specs.Trees.{Tree, Classifier}
use Rattle.file_trees.specs.Trees as trees
use Rattle.file_trees.specs.Places.{tree_place}
use Rattle.elab_terms.specs.Names.{Text, text_at, binder_name, Bound, family_of}
use Rattle.elab_terms.specs.Terms.{ReadsArguments}
use Rattle.elab_terms.specs.Types.{classifier_place, IsBinder, pi_binder, arrow_binder, ReadsType, reads_binder, reads_family, RefusesType, refuses_binder, refuses_domain, refuses_rest, refuses_family, refuses_word, refuses_few, refuses_family_argument, refuses_family_extra, ReadsKind, reads_type_word, reads_kind_binder, RefusesKind, refuses_kind_domain, refuses_kind_rest, refuses_kind_family}
use Rattle.elab_terms.specs.KnownTypes.{IsWanted}
use Rattle.elab_terms.specs.declared.elab_fault.ElabFault.TheVariants.{Unknown, TooMany, IllTyped}
use Rattle.elab_terms.proofs.ReadTyped.{Formed-ReadsType}
use Rattle.elab_terms.proofs.ReadOnce.{same_first, length-ReadsArguments}
use Rattle.reading_verdicts.proofs.Entries.{below_or_not, entry_at, length_take}
use Rattle.reading_verdicts.proofs.Places.{Place, place_under, family_known}
use Rattle.reading_verdicts.proofs.Arguments.{Judged, judged_take, ReadsFirst, ArgumentsJudged, arguments_judged}
use Rattle.reading_verdicts.proofs.Terms.{terms_judged}

module _ (text : Text) (sig : LfSignature) where
  abbrev pub TypeJudged : Bound → Typing → ℕ → Classifier → Type 0
  TypeJudged binders Γ count tree = Judged (ReadsType text sig binders Γ count tree) (RefusesType text sig binders Γ count tree)

  abbrev pub KindJudged : Bound → Typing → Classifier → Type 0
  KindJudged binders Γ tree = Judged (ReadsKind text sig binders Γ tree) (RefusesKind text sig binders Γ tree)

  module _ (binders : Bound) (Γ : Typing) (place : Place sig Γ binders) (count : ℕ) where
    module _ (span : Span) (arguments : List Tree) (f : ℕ) (domains : LfKind) (resolved : family_of sig binders (text_at text span) ≡ Some f) (known : kinds_in sig f ≡ Some domains) where
      abbrev FamilyJudged : Type 0
      FamilyJudged = TypeJudged binders Γ count (trees.family span arguments)

      abbrev taken : List Tree
      taken = take (length domains) arguments

      all_read : (ts : Spine) → length domains ≤ length arguments → ReadsFirst text sig binders Γ stays taken domains ts → ReadsArguments text sig binders Γ stays taken domains ts
      all_read ts enough r =
          let counts : length r.first ≡ length domains = sym (length-ReadsArguments r.read) ∙ length_take (length domains) arguments enough in
          let same : r.first ≡ domains = same_first r.first r.missing domains [] (sym r.parts ∙ sym (append-nil domains)) counts in
          subst (λ ds. ReadsArguments text sig binders Γ stays taken ds ts) same r.read

      no_more : (ts : Spine) → ReadsArguments text sig binders Γ stays taken domains ts → (length domains < length arguments) ⊎ (length arguments ≤ length domains) → FamilyJudged
      no_more ts read (inl many) =
          let extra = entry_at arguments (length domains) many in
          inr (IllTyped (tree_place extra.0), refuses_family_extra binders Γ count span arguments extra.0 f domains ts resolved known read extra.1)
      no_more ts read (inr few) =
          let whole : taken ≡ arguments = take_all (length domains) arguments few in
          inl (family f ts, reads_family binders Γ count span arguments f domains ts resolved known (subst (λ xs. ReadsArguments text sig binders Γ stays xs domains ts) whole read))

      enough_arguments : length domains ≤ length arguments → ArgumentsJudged text sig binders Γ stays taken domains → FamilyJudged
      enough_arguments enough (inl (ts, read)) = no_more ts (all_read ts enough read) (below_or_not (length domains) (length arguments))
      enough_arguments enough (inr (fault, refused)) =
          inr (fault, refuses_family_argument binders Γ count span arguments f domains fault resolved known enough refused)

      few_taken : length domains ≤ length arguments → length taken ≤ length domains
      few_taken enough = omega (arith, length_take (length domains) arguments enough)

      with_kind : (length arguments < length domains) ⊎ (length domains ≤ length arguments) → FamilyJudged
      with_kind (inl few) = inr (IllTyped span.start, refuses_few binders Γ count span arguments f domains resolved known few)
      with_kind (inr enough) =
          enough_arguments enough
          (arguments_judged text sig binders Γ place taken (judged_take text sig (length domains) arguments (terms_judged text sig arguments)) domains (shapes_of Γ) 0 stays
          (Goes-stays 0 (shapes_of Γ)) (ShapedTyping-family (kinds_in sig) Γ place.known.founded.shaped f domains known) (few_taken enough))

    with_family : (span : Span) (arguments : List Tree) (o : Option ℕ) → family_of sig binders (text_at text span) ≡ o → TypeJudged binders Γ count (trees.family span arguments)
    with_family span arguments None none = inr (Unknown span.start, refuses_family binders Γ count span arguments none)
    with_family span arguments (Some f) resolved =
        let kind = family_known sig binders (text_at text span) f resolved in
        with_kind span arguments f kind.0 resolved kind.1 (below_or_not (length arguments) (length kind.0))

    module _ (start : ℕ) (whole domain rest : Classifier) (name : Option (List ℕ)) (is : IsBinder text whole start domain rest name) (few : count < most_binders) where
      with_rest : (a : LfType) → ReadsType text sig binders Γ 0 domain a → TypeJudged (name ∷ binders) (with_variable a Γ) (suc count) rest → TypeJudged binders Γ count whole
      with_rest a read (inl (b, more)) = inl (pi a b, reads_binder binders Γ count start whole domain rest name a b is few read more)
      with_rest a read (inr (fault, refused)) = inr (fault, refuses_rest binders Γ count start whole domain rest name a fault is few read refused)

      with_domain : TypeJudged binders Γ 0 domain → ((a : LfType) → IsWanted sig Γ a → TypeJudged (name ∷ binders) (with_variable a Γ) (suc count) rest) → TypeJudged binders Γ count whole
      with_domain (inl (a, read)) further = with_rest a read (further a (ShapedType-Formed (Formed-ReadsType read place.known.founded)))
      with_domain (inr (fault, refused)) further = inr (fault, refuses_domain binders Γ count start whole domain rest name fault is few refused)

    with_binder : (start : ℕ) (whole domain rest : Classifier) (name : Option (List ℕ)) → IsBinder text whole start domain rest name → TypeJudged binders Γ 0 domain →
        ((a : LfType) → IsWanted sig Γ a → TypeJudged (name ∷ binders) (with_variable a Γ) (suc count) rest) →
        (count < most_binders) ⊎ (most_binders ≤ count) → TypeJudged binders Γ count whole
    with_binder start whole domain rest name is first further (inl few) = with_domain start whole domain rest name is few first further
    with_binder start whole domain rest name is first further (inr many) = inr (TooMany start, refuses_binder binders Γ count start whole domain rest name is many)

  pub type_judged : (tree : Classifier) (binders : Bound) (Γ : Typing) → Place sig Γ binders → (count : ℕ) → TypeJudged binders Γ count tree
  type_judged (trees.pi binder domain rest) binders Γ place count =
      with_binder binders Γ place count binder.opening (trees.pi binder domain rest) domain rest (binder_name text binder) (pi_binder binder domain rest) (type_judged domain binders Γ place 0)
      (λ a shaped. type_judged rest (binder_name text binder ∷ binders) (with_variable a Γ) (place_under sig Γ binders (binder_name text binder) a place shaped) (suc count))
      (below_or_not count most_binders)
  type_judged (trees.arrow left right) binders Γ place count =
      with_binder binders Γ place count (classifier_place left) (trees.arrow left right) left right None (arrow_binder left right) (type_judged left binders Γ place 0)
      (λ a shaped. type_judged right (None ∷ binders) (with_variable a Γ) (place_under sig Γ binders None a place shaped) (suc count))
      (below_or_not count most_binders)
  type_judged (trees.family span arguments) binders Γ place count = with_family binders Γ place count span arguments (family_of sig binders (text_at text span)) refl
  type_judged (trees.star span) binders Γ place count = inr (Unknown span.start, refuses_word binders Γ count span)

  module _ (binders : Bound) (Γ : Typing) (place : Place sig Γ binders) (start : ℕ) (whole domain rest : Classifier) (name : Option (List ℕ)) (is : IsBinder text whole start domain rest name) where
    with_kind_rest : (a : LfType) → ReadsType text sig binders Γ 0 domain a → KindJudged (name ∷ binders) (with_variable a Γ) rest → KindJudged binders Γ whole
    with_kind_rest a read (inl (kind, more)) = inl (a ∷ kind, reads_kind_binder binders Γ start whole domain rest name a kind is read more)
    with_kind_rest a read (inr (fault, refused)) = inr (fault, refuses_kind_rest binders Γ start whole domain rest name a fault is read refused)

    with_kind_domain : TypeJudged binders Γ 0 domain → ((a : LfType) → IsWanted sig Γ a → KindJudged (name ∷ binders) (with_variable a Γ) rest) → KindJudged binders Γ whole
    with_kind_domain (inl (a, read)) further = with_kind_rest a read (further a (ShapedType-Formed (Formed-ReadsType read place.known.founded)))
    with_kind_domain (inr (fault, refused)) further = inr (fault, refuses_kind_domain binders Γ start whole domain rest name fault is refused)

  pub kind_judged : (tree : Classifier) (binders : Bound) (Γ : Typing) → Place sig Γ binders → KindJudged binders Γ tree
  kind_judged (trees.pi binder domain rest) binders Γ place =
      with_kind_domain binders Γ place binder.opening (trees.pi binder domain rest) domain rest (binder_name text binder) (pi_binder binder domain rest) (type_judged domain binders Γ place 0)
      (λ a shaped. kind_judged rest (binder_name text binder ∷ binders) (with_variable a Γ) (place_under sig Γ binders (binder_name text binder) a place shaped))
  kind_judged (trees.arrow left right) binders Γ place =
      with_kind_domain binders Γ place (classifier_place left) (trees.arrow left right) left right None (arrow_binder left right) (type_judged left binders Γ place 0)
      (λ a shaped. kind_judged right (None ∷ binders) (with_variable a Γ) (place_under sig Γ binders None a place shaped))
  kind_judged (trees.family span arguments) binders Γ place = inr (Unknown span.start, refuses_kind_family binders Γ span arguments)
  kind_judged (trees.star span) binders Γ place = inl ([], reads_type_word binders Γ span)
