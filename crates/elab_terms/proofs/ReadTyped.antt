-- What is read is typed.
use Rattle.std.proofs.Common.{ℕ, suc, ◌+◌, Option, List, [], ◌∷◌, ◌++◌, sym, subst, arith}
use Rattle.lf_definitions.specs.Syntax.{LfTerm, Spine, SimpleType, shape_of, LfType, family, pis, Context, shape_size}
use Rattle.lf_definitions.specs.Shaping.{Scope, under, Shaped, ShapedType}
use Rattle.lf_definitions.specs.Substitution.{Replacement}
use Rattle.lf_definitions.specs.Typing.{Typing, with_variable, Typed, typed_lam, TypedSpine, typed_none, typed_arg, Kinds, Formed, formed_pi, formed_family, FormedContext, formed_empty, formed_entry, shapes_of, shapes_of_kinds}
use Rattle.lf_definitions.specs.Signatures.{LfSignature, kinds_in, typing_in, FormedSignature}
use Rattle.lf_definitions.specs.ShapedGoals.{ShapedContext, shaped_empty, shaped_entry}
use Rattle.lf_definitions.specs.Replacements.{Goes}
use Rattle.lf_definitions.proofs.Totality.{Goes-more, Goes-stays, Goes-push}
use Rattle.lf_definitions.proofs.Types.{shape_of-SubstitutedType, ShapedType-SubstitutedType}
use Rattle.lf_definitions.proofs.Typing.{ShapedType-Formed, Shaped-Typed, shaped_argument, shaped_result}
use Rattle.lf_definitions.proofs.ShapedGoals.{ShapedTyping-with_variable, ShapedTyping-head, ShapedTyping-family, ShapedContext-pis, shapes_of-under, ShapedSignature-FormedSignature, ShapedTyping-typing_in}
use Rattle.typing_laws.proofs.ClosedTypes.{closed_globals, no_goals}
use Rattle.typing_laws.proofs.EtaTyping.{expansions_have_their_types}
use Rattle.file_trees.specs.Trees.{Tree, Classifier}
use Rattle.elab_terms.specs.Names.{Text, Bound}
use Rattle.elab_terms.specs.Terms.{ReadsTerm, reads_abstraction, reads_application, ReadsArguments, reads_none, reads_argument}
use Rattle.elab_terms.specs.Types.{ReadsType, reads_binder, reads_family, ReadsKind, reads_type_word, reads_kind_binder}
use Rattle.elab_terms.specs.KnownTypes.{Founded}

pub Founded-with_variable : (kinds : Kinds) (Γ : Typing) (a : LfType) → Founded kinds Γ → ShapedType (shapes_of_kinds kinds) (shapes_of Γ) a → Founded kinds (with_variable a Γ)
Founded-with_variable kinds Γ a good p = record {
  shaped = ShapedTyping-with_variable kinds Γ a good.shaped p;
  constants = good.constants;
  metavariables = good.metavariables;
}

shaped_first : {kinds : ℕ → Option SimpleType} {Γ : Scope} (first missing : Context) → ShapedContext kinds Γ (first ++ missing) → ShapedContext kinds Γ first
shaped_first [] missing p = shaped_empty
shaped_first (a ∷ first) missing (shaped_entry p ps) = shaped_entry p (shaped_first first missing ps)

mutual
  pub Typed-ReadsTerm : {text : Text} {sig : LfSignature} {binders : Bound} {Γ : Typing} {tree : Tree} {a : LfType} {t : LfTerm} → ReadsTerm text sig binders Γ tree a t →
      (kinds : Kinds) → Founded kinds Γ → ShapedType (shapes_of_kinds kinds) (shapes_of Γ) a → Typed Γ t a
  Typed-ReadsTerm (reads_abstraction binders Γ tree binder body a c b is read) kinds good shaped =
      typed_lam (Typed-ReadsTerm read kinds (Founded-with_variable kinds Γ a good (shaped_argument shaped))
      (subst (λ Δ. ShapedType (shapes_of_kinds kinds) Δ c) (sym (shapes_of-under Γ a)) (shaped_result shaped)))
  Typed-ReadsTerm (reads_application binders Γ tree span arguments h first missing f args ts wanted is resolved known read result) kinds good shaped =
      let whole = ShapedContext-pis (first ++ missing) (family f args) (ShapedTyping-head kinds Γ good.shaped h (pis (first ++ missing) (family f args)) known) in
      expansions_have_their_types kinds Γ good.shaped h first missing f args ts wanted known
      (TypedSpine-ReadsArguments read kinds good (shapes_of Γ) 0 (Goes-stays 0 (shapes_of Γ)) (shaped_first first missing whole)) result

  pub TypedSpine-ReadsArguments : {text : Text} {sig : LfSignature} {binders : Bound} {Γ : Typing} {σ : Replacement} {trees : List Tree} {domains : Context} {ts : Spine} →
      ReadsArguments text sig binders Γ σ trees domains ts → (kinds : Kinds) → Founded kinds Γ → (Δ : Scope) (p : ℕ) → Goes p Δ (shapes_of Γ) σ → ShapedContext (shapes_of_kinds kinds) Δ domains →
      TypedSpine Γ σ ts domains
  TypedSpine-ReadsArguments (reads_none binders Γ σ) kinds good Δ p goes shaped = typed_none
  TypedSpine-ReadsArguments (reads_argument binders Γ σ tree trees a c rest t ts result read reads) kinds good Δ p goes (shaped_entry x xs) =
      let typed : Typed Γ t c = Typed-ReadsTerm read kinds good (ShapedType-SubstitutedType p (shapes_of_kinds kinds) Δ (shapes_of Γ) σ goes x result) in
      let n = shape_size (shape_of a) in
      typed_arg c result typed
      (TypedSpine-ReadsArguments reads kinds good (under (shape_of a) Δ) (p + suc n)
      (Goes-push (p + suc n) Δ (shapes_of Γ) σ (shape_of a) t (Goes-more p (p + suc n) Δ (shapes_of Γ) σ (omega arith) goes)
      (subst (Shaped (shapes_of Γ) t) (shape_of-SubstitutedType result) (Shaped-Typed typed)) (omega arith)) xs)

pub Formed-ReadsType : {text : Text} {sig : LfSignature} {binders : Bound} {Γ : Typing} {count : ℕ} {tree : Classifier} {a : LfType} → ReadsType text sig binders Γ count tree a →
    Founded (kinds_in sig) Γ → Formed (kinds_in sig) Γ a
Formed-ReadsType {sig = sig} (reads_binder binders Γ count place whole domain rest name a b is few read more) good =
    let formed = Formed-ReadsType read good in
    formed_pi formed (Formed-ReadsType more (Founded-with_variable (kinds_in sig) Γ a good (ShapedType-Formed formed)))
Formed-ReadsType {sig = sig} (reads_family binders Γ count span arguments f domains ts resolved known read) good =
    formed_family domains known
    (TypedSpine-ReadsArguments read (kinds_in sig) good (shapes_of Γ) 0 (Goes-stays 0 (shapes_of Γ)) (ShapedTyping-family (kinds_in sig) Γ good.shaped f domains known))

pub FormedKind-ReadsKind : {text : Text} {sig : LfSignature} {binders : Bound} {Γ : Typing} {tree : Classifier} {kind : Context} → ReadsKind text sig binders Γ tree kind →
    Founded (kinds_in sig) Γ → FormedContext (kinds_in sig) Γ kind
FormedKind-ReadsKind (reads_type_word binders Γ span) good = formed_empty
FormedKind-ReadsKind {sig = sig} (reads_kind_binder binders Γ place whole domain rest name a kind is read more) good =
    let formed = Formed-ReadsType read good in
    formed_entry formed (FormedKind-ReadsKind more (Founded-with_variable (kinds_in sig) Γ a good (ShapedType-Formed formed)))

-- Over a well-formed signature all is so.
pub Founded-typing_in : (sig : LfSignature) → FormedSignature sig → Founded (kinds_in sig) (typing_in sig [] [])
Founded-typing_in sig formed =
    let shaped = ShapedTyping-typing_in sig [] [] (ShapedSignature-FormedSignature sig formed) (no_goals sig) shaped_empty in
    let closed = closed_globals (kinds_in sig) (typing_in sig [] []) shaped in record { shaped = shaped; constants = closed.0; metavariables = closed.1 }
