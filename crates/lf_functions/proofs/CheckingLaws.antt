-- The laws of the tests of syntax and of types, as they are stated.
use Rattle.std.proofs.Common.{sym, subst, refl, ◌∙◌}
use Rattle.std.specs.Prelude.{map}
use Rattle.lf_definitions.specs.Shaping.{ShapedType}
use Rattle.lf_definitions.specs.ShapedGoals.{kind_shapes_in}
use Rattle.lf_definitions.specs.Signatures.{kinds_in, typing_in, constant_types}
use Rattle.lf_definitions.specs.Instantiation.{metavariables, rename_goal}
use Rattle.lf_definitions.specs.Renaming.{rename_context}
use Rattle.lf_definitions.specs.Typing.{typed_globals}
use Rattle.lf_definitions.specs.Occurrence.{OccursIn}
use Rattle.lf_definitions.proofs.Variables.{with_context-metavariable}
use Rattle.lf_definitions.proofs.ShapedGoals.{shapes_of-typing_in, ShapedTyping-typing_in}
use Rattle.head_laws.proofs.Lookups.{agree_in}
use Rattle.head_laws.proofs.RenamedGoalLaws.{renamed_goals_have_types_renamed}
use Rattle.lf_functions.specs.Checking.{has_type}
use Rattle.lf_functions.specs.CheckingLaws.{EqualityIsDecided, HasTypeIsTyping, HasTypeIsRenamed, HasTypeLooksAtWhatOccurs, HasTypeKnowsWhatOccurs}
use Rattle.lf_functions.proofs.Equality.{equal_terms-true, equal_spines-true, equal_types-true, equal_terms-from, equal_spines-from, equal_types-from}
use Rattle.lf_functions.proofs.Checking.{Typed-is_typed, is_typed-Typed}
use Rattle.lf_functions.proofs.RenamedChecking.{is_typed-renamed}
use Rattle.lf_functions.proofs.CheckingLookups.{is_typed-same, knows_term}

pub equality_is_decided : EqualityIsDecided
equality_is_decided = (
  (λ t u. (equal_terms-true t u, equal_terms-from t u)),
  (λ ts us. (equal_spines-true ts us, equal_spines-from ts us)),
  (λ a b. (equal_types-true a b, equal_types-from a b)),
)

pub has_type_is_typing : HasTypeIsTyping
unfolding has_type
has_type_is_typing sig goals ctx shaped_sig shaped_goals shaped_ctx t a of_type =
    let shaped = ShapedTyping-typing_in sig goals ctx shaped_sig shaped_goals shaped_ctx in
    let in_scope = subst (λ Δ. ShapedType (kind_shapes_in sig) Δ a) (sym (shapes_of-typing_in sig goals ctx)) of_type in
    (Typed-is_typed (kinds_in sig) t a (typing_in sig goals ctx) shaped in_scope, λ p. is_typed-Typed (kinds_in sig) p shaped in_scope)

pub has_type_is_renamed : HasTypeIsRenamed
unfolding has_type
has_type_is_renamed sig shaped_sig ρ injective goals ctx t a =
    is_typed-renamed ρ injective t a (typing_in sig goals ctx) (typing_in sig (map (rename_goal ρ) goals) (rename_context (metavariables ρ) ctx))
    (renamed_goals_have_types_renamed sig shaped_sig ρ injective goals ctx)

pub has_type_looks_at_what_occurs : HasTypeLooksAtWhatOccurs
unfolding has_type
has_type_looks_at_what_occurs sig goals others ctx t agree a =
    is_typed-same t a (typing_in sig goals ctx) (typing_in sig others ctx)
    (agree_in ctx (typed_globals (constant_types sig) others) (typed_globals (constant_types sig) goals) (λ n. refl) (λ c. refl) (λ h. OccursIn h t) (λ g o. sym (agree g o)))

pub has_type_knows_what_occurs : HasTypeKnowsWhatOccurs
unfolding has_type
has_type_knows_what_occurs sig goals ctx t a e g o =
    let known = knows_term t a (typing_in sig goals ctx) e g o in
    (known.0, sym (with_context-metavariable ctx (typed_globals (constant_types sig) goals) g) ∙ known.1)
