-- The laws, as they are stated.
use Rattle.std.proofs.Common.{[], refl}
use Rattle.unification.proofs.OneTransition.{one_end}
use Rattle.renamed_unification.specs.Laws.{UnificationIsRenamed, RenamedEquationsEndAlike, UnificationLooksAtWhatOccurs}
use Rattle.renamed_unification.proofs.RenamedSteps.{Ends-renamed}
use Rattle.renamed_unification.proofs.UnrenamedSteps.{Ends-unrenamed}
use Rattle.renamed_unification.proofs.FrozenAlike.{Ends-alike}

pub unification_is_renamed : UnificationIsRenamed
unification_is_renamed ρ injective frozen other freezes equations ending ends = Ends-renamed ρ injective frozen other freezes ends

pub renamed_equations_end_alike : RenamedEquationsEndAlike
renamed_equations_end_alike ρ injective frozen other freezes equations last ends = (
  Ends-unrenamed ρ injective frozen other freezes ends equations [] refl refl,
  (λ ending old. one_end (Ends-renamed ρ injective frozen other freezes old) last ends),
)

pub unification_looks_at_what_occurs : UnificationLooksAtWhatOccurs
unification_looks_at_what_occurs frozen other equations alike ending ends = Ends-alike frozen other ends alike
