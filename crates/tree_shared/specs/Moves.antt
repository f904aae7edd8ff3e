-- What workers are answered.
use Rattle.tree_steps.specs.declared.answers.Claim.{Claim}
use Rattle.tree_steps.specs.declared.answers.Claim.TheVariants.{Take, Decided, Spent, Idle}

-- what is claimed is an own node
abbrev pub IsOwnClaim : {N : Type 0} → (N → Type 0) → Claim N → Type 0
IsOwnClaim own (Take node content) = own content
IsOwnClaim own Decided = Unit {0}
IsOwnClaim own (Spent held) = Unit {0}
IsOwnClaim own (Idle held) = Unit {0}
