-- Terms that no assignment makes equal.
use Rattle.lf_definitions.specs.Syntax.{LfHead, LfTerm, Spine, LfAtom}
use Rattle.lf_definitions.specs.Substitution.{stays, Replacement, Substituted, SubstitutedSpine}
use Rattle.lf_definitions.specs.Occurrence.{IsRigid}
use Rattle.std.specs.Prelude.{◌≡◌, ◌≢◌}

-- Variables and constants stay, as they do under an assignment of metavariables.
abbrev pub KeepsRigid : Replacement → Type 0
KeepsRigid σ = (h : LfHead) → IsRigid h → σ h ≡ stays h

-- Two heads that stay, and differ.
abbrev pub HeadsDiffer : LfHead → LfHead → Type 0
HeadsDiffer h k = IsRigid h × IsRigid k × (h ≢ k)

-- Two heads that stay, and are one.
abbrev pub HeadsAgree : LfHead → LfHead → Type 0
HeadsAgree h k = IsRigid h × (h ≡ k)

-- Two terms have no common result.
abbrev pub TermsClash : LfTerm → LfTerm → Type 0
TermsClash t u = (σ : Replacement) → KeepsRigid σ → (r : LfTerm) → Substituted σ t r → Substituted σ u r → ⊥

abbrev pub ArgsClash : Spine → Spine → Type 0
ArgsClash ts us = (σ : Replacement) → KeepsRigid σ → (rs : Spine) → SubstitutedSpine σ ts rs → SubstitutedSpine σ us rs → ⊥

-- Two atoms are of different families, or have no common result.
abbrev pub AtomsClash : LfAtom → LfAtom → Type 0
AtomsClash a b = a.atom_family ≡ b.atom_family → ArgsClash a.atom_args b.atom_args
