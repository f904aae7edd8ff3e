-- Abstractions that end too early.
use Rattle.std.specs.Prelude.{◌≡◌, ℕ, ◌<◌}
use Rattle.lf_definitions.specs.Syntax.{LfHead, LfTerm, at, Spine, lams}

-- Under so many abstractions, fewer than these, the term is a spine.
abbrev pub EndsAfter : ℕ → LfTerm → ℕ → Type 0
EndsAfter count t depth = (depth < count) × (h : LfHead) × (ts : Spine) × (t ≡ lams depth (at h ts))
