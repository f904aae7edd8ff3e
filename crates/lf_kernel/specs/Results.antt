-- The result type of a spine.
use Rattle.std.specs.Prelude.{◌≡◌, ◌≢◌, Bool, MatchBool}
use Rattle.lf_definitions.specs.Syntax.{Spine, LfType, family}
use Rattle.lf_definitions.specs.Substitution.{SubstitutedSpine}
use Rattle.lf_terms.specs.Putting.{putting}
use Rattle.lf_kernel.specs.declared.head_type.HeadType.{HeadType}

-- With the arguments put for the binders, what is under them is the expected type, or it is another.
abbrev pub Gives : HeadType → Spine → LfType → Bool → Type 0
Gives h args expected same =
    (r : Spine) × SubstitutedSpine (putting args h.raise 0) h.args.now r × MatchBool same (family h.family r ≡ expected) (family h.family r ≢ expected)
