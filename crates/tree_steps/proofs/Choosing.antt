-- The alternatives of a node, taken until one has only proved children.
use Rattle.std.proofs.Common.{◌≡◌, inl, inr, ℕ, ◌<◌, ◌≤◌, true, false, length, Option, Some, None, refl, sym, ap, ◌∙◌, arith}
use Rattle.std.specs.Option.{option_map}
use Rattle.std.proofs.lemmas.Option.{slice_get_cases}
use Rattle.tree_runs.specs.Shapes.{TreeShape, alternatives_at, IsShape}
use Rattle.tree_runs.specs.Marks.{proved_by, entry_at, is_proved}
use Rattle.tree_runs.proofs.Lists.{below_or_past}
use Rattle.tree_runs.proofs.Marks.{is_proved-local}
use Rattle.tree_marks.specs.TreeMarks.{entry_proved, is_alternative_proved}
use Rattle.tree_marks.proofs.Entries.{has_width, entry_known, not_grown, proved_found, proved_refuted}

-- no alternative before this one has only proved children
abbrev pub NoneProvedBefore : TreeShape → ℕ → ℕ → Type 0
NoneProvedBefore shape node bound = (other : ℕ) → other < bound → is_alternative_proved shape node other ≡ false

-- none is past the last
pub none_at_all : (shape : TreeShape) (node width bound : ℕ) → Some width ≡ option_map length (alternatives_at shape node) → width ≤ bound → NoneProvedBefore shape node bound → (alternative : ℕ) → is_alternative_proved shape node alternative ≡ false
none_at_all shape node width bound e enough h alternative = elim (below_or_past bound alternative) [
  | inl before ↦ h alternative before
  | inr p ↦
      let known = has_width shape node width e in
      elim (slice_get_cases known.all alternative).1 [
        | inl q ↦ absurd (let small = q.1 in omega (arith, small, known.size, p.1, enough))
        | inr q ↦ ap (entry_proved (is_proved shape)) (entry_known shape node known.all alternative known.grown ∙ q.1)
      ]
]

-- ---- the node is proved just where there is one

pub proved_by_one : (shape : TreeShape) → IsShape shape → (node alternative : ℕ) → is_alternative_proved shape node alternative ≡ true → is_proved shape node ≡ true
proved_by_one shape is_shape node alternative h = is_proved-local shape is_shape node ∙ known (entry_at (alternatives_at shape node) alternative) refl h
  where
    known : (o : Option (ℕ × ℕ)) → entry_at (alternatives_at shape node) alternative ≡ o → entry_proved (is_proved shape) o ≡ true → proved_by (is_proved shape) (alternatives_at shape node) ≡ true
    known None e g = absurd cc
    known (Some entry) e g = proved_found shape node alternative entry (is_proved shape) e g

pub ungrown_unproved : (shape : TreeShape) → IsShape shape → (node : ℕ) → None ≡ option_map length (alternatives_at shape node) → is_proved shape node ≡ false
ungrown_unproved shape is_shape node e = is_proved-local shape is_shape node ∙ ap (proved_by (is_proved shape)) (not_grown shape node e)

pub unproved_by_all : (shape : TreeShape) → IsShape shape → (node width : ℕ) → Some width ≡ option_map length (alternatives_at shape node) → ((alternative : ℕ) → is_alternative_proved shape node alternative ≡ false) → is_proved shape node ≡ false
unproved_by_all shape is_shape node width e h = is_proved-local shape is_shape node
    ∙ proved_refuted shape node width (is_proved shape) e (λ alternative entry small f. sym (ap (entry_proved (is_proved shape)) f) ∙ h alternative)
