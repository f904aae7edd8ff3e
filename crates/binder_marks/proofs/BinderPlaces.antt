-- What stands at the places of a type's binders: whether each occurs in the rest.
use Rattle.std.proofs.Common.{◌≡◌, ◌↔◌, ℕ, suc, ◌+◌, ◌<◌, List, [], ◌++◌, Bool, false, IsTrue, length, get_or, sym, ap₂, ◌∙◌, subst, arith}
use Rattle.std.proofs.lemmas.List.Elements.{All-nil, All-cons}
use Rattle.lf_definitions.specs.Syntax.{LfType, bound, pi, family}
use Rattle.lf_definitions.specs.Occurrence.{OccursType}
use Rattle.head_laws.proofs.Occurrence.{OccursInType-true, occurs_in_type-from}
use Rattle.binder_marks.specs.Marks.{marks_of, with_marks, binder_places, marks_at, ArePlaces, HaveAt}
use Rattle.binder_marks.specs.Mentions.{mentions, AreMentions, mentions_nothing, mentions_binder}
use Rattle.binder_marks.proofs.MarkPrefixes.{prefix_within, prefix_mark, prefix_later, prefix_then, prefix_whole}

pub mentions_occur : (n : ℕ) (a : LfType) → IsTrue (mentions n a) ↔ OccursType n a
mentions_occur n a = (OccursInType-true (bound n) a, occurs_in_type-from)

module _ (marks : List Bool) (p : ℕ) (a b : LfType) (have : HaveAt marks p (marks_of (pi a b))) where
  within_here : p < length marks
  within_here = prefix_within marks p (mentions 0 b) (marks_of a ++ marks_of b) have

  mark_here : IsTrue (get_or marks p false) ↔ OccursType 0 b
  mark_here =
      let P : Bool → Type 0 = λ m. IsTrue m ↔ OccursType 0 b in
      subst P (sym (prefix_mark marks p (mentions 0 b) (marks_of a ++ marks_of b) have)) (mentions_occur 0 b)

  rest_there : HaveAt marks (suc (p + length (marks_of a))) (marks_of b)
  rest_there = prefix_then marks (p + 1) (suc (p + length (marks_of a))) (marks_of a) (marks_of b) (omega arith) (prefix_later marks p (mentions 0 b) (marks_of a ++ marks_of b) have)

pub are_mentions : (marks : List Bool) (p : ℕ) (a : LfType) → HaveAt marks p (marks_of a) → AreMentions a (marks_at (binder_places p a) marks)
are_mentions marks p (family f args) have = mentions_nothing f args
are_mentions marks p (pi a b) have = mentions_binder a b _ _ (mark_here marks p a b have) (are_mentions marks (suc (p + length (marks_of a))) b (rest_there marks p a b have))

pub are_places : (marks : List Bool) (p : ℕ) (a : LfType) → HaveAt marks p (marks_of a) → ArePlaces (binder_places p a) marks
are_places marks p (family f args) have = All-nil (λ place. place < length marks)
are_places marks p (pi a b) have = All-cons (λ place. place < length marks) p _ (within_here marks p a b have) (are_places marks (suc (p + length (marks_of a))) b (rest_there marks p a b have))

-- A walk over a whole type begins with no places and no marks.
module _ (a : LfType) (ps : List ℕ) (ms : List Bool) (no_places : ps ≡ []) (no_marks : ms ≡ []) where
  pub whole_marked : (new : List Bool) → new ≡ with_marks ps (λ n. mentions n a) ms ++ marks_of a → HaveAt new 0 (marks_of a)
  whole_marked new is = prefix_whole new (marks_of a) (is ∙ ap₂ (λ qs l. with_marks qs (λ n. mentions n a) l ++ marks_of a) no_places no_marks)

  pub whole_placed : (new : List ℕ) → new ≡ ps ++ binder_places (length ms) a → new ≡ binder_places 0 a
  whole_placed new is = is ∙ ap₂ (λ qs l. qs ++ binder_places (length l) a) no_places no_marks
