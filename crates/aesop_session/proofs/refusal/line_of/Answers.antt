use Rattle.std.proofs.Common.{ℕ, List, ◌++◌, codes, [], ◌∷◌, ◌∙◌, ap}
use Rattle.std.specs.Prelude.{decimal}
use Rattle.answer_text.specs.Texts.{line}
use Rattle.aesop_session.proofs.Answering.{line_parts}
use Rattle.aesop_session.proofs.refusal.line_of.Goals as goal

pub returns : goal.returns
returns c =
    c.in_ok-line.ensures.ok
    ∙ line_parts (codes "refused at ") (decimal c.args.refusal.place) (codes ": ") c.word-word.result.now (10 ∷ [])
    ∙ ap (λ (word : List ℕ). codes "refused at " ++ decimal c.args.refusal.place ++ codes ": " ++ line word) c.word-word.ensures
