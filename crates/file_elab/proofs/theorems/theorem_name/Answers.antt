use Rattle.std.proofs.Common.{◌≡◌, ℕ, Option, Some, None, map, arith, sym, ap, ◌∙◌}
use Rattle.std.proofs.lemmas.List.{length-map}
use Rattle.basics.specs.Places.{place_of}
use Rattle.file_elab.specs.Programs.{refuses_taken, refuses_many}
use Rattle.file_elab.proofs.theorems.theorem_name.Goals as goal

apart : {n : ℕ} → ◌≡◌ {A = Option ℕ} (Some n) None → ⊥
apart e = cc

pub returns-in-Some-clause-refused : goal.returns-in-Some-clause-refused
returns-in-Some-clause-refused c =
    let word = c.as_bytes.ensures ∙ c.in_ok-word.ensures ∙ c.text.ensures in
    refuses_taken (λ none. apart (c.in-Some.ensures ∙ ap (place_of (map (λ theorem. theorem.name) c.args.theorems.now)) word ∙ none))

pub returns-then-len-ge-MOST_THEOREMS-clause-refused : goal.returns-then-len-ge-MOST_THEOREMS-clause-refused
returns-then-len-ge-MOST_THEOREMS-clause-refused c =
    let word = c.as_bytes.ensures ∙ c.in_ok-word.ensures ∙ c.text.ensures in
    refuses_many (ap (place_of (map (λ theorem. theorem.name) c.args.theorems.now)) (sym word) ∙ sym c.find.ensures ∙ c.in_default.is)
    (omega (arith, c.len.ensures, length-map c.args.theorems.now (λ theorem. theorem.name), c.if-len-ge-MOST_THEOREMS.true))
