use Rattle.std.proofs.Common.{subst}
use Rattle.lf_definitions.specs.Signatures.{FormedSignature}
use Rattle.goal_book.specs.GoalBooks.{rules_in}
use Rattle.aesop_session.proofs.SharedAnswers.{still_answer_is_shared}
use Rattle.aesop_session.proofs.document.theorems_have_answers.Goals as goal

pub returns : goal.returns
returns c = λ options theorem formed.
    let law = c.still_answers_are_unique.ensures c.args.book.now.sig (rules_in c.args.book.now) theorem.type
    (c.types_over_books_are_theorems.ensures c.args.book.now c.is_formed.ensures (subst FormedSignature c.sig.ensures c.is_formed-2.ensures) theorem.type formed)
    options.budget options.trace theorem.name in
    let right = law.2 law.0.0 law.0.1 in
    let derivations = c.right_answers_decide_derivability.ensures c.args.book.now.sig (rules_in c.args.book.now) options.budget theorem.type theorem.name law.0.0 right in
    let answer = still_answer_is_shared c.args.book.now.sig (rules_in c.args.book.now) theorem.type options.budget options.trace theorem.name options.workers law.0.0 law.0.1 in
    (law.0.0, record { answer = answer; right = right; derivations = derivations })
