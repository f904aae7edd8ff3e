-- The laws of books make the run one over the unfolding, and the laws of answers make what it answers right and writable.
use Rattle.std.proofs.Common.{subst, ap, ◌∙◌}
use Rattle.lf_definitions.specs.Signatures.{FormedSignature}
use Rattle.lf_terms.specs.Types.{type_of}
use Rattle.answer_text.specs.Seen.{seen_block}
use Rattle.goal_book.specs.GoalBooks.{rules_in}
use Rattle.meta_goals.specs.GoalsOf.{goals_of}
use Rattle.rule_problem.specs.Problems.{branches_in}
use Rattle.theorem_search.proofs.StillRuns.{opening_is_own}
use Rattle.theorem_search.proofs.SharedRuns.{settled_over_rules, is_answer}
use Rattle.theorem_search.proofs.shared.prove_theorem.Goals as goal

pub search_over-requires-clause-own : goal.search_over-requires-clause-own
search_over-requires-clause-own g c κs within =
    opening_is_own c.args.book.now (type_of c.args.theorem.now.ty) c.in_ok-root.root c.in_ok-root.ensures
    (c.types_over_books_are_theorems.ensures c.args.book.now c.is_formed.ensures (subst FormedSignature c.sig.ensures c.is_formed-2.ensures) (type_of c.args.theorem.now.ty) c.requires.formed)

pub returns-clause-answer : goal.returns-clause-answer
returns-clause-answer g c =
    is_answer c.args.book.now.sig (rules_in c.args.book.now) (type_of c.args.theorem.now.ty) c.args.opts.now.budget c.args.opts.now.trace c.args.theorem.now.name c.args.opts.now.workers (seen_block c.in_ok-block.block)
    c.requires.workers
    (record {
      events = c.in_ok-tree.tree.journal.events;
      settled = (settled_over_rules c.args.book.now.sig (rules_in c.args.book.now) (type_of c.args.theorem.now.ty) (branches_in c.args.book.now) (goals_of c.in_ok-tree.tree.root) c.in_ok-tree.tree.budget c.args.opts.now.budget
          c.in_ok-tree.tree.journal.events (c.branches_are_of_alternatives.ensures c.args.book.now c.is_formed.ensures) (ap goals_of c.in_ok-tree.ensures.root ∙ c.in_ok-root.ensures) c.in_ok-tree.ensures.budget
          c.in_ok-tree.ensures.tree.run c.in_ok-tree.ensures.settled);
      seats = c.in_ok-tree.ensures.seats;
      answers = c.in_ok-block.ensures;
    })

pub returns-clause-right : goal.returns-clause-right
returns-clause-right g c =
    c.settled_answers_are_right.ensures c.args.book.now.sig (rules_in c.args.book.now) (type_of c.args.theorem.now.ty)
    (c.types_over_books_are_theorems.ensures c.args.book.now c.is_formed.ensures (subst FormedSignature c.sig.ensures c.is_formed-2.ensures) (type_of c.args.theorem.now.ty) c.requires.formed)
    c.args.opts.now.budget c.in_ok-tree.tree.journal.events (settled_over_rules c.args.book.now.sig (rules_in c.args.book.now) (type_of c.args.theorem.now.ty) (branches_in c.args.book.now) (goals_of c.in_ok-tree.tree.root) c.in_ok-tree.tree.budget c.args.opts.now.budget
    c.in_ok-tree.tree.journal.events (c.branches_are_of_alternatives.ensures c.args.book.now c.is_formed.ensures) (ap goals_of c.in_ok-tree.ensures.root ∙ c.in_ok-root.ensures) c.in_ok-tree.ensures.budget
    c.in_ok-tree.ensures.tree.run c.in_ok-tree.ensures.settled) c.args.opts.now.trace c.args.theorem.now.name (seen_block c.in_ok-block.block) c.in_ok-block.ensures

pub returns-clause-derivations : goal.returns-clause-derivations
returns-clause-derivations g c =
    c.right_answers_decide_derivability.ensures c.args.book.now.sig _ c.args.opts.now.budget (type_of c.args.theorem.now.ty) c.args.theorem.now.name (seen_block c.in_ok-block.block)
    (returns-clause-right g c)

pub returns-clause-writable : goal.returns-clause-writable
returns-clause-writable g c =
    c.right_blocks_are_writable.ensures c.args.book.now c.args.opts.now.budget (type_of c.args.theorem.now.ty) c.args.theorem.now.name (seen_block c.in_ok-block.block) (returns-clause-right g c)
