-- The laws of books make the run one over the unfolding, and the laws of answers make what it answers right and writable.
use Rattle.std.proofs.Common.{subst}
use Rattle.lf_definitions.specs.Signatures.{FormedSignature}
use Rattle.lf_terms.specs.Types.{type_of}
use Rattle.answer_text.specs.Seen.{seen_block}
use Rattle.theorem_search.proofs.StillRuns.{opening_is_own, still_over_rules}
use Rattle.theorem_search.proofs.still.prove_theorem_still.Goals as goal

pub search_still-requires-clause-own : goal.search_still-requires-clause-own
search_still-requires-clause-own c =
    opening_is_own c.args.book.now (type_of c.args.theorem.now.ty) c.in_ok-root.root c.in_ok-root.ensures
    (c.types_over_books_are_theorems.ensures c.args.book.now c.is_formed.ensures (subst FormedSignature c.sig.ensures c.is_formed-2.ensures) (type_of c.args.theorem.now.ty) c.requires.formed)

pub returns-clause-still : goal.returns-clause-still
returns-clause-still c = record {
  events = c.in_ok-tree.tree.journal.events;
  still = still_over_rules c.args.book.now (type_of c.args.theorem.now.ty) c.in_ok-root.root c.in_ok-root.ensures
      (c.branches_are_of_alternatives.ensures c.args.book.now c.is_formed.ensures) c.args.opts.now.budget c.in_ok-tree.tree.journal.events c.in_ok-tree.ensures.still;
  answer = c.in_ok-block.ensures;
}

pub returns-clause-right : goal.returns-clause-right
returns-clause-right c =
    (c.still_answers_are_unique.ensures c.args.book.now.sig _ _
    (c.types_over_books_are_theorems.ensures c.args.book.now c.is_formed.ensures (subst FormedSignature c.sig.ensures c.is_formed-2.ensures) (type_of c.args.theorem.now.ty) c.requires.formed)
    c.args.opts.now.budget c.args.opts.now.trace c.args.theorem.now.name).2 (seen_block c.in_ok-block.block) (returns-clause-still c)

pub returns-clause-derivations : goal.returns-clause-derivations
returns-clause-derivations c =
    c.right_answers_decide_derivability.ensures c.args.book.now.sig _ c.args.opts.now.budget (type_of c.args.theorem.now.ty) c.args.theorem.now.name (seen_block c.in_ok-block.block)
    (returns-clause-right c)

pub returns-clause-writable : goal.returns-clause-writable
returns-clause-writable c =
    c.right_blocks_are_writable.ensures c.args.book.now c.args.opts.now.budget (type_of c.args.theorem.now.ty) c.args.theorem.now.name (seen_block c.in_ok-block.block) (returns-clause-right c)
