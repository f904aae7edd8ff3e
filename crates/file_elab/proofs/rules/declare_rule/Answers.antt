use Rattle.std.proofs.Common.{sym, subst, Ok}
use Rattle.rule_sets.proofs.Over.{rule_keeps_over}
use Rattle.elab_terms.specs.KnownTypes.{IsRefusal}
use Rattle.file_elab.specs.ProgramParts.{RefusesInBook}
use Rattle.file_trees.specs.declared.decl_tree.DeclTree.TheVariants as declarations
use Rattle.file_elab.proofs.RuleReading.{book_kept, rule_declared, rule_refused}
use Rattle.file_elab.proofs.rules.declare_rule.Goals as goal

pub returns-in-Ok-clause-declared : goal.returns-in-Ok-clause-declared
returns-in-Ok-clause-declared c =
    let a = c.args in
    let added = c.in-Ok.ensures in
    rule_declared a.source.now a.sig.now a.book.now a.parts c.in_ok-rule.rule c.in_ok-rule.ensures c.add.new.self added.0 added.1 added.2 added.3

pub returns-in-Ok-clause-over : goal.returns-in-Ok-clause-over
returns-in-Ok-clause-over c = rule_keeps_over c.args.sig.now c.args.book.now c.add.new.self c.in_ok-rule.rule (Ok tt) c.requires c.in-Ok.ensures

pub returns-in-Err-clause-refused : goal.returns-in-Err-clause-refused
returns-in-Err-clause-refused c =
    let a = c.args in
    let text = a.source.now in
    subst (IsRefusal (RefusesInBook text a.sig.now a.book.now (declarations.Rule a.parts))) (sym c.placed.ensures)
    (rule_refused text a.sig.now a.book.now a.parts c.in_ok-rule.rule c.in_ok-rule.ensures c.add.new.self c.in-Err.fault c.in-Err.ensures)

pub returns-in-Err-clause-err : goal.returns-in-Err-clause-err
returns-in-Err-clause-err c = book_kept c.args.sig.now c.args.book.now c.add.new.self c.in_ok-rule.rule c.in-Err.fault c.in-Err.ensures
