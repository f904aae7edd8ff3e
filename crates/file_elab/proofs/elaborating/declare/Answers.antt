use Rattle.std.proofs.lemmas.Result.{IfOk-weaker}
use Rattle.file_trees.specs.declared.decl_tree.DeclTree.TheVariants as declarations
use Rattle.rule_sets.specs.Refusals.{IsOver}
use Rattle.file_elab.specs.Theorems.{AreFormed}
use Rattle.file_elab.specs.ProgramParts.{DeclaresSymbol}
use Rattle.file_elab.proofs.Growing.{symbol_keeps_formed, symbol_keeps_over}
use Rattle.file_elab.proofs.elaborating.declare.Goals as goal

pub returns-in-Family-clause-formed : goal.returns-in-Family-clause-formed
returns-in-Family-clause-formed c =
    let text = c.args.source.now in
    let old = c.args.program.now in
    let new = c.declare_family.new.sig in
    let declaration = declarations.Family c.in-Family.name c.in-Family.tree in
    IfOk-weaker c.declare_family.result (λ _. DeclaresSymbol text old.sig declaration new) (λ _. AreFormed old.sig old.theorems → AreFormed new old.theorems)
    (λ _ declared. symbol_keeps_formed text old.sig new declaration old.theorems declared) c.declare_family.ensures.declared

pub returns-in-Family-clause-over : goal.returns-in-Family-clause-over
returns-in-Family-clause-over c =
    let text = c.args.source.now in
    let old = c.args.program.now in
    let new = c.declare_family.new.sig in
    let declaration = declarations.Family c.in-Family.name c.in-Family.tree in
    IfOk-weaker c.declare_family.result (λ _. DeclaresSymbol text old.sig declaration new) (λ _. IsOver old.sig old.rules → IsOver new old.rules)
    (λ _ declared. symbol_keeps_over text old.sig new declaration old.rules declared) c.declare_family.ensures.declared

pub returns-in-Const-clause-formed : goal.returns-in-Const-clause-formed
returns-in-Const-clause-formed c =
    let text = c.args.source.now in
    let old = c.args.program.now in
    let new = c.declare_constant.new.sig in
    let declaration = declarations.Const c.in-Const.name c.in-Const.tree in
    IfOk-weaker c.declare_constant.result (λ _. DeclaresSymbol text old.sig declaration new) (λ _. AreFormed old.sig old.theorems → AreFormed new old.theorems)
    (λ _ declared. symbol_keeps_formed text old.sig new declaration old.theorems declared) c.declare_constant.ensures.declared

pub returns-in-Const-clause-over : goal.returns-in-Const-clause-over
returns-in-Const-clause-over c =
    let text = c.args.source.now in
    let old = c.args.program.now in
    let new = c.declare_constant.new.sig in
    let declaration = declarations.Const c.in-Const.name c.in-Const.tree in
    IfOk-weaker c.declare_constant.result (λ _. DeclaresSymbol text old.sig declaration new) (λ _. IsOver old.sig old.rules → IsOver new old.rules)
    (λ _ declared. symbol_keeps_over text old.sig new declaration old.rules declared) c.declare_constant.ensures.declared
