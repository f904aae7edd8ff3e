use Rattle.std.proofs.Common.{sym, subst, take_all}
use Rattle.lf_definitions.proofs.Lists.{take_next}
use Rattle.rule_sets.specs.Refusals.{IsOver}
use Rattle.rule_sets.proofs.Over.{first_is_over}
use Rattle.elab_terms.proofs.Reading.{IsRefusal-map}
use Rattle.file_elab.specs.ProgramViews.{program_of}
use Rattle.file_elab.specs.Programs.{DeclaresAll, first_program, Refuses, IsRefused}
use Rattle.file_elab.specs.Theorems.{AreFormed}
use Rattle.file_elab.proofs.Growing.{nothing_declared, none_formed, declares_last, refused_at}
use Rattle.file_elab.proofs.elaborating.declared.Goals as goal

pub loop-declaration-init : goal.loop-declaration-init
loop-declaration-init c = record {
  made = nothing_declared c.args.source.now c.new-2.result c.in_ok-rules.rules c.new-3.result c.new-2.ensures c.in_ok-rules.ensures c.new-3.ensures;
  formed = subst (AreFormed c.new-2.result) (sym c.new-3.ensures) (none_formed c.new-2.result);
  over = subst (IsOver c.new-2.result) (sym c.in_ok-rules.ensures) (first_is_over c.new-2.result);
}

pub returns-in-Err-clause-refused : goal.returns-in-Err-clause-refused
returns-in-Err-clause-refused c =
    let text = c.args.source.now in
    let all = c.args.declarations.now in
    let program = program_of c.loop-declaration.program in
    IsRefusal-map (Refuses text program c.declaration-item.result) (IsRefused text all)
    (refused_at text all c.loop-declaration.declaration-index c.declaration-item.result c.loop-declaration-test.true c.declaration-item.is
    program c.loop-declaration.invariant.made) c.in-Err.fault c.in-Err.ensures.refused

pub loop-declaration-preserved : goal.loop-declaration-preserved
loop-declaration-preserved c =
    let step = c.in_default.ensures in
    record {
      made = subst (λ prefix. DeclaresAll c.args.source.now first_program prefix (program_of c.declare.new.program))
          (take_next c.args.declarations.now c.loop-declaration.declaration-index c.declaration-item.result c.loop-declaration-test.true c.declaration-item.is)
          (declares_last c.loop-declaration.invariant.made c.declaration-item.result (program_of c.declare.new.program) step.declared);
      formed = step.formed c.loop-declaration.invariant.formed;
      over = step.over c.loop-declaration.invariant.over;
    }

pub returns-clause-program : goal.returns-clause-program
returns-clause-program c =
    subst (λ prefix. DeclaresAll c.args.source.now first_program prefix (program_of c.loop-declaration.program))
    (take_all c.loop-declaration.declaration-index c.args.declarations.now c.loop-declaration-test.false) c.loop-declaration.invariant.made

pub returns-clause-theorems : goal.returns-clause-theorems
returns-clause-theorems c = c.loop-declaration.invariant.formed

pub returns-clause-rules : goal.returns-clause-rules
returns-clause-rules c = c.loop-declaration.invariant.over
