use Rattle.file_elab.proofs.MajorArguments.{no_case}
use Rattle.file_elab.proofs.rule_parts.no_major.Goals as goal

pub returns-in-Cases : goal.returns-in-Cases
returns-in-Cases c = λ sig subject. no_case sig c.args.builder subject c.in-Cases.is
