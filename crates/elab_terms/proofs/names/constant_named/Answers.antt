use Rattle.std.proofs.Common.{subst}
use Rattle.lf_terms.specs.Finding.{Finds}
use Rattle.elab_terms.proofs.SignatureNames.{find_constant, find_no_constant, absent_constant}
use Rattle.elab_terms.proofs.names.constant_named.Goals as goal

pub returns-in-Const : goal.returns-in-Const
returns-in-Const c = find_constant c.args.sig.now c.args.name.now c.in-Const.constant c.is_formed.ensures (subst (Finds c.args.sig.now c.args.name.now) c.in-Const.is c.find_bytes.ensures)

pub returns-in-Family : goal.returns-in-Family
returns-in-Family c = find_no_constant c.args.sig.now c.args.name.now c.in-Family.field-0 c.is_formed.ensures (subst (Finds c.args.sig.now c.args.name.now) c.in-Family.is c.find_bytes.ensures)

pub returns-in-Absent : goal.returns-in-Absent
returns-in-Absent c = absent_constant c.args.sig.now c.args.name.now (subst (Finds c.args.sig.now c.args.name.now) c.in-Absent.is c.find_bytes.ensures)
