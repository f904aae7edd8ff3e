use Rattle.std.proofs.Common.{subst}
use Rattle.lf_terms.specs.Finding.{Finds}
use Rattle.elab_terms.proofs.SignatureNames.{find_family, find_no_family, absent_family}
use Rattle.elab_terms.proofs.names.family_named.Goals as goal

pub returns-in-Family : goal.returns-in-Family
returns-in-Family c = find_family c.args.sig.now c.args.name.now c.in-Family.family c.is_formed.ensures (subst (Finds c.args.sig.now c.args.name.now) c.in-Family.is c.find_bytes.ensures)

pub returns-in-Const : goal.returns-in-Const
returns-in-Const c = find_no_family c.args.sig.now c.args.name.now c.in-Const.field-0 c.is_formed.ensures (subst (Finds c.args.sig.now c.args.name.now) c.in-Const.is c.find_bytes.ensures)

pub returns-in-Absent : goal.returns-in-Absent
returns-in-Absent c = absent_family c.args.sig.now c.args.name.now (subst (Finds c.args.sig.now c.args.name.now) c.in-Absent.is c.find_bytes.ensures)
