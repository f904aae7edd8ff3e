use Rattle.std.proofs.Common.{inr, sym, ap, ◌∙◌}
use Rattle.file_elab.specs.Rules.{number_value, major_value}
use Rattle.file_elab.proofs.rule_parts.read_major.Goals as goal

pub returns-else-may_be_large : goal.returns-else-may_be_large
returns-else-may_be_large c =
    let text = c.args.source.now in
    let value = major_value text c.args.major in
    inr (
      c.no_major.ensures c.args.sig.now c.args.subject,
      λ has.
          let fits = c.may_be_large.ensures c.if-may_be_large.false value has in
          c.in-None.ensures.none fits.0 fits.1 (ap number_value c.text.ensures ∙ sym (ap (major_value text) c.in-Some.is) ∙ fits.2),
    )
