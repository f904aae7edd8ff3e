use Rattle.std.proofs.Common.{◌≡◌, ℕ, Option, Some, None, arith, sym, ap, ◌∙◌}
use Rattle.lf_definitions.specs.Signatures.{names_of}
use Rattle.basics.specs.Places.{place_of}
use Rattle.file_elab.specs.Programs.{refuses_taken, refuses_many}
use Rattle.elab_terms.proofs.ClosedScopes.{names_count}
use Rattle.file_elab.proofs.symbols.symbol_name.Goals as goal

apart : {n : ℕ} → ◌≡◌ {A = Option ℕ} (Some n) None → ⊥
apart e = cc

pub returns-in-Some-clause-refused : goal.returns-in-Some-clause-refused
returns-in-Some-clause-refused c =
    let names = names_of c.args.sig.now in
    refuses_taken (λ none. apart (c.in-Some.ensures ∙ ap (place_of names) (c.in_ok-word.ensures ∙ c.text.ensures) ∙ none))

pub returns-then-size-ge-MOST_SYMBOLS-clause-refused : goal.returns-then-size-ge-MOST_SYMBOLS-clause-refused
returns-then-size-ge-MOST_SYMBOLS-clause-refused c =
    let names = names_of c.args.sig.now in
    refuses_many (ap (place_of names) (sym (c.in_ok-word.ensures ∙ c.text.ensures)) ∙ sym c.order_of.ensures ∙ c.in_default.is)
    (omega (arith, c.size.ensures, names_count c.args.sig.now, c.if-size-ge-MOST_SYMBOLS.true))
