use Rattle.std.proofs.Common.{◌≡◌, ℕ, ◌<◌, Bool, sym, ◌∙◌, ap, arith}
use Rattle.std.specs.Prelude.{◌||◌, ◌==◌}
use Rattle.std.specs.Char.{is_ascii_alphanumeric}
use Rattle.std.proofs.lemmas.Bool.Decides.{nat_tests}
use Rattle.unicode_ident.specs.Ident.{is_xid_continue}
use Rattle.unicode_ident.proofs.IdentLemmas.{is_xid_continue-ascii}
use Rattle.lex_text.proofs.reading.may_continue.Goals as goal

continues : (c : ℕ) (a : Bool) → c < 128 → a ≡ is_ascii_alphanumeric c → (a || (c == 95)) ≡ is_xid_continue c
continues c a h e = ap (λ x. x || (c == 95)) e ∙ sym (is_xid_continue-ascii c h)

pub returns-then-is_ascii_alphanumeric : goal.returns-then-is_ascii_alphanumeric
returns-then-is_ascii_alphanumeric c =
    let h : c.args.character < 128 = grind (arith, nat_tests) in
    c.if-is_ascii_alphanumeric.true ∙ continues c.args.character _ h c.if-is_ascii_alphanumeric.ensures.value

pub returns-else-is_ascii_alphanumeric : goal.returns-else-is_ascii_alphanumeric
returns-else-is_ascii_alphanumeric c =
    let h : c.args.character < 128 = grind (arith, nat_tests) in
    continues c.args.character _ h c.if-is_ascii_alphanumeric.ensures.value
