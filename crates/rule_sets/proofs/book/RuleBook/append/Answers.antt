use Rattle.std.proofs.Common.{◌≡◌, ap, sym, ◌∙◌, List, [], ◌∷◌, ◌++◌, ℕ, map, subst}
use Rattle.std.specs.Prelude.{Contains, None}
use Rattle.basics.specs.Places.{place_of}
use Rattle.basics.proofs.Membership.{new_name}
use Rattle.rule_sets.specs.Books.{Book, listed}
use Rattle.rule_sets.specs.Acceptance.{IsFree}
use Rattle.rule_sets.proofs.BookParts.{rule_joins}
use Rattle.rule_sets.proofs.book.RuleBook.append.Goals as goal

pub add-requires : goal.add-requires
add-requires c =
    let P : List ℕ → Type 0 = λ name. place_of c.self.inside.names name ≡ None in
    let Q : List (List ℕ) → Type 0 = λ names. Contains names c.args.rule.name in
    subst P (sym c.as_bytes.ensures) (new_name c.self.inside.names c.args.rule.name (λ has. c.requires.not_taken (subst Q (c.self.invariant.names_are ∙ ap (λ b. map (λ rule. rule.name) b.rules) c.self.view_is) has)))

pub invariant_of-self-in-Ok-push : goal.invariant_of-self-in-Ok-push
invariant_of-self-in-Ok-push c =
    let free : Book → Type 0 = λ book. IsFree book c.args.rule in
    rule_joins c.self.inside.rules.items c.self.inside.names (map listed c.self.inside.lists.entries) c.self.invariant c.args.rule c.push.new.self.items c.add.new.self
    (subst free (sym c.self.view_is) c.requires) c.in-Ok-push.ensures.items (c.in-Ok.ensures.ok ∙ ap (λ name. c.self.inside.names ++ name ∷ []) c.as_bytes.ensures)
