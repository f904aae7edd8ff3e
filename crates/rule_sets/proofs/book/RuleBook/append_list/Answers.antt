use Rattle.std.proofs.Common.{◌≡◌, ap, ap₂, ◌∙◌, refl, map, List, None}
use Rattle.rule_sets.specs.Books.{Book, Listed, list_of, listed}
use Rattle.rule_sets.specs.declared.rule.Rule.{Rule}
use Rattle.rule_sets.proofs.Tables.{lists_more}
use Rattle.rule_sets.proofs.BookParts.{list_joins}
use Rattle.rule_sets.proofs.book.RuleBook.append_list.Goals as goal

book_of : List Rule → List Listed → Book
book_of rules lists = record { rules = rules; lists = lists }

pub returns-in-Ok-clause-ok : goal.returns-in-Ok-clause-ok
unfolding book_of
returns-in-Ok-clause-ok c =
    ap₂ book_of (ap (λ b. b.rules) c.self.view_is)
    (lists_more c.args.family c.args.constants c.self.inside.lists.entries c.insert.new.self.entries c.args.self.now.lists (ap (λ b. b.lists) c.self.view_is) c.in-Ok.ensures.entries c.requires)

pub invariant_of-self : goal.invariant_of-self
invariant_of-self c =
    let entries = c.self.inside.lists.entries in
    let none : list_of (map listed entries) c.args.family ≡ None = ap (λ b. list_of b.lists c.args.family) c.self.view_is ∙ c.requires in
    list_joins c.self.inside.rules.items c.self.inside.names (map listed entries) c.self.invariant c.args.family c.args.constants (map listed c.insert.new.self.entries) none
    (lists_more c.args.family c.args.constants entries c.insert.new.self.entries (map listed entries) refl c.in-Ok.ensures.entries none)
