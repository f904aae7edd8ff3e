use Rattle.std.proofs.Common.{map, ap, sym, subst, ◌∙◌, List}
use Rattle.std.proofs.lemmas.List.{length-map, map-append}
use Rattle.rule_index.specs.declared.index.IndexedRule.{IndexedRule}
use Rattle.rule_index.specs.Stored.{keyed, stored_key}
use Rattle.rule_index.specs.Trees.{HoldsRules}
use Rattle.rule_index.proofs.Trees.{rules_later, rules_more}
use Rattle.rule_index.proofs.index.Index.add.Goals as goal

pub invariant_of-self : goal.invariant_of-self
invariant_of-self c = rules_later c.self.inside.tree c.add.new.self (map keyed c.self.inside.entries.items) c.add.ensures.grows c.add.ensures.closed c.self.invariant

pub invariant_of-self-in_err-push : goal.invariant_of-self-in_err-push
invariant_of-self-in_err-push c =
    let P : List IndexedRule → Type 0 = λ es. HoldsRules c.add.new.self (map keyed es) in
    subst P (sym c.in_err-push.ensures.items) (rules_later c.self.inside.tree c.add.new.self (map keyed c.self.inside.entries.items) c.add.ensures.grows c.add.ensures.closed c.self.invariant)

pub invariant_of-self-2 : goal.invariant_of-self-2
invariant_of-self-2 c =
    let rules = map keyed c.self.inside.entries.items in
    rules_more c.add.new.self rules (map keyed c.push.new.self.items) (record { key = stored_key c.args.key; number = c.args.number }) c.len.result
    (c.len.ensures ∙ c.self.inside.entries.ok.0 ∙ sym (length-map c.self.inside.entries.items keyed))
    (ap (map keyed) c.in_ok-push.ensures.items ∙ map-append keyed c.self.inside.entries.items _) (rules_later c.self.inside.tree c.add.new.self rules c.add.ensures.grows c.add.ensures.closed c.self.invariant) c.in_ok-add.ensures.ok
