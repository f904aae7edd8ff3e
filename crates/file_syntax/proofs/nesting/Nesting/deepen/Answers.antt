use Rattle.std.proofs.Common.{◌≡◌, suc, ◌+◌, ◌-◌, length, get_or, vec_len, sym, ap, ◌∙◌, rules}
use Rattle.file_syntax.specs.Nesting.{one_deeper}
use Rattle.file_syntax.proofs.Openings.{reverse-deeper, sum-deeper}
use Rattle.file_syntax.proofs.nesting.Nesting.deepen.Goals as goal

pub invariant_of-self : goal.invariant_of-self
invariant_of-self c =
    let size : length c.self.inside.counts.items ≡ suc (vec_len c.self.inside.counts - 1) = search rules in
    let last : c.in-Some.count.now ≡ get_or c.self.inside.counts.items (vec_len c.self.inside.counts - 1) c.in-Some.count.now = search rules in
    ap (λ depth. depth + 1) c.self.invariant ∙ sym (sum-deeper c.self.inside.counts.items (vec_len c.self.inside.counts - 1) c.in-Some.count.now size last)

pub returns-in-Some : goal.returns-in-Some
returns-in-Some c =
    let size : length c.self.inside.counts.items ≡ suc (vec_len c.self.inside.counts - 1) = search rules in
    let last : c.in-Some.count.now ≡ get_or c.self.inside.counts.items (vec_len c.self.inside.counts - 1) c.in-Some.count.now = search rules in
    reverse-deeper c.self.inside.counts.items (vec_len c.self.inside.counts - 1) c.in-Some.count.now size last ∙ ap one_deeper c.self.view_is
