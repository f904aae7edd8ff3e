use Rattle.std.proofs.Common.{List, ℕ, map, sym, ap, ◌∙◌, subst}
use Rattle.std.specs.Prelude.{slice_get, Contains}
use Rattle.std.proofs.lemmas.List.Sorted.{Contains-permutation}
use Rattle.rule_index.specs.Stored.{keyed}
use Rattle.rule_index.proofs.index.Index.lookup.Goals as goal

pub pick-requires-clause-all : goal.pick-requires-clause-all
pick-requires-clause-all c = λ place rule is compatible.
    let P : List ℕ → Type 0 = λ xs. Contains xs place in
    let held = c.self.invariant.holds place rule (ap (λ es. slice_get (map keyed es) place) (sym c.as_slice.ensures.value) ∙ is) in
    subst P (sym c.as_slice-2.ensures.value) (Contains-permutation c.in_ok-places.places.items c.sort_unstable.new.self.items place c.sort_unstable.ensures.permutation (c.in_ok-places.ensures rule.key place held compatible))
