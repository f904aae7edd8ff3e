use Rattle.std.proofs.Common.{List, ℕ, length, refl, sym, subst, subst₂, arith}
use Rattle.std.specs.Prelude.{Contains}
use Rattle.lf_terms.specs.Terms.{spine_of}
use Rattle.rule_index.specs.declared.key.Demand.{Demand}
use Rattle.rule_index.specs.Trees.{PassesLevel}
use Rattle.rule_index.proofs.Levels.{walk_begins, walk_goes_on, walk_ends}
use Rattle.rule_index.proofs.tree.walk.Goals as goal

pub loop-level-init : goal.loop-level-init
loop-level-init c =
    let P : List ℕ → Type 0 = λ xs. Contains xs c.args.root in
    walk_begins c.args.nodes.now c.args.root (spine_of c.args.args.now) c.args.levels c.args.places.now.items c.in_ok-numbers.numbers.items (subst P (sym c.in_ok-numbers.ensures.items) (0, omega arith, refl))

pub loop-level-preserved : goal.loop-level-preserved
loop-level-preserved c =
    let P : List ℕ → Demand → Type 0 = λ xs demand. PassesLevel c.args.nodes.now xs (length xs) demand c.loop-level.places.items c.pass.new.places.items c.in_ok-numbers-2.numbers.items in
    walk_goes_on c.args.nodes.now c.args.root (spine_of c.args.args.now) c.args.levels c.loop-level.level c.args.places.now.items c.loop-level.places.items c.loop-level.numbers.items c.pass.new.places.items
    c.in_ok-numbers-2.numbers.items c.loop-level.invariant (subst₂ P c.as_slice.ensures.value c.demand_at.ensures c.in_ok-numbers-2.ensures)

pub returns : goal.returns
returns c =
    walk_ends c.args.nodes.now c.args.root (spine_of c.args.args.now) c.args.levels c.loop-level.level c.args.places.now.items c.loop-level.places.items c.loop-level.numbers.items c.loop-level-test.false c.loop-level.invariant
