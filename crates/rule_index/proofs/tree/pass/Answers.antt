use Rattle.std.proofs.Common.{◌+◌, length, refl, List, ℕ, Vec, Global, get_or, sym, ap, ◌∙◌, ◌++◌, subst₂}
use Rattle.std.proofs.lemmas.Option.{slice_get-get_or, slice_get_read}
use Rattle.rule_index.specs.Trees.{PassesLevel}
use Rattle.rule_index.proofs.Levels.{pass_skipped, pass_more}
use Rattle.rule_index.proofs.tree.pass.Goals as goal
use Rattle.rule_index.proofs.tree.pass.Goals.{then-number-nodes+in_ok-extend_from_slice+in_ok-add_branches, else-number-nodes}

pub loop-number-preserved : goal.loop-number-preserved
loop-number-preserved c =
    let nodes = c.args.nodes.now in
    let numbers = c.args.numbers.now in
    let i = c.loop-number.number-index in
    let old = c.args.places.now.items in
    let places = c.loop-number.places.items in
    let next = c.loop-number.next.items in
    let number = get_or numbers i 0 in
    let number_is = slice_get-get_or numbers i 0 c.loop-number-test.true in
    let P : List ℕ → List ℕ → Type 0 = PassesLevel nodes numbers (i + 1) c.args.demand old in
    let items : Vec ℕ Global → List ℕ = λ v. v.items in
    elim c.if-number-nodes.branch [
      | then-number-nodes+in_ok-extend_from_slice+in_ok-add_branches w ↦ subst₂ P (sym (ap items w.places-is)) (sym (ap items w.next-is))
          (pass_more nodes numbers i c.args.demand old places next number number_is c.loop-number.invariant w.index-nodes-number.result w.extend_from_slice.new.self.items w.add_branches.new.next.items
          (slice_get_read nodes (length nodes) number w.index-nodes-number.result refl w.if-number-nodes.true w.index-nodes-number.is) (w.in_ok-extend_from_slice.ensures.items ∙ ap (λ xs. places ++ xs) w.as_slice.ensures.value) w.in_ok-add_branches.ensures)
      | else-number-nodes w ↦ subst₂ P (sym (ap items w.places-is)) (sym (ap items w.next-is)) (pass_skipped nodes numbers i c.args.demand old places next number number_is c.loop-number.invariant w.if-number-nodes.false)
    ]
