use Rattle.std.proofs.Common.{List, ℕ, Vec, Global, sym, ap, ◌∙◌, subst, subst₂}
use Rattle.std.specs.Prelude.{option_copied}
use Rattle.rule_index.specs.Stored.{target_atom}
use Rattle.lf_definitions.specs.Syntax.{Spine}
use Rattle.rule_index.specs.declared.node.Node.{Node}
use Rattle.rule_index.specs.Trees.{FindsPlaces, WalksBranches}
use Rattle.rule_index.proofs.Trees.{finds_with_root, finds_without}
use Rattle.rule_index.proofs.tree.KeyTree.places.Goals as goal
use Rattle.rule_index.proofs.tree.KeyTree.places.Goals.{in-Some+in_ok-walk, in_default}

pub returns : goal.returns
returns c =
    let tree = c.args.self.now in
    let target = target_atom c.args.target.now in
    let P : Vec ℕ Global → Type 0 = λ v. FindsPlaces tree target v.items in
    let general = c.in_ok-places.ensures.items ∙ c.as_slice.ensures.value in
    elim c.match-get.branch [
      | in-Some+in_ok-walk w ↦ (
          let root = w.in-Some.root.now in
          let Q : List Node → Spine → Type 0 = λ nodes args. WalksBranches nodes root args tree.levels c.in_ok-places.places.items w.walk.new.places.items in
          subst P (sym w.places-is)
          (finds_with_root tree target root c.in_ok-places.places.items w.walk.new.places.items (sym c.get.ensures.value ∙ ap option_copied w.in-Some.is) general
          (subst₂ Q w.as_slice-in-Some.ensures.value w.as_slice-args.ensures w.in_ok-walk.ensures)))
      | in_default w ↦ subst P (sym w.places-is) (finds_without tree target c.in_ok-places.places.items (sym c.get.ensures.value ∙ ap option_copied w.in_default.is) general)
    ]
