use Rattle.std.proofs.Common.{◌≡◌, ◌+◌, [], length, arith, sym, ap, ◌∙◌, length-append}
use Rattle.std.specs.Prelude.{slice_get}
use Rattle.file_trees.specs.TermViews.{tree_of}
use Rattle.file_trees.proofs.Heads.{head_falls}
use Rattle.elab_terms.specs.Applied.{arguments_of}
use Rattle.elab_terms.proofs.Applications.{arguments_of_application, slice_get-append_within, slice_get-append_past, length-trees_of, slice_get-trees_of}
use Rattle.elab_terms.proofs.applied.+argument.Goals as goal

pub argument-requires : goal.argument-requires
argument-requires t c = (omega (arith, c.decreases, head_falls c.args.tree.now c.in-App.head c.in-App.arguments c.term.result.now c.in-App.is c.term.ensures), tt)

pub returns-in-Ok : goal.returns-in-Ok
returns-in-Ok t c =
    ap (λ x. slice_get (arguments_of (tree_of x) []) c.args.place) c.in-App.is
    ∙ ap (λ xs. slice_get xs c.args.place) (arguments_of_application c.in-App.head c.in-App.arguments)
    ∙ slice_get-append_within (arguments_of c.in-App.head []) c.in-App.arguments c.args.place (tree_of c.in-Ok.found.now)
    (ap (λ x. slice_get (arguments_of x []) c.args.place) (sym c.term.ensures) ∙ c.in-Ok.ensures)

pub returns-then-left-items : goal.returns-then-left-items
returns-then-left-items t c =
    let items = c.as_slice-items.result.now in
    ap (λ x. slice_get (arguments_of (tree_of x) []) c.args.place) c.in-App.is
    ∙ ap (λ xs. slice_get xs c.args.place) (arguments_of_application c.in-App.head c.in-App.arguments)
    ∙ slice_get-append_past (arguments_of c.in-App.head []) c.in-App.arguments c.args.place c.in-Err.left
    (c.in-Err.ensures ∙ ap (λ x. length (arguments_of x []) + c.in-Err.left) c.term.ensures)
    ∙ ap (λ xs. slice_get xs c.in-Err.left) (sym c.as_slice-items.ensures)
    ∙ slice_get-trees_of items c.in-Err.left c.index-items-left.result c.if-left-items.true c.index-items-left.is

pub returns-else-left-items : goal.returns-else-left-items
returns-else-left-items t c =
    let items = c.as_slice-items.result.now in
    let whole = arguments_of (tree_of c.args.tree.now) [] in
    let first = arguments_of c.in-App.head [] in
    let place : c.args.place ≡ length first + c.in-Err.left = c.in-Err.ensures ∙ ap (λ x. length (arguments_of x []) + c.in-Err.left) c.term.ensures in
    let count : length whole ≡ length first + length c.in-App.arguments =
    ap (λ x. length (arguments_of (tree_of x) [])) c.in-App.is ∙ ap length (arguments_of_application c.in-App.head c.in-App.arguments) ∙ length-append first c.in-App.arguments in
    let items_count : length c.in-App.arguments ≡ length items = ap length (sym c.as_slice-items.ensures) ∙ length-trees_of items in
    omega (arith, place, count, items_count, c.if-left-items.false)
