use Rattle.std.proofs.Common.{◌++◌, ◌∷◌, [], ap, ◌∙◌}
use Rattle.meta_openings.specs.Results.{opened_type_of}
use Rattle.build_shared.specs.Seen.{seen_label, seen_hypothesis}
use Rattle.build_cases.proofs.Offered.{is_openable, has_shaped_terms, offered_is}
use Rattle.build_cases.proofs.split.candidate_of.Goals as goal

pub kept_places-requires : goal.kept_places-requires
kept_places-requires c = c.requires.is_split.hypotheses_are

pub open_args-requires : goal.open_args-requires
open_args-requires c =
    let s = c.args.split.now in
    let h = seen_hypothesis c.args.hyp.now in
    let fixed_is = c.in_ok-push.ensures.ok ∙ ap (λ l. l ++ (s.major, h.place) ∷ []) c.new-fixed.ensures in
    is_openable s h c.requires.is_split c.requires.may_split c.in_ok-kept.kept c.push.new.self c.in_ok-kept.ensures fixed_is

pub equations_of-requires-clause-shaped : goal.equations_of-requires-clause-shaped
equations_of-requires-clause-shaped c =
    let s = c.args.split.now in
    let h = seen_hypothesis c.args.hyp.now in
    let fixed_is = c.in_ok-push.ensures.ok ∙ ap (λ l. l ++ (s.major, h.place) ∷ []) c.new-fixed.ensures in
    has_shaped_terms s h c.requires.is_split c.requires.may_split c.in_ok-kept.kept c.push.new.self c.in_ok-kept.ensures fixed_is (opened_type_of c.in_ok-opened.opened) c.in_ok-opened.ensures

pub equations_of-requires-clause-atomic : goal.equations_of-requires-clause-atomic
equations_of-requires-clause-atomic c = c.requires.is_split.takes_atom

pub returns : goal.returns
returns c =
    let s = c.args.split.now in
    let h = seen_hypothesis c.args.hyp.now in
    let fixed_is = c.in_ok-push.ensures.ok ∙ ap (λ l. l ++ (s.major, h.place) ∷ []) c.new-fixed.ensures in
    offered_is s h c.requires.is_split c.requires.may_split c.in_ok-kept.kept c.push.new.self c.in_ok-kept.ensures fixed_is (seen_label c.in_ok-label.label) (opened_type_of c.in_ok-opened.opened)
    c.in_ok-are_proofs.are_proofs.items c.in_ok-equations.equations c.in_ok-label.ensures c.in_ok-opened.ensures c.in_ok-are_proofs.ensures c.in_ok-equations.ensures
