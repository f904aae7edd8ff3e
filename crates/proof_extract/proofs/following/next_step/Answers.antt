use Rattle.std.specs.Prelude.{nat_eq}
use Rattle.indexmap.specs.IndexMap.{get}
use Rattle.proof_extract.proofs.Ways.{list_is_shaped, has_entry, node_stands, node_is_proved, choice_within, has_children, goals_differ, step_on}
use Rattle.proof_extract.proofs.following.next_step.Goals as goal

pub node_of-node-requires : goal.node_of-node-requires
node_of-node-requires g c = has_entry _ _ _ _ _ _ _ _ c.requires.way.3 _ c.requires.first

pub choice_at-choice-requires-clause-stands : goal.choice_at-choice-requires-clause-stands
choice_at-choice-requires-clause-stands g c = node_stands _ _ _ _ _ _ _ _ c.requires.way.3 _ c.requires.first _ c.node_of-node.ensures

pub choice_at-choice-requires-clause-marks : goal.choice_at-choice-requires-clause-marks
choice_at-choice-requires-clause-marks g c = c.requires.way.3.followed.marks

pub choice_at-choice-requires-clause-proved : goal.choice_at-choice-requires-clause-proved
choice_at-choice-requires-clause-proved g c = node_is_proved _ _ _ _ _ _ _ _ c.requires.way.3 _ c.requires.first _ c.node_of-node.ensures

pub alternative_at-requires-clause-shaped : goal.alternative_at-requires-clause-shaped
alternative_at-requires-clause-shaped g c = list_is_shaped _ _ _ _ _ _ _ _ c.requires.way.3

pub alternative_at-requires-clause-there : goal.alternative_at-requires-clause-there
alternative_at-requires-clause-there g c = choice_within _ _ _ _ _ _ _ _ c.requires.way.3 _ c.requires.first _ c.node_of-node.ensures _ c.choice_at-choice.ensures

pub children-first-requires : goal.children-first-requires
children-first-requires g c = has_children _ _ _ _ _ _ _ _ c.requires.way.3 _ c.requires.first _ c.node_of-node.ensures _ c.choice_at-choice.ensures

pub table_after-requires : goal.table_after-requires
table_after-requires g c =
    goals_differ _ _ _ _ _ _ _ _ c.requires.way.3 _ c.requires.first _ c.node_of-node.ensures _ c.choice_at-choice.ensures _ c.in_ok-alternative.ensures

pub returns : goal.returns
returns g c = λ a most nodes way.
    step_on _ _ a _ most _ nodes _ way _ c.requires.first _ c.node_of-node.ensures _ c.choice_at-choice.ensures _ c.in_ok-alternative.ensures _ c.children-first.ensures
    (get nat_eq c.in_ok-carried.carried) c.in_ok-carried.ensures
