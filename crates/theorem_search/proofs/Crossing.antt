-- That threads may share a book: what it holds is shared blocks and numbers.
use denote.Param.Send.{IsSend, IsSync, sendable, view_sync, recorded_send, recorded_sync, struct_send, struct_sync, AllSend, AllSync, array_send, array_sync}
use denote.Array.{Array}
use denote.Struct.Declared.{shape}
use denote.Ref.{NamedLft}
use denote.RattleType.{RattleType}
use Rattle.std.proofs.Crossing.{crosses, Arc-send, Arc-sync, Vec-send, Vec-sync}
use Rattle.std.specs.contracts.option.Option as Option
use Rattle.std.proofs.option.Option.TheSendSync as option
use Rattle.lf_terms.proofs.extent.Extent.TheSendSync as extent
use Rattle.lf_terms.proofs.head.Head.TheSendSync as head
use Rattle.std.specs.contracts.sync.Arc as Arc
use Rattle.std.specs.contracts.vec.Vec as Vec
use Rattle.std.specs.contracts.alloc.Global as Heap
use Rattle.std.specs.contracts.impls.GlobalAllocator.TheImpl.{ghosts}
use Rattle.basics.proofs.name.Name.TheSendSync as name
use Rattle.basics.proofs.names.Names.TheSendSync as names
use Rattle.lf_terms.proofs.found.Found.TheSendSync as found
use Rattle.lf_terms.proofs.shape.Shapes.TheLaws.TheKnot as shapes
use Rattle.lf_terms.proofs.term.Body.TheLaws.TheKnot as terms
use Rattle.lf_terms.proofs.ty.Tys.TheLaws.TheKnot as tys
use Rattle.lf_terms.specs.contracts.signature.Signature.TheInside as sig_inside
use Rattle.lf_terms.specs.contracts.signature.FamilyEntry as FamilyEntry
use Rattle.lf_terms.specs.contracts.signature.ConstEntry as ConstEntry
use Rattle.lf_terms.specs.contracts.ty.Kind as Kind
use Rattle.lf_terms.specs.contracts.ty.Atom as Atom
use Rattle.lf_terms.specs.contracts.goal.Goal as Goal
use Rattle.lf_terms.specs.contracts.goal.GoalList as GoalList
use Rattle.meta_goals.specs.contracts.goals.Goals as Goals
use Rattle.rule_problem.specs.contracts.problem.RuleProblem as RuleProblem
use Rattle.std.proofs.alloc.Global.TheSendSync as heap
use Rattle.goal_book.specs.contracts.book.GoalBook as GoalBook
use Rattle.goal_book.specs.contracts.book.GoalBook.TheInside as inside
use Rattle.lf_terms.specs.contracts.signature.Signature as Signature
use Rattle.rule_index.proofs.index.Index.TheSendSync as index
use Rattle.rule_sets.proofs.book.RuleBook.TheSendSync as rules
use Rattle.rule_sets.proofs.order.Ordered.TheSendSync as ordered

shared : RattleType → RattleType
shared h = Option.the_row (Arc.the_row (Vec.the_row h Heap.the_row ghosts) Heap.the_row ghosts)

opt_send : (h : RattleType) → IsSend h → IsSync h → IsSend (Option.the_row (Arc.the_row (Vec.the_row h Heap.the_row ghosts) Heap.the_row ghosts))
opt_send h s y = option.the_send (Arc.the_row (Vec.the_row h Heap.the_row ghosts) Heap.the_row ghosts) (Arc-send (Vec.the_row h Heap.the_row ghosts) (Vec-send h s) (Vec-sync h y))

opt_sync : (h : RattleType) → IsSend h → IsSync h → IsSync (Option.the_row (Arc.the_row (Vec.the_row h Heap.the_row ghosts) Heap.the_row ghosts))
opt_sync h s y = option.the_sync (Arc.the_row (Vec.the_row h Heap.the_row ghosts) Heap.the_row ghosts) (Arc-sync (Vec.the_row h Heap.the_row ghosts) (Vec-send h s) (Vec-sync h y))

arr1_send : (h : RattleType) → IsSend h → IsSync h → IsSend (Arc.the_row (Array h 1) Heap.the_row ghosts)
arr1_send h s y = Arc-send (Array h 1) (array_send h 1 s) (array_sync h 1 y)

arr2_send : (h : RattleType) → IsSend h → IsSync h → IsSend (Arc.the_row (Array h 2) Heap.the_row ghosts)
arr2_send h s y = Arc-send (Array h 2) (array_send h 2 s) (array_sync h 2 y)

arr1_sync : (h : RattleType) → IsSend h → IsSync h → IsSync (Arc.the_row (Array h 1) Heap.the_row ghosts)
arr1_sync h s y = Arc-sync (Array h 1) (array_send h 1 s) (array_sync h 1 y)

arr2_sync : (h : RattleType) → IsSend h → IsSync h → IsSync (Arc.the_row (Array h 2) Heap.the_row ghosts)
arr2_sync h s y = Arc-sync (Array h 2) (array_send h 2 s) (array_sync h 2 y)

vec_send : (h : RattleType) → IsSend h → IsSync h → IsSend (Arc.the_row (Vec.the_row h Heap.the_row ghosts) Heap.the_row ghosts)
vec_send h s y = Arc-send (Vec.the_row h Heap.the_row ghosts) (Vec-send h s) (Vec-sync h y)

vec_sync : (h : RattleType) → IsSend h → IsSync h → IsSync (Arc.the_row (Vec.the_row h Heap.the_row ghosts) Heap.the_row ghosts)
vec_sync h s y = Arc-sync (Vec.the_row h Heap.the_row ghosts) (Vec-send h s) (Vec-sync h y)

kind_fields : AllSync (shape Kind.the_type).fields
kind_fields = (tys.both_sync-Tys opt_send extent.the_send (search sendable) (terms.both_send-Terms Arc-send extent.the_send arr1_send arr2_send vec_send head.the_send Arc-sync extent.the_sync arr1_sync arr2_sync vec_sync head.the_sync) opt_sync extent.the_sync (search sendable) (terms.both_sync-Terms Arc-send extent.the_send arr1_send arr2_send vec_send head.the_send Arc-sync extent.the_sync arr1_sync arr2_sync vec_sync head.the_sync), tt)

family_fields : AllSync (shape FamilyEntry.the_type).fields
family_fields = (name.the_sync, (struct_sync (shape Kind.the_type) kind_fields, tt))

family_sync : IsSync FamilyEntry.the_row
family_sync = recorded_sync FamilyEntry.the_field.row _ _ FamilyEntry.the_type.to_one (struct_sync (shape FamilyEntry.the_type) family_fields)

const_fields : AllSync (shape ConstEntry.the_type).fields
const_fields = (name.the_sync, (tys.both_sync-Ty (tys.both_sync-Tys opt_send extent.the_send (search sendable) (terms.both_send-Terms Arc-send extent.the_send arr1_send arr2_send vec_send head.the_send Arc-sync extent.the_sync arr1_sync arr2_sync vec_sync head.the_sync) opt_sync extent.the_sync (search sendable) (terms.both_sync-Terms Arc-send extent.the_send arr1_send arr2_send vec_send head.the_send Arc-sync extent.the_sync arr1_sync arr2_sync vec_sync head.the_sync)) (search sendable) (terms.both_sync-Terms Arc-send extent.the_send arr1_send arr2_send vec_send head.the_send Arc-sync extent.the_sync arr1_sync arr2_sync vec_sync head.the_sync), tt))

const_sync : IsSync ConstEntry.the_row
const_sync = recorded_sync ConstEntry.the_field.row _ _ ConstEntry.the_type.to_one (struct_sync (shape ConstEntry.the_type) const_fields)

book_fields : IsSync Signature.the_row → (a : NamedLft) → AllSync (shape (inside.the_type a)).fields
book_fields s a = (search (s, sendable), (search (rules.the_sync, sendable), (ordered.the_sync, (index.the_sync, tt))))

book_inside : IsSync Signature.the_row → (a : NamedLft) → IsSync (inside.the_row a)
book_inside s a = recorded_sync (inside.the_field a).row _ _ (inside.the_type a).to_one (struct_sync (shape (inside.the_type a)) (book_fields s a))

book_of : IsSync Signature.the_row → (a : NamedLft) → IsSync (GoalBook.the_row a)
book_of s a = view_sync (inside.the_row a) _ _ _ _ (book_inside s a)

sig_fields : AllSync (shape sig_inside.the_type).fields
sig_fields =
    (names.the_sync, (search (found.the_sync, crosses, sendable), (Vec-sync FamilyEntry.the_row family_sync, (Vec-sync ConstEntry.the_row const_sync, (shapes.both_sync-Shapes opt_send opt_sync, tt)))))

sig_sync : IsSync Signature.the_row
sig_sync = view_sync sig_inside.the_row _ _ _ _ (recorded_sync sig_inside.the_field.row _ _ sig_inside.the_type.to_one (struct_sync (shape sig_inside.the_type) sig_fields))

pub GoalBook-sync : (a : NamedLft) → IsSync (GoalBook.the_row a)
GoalBook-sync a = book_of sig_sync a

problem_fields : (a b : NamedLft) → AllSync (shape (RuleProblem.the_type a b)).fields
problem_fields a b = (heap.the_field_sync, (search (GoalBook-sync, sendable) depth 20, tt))

pub RuleProblem-sync : (a b : NamedLft) → IsSync (RuleProblem.the_row a b)
RuleProblem-sync a b = recorded_sync (RuleProblem.the_field a b).row _ _ (RuleProblem.the_type a b).to_one (struct_sync (shape (RuleProblem.the_type a b)) (problem_fields a b))

atom_fields : AllSend (shape Atom.the_type).fields
atom_fields = (search sendable, ((terms.both_send-Terms Arc-send extent.the_send arr1_send arr2_send vec_send head.the_send Arc-sync extent.the_sync arr1_sync arr2_sync vec_sync head.the_sync), tt))

goal_fields : AllSend (shape Goal.the_type).fields
goal_fields = (search sendable, (tys.both_send-Tys opt_send extent.the_send (search sendable) (terms.both_send-Terms Arc-send extent.the_send arr1_send arr2_send vec_send head.the_send Arc-sync extent.the_sync arr1_sync arr2_sync vec_sync head.the_sync) opt_sync extent.the_sync (search sendable) (terms.both_sync-Terms Arc-send extent.the_send arr1_send arr2_send vec_send head.the_send Arc-sync extent.the_sync arr1_sync arr2_sync vec_sync head.the_sync), (struct_send (shape Atom.the_type) atom_fields, tt)))

goal_send : IsSend Goal.the_row
goal_send = recorded_send Goal.the_field.row _ _ Goal.the_type.to_one (struct_send (shape Goal.the_type) goal_fields)

goal_list_send : IsSend GoalList.the_row
goal_list_send = search (goal_send, crosses, sendable) depth 20

pub Goals-send : IsSend Goals.the_row
Goals-send = search (goal_list_send, sendable) depth 20
