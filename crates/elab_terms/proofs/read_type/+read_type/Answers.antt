use Rattle.std.proofs.Common.{◌≡◌, ◌∷◌, ◌++◌, ◌+◌, [], arith, sym, ap, ◌∙◌, subst, subst₂, length, drop, append_assoc, None, option_map}
use Rattle.std.proofs.lemmas.Bool.{false≢true}
use Rattle.lf_definitions.specs.Typing.{with_context}
use Rattle.lf_terms.specs.Types.{type_of, types_of, atom_of}
use Rattle.lf_terms.proofs.TypeLists.{length-types_of, types_of-append}
use Rattle.file_trees.specs.Trees.{Classifier, bind, classifier_size}
use Rattle.file_trees.specs.TypeViews.{binding_of, bindings_of, last_of}
use Rattle.elab_terms.specs.ReadBinders.{binding_name, HasRoom, ReadsAs, RefusesAfter, Opens}
use Rattle.elab_terms.specs.KnownTypes.{KnownAt}
use Rattle.elab_terms.specs.Readers.{whole_text, typing_by}
use Rattle.elab_terms.specs.Types.{ReadsType, RefusesType, refuses_word, reads_type_word, refuses_kind_family}
use Rattle.elab_terms.specs.declared.elab_fault.ElabFault.TheVariants.{TooMany, Unknown}
use Rattle.elab_terms.proofs.Lasts.{last_falls, binders_fall, bindings_of-drop, length-bindings_of, same_binding, domain_falls}
use Rattle.elab_terms.proofs.Openings.{append_nil, opens_none, too_many, domain_refused, opens_more, past_all}
use Rattle.elab_terms.proofs.Reading.{IsRefusal-map}
use Rattle.elab_terms.proofs.read_type.+read_type.Goals as goal

pub read_binders-loop-i-init : goal.read_binders-loop-i-init
read_binders-loop-i-init t c = opens_none c.requires.known

pub read_binders-returns-then-not-has_room-clause-refused : goal.read_binders-returns-then-not-has_room-clause-refused
read_binders-returns-then-not-has_room-clause-refused t c = λ last.
    let a = c.args in
    let text = whole_text a.reader.now in
    let Γ = typing_by a.reader.now a.scope.now in
    let before = types_of a.prefix.items in
    let after = types_of c.loop-i.types.items in
    let whole = bindings_of a.items.now in
    let item = c.index-items-i.result in
    let opens = subst (Opens a.ending text a.reader.now.sig.now a.names.now c.loop-i.names Γ before after whole) (bindings_of-drop a.items.now c.loop-i.i item c.loop-i-test.true c.index-items-i.is) c.loop-i.invariant in
    let count : c.len.result ≡ length after = omega (arith, c.len.ensures, c.loop-i.types.ok.0, length-types_of c.loop-i.types.items) in
    subst (λ p. RefusesAfter a.ending text a.reader.now.sig.now a.names.now Γ before (bind whole last) (TooMany p)) (sym c.binding_place.ensures)
    (too_many opens (λ room. false≢true (sym c.if-not-has_room.true ∙ c.has_room.ensures.1 (subst (HasRoom a.ending) (sym count) room))) last)

pub read_binders-read_type-requires : goal.read_binders-read_type-requires
read_binders-read_type-requires t c =
    let a = c.args in
    let Γ = typing_by a.reader.now a.scope.now in
    let item = c.index-items-i-in-loop-i.result in (
      omega (arith, c.decreases, ap classifier_size c.domain.ensures, domain_falls a.items.now c.loop-i.i item c.loop-i-test.true c.index-items-i-in-loop-i.is),
      (
        c.requires.closed,
        subst (λ xs. KnownAt a.reader.now.sig.now (with_context (types_of xs) Γ) c.loop-i.names) (sym c.as_slice.ensures.value) c.loop-i.invariant.known,
      ),
    )

pub read_binders-returns-in-Err-clause-refused : goal.read_binders-returns-in-Err-clause-refused
read_binders-returns-in-Err-clause-refused t c =
    let a = c.args in
    let text = whole_text a.reader.now in
    let Γ = typing_by a.reader.now a.scope.now in
    let before = types_of a.prefix.items in
    let after = types_of c.loop-i.types.items in
    let seen = types_of c.as_slice.result.now in
    let value : seen ≡ after = ap types_of c.as_slice.ensures.value in
    let whole = bindings_of a.items.now in
    let item = c.index-items-i-in-loop-i.result in
    let opens = subst (Opens a.ending text a.reader.now.sig.now a.names.now c.loop-i.names Γ before after whole) (bindings_of-drop a.items.now c.loop-i.i item c.loop-i-test.true c.index-items-i-in-loop-i.is) c.loop-i.invariant in
    let count : c.len.result ≡ length after = omega (arith, c.len.ensures, c.loop-i.types.ok.0, length-types_of c.loop-i.types.items) in
    let room = subst (HasRoom a.ending) count (c.has_room.ensures.0 c.if-not-has_room.false) in
    IsRefusal-map (RefusesType text a.reader.now.sig.now c.loop-i.names (with_context seen Γ) 0 c.domain.result.now) (λ fault. (last : Classifier) → RefusesAfter a.ending text a.reader.now.sig.now a.names.now Γ before (bind whole last) fault)
    (λ fault p. domain_refused opens room fault
    (subst₂ (λ ctx d. RefusesType text a.reader.now.sig.now c.loop-i.names (with_context ctx Γ) 0 d fault) value c.domain.ensures p))
    c.in-Err.fault c.in-Err.ensures.refused

pub read_binders-loop-i-preserved : goal.read_binders-loop-i-preserved
read_binders-loop-i-preserved t c =
    let a = c.args in
    let text = whole_text a.reader.now in
    let Γ = typing_by a.reader.now a.scope.now in
    let before = types_of a.prefix.items in
    let after = types_of c.loop-i.types.items in
    let seen = types_of c.as_slice.result.now in
    let value : seen ≡ after = ap types_of c.as_slice.ensures.value in
    let whole = bindings_of a.items.now in
    let rest = drop (c.loop-i.i + 1) whole in
    let item = c.index-items-i-in-loop-i.result in
    let other = c.index-items-i-in-Ok.result in
    let ty = c.in-Ok.ty in
    let same : binding_of other ≡ binding_of item = same_binding a.items.now c.loop-i.i other item c.loop-i-test.true c.index-items-i-in-Ok.is c.index-items-i-in-loop-i.is in
    let opens = subst (Opens a.ending text a.reader.now.sig.now a.names.now c.loop-i.names Γ before after whole) (bindings_of-drop a.items.now c.loop-i.i item c.loop-i-test.true c.index-items-i-in-loop-i.is) c.loop-i.invariant in
    let count : c.len.result ≡ length after = omega (arith, c.len.ensures, c.loop-i.types.ok.0, length-types_of c.loop-i.types.items) in
    let room = subst (HasRoom a.ending) count (c.has_room.ensures.0 c.if-not-has_room.false) in
    let read = subst₂ (λ ctx d. ReadsType text a.reader.now.sig.now c.loop-i.names (with_context ctx Γ) 0 d (type_of ty)) value c.domain.ensures c.in-Ok.ensures.read in
    let now : c.push.new.self ≡ binding_name text (binding_of item) ∷ c.loop-i.names =
    c.in_ok-push-in-Ok.ensures.ok ∙ ap (λ n. n ∷ c.read_type.new.names) c.bound_name.ensures ∙ ap (λ b. binding_name text b ∷ c.read_type.new.names) same ∙ ap (λ ns. binding_name text (binding_of item) ∷ ns) c.in-Ok.ensures.names in
    let types : types_of c.push-in-Ok.new.self.items ≡ after ++ type_of ty ∷ [] = ap types_of c.in_ok-push-in-Ok-2.ensures.items ∙ types_of-append c.loop-i.types.items ty in
    subst₂ (λ ns ts. Opens a.ending text a.reader.now.sig.now a.names.now ns Γ before ts whole rest) (sym now) (sym types)
    (opens_more opens room read)

pub read_binders-returns-clause-read : goal.read_binders-returns-clause-read
read_binders-returns-clause-read t c =
    let a = c.args in
    subst (Opens a.ending (whole_text a.reader.now) a.reader.now.sig.now a.names.now c.loop-i.names (typing_by a.reader.now a.scope.now) (types_of a.prefix.items) (types_of c.loop-i.types.items) (bindings_of a.items.now))
    (past_all (bindings_of a.items.now) c.loop-i.i (omega (arith, c.loop-i-test.false, length-bindings_of a.items.now))) c.loop-i.invariant

pub read_last-returns-in-Word-clause-refused : goal.read_last-returns-in-Word-clause-refused
read_last-returns-in-Word-clause-refused t c =
    let a = c.args in
    let Γ = typing_by a.reader.now a.scope.now in
    let prefix = types_of a.types.items in
    subst₂ (λ e l. RefusesAfter e (whole_text a.reader.now) a.reader.now.sig.now a.names.now Γ prefix (last_of l) (Unknown c.in-Fam.span.start)) (sym c.in-Word.is) (sym c.in-Fam.is)
    (refuses_kind_family a.names.now (with_context prefix Γ) c.in-Fam.span c.in-Fam.arguments)

pub read_last-returns-in-Family-ending-clause-refused : goal.read_last-returns-in-Family-ending-clause-refused
read_last-returns-in-Family-ending-clause-refused t c =
    let a = c.args in
    let Γ = typing_by a.reader.now a.scope.now in
    let prefix = types_of a.types.items in
    subst₂ (λ e l. RefusesAfter e (whole_text a.reader.now) a.reader.now.sig.now a.names.now Γ prefix (last_of l) (Unknown c.in-Star.span.start)) (sym c.in-Family-ending.is) (sym c.in-Star.is)
    (refuses_word a.names.now (with_context prefix Γ) (length prefix) c.in-Star.span)

pub read_last-returns-in-Word-ending-clause-read : goal.read_last-returns-in-Word-ending-clause-read
read_last-returns-in-Word-ending-clause-read t c =
    let a = c.args in
    let Γ = typing_by a.reader.now a.scope.now in
    let prefix = types_of a.types.items in record {
      rest = [];
      whole = sym (append_nil prefix);
      read = subst₂ (λ e l. ReadsAs e (whole_text a.reader.now) a.reader.now.sig.now a.names.now (with_context prefix Γ) (length prefix) (last_of l) [] None) (sym c.in-Word-ending.is) (sym c.in-Star.is)
          (reads_type_word a.names.now (with_context prefix Γ) c.in-Star.span);
    }

pub read_rest-read_binders-requires : goal.read_rest-read_binders-requires
read_rest-read_binders-requires t c =
    let a = c.args in
    let whole = ap (λ bs. bind bs (last_of c.parts.result.1.now)) c.as_slice.ensures ∙ c.parts.ensures.whole in (
      omega (arith, c.decreases, binders_fall (bindings_of c.as_slice.result.now) (last_of c.parts.result.1.now) a.tree.now whole),
      (c.requires.closed, c.requires.known),
    )

pub read_rest-read_last-requires : goal.read_rest-read_last-requires
read_rest-read_last-requires t c =
    let a = c.args in (
      omega (arith, c.decreases, last_falls c.parts.result.1.now c.parts.result.0.now a.tree.now c.parts.ensures.last c.parts.ensures.whole),
      (c.requires.closed, c.in-Ok.ensures.read.known),
    )

pub read_rest-returns-in-Ok-read_last-clause-read : goal.read_rest-returns-in-Ok-read_last-clause-read
read_rest-returns-in-Ok-read_last-clause-read t c =
    let a = c.args in
    let text = whole_text a.reader.now in
    let Γ = typing_by a.reader.now a.scope.now in
    let before = types_of a.prefix.items in
    let last = last_of c.parts.result.1.now in
    let opens = c.in-Ok.ensures.read in
    let l = c.in-Ok-read_last.ensures.read in
    let whole = ap (λ bs. bind bs last) c.as_slice.ensures ∙ c.parts.ensures.whole in record {
      rest = opens.added ++ l.rest;
      whole = l.whole ∙ ap (λ ts. ts ++ l.rest) opens.types_are ∙ append_assoc before opens.added l.rest;
      read = subst (λ tree. ReadsAs a.ending text a.reader.now.sig.now a.names.now (with_context before Γ) (length before) tree (opens.added ++ l.rest) (option_map atom_of c.in-Ok-read_last.parts.end)) whole
          (opens.reads last l.rest (option_map atom_of c.in-Ok-read_last.parts.end) l.read);
    }
