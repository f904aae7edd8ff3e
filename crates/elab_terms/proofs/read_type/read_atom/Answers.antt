use Rattle.std.proofs.Common.{◌≡◌, ℕ, [], sym, ap, subst, length}
use Rattle.lf_definitions.specs.Typing.{with_context}
use Rattle.lf_terms.specs.Types.{types_of, atom_of}
use Rattle.file_trees.specs.Trees.{family}
use Rattle.elab_terms.specs.ReadBinders.{RefusesAfter}
use Rattle.elab_terms.specs.Readers.{whole_text, typing_by}
use Rattle.elab_terms.specs.Types.{ReadsType, RefusesType}
use Rattle.elab_terms.specs.declared.elab_fault.ElabFault.{ElabFault}
use Rattle.elab_terms.specs.declared.ending.Ending.TheVariants.{Family}
use Rattle.elab_terms.proofs.Reading.{IsRefusal-map}
use Rattle.elab_terms.proofs.Openings.{append_nil}
use Rattle.elab_terms.proofs.read_type.read_atom.Goals as goal

pub returns-in-Err-clause-refused : goal.returns-in-Err-clause-refused
returns-in-Err-clause-refused c =
    let a = c.args in
    let text = whole_text a.reader.now in
    let Γ = typing_by a.reader.now a.scope.now in
    let prefix = types_of a.types.items in
    let seen = types_of c.as_slice.result.now in
    let value : seen ≡ prefix = ap types_of c.as_slice.ensures.value in
    IsRefusal-map (λ (fault : ElabFault). (count : ℕ) → RefusesType text a.reader.now.sig.now a.names.now (with_context seen Γ) count (family a.span a.arguments.now) fault)
    (RefusesAfter Family text a.reader.now.sig.now a.names.now Γ prefix (family a.span a.arguments.now))
    (λ fault p. subst (λ ctx. RefusesType text a.reader.now.sig.now a.names.now (with_context ctx Γ) (length prefix) (family a.span a.arguments.now) fault) value (p (length prefix))) c.in-Err.fault c.in-Err.ensures.refused

pub returns-in-Ok-clause-read : goal.returns-in-Ok-clause-read
returns-in-Ok-clause-read c =
    let a = c.args in
    let atom = atom_of c.in-Ok.atom in
    let types = types_of a.types.items in record {
      rest = [];
      whole = sym (append_nil types);
      read = subst (λ ctx. ReadsType (whole_text a.reader.now) a.reader.now.sig.now a.names.now (with_context ctx (typing_by a.reader.now a.scope.now)) (length types) (family a.span a.arguments.now) atom) (ap types_of c.as_slice.ensures.value)
          (c.in-Ok.ensures.read (length types));
    }
