use Rattle.std.proofs.Common.{arith, ap, ◌∙◌, [], ◌∷◌, ◌++◌, length}
use Rattle.basics.specs.Places.{place_of}
use Rattle.lf_terms.specs.declared.found.Found.TheVariants.{Const}
use Rattle.lf_terms.proofs.SignatureEntries.{is_new_place, few_constants, count_constant_names, constant_added, keeps_constant}
use Rattle.lf_terms.proofs.signature.Signature.push_const.Goals as goal

pub add-requires : goal.add-requires
add-requires c = ap (place_of c.self.inside.names) c.as_bytes.ensures ∙ is_new_place _ _ _ _ _ _ c.self.view_is c.self.invariant c.args.name c.requires.is_new

pub overflow_cast-number : goal.overflow_cast-number
overflow_cast-number c = omega (arith, c.len-number.ensures, ap length c.has_room-2.ensures.items, few_constants _ _ _ _ _ _ c.self.view_is c.self.invariant)

pub invariant_of-self-2 : goal.invariant_of-self-2
invariant_of-self-2 c =
    keeps_constant _ _ _ _ _ _ c.self.view_is c.self.invariant
    (record { name = c.args.name; ty = c.args.ty }) c.len-number.result c.add.new.self c.put_last.new.items.items c.put_last-2.new.items.items c.push.new.self
    (omega (arith, c.len-number.ensures, ap length c.has_room-2.ensures.items))
    (c.in-Ok-add.ensures.ok ∙ ap (λ l. c.self.inside.names ++ l ∷ []) c.as_bytes.ensures)
    (c.put_last.ensures ∙ ap (λ l. l ++ Const c.len-number.result ∷ []) c.has_room.ensures.items)
    (c.put_last-2.ensures ∙ ap (λ l. l ++ (record { name = c.args.name; ty = c.args.ty }) ∷ []) c.has_room-2.ensures.items)
    (c.in-Ok-push.ensures.ok ∙ ap (λ s. c.self.inside.shapes ++ s ∷ []) c.in-Ok.ensures) c.requires.is_new c.requires.formed c.requires.room

pub returns-clause-number : goal.returns-clause-number
returns-clause-number c = omega (arith, c.len-number.ensures, ap length c.has_room-2.ensures.items, count_constant_names _ _ _ _ _ _ c.self.view_is c.self.invariant)

pub returns-clause-ok : goal.returns-clause-ok
returns-clause-ok c =
    constant_added _ _ _ _ _ _ c.self.view_is c.self.invariant
    (record { name = c.args.name; ty = c.args.ty }) c.len-number.result c.add.new.self c.put_last.new.items.items c.put_last-2.new.items.items c.push.new.self
    (omega (arith, c.len-number.ensures, ap length c.has_room-2.ensures.items))
    (c.in-Ok-add.ensures.ok ∙ ap (λ l. c.self.inside.names ++ l ∷ []) c.as_bytes.ensures)
    (c.put_last.ensures ∙ ap (λ l. l ++ Const c.len-number.result ∷ []) c.has_room.ensures.items)
    (c.put_last-2.ensures ∙ ap (λ l. l ++ (record { name = c.args.name; ty = c.args.ty }) ∷ []) c.has_room-2.ensures.items)
