use Rattle.std.proofs.Common.{arith, sym, ◌∙◌}
use Rattle.lf_terms.proofs.SignatureEntries.{place_within, finds, finds_nothing}
use Rattle.lf_terms.proofs.signature.Signature.find_bytes.Goals as goal

pub index-requires : goal.index-requires
index-requires c = omega (arith, place_within _ _ _ _ _ _ c.self.view_is c.self.invariant c.args.name.now c.in-Some.place (sym c.in-Some.is ∙ c.find.ensures))

pub returns-in-None : goal.returns-in-None
returns-in-None c = finds_nothing _ _ _ _ _ _ c.self.view_is c.self.invariant c.args.name.now (sym c.in-None.is ∙ c.find.ensures)

pub returns-in-Some : goal.returns-in-Some
returns-in-Some c =
    finds _ _ _ _ _ _ c.self.view_is c.self.invariant c.args.name.now c.in-Some.place c.index.result.now (sym c.in-Some.is ∙ c.find.ensures) c.index.ensures
