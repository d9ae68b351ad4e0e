use Rattle.std.proofs.Common.{ℤ, ap, ◌∙◌, FitsSigned, w64, rules}
use Rattle.std.proofs.lemmas.Int.{to_z-of_z}
use Rattle.st_input.specs.Names.{number_of}
use Rattle.st_input.proofs.NameLemmas.{place_of_name}
use Rattle.st_input.proofs.names.NameSet.find.Goals as goal

pub returns-clause-place : goal.returns-clause-place
returns-clause-place c =
    let fit : FitsSigned w64 c.args.name = search rules in
    place_of_name c.args.self.now c.args.name c.find_either.result (c.find_either.ensures.number ∙ ap (λ (z : ℤ). number_of c.args.self.now z) (to_z-of_z w64 c.args.name fit))
