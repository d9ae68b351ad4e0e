use Rattle.std.proofs.Common.{List, ℤ, ap, ◌∙◌, FitsSigned, w64, rules}
use Rattle.std.proofs.lemmas.Int.{to_z-of_z}
use Rattle.std.specs.List.{position}
use Rattle.std.specs.Ordering.{int_eq}
use Rattle.st_session.proofs.NameLemmas.{place_of_name}
use Rattle.st_session.proofs.names.NameIndex.find.Goals as goal

pub returns-clause-place : goal.returns-clause-place
returns-clause-place c =
    let fit : FitsSigned w64 c.args.name = search rules in
    place_of_name c.args.self.now c.args.name c.find_in.result (c.find_in.ensures.number ∙ ap (λ (z : ℤ). position (int_eq z) c.self.inside.set.keys) (to_z-of_z w64 c.args.name fit) ∙ ap (λ (ks : List ℤ). position (int_eq c.args.name) ks) c.self.view_is)
