use Rattle.std.proofs.Common.{◌≡◌, ℤ, List, if◌then◌else◌, ◌∷◌, ◌++◌, [], None, OnOk, FitsSigned, w64, to_z, of_z, subst, rules}
use Rattle.std.proofs.lemmas.Int.{to_z-of_z}
use Rattle.st_input.specs.Names.{is_among, number_of}
use Rattle.st_input.proofs.RunLemmas.{behind_on_ok}
use Rattle.st_input.proofs.names.NameSet.add_behind.Goals as goal

pub returns-clause-names : goal.returns-clause-names
returns-clause-names c =
    let fit : FitsSigned w64 c.args.name = search rules in
    let none : number_of c.self.inside.run c.args.name ≡ None = search rules in
    subst (λ (l : List ℤ). OnOk c.insert_in.result (c.self.inside.run ++ c.insert_in.new.set.keys ≡ (if is_among l c.args.name then l else l ++ c.args.name ∷ []))) c.self.view_is
    (behind_on_ok c.insert_in.result c.self.inside.run c.self.inside.others.keys c.insert_in.new.set.keys (to_z w64 (of_z w64 c.args.name)) c.args.name none (to_z-of_z w64 c.args.name fit) c.insert_in.ensures.names)
