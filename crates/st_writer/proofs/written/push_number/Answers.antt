use Rattle.std.proofs.Common.{◌≡◌, ℤ, ap, ◌∙◌, to_z, of_z, w64, rules}
use Rattle.std.proofs.lemmas.Int.{to_z-of_z}
use Rattle.gml_core.specs.Trees.{push}
use Rattle.gml_core.specs.Views.{view}
use Rattle.st_writer.specs.Plain.{int_pair}
use Rattle.st_writer.proofs.WrittenLemmas.{pushed_pairs}
use Rattle.st_writer.proofs.written.push_number.Goals as goal

pub returns-clause-pairs : goal.returns-clause-pairs
returns-clause-pairs c =
    let same : to_z w64 (of_z w64 c.args.n) ≡ c.args.n = search (rules, to_z-of_z) in
    pushed_pairs (view c.args.tree.now) (view c.push_int.new.self) (int_pair c.args.key.now c.args.n) (c.in_ok-push_int.ensures.ok ∙ ap (λ (z : ℤ). push (view c.args.tree.now) (int_pair c.args.key.now z)) same)
