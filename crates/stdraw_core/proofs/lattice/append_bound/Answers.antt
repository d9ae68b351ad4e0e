use Rattle.std.proofs.Common.{◌++◌, ◌∙◌, [], ◌∷◌, List, ℕ, ap, codes, rules, w64, FitsSigned}
use Rattle.std.proofs.lemmas.Int.{to_z-of_z}
use Rattle.std.proofs.lemmas.Result.{on_ok_weaker}
use Rattle.st_report.specs.Lines.{numbered, spaced}
use Rattle.st_words.specs.Words.{operation_word}
use Rattle.stdraw_core.proofs.LatticeLemmas.{four_pieces, three_names}
use Rattle.stdraw_core.proofs.lattice.append_bound.Goals as goal

pub returns : goal.returns
returns c =
    let from_fits : FitsSigned w64 c.args.from = search rules in
    let to_fits : FitsSigned w64 c.args.to = search rules in
    let bound_fits : FitsSigned w64 c.args.bound = search rules in
    let two = rw (to_z-of_z w64 c.args.from from_fits, to_z-of_z w64 c.args.to to_fits) at c.in_ok-append_two.ensures in
    let one = rw (to_z-of_z w64 c.args.bound bound_fits) at c.in_ok-append_name.ensures in
    let word = rw c.word_of.ensures at c.in_ok-append.ensures.ok in
    on_ok_weaker c.append-2.result
    (λ e.
    four_pieces c.args.text.now c.append.new.self c.append_two.new.text c.append_name.new.text c.append-2.new.self
    (operation_word c.args.op) (spaced (c.args.from ∷ c.args.to ∷ [])) (numbered (codes " ") c.args.bound []) (codes "\n")
    word two one e
    ∙ ap (λ (z : List ℕ). c.args.text.now ++ (operation_word c.args.op ++ z)) (three_names c.args.from c.args.to c.args.bound (codes "\n")))
    c.append-2.ensures.ok
