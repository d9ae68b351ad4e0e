use Rattle.std.proofs.Common.{rules, ◌≡◌, ◌∙◌, ap, length, sym}
use Rattle.st_ids.specs.EdgeNumbers.{numbers}
use Rattle.st_ids.proofs.PieceLemmas.{length-pieces}
use Rattle.st_ids.proofs.paths.PathList.len.Goals as goal

pub returns : goal.returns
returns c =
    let count : c.len.result ≡ length c.self.inside.ends.items = search rules in
    count ∙ sym (length-pieces 0 c.self.inside.ends.items (numbers c.self.inside.edges.items)) ∙ ap length c.self.view_is
