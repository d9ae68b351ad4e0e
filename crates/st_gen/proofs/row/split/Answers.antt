use Rattle.std.proofs.Common.{◌/◌, ◌++◌, drop, ap, ◌∙◌}
use Rattle.std.specs.List.{concat}
use Rattle.st_gen.proofs.ChunkLemmas.{halved}
use Rattle.st_gen.proofs.row.split.Goals as goal
use Rattle.st_gen.proofs.row.split.Goals.{in-Ok, in-Err}

pub returns-clause-joined : goal.returns-clause-joined
returns-clause-joined c = elim c.match-insert.branch [
  | in-Ok w ↦
      ap (λ z. concat z.items) w.chunks-is
      ∙ halved c.args.chunks.now.items c.insert.new.self.items c.args.at (c.len-half.result / 2) c.index-2.result.now c.append_rest.new.self w.index_mut.result.now w.truncate.new.self
      c.requires c.index-2.ensures (c.in_ok-append_rest.ensures ∙ ap (λ z. z ++ drop (c.len-half.result / 2) c.index-2.result.now) c.in_ok-rest.ensures)
      w.in-Ok.ensures.items w.index_mut.ensures.value w.truncate.ensures
  | in-Err w ↦ ap (λ z. concat z.items) w.chunks-is ∙ ap concat w.in-Err.ensures.items
]
