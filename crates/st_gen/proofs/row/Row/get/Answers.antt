use Rattle.std.proofs.Common.{◌≡◌, ap, sym, ◌∙◌, get_or}
use Rattle.std.specs.List.{concat}
use Rattle.st_gen.proofs.ChunkLemmas.{chunk_read, holds_in, read_chunk}
use Rattle.st_gen.proofs.row.Row.get.Goals as goal

pub returns-clause-value : goal.returns-clause-value
returns-clause-value c =
    let v : concat c.self.inside.chunks.items ≡ c.args.self.now = c.self.view_is in
    let h = holds_in c.self.inside.chunks.items c.deref.result.now c.find-self-inside.result.chunk c.find-self-inside.result.before c.args.place c.deref.ensures.value c.find-self-inside.ensures in
    c.get.ensures
    ∙ sym (read_chunk c.self.inside.chunks.items c.find-self-inside.result.chunk c.find-self-inside.result.before c.args.place h c.index.result.now
    (chunk_read c.self.inside.chunks.items c.find-self-inside.result.chunk c.index.result.now h.there c.index.ensures))
    ∙ ap (λ z. get_or z c.args.place 0) v
