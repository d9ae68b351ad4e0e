use Rattle.std.proofs.Common.{◌≡◌, ◌<◌, ◌+◌, ◌++◌, length, take, drop, ap, sym, ◌∙◌, subst, get_or, []}
use Rattle.std.specs.List.{concat}
use Rattle.st_gen.specs.Chunks.{Holds}
use Rattle.st_gen.proofs.ChunkLemmas.{chunk_read, holds_in, row_removed, concat-removed}
use Rattle.st_gen.proofs.row.Row.remove.Goals as goal

held : (c : goal.After-self-2-1) → Holds c.self.inside.chunks.items c.find-spot.result.chunk c.find-spot.result.before c.args.place
held c = holds_in c.self.inside.chunks.items c.deref.result.now c.find-spot.result.chunk c.find-spot.result.before c.args.place c.deref.ensures.value c.find-spot.ensures

is : (c : goal.After-self-2-1) → get_or c.self.inside.chunks.items c.find-spot.result.chunk [] ≡ c.index_mut.result.now
is c = chunk_read c.self.inside.chunks.items c.find-spot.result.chunk c.index_mut.result.now (held c).there c.index_mut.ensures.value

pub invariant_of-self : goal.invariant_of-self
invariant_of-self c =
    let v : concat c.self.inside.chunks.items ≡ c.args.self.now = c.self.view_is in
    row_removed c.self.inside.chunks.items c.find-spot.result.chunk c.find-spot.result.before c.args.place (held c) c.index_mut.result.now (is c)
    c.self.inside.len c.self.invariant.length_is c.self.invariant.few (subst (λ z. c.args.place < length z) (sym v) c.requires) c.remove.new.self c.remove.ensures

pub returns : goal.returns
returns c =
    let v : concat c.self.inside.chunks.items ≡ c.args.self.now = c.self.view_is in
    concat-removed c.self.inside.chunks.items c.find-spot.result.chunk c.find-spot.result.before c.args.place (held c) c.index_mut.result.now (is c) c.remove.new.self c.remove.ensures
    ∙ ap (λ z. take c.args.place z ++ drop (c.args.place + 1) z) v
