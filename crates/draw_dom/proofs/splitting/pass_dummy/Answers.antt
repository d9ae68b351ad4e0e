use Rattle.std.proofs.Common.{option_map, ap}
use Rattle.st_ids.specs.declared.ids.VertexId.{VertexId}
use Rattle.draw_dom.proofs.splitting.pass_dummy.Goals as goal

pub set-requires : goal.set-requires
set-requires c = c.requires.there c.in-Some.w.0 (ap (option_map (λ (v : VertexId). v.0)) c.in-Some.is)
