use Rattle.std.proofs.Common.{◌≡◌, ◌-◌, ◌<◌, ◌∙◌, arith, ℕ}
use Rattle.st_picture.proofs.SpanLemmas.{sink_in}
use Rattle.st_picture.proofs.TableLemmas.{has_at, last_positive}
use Rattle.st_picture.proofs.bars.corner.Goals as goal

pub number_before-requires-clause-positive : goal.number_before-requires-clause-positive
number_before-requires-clause-positive c = last_positive c.args.sides.now c.local.ensures c.args.columns.now c.requires.columns c.requires.rightward (c.faces.result - 1) (let q = c.faces.ensures.value in omega arith)

at_sink : (r s n : ℕ) → r ≡ s → s < n → r < n
at_sink r s n q l = omega arith

pub number_in-requires-clause-there : goal.number_in-requires-clause-there
number_in-requires-clause-there c =
    (has_at c.args.heights.now c.args.sides.now.vertices c.high.result.0 c.requires.heights (at_sink c.high.result.0 c.args.sides.now.sink c.args.sides.now.vertices (c.high.ensures.value ∙ c.local.ensures.high_s) (sink_in c.args.sides.now c.local.ensures))).there

pub number_in-requires-clause-natural : goal.number_in-requires-clause-natural
number_in-requires-clause-natural c =
    (has_at c.args.heights.now c.args.sides.now.vertices c.high.result.0 c.requires.heights (at_sink c.high.result.0 c.args.sides.now.sink c.args.sides.now.vertices (c.high.ensures.value ∙ c.local.ensures.high_s) (sink_in c.args.sides.now c.local.ensures))).natural
