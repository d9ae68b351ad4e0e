use Rattle.eps_core.specs.Text.{text}
use Rattle.stdraw_core.proofs.BenchLemmas.{text_fits, counted}
use Rattle.stdraw_core.proofs.bench.text_length.Goals as goal

pub returns : goal.returns
returns c =
    let written = rw c.new-sink.ensures at c.write_eps.ensures.whole in
    rw c.bytes.ensures
    (counted c.write_eps.result c.write_eps.new.sink (text c.args.picture.now) (text_fits c.short_lines.ensures c.args.picture.now c.requires) written c.write_eps.ensures.cause)
