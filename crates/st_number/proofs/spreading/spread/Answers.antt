use Rattle.std.proofs.Common.{◌≡◌, length, sym, ap, ◌∙◌, subst}
use Rattle.st_map.specs.Embedded.{MapValue, edges}
use Rattle.st_number.specs.Spread.{AreSpreadBy}
use Rattle.st_number.proofs.SpreadLemmas.{spread_by, rows_fit}
use Rattle.st_number.proofs.spreading.spread.Goals as goal

pub returns : goal.returns
returns c =
    let all : c.edges.result ≡ length c.args.lengths.now = c.edges.ensures.value ∙ ap (λ (m : MapValue). edges m.graph) c.map.ensures.value ∙ sym c.requires.size in
    let rows : AreSpreadBy c.args.lengths.now c.in_ok-flags.flags (length c.args.lengths.now) c.in_ok-list.list = subst (λ n. AreSpreadBy c.args.lengths.now c.in_ok-flags.flags n c.in_ok-list.list) all c.in_ok-list.ensures in
    record {
      spread = spread_by c.args.graph.now.map.graph c.args.lengths.now c.in_ok-flags.flags c.in_ok-list.list c.requires.size c.in_ok-flags.ensures rows;
      rows = rows_fit c.args.lengths.now c.in_ok-flags.flags c.in_ok-list.list c.requires.lengths rows;
    }
