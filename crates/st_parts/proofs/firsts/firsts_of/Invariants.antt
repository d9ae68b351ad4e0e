use Rattle.std.proofs.Common.{◌≡◌, drop, codes, option_map, IfSome}
use Rattle.std.specs.Option.{option_or}
use Rattle.gml_core.specs.Trees.{listed}
use Rattle.gml_core.specs.Views.{view, entry_view}
use Rattle.st_parts.specs.Used.{HasSoundList, datum_of, first_with}
use Rattle.st_parts.proofs.firsts.firsts_of.Given as goal

abbrev pub invariant-loop-i : goal.invariant-loop-i
invariant-loop-i l = record {
  id : option_or (option_map (λ p. entry_view p.now) l.firsts.id) (first_with (codes "id") (drop l.i (listed (view l.tree)))) ≡ first_with (codes "id") (listed (view l.tree));
  source : option_or (option_map (λ p. entry_view p.now) l.firsts.source) (first_with (codes "source") (drop l.i (listed (view l.tree)))) ≡ first_with (codes "source") (listed (view l.tree));
  target : option_or (option_map (λ p. entry_view p.now) l.firsts.target) (first_with (codes "target") (drop l.i (listed (view l.tree)))) ≡ first_with (codes "target") (listed (view l.tree));
  edge : option_or (option_map (λ p. entry_view p.now) l.firsts.edge) (first_with (codes "edge") (drop l.i (listed (view l.tree)))) ≡ first_with (codes "edge") (listed (view l.tree));
  side : option_or (option_map (λ p. entry_view p.now) l.firsts.side) (first_with (codes "side") (drop l.i (listed (view l.tree)))) ≡ first_with (codes "side") (listed (view l.tree));
  label : option_or (option_map (λ p. entry_view p.now) l.firsts.label) (first_with (codes "label") (drop l.i (listed (view l.tree)))) ≡ first_with (codes "label") (listed (view l.tree));
  order : option_or (option_map (λ p. entry_view p.now) l.firsts.order) (first_with (codes "order") (drop l.i (listed (view l.tree)))) ≡ first_with (codes "order") (listed (view l.tree));
  minlen : option_or (option_map (λ p. entry_view p.now) l.firsts.minlen) (first_with (codes "minlen") (drop l.i (listed (view l.tree)))) ≡ first_with (codes "minlen") (listed (view l.tree));
  sound : IfSome l.firsts.order (λ p. HasSoundList (datum_of (entry_view p.now)));
}
