use Rattle.std.proofs.Common.{◌≡◌, ℕ, ◌+◌, Bool, true, false, Vec, Global, refl, sym, ap, subst, ◌∙◌}
use Rattle.st_ids.specs.Ends.{is_out}
use Rattle.st_map.specs.Embedded.{Embedded}
use Rattle.st_sides.specs.Filled.{AreStarts}
use Rattle.st_sides.specs.Rounds.{round}
use Rattle.st_sides.proofs.StartLemmas.{starts_keep, starts_set}
use Rattle.st_sides.proofs.starts.list_starts.Goals.{then-turns, else-turns}
use Rattle.st_sides.proofs.starts.list_starts.Goals as goal

pub loop-d-preserved : goal.loop-d-preserved
loop-d-preserved c =
    let g : Embedded = c.args.graph.now.map.graph in
    let b : Bool = c.args.face in
    let m : ℕ = c.loop-d.d in
    let to : c.step-to.result.0 ≡ round g b m = c.step-to.ensures.value ∙ ap (λ z. round z.graph b m) c.map-map.ensures.value in
    elim c.if-turns.branch [
      | then-turns w ↦
          let t : (is_out m ≡ false) × (is_out c.step-to.result.0 ≡ true) = w.if-turns.ensures.0 refl in
          subst (λ (z : Vec ℕ Global). AreStarts g b (m + 1) z.items) (sym w.starts-is)
          (starts_set g b m c.loop-d.starts.items c.loop-d.invariant c.step-to.result.0 w.key_of.result to w.key_of.ensures.value w.key_of.ensures.within t.0 t.1)
      | else-turns w ↦
          subst (λ (z : Vec ℕ Global). AreStarts g b (m + 1) z.items) (sym w.starts-is)
          (starts_keep g b m c.loop-d.starts.items c.loop-d.invariant (λ i o. both (w.if-turns.ensures.1 (i, ap is_out to ∙ o))))
    ]
  where
    both : false ≡ true → ⊥
    both q = cc
