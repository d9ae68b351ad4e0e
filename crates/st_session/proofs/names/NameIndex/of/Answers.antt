use Rattle.std.proofs.Common.{ℤ, List, pos, slice_index_or, refl, sym, subst, take, FitsSigned, w64, rules}
use Rattle.std.proofs.lemmas.Int.{to_z-of_z}
use Rattle.st_session.specs.States.{LacksName}
use Rattle.st_session.proofs.NameLemmas.{lacks_before}
use Rattle.st_session.proofs.names.NameIndex.of.Goals as goal

pub add-requires : goal.add-requires
add-requires c =
    let x : ℤ = slice_index_or c.args.names.now c.loop-name.name-index (pos 0) in
    let fit : FitsSigned w64 (slice_index_or c.args.names.now c.loop-name.name-index (pos 0)) = search rules in
    let fresh : LacksName (take c.loop-name.name-index c.args.names.now) (slice_index_or c.args.names.now c.loop-name.name-index (pos 0)) =
    lacks_before c.args.names.now c.loop-name.name-index (slice_index_or c.args.names.now c.loop-name.name-index (pos 0)) c.requires c.loop-name-test.true refl in
    subst (λ (z : ℤ). LacksName c.loop-name.index z) (sym (to_z-of_z w64 (slice_index_or c.args.names.now c.loop-name.name-index (pos 0)) fit)) (subst (λ (ks : List ℤ). LacksName ks (slice_index_or c.args.names.now c.loop-name.name-index (pos 0))) (sym c.loop-name.invariant) fresh)
