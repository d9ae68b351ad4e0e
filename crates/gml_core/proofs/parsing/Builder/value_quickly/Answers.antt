use Rattle.std.proofs.Common.{◌+◌, Some, ℤ, take, refl, ap, ◌∙◌, w64, arith}
use Rattle.std.proofs.lemmas.Int.{to_z_pos}
use Rattle.gml_core.specs.declared.token.TokenKind.TheVariants.{Int}
use Rattle.gml_core.specs.declared.pieces.State.TheVariants.{Between}
use Rattle.gml_core.specs.Reading.{integer}
use Rattle.gml_core.specs.Trees.{int, atom, value}
use Rattle.gml_core.specs.Readers.{BuiltUp}
use Rattle.gml_core.proofs.Pairs.{none_more, one_white, same_read, small_int}
use Rattle.gml_core.proofs.TreeRead.{tree_more}
use Rattle.gml_core.proofs.parsing.Builder.value_quickly.Goals as goal

pub returns-in-Ok-clause-reads : goal.returns-in-Ok-clause-reads
returns-in-Ok-clause-reads c = λ b r.
    let n = c.short_int-found.result.len in
    let text = take n c.args.rest.now in
    let some = c.if-found-gt0.true in
    let is = small_int text c.int_value.result c.short_int-found.result.value (c.short_int-found.ensures.value some) c.short_int-found.ensures.fits (c.int_value.ensures ∙ ap (λ (z : ℤ). atom (int z)) (to_z_pos w64 c.short_int-found.result.value c.short_int-found.ensures.fits)) in
    one_white (BuiltUp c.put.new.self) b c.args.rest.now c.args.at n (omega (arith, some, c.short_int-found.ensures.within)) (c.short_int-found.ensures.space some)
    (tree_more (record c.args.self.now { waits = Some c.args.waiting }) c.put.new.self b c.args.rest.now text Between c.args.at n (record { kind = Int; from = c.args.at; to = c.args.at + n }) r
    (c.short_int-found.ensures.int some c.args.at) (c.in-Ok.ensures.ok (value (int (integer text))) is))

pub returns-clause-reads : goal.returns-clause-reads
returns-clause-reads c = λ b r. none_more _ b c.args.rest.now c.args.at (same_read (Some c.args.waiting) (record c.args.self.now { waits = Some c.args.waiting }) _ b c.args.rest.now c.args.at refl refl refl refl r)
