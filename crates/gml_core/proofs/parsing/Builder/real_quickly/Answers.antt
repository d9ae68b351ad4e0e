use Rattle.std.proofs.Common.{◌+◌, List, ℕ, Some, None, take, refl, sym, ap, ◌∙◌}
use Rattle.gml_core.specs.declared.pieces.State.TheVariants.{Between}
use Rattle.gml_core.specs.declared.token.TokenKind.{TokenKind}
use Rattle.gml_core.specs.Reading.{said_by}
use Rattle.gml_core.specs.Readers.{BuiltUp}
use Rattle.gml_core.specs.Trees.{Word, atom, real}
use Rattle.gml_core.proofs.Builds.{real_is}
use Rattle.gml_core.proofs.Pairs.{none_more, past_goes, same_read}
use Rattle.gml_core.proofs.TreeRead.{tree_more}
use Rattle.gml_core.proofs.parsing.Builder.real_quickly.Goals as goal

pub returns-in-None-take-clause-reads : goal.returns-in-None-take-clause-reads
returns-in-None-take-clause-reads c = λ b r. none_more _ b c.args.rest.now c.args.at (same_read None c.args.self.now _ b c.args.rest.now c.args.at (sym c.take.ensures.value ∙ c.in-None-take.is) c.take.ensures.after refl refl r)

pub returns-in-Ok-clause-reads : goal.returns-in-Ok-clause-reads
returns-in-Ok-clause-reads c = λ b r.
    let rest = c.args.rest.now in
    let at = c.args.at in
    let n = c.in-Some.found.len in
    let kind = c.in-Some.found.kind in
    let text = take n rest in
    let word : Word = said_by kind at text in
    let is = real_is word c.real_value.result text (ap (λ (k : TokenKind). said_by k at text) c.in-Real.is) (c.real_value.ensures ∙ ap (λ (l : List ℕ). atom (real l)) c.in_ok-text-in-Some-take.ensures) in
    past_goes (BuiltUp c.put.new.self) b rest at n c.past_one.result c.past_one.ensures.past
    (tree_more _ c.put.new.self b rest text Between at n (record { kind = kind; from = at; to = at + n }) (same_read (Some c.in-Some-take.waiting) c.args.self.now _ b rest at (sym c.take.ensures.value ∙ c.in-Some-take.is) refl refl refl r)
    (c.in-Some.ensures.2 at) (c.in-Ok.ensures.ok word is))
