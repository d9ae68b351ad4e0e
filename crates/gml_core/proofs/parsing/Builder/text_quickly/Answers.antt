use Rattle.std.proofs.Common.{◌+◌, Some, None, refl, sym, ◌∙◌}
use Rattle.gml_core.specs.Readers.{BuiltUp}
use Rattle.gml_core.specs.Trees.{str, value}
use Rattle.gml_core.proofs.Builds.{str_is}
use Rattle.gml_core.proofs.Pairs.{none_more, past_goes, same_read, text_read}
use Rattle.gml_core.proofs.parsing.Builder.text_quickly.Goals as goal

pub returns-in-None-take-clause-reads : goal.returns-in-None-take-clause-reads
returns-in-None-take-clause-reads c = λ b r. none_more _ b c.args.rest.now c.args.at (same_read None c.args.self.now _ b c.args.rest.now c.args.at (sym c.take.ensures.value ∙ c.in-None-take.is) c.take.ensures.after refl refl r)

pub returns-in-Ok-clause-reads : goal.returns-in-Ok-clause-reads
returns-in-Ok-clause-reads c = λ b r.
    let text = c.in_ok-text-in-Some-take.text in
    let n = c.in-Some.n in
    let old = c.args.self.now in
    let w = c.in-Some-take.waiting in
    past_goes (BuiltUp c.put.new.self) b c.args.rest.now c.args.at (n + 2) c.past_one.result c.past_one.ensures.past
    (text_read _ c.put.new.self b c.args.rest.now text c.args.at n c.requires.some c.requires.quote (sym c.quote_at.ensures.value ∙ c.in-Some.is) c.in_ok-text-in-Some-take.ensures
    (c.in-Ok.ensures.ok (value (str text)) (str_is (value (str text)) c.str_value.result text refl c.str_value.ensures)) (same_read (Some w) old _ b c.args.rest.now c.args.at (sym c.take.ensures.value ∙ c.in-Some-take.is) refl refl refl r))
