use Rattle.std.proofs.Common.{sym, ◌∙◌}
use Rattle.gml_core.proofs.Begins.{begin_open, begin_close, begin_quote, begin_key, begin_number, begin_other}
use Rattle.gml_core.proofs.pieces.begin.Goals as goal

pub returns-in-Open : goal.returns-in-Open
returns-in-Open c = λ s none begins. begin_open s c.args.at c.args.rest.now c.bracket.result c.requires.some (sym c.first_of.ensures ∙ c.in-Open.is) c.bracket.ensures none begins

pub returns-in-Close : goal.returns-in-Close
returns-in-Close c = λ s none begins. begin_close s c.args.at c.args.rest.now c.bracket-in-Close.result c.requires.some (sym c.first_of.ensures ∙ c.in-Close.is) c.bracket-in-Close.ensures none begins

pub returns-in-Quote : goal.returns-in-Quote
returns-in-Quote c = λ s none begins. begin_quote s c.args.at c.args.rest.now c.new.result c.requires.some (sym c.first_of.ensures ∙ c.in-Quote.is) c.new.ensures none begins

pub returns-in-Letter : goal.returns-in-Letter
returns-in-Letter c = λ s none begins. begin_key s c.args.at c.args.rest.now c.new-in-Letter.result c.key.result c.requires.some (sym c.first_of.ensures ∙ c.in-Letter.is) c.new-in-Letter.ensures none begins c.key.ensures

pub returns-in-Digit : goal.returns-in-Digit
returns-in-Digit c = λ s none begins. begin_number s c.args.at c.args.rest.now c.new-in-Digit.result c.number.result c.requires.some (sym c.first_of.ensures ∙ c.in-Digit.is) c.new-in-Digit.ensures none begins c.number.ensures

pub returns-in-Other : goal.returns-in-Other
returns-in-Other c = λ s none begins. begin_other s c.args.at c.args.rest.now c.requires.some (sym c.first_of.ensures ∙ c.in-Other.is) none begins
