use Rattle.gml_core.proofs.TokensRead.{tokens_end, tokens_last, tokens_fail}
use Rattle.gml_core.proofs.readers.TokenReader.cut.Goals as goal

pub returns-in-Err-clause-fault : goal.returns-in-Err-clause-fault
returns-in-Err-clause-fault c = λ b stands _. tokens_fail c.args.self.tokens.items b c.args.self.state c.args.self.fed c.in-Err.fault stands c.in-Err.ensures.err

pub returns-in-Ok-None-clause-tokens : goal.returns-in-Ok-None-clause-tokens
returns-in-Ok-None-clause-tokens c = λ b stands.
    let is = rw c.in-Ok-None.field-0-is at c.in-Ok-None.ensures.ok in
    rw c.make_tokens.ensures (tokens_end c.args.self.tokens.items b c.args.self.state c.args.self.fed stands is)

pub returns-in_ok-push-in-Ok-Some-clause-tokens : goal.returns-in_ok-push-in-Ok-Some-clause-tokens
returns-in_ok-push-in-Ok-Some-clause-tokens c = λ b stands.
    let is = rw c.in-Ok-Some.field-0-is at c.in-Ok-Some.ensures.ok in
    rw c.make_tokens-in-Ok-Some.ensures (tokens_last c.args.self.tokens.items c.push.new.self.items b _ c.args.self.state c.args.self.fed c.in-Ok-Some.last.token c.in_ok-push-in-Ok-Some.ensures.items stands is)
