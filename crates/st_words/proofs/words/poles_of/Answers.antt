use Rattle.std.proofs.Common.{List, ℕ, arith, sym, subst, ℤ}
use Rattle.std.specs.Prelude.{MatchOption}
use Rattle.std.specs.String.{string_bytes}
use Rattle.st_words.specs.Words.{AskOrient}
use Rattle.st_words.proofs.WordLemmas.{first_and_rest}
use Rattle.st_words.proofs.words.poles_of.Goals as goal

pub returns-in-len1-up : goal.returns-in-len1-up
returns-in-len1-up c =
    subst (λ (z : List (List ℕ)). MatchOption c.poles_by_name.result ((from to : ℤ) → ¬ AskOrient z from to) (λ poles. AskOrient z poles.0 poles.1))
    (sym (first_and_rest string_bytes c.args.words.now c.name-item.result (omega arith) c.name-item.is)) c.poles_by_name.ensures
