use Rattle.std.proofs.Common.{map, rules, w64, FitsSigned}
use Rattle.std.proofs.lemmas.Int.{to_z-of_z}
use Rattle.std.specs.String.{string_bytes}
use Rattle.st_words.specs.declared.words.Task.TheVariants.{Gen, Bench}
use Rattle.stdraw_core.proofs.RunLemmas.{words_refused, fileless_decided, takes_none}
use Rattle.stdraw_core.proofs.top.decide.Goals as goal

pub returns-in-Ok-None-clause-decides : goal.returns-in-Ok-None-clause-decides
returns-in-Ok-None-clause-decides g c = words_refused _ _ _ (rw c.in-Ok-None.field-0-is at c.in-Ok-None.ensures)

pub returns-in-Check-clause-decides : goal.returns-in-Check-clause-decides
returns-in-Check-clause-decides g c =
    let asked = rw c.in-Check.is at (rw c.in-Ok-Some.field-0-is at c.in-Ok-Some.ensures) in
    rw c.as_output.ensures (c.answer_check.ensures.decides (map string_bytes c.args.words.now) asked)

pub returns-in-Orient-clause-decides : goal.returns-in-Orient-clause-decides
returns-in-Orient-clause-decides g c =
    let asked = rw c.in-Orient.is at (rw c.in-Ok-Some.field-0-is at c.in-Ok-Some.ensures) in
    let from_fits : FitsSigned w64 c.in-Orient.from = search rules in
    let to_fits : FitsSigned w64 c.in-Orient.to = search rules in
    let decides = rw (to_z-of_z w64 c.in-Orient.from from_fits, to_z-of_z w64 c.in-Orient.to to_fits) at c.orient_source.ensures.decides in
    rw c.as_output-in-Orient.ensures (decides (map string_bytes c.args.words.now) asked)

pub returns-in-Session-clause-decides : goal.returns-in-Session-clause-decides
returns-in-Session-clause-decides g c =
    let asked = rw c.in-Session.is at (rw c.in-Ok-Some.field-0-is at c.in-Ok-Some.ensures) in
    rw c.as_output-in-Session.ensures (c.session_source.ensures.decides (map string_bytes c.args.words.now) asked)

pub returns-in-Gen-clause-decides : goal.returns-in-Gen-clause-decides
returns-in-Gen-clause-decides g c =
    let asked = rw c.in-Gen.is at (rw c.in-Ok-Some.field-0-is at c.in-Ok-Some.ensures) in
    fileless_decided (map string_bytes c.args.words.now) _ (Gen c.in-Gen.recipe) c.as_output-in-Gen.result asked tt (λ bytes. rw c.as_output-in-Gen.ensures c.answer_gen.ensures)

pub returns-clause-decides : goal.returns-clause-decides
returns-clause-decides g c =
    let asked = rw c.in-Bench.is at (rw c.in-Ok-Some.field-0-is at c.in-Ok-Some.ensures) in
    fileless_decided (map string_bytes c.args.words.now) _ (Bench c.in-Bench.recipe c.in-Bench.form) c.as_output-in-Bench.result asked tt (λ bytes. rw c.as_output-in-Bench.ensures c.answer_bench.ensures)

pub returns-in-Ok-None-clause-taken : goal.returns-in-Ok-None-clause-taken
returns-in-Ok-None-clause-taken g c = takes_none _ _

pub returns-in-Err-clause-taken : goal.returns-in-Err-clause-taken
returns-in-Err-clause-taken g c = takes_none _ _

pub returns-in-Gen-clause-taken : goal.returns-in-Gen-clause-taken
returns-in-Gen-clause-taken g c = takes_none _ _

pub returns-clause-taken : goal.returns-clause-taken
returns-clause-taken g c = takes_none _ _
