use Rattle.std.proofs.Common.{subst, sym, map, arith}
use Rattle.std.specs.Prelude.{Ok}
use Rattle.std.specs.String.{string_bytes}
use Rattle.stdraw_core.specs.Answer.{IsAnswer}
use Rattle.st_callers.specs.OverMemory.{IsRefusedAs}
use Rattle.st_callers.proofs.OverMemoryLemmas.{answered_whole, refused_whole}
use Rattle.st_callers.proofs.over_memory.answered.Goals as goal

pub returns-in-Done : goal.returns-in-Done
returns-in-Done c =
    subst (λ z. IsAnswer (map string_bytes c.args.words.now) c.args.file (Ok z)) (sym c.into_text.ensures)
    (answered_whole (map string_bytes c.args.words.now) c.args.file _ _ _ c.run-status.new.out _ c.run-status.new.diag c.run-status.result c.new-src.ensures c.new-out.ensures c.new-diag.ensures c.run-status.ensures.ending
    c.in-Done.is c.run-status.ensures.quiet)

pub returns : goal.returns
returns c =
    subst (λ z. IsRefusedAs (map string_bytes c.args.words.now) c.args.file c.run-status.result z) (sym c.into_text-in_default.ensures)
    (refused_whole (map string_bytes c.args.words.now) c.args.file _ _ _ c.run-status.new.out _ c.run-status.new.diag c.run-status.result c.new-src.ensures c.new-out.ensures c.new-diag.ensures c.run-status.ensures.ending
    c.in_default.not-Done c.in_default.not-NoMemory (omega arith) (omega arith))
