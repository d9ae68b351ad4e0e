use Rattle.std.proofs.Common.{◌+◌, ◌++◌, ◌∷◌, take, ap, ◌∙◌, sym, subst, arith}
use Rattle.std.proofs.lemmas.List.{take_rest}
use Rattle.eps_core.specs.Meaning.{IsPlain}
use Rattle.eps_core.proofs.Cuts.{line_split, line_none, plain_front}
use Rattle.eps_core.proofs.cutting.next_line.Goals as goal

pub returns : goal.returns
returns c =
    let s = c.args.s.now in
    let n = c.line_len-n.result in
    record {
      ended = line_split s n c.line_len-n.ensures.place (omega arith) ∙ ap (λ l. take n s ++ 10 ∷ l) (sym (take_rest s (n + 1)));
      plain = subst (λ k. IsPlain (take k s)) (sym c.line_len-n.ensures.place) (plain_front s);
      none = tt;
    }

pub returns-then-n-s-clause-none : goal.returns-then-n-s-clause-none
returns-then-n-s-clause-none c = line_none c.args.s.now c.line_len-n.result c.line_len-n.ensures.place (omega arith)
