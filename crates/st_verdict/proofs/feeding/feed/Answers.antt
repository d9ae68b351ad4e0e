use Rattle.std.proofs.Common.{◌++◌, ◌+◌, ◌≡◌, ℕ, List, [], ◌∷◌, ap, length, refl, arith, rules, length-append, append-nil, subst}
use Rattle.std.proofs.lemmas.Grind.{common_steps}
use Rattle.std.specs.Io.KnownBytes.{IsAtEnd, Keeps}
use Rattle.gml_core.specs.Readers.{TreeStandsFor}
use Rattle.st_port.specs.Faults.{Rose}
use Rattle.st_port.specs.Reading.{Takes}
use Rattle.st_port.proofs.Public.{Takes-append, Takes-none}
use Rattle.st_verdict.proofs.feeding.feed.Goals as goal

no_items : (xs : List ℕ) → length xs ≡ 0 → xs ≡ []
no_items [] e = refl
no_items (x ∷ xs) e = absurd (omega (arith, e))

pub loop-piece-init : goal.loop-piece-init
loop-piece-init g c = ([], c.new-reader.ensures, refl, Takes-none _)

pub feed-requires : goal.feed-requires
feed-requires g c = (c.loop-piece.invariant.0, c.loop-piece.invariant.1, omega (arith, c.loop-piece.invariant.2))

pub returns-then-is_err-clause-reads : goal.returns-then-is_err-clause-reads
returns-then-is_err-clause-reads g c =
    let keeps : Keeps (g.S.Source.state c.loop-piece.src).left (g.S.Source.state c.read.new.src).left = search rules in
    let rose : Rose (g.S.Source.state c.loop-piece.src).faults (g.S.Source.state c.read.new.src).faults = search rules in
    record {
      taken = c.loop-piece.invariant.0;
      near = c.loop-piece.src;
      takes = c.loop-piece.invariant.3;
      ends = (keeps, rose, omega (arith, c.loop-piece.invariant.2));
    }

pub returns-then-is_empty-clause-reads : goal.returns-then-is_empty-clause-reads
returns-then-is_empty-clause-reads g c =
    let last : Takes (g.S.Source.state c.loop-piece.src) (g.S.Source.state c.read.new.src) c.read.new.self = search rules in
    let zero' : length c.read.new.self ≡ 0 = grind (arith, common_steps) in
    let none : c.read.new.self ≡ [] = no_items c.read.new.self zero' in
    let ends : c.read.new.self ≡ [] → IsAtEnd (g.S.Source.state c.read.new.src).left = search rules in
    let all = Takes-append _ _ _ _ _ c.loop-piece.invariant.3 last in
    record {
      taken = c.loop-piece.invariant.0;
      near = c.read.new.src;
      takes = subst (λ z. Takes (g.S.Source.state c.args.src.now) (g.S.Source.state c.read.new.src) z) (append-nil c.loop-piece.invariant.0)
          (subst (λ z. Takes (g.S.Source.state c.args.src.now) (g.S.Source.state c.read.new.src) (c.loop-piece.invariant.0 ++ z)) none all);
      ends = (refl, ends none, c.loop-piece.invariant.1, omega (arith, c.loop-piece.invariant.2));
    }

pub returns-then-bytes-left-clause-reads : goal.returns-then-bytes-left-clause-reads
returns-then-bytes-left-clause-reads g c =
    let last : Takes (g.S.Source.state c.loop-piece.src) (g.S.Source.state c.read.new.src) c.read.new.self = search rules in
    let both : length (c.loop-piece.invariant.0 ++ c.read.new.self) ≡ length c.loop-piece.invariant.0 + length c.read.new.self = length-append c.loop-piece.invariant.0 c.read.new.self in
    let same : length c.bytes-bytes.result.now ≡ length c.read.new.self = ap length c.bytes-bytes.ensures.value in
    record {
      taken = c.loop-piece.invariant.0 ++ c.read.new.self;
      near = c.read.new.src;
      takes = Takes-append _ _ _ _ _ c.loop-piece.invariant.3 last;
      ends = (refl, omega (arith, both, same, c.loop-piece.invariant.2), omega (arith, both, same, c.loop-piece.invariant.2, c.read.ensures.most));
    }

pub returns-in-Err-clause-reads : goal.returns-in-Err-clause-reads
returns-in-Err-clause-reads g c =
    let last : Takes (g.S.Source.state c.loop-piece.src) (g.S.Source.state c.read.new.src) c.read.new.self = search rules in
    let both : length (c.loop-piece.invariant.0 ++ c.read.new.self) ≡ length c.loop-piece.invariant.0 + length c.read.new.self = length-append c.loop-piece.invariant.0 c.read.new.self in
    record {
      taken = c.loop-piece.invariant.0 ++ c.read.new.self;
      near = c.read.new.src;
      takes = Takes-append _ _ _ _ _ c.loop-piece.invariant.3 last;
      ends = (refl, omega (arith, both, c.loop-piece.invariant.2, c.read.ensures.most));
    }

pub loop-piece-preserved : goal.loop-piece-preserved
loop-piece-preserved g c =
    let last : Takes (g.S.Source.state c.loop-piece.src) (g.S.Source.state c.read.new.src) c.read.new.self = search rules in
    let both : length (c.loop-piece.invariant.0 ++ c.read.new.self) ≡ length c.loop-piece.invariant.0 + length c.read.new.self = length-append c.loop-piece.invariant.0 c.read.new.self in
    let same : length c.bytes-bytes.result.now ≡ length c.read.new.self = ap length c.bytes-bytes.ensures.value in (
      c.loop-piece.invariant.0 ++ c.read.new.self,
      subst (λ z. TreeStandsFor c.in-Ok.reader (c.loop-piece.invariant.0 ++ z)) c.bytes-bytes.ensures.value (c.in-Ok.ensures c.loop-piece.invariant.0 c.loop-piece.invariant.1),
      omega (arith, both, same, c.loop-piece.invariant.2),
      Takes-append _ _ _ _ _ c.loop-piece.invariant.3 last,
    )
