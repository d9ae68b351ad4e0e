use Rattle.std.proofs.Common.{◌+◌, ◌*◌, ◌<◌, List, [], length, map, ℕ, subst, sym, arith, w64}
use Rattle.std.specs.String.{string_bytes}
use Rattle.std.proofs.lemmas.List.{length-map}
use Rattle.std.proofs.lemmas.Int.{to_z-of_z}
use Rattle.st_words.specs.Words.{IsName}
use Rattle.st_words.proofs.WordLemmas.{no_names, names_push, names_whole, no_first, no_second, image_at}
use Rattle.st_words.proofs.words.pairs_of.Goals as goal

pub loop-i-init : goal.loop-i-init
loop-i-init c = rw c.new-pairs.ensures (no_names _)

pub returns-in_default : goal.returns-in_default
returns-in_default c =
    let there : 2 * c.loop-i.i < length c.args.words.now = omega arith in
    no_first (map string_bytes c.args.words.now) c.loop-i.i (omega (arith, length-map c.args.words.now string_bytes))
    (λ n h. c.in_default.ensures.none n (subst (λ (w : List ℕ). IsName w n) (sym (image_at string_bytes c.args.words.now (2 * c.loop-i.i) c.index-words-i.result [] there c.index-words-i.is)) h))

pub returns-in_default-name_of : goal.returns-in_default-name_of
returns-in_default-name_of c =
    let there : 2 * c.loop-i.i + 1 < length c.args.words.now = omega arith in
    no_second (map string_bytes c.args.words.now) c.loop-i.i (omega (arith, length-map c.args.words.now string_bytes))
    (λ n h. c.in_default-name_of.ensures.none n (subst (λ (w : List ℕ). IsName w n) (sym (image_at string_bytes c.args.words.now (2 * c.loop-i.i + 1) c.index-words-i-in-loop-i.result [] there c.index-words-i-in-loop-i.is)) h))

pub loop-i-preserved : goal.loop-i-preserved
loop-i-preserved c =
    let there : 2 * c.loop-i.i < length c.args.words.now = omega arith in
    let there' : 2 * c.loop-i.i + 1 < length c.args.words.now = omega arith in
    rw (c.in_ok-push.ensures.ok, to_z-of_z w64 c.in-Some.from c.in-Some.ensures.some.fits, to_z-of_z w64 c.in-Some-name_of.to c.in-Some-name_of.ensures.some.fits)
    (names_push (map string_bytes c.args.words.now) c.loop-i.i c.loop-i.pairs c.in-Some.from c.in-Some-name_of.to c.loop-i.invariant
    (subst (λ (w : List ℕ). IsName w c.in-Some.from) (image_at string_bytes c.args.words.now (2 * c.loop-i.i) c.index-words-i.result [] there c.index-words-i.is) c.in-Some.ensures.some)
    (subst (λ (w : List ℕ). IsName w c.in-Some-name_of.to) (image_at string_bytes c.args.words.now (2 * c.loop-i.i + 1) c.index-words-i-in-loop-i.result [] there' c.index-words-i-in-loop-i.is) c.in-Some-name_of.ensures.some))

pub returns : goal.returns
returns c = names_whole _ c.loop-i.i _ c.loop-i.invariant (omega (arith, length-map c.args.words.now string_bytes))
