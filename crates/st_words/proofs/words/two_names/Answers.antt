use Rattle.std.proofs.Common.{◌≡◌, ◌∙◌, ◌<◌, List, [], length, map, ℕ, subst, sym, arith, w64}
use Rattle.std.specs.String.{string_bytes}
use Rattle.std.proofs.lemmas.List.{length-map}
use Rattle.std.proofs.lemmas.Int.{to_z-of_z}
use Rattle.st_words.specs.Words.{IsName}
use Rattle.st_words.proofs.WordLemmas.{no_first, no_second, image_at, two_written}
use Rattle.st_words.proofs.words.two_names.Goals as goal

pub returns-in_default-name_of : goal.returns-in_default-name_of
returns-in_default-name_of c =
    let there : 0 < length c.args.words.now = omega arith in
    λ u v. no_first (map string_bytes c.args.words.now) 0 (omega (arith, length-map c.args.words.now string_bytes))
    (λ n h. c.in_default-name_of.ensures.none n (subst (λ (w : List ℕ). IsName w n) (sym (image_at string_bytes c.args.words.now 0 c.from-item.result [] there c.from-item.is)) h)) _

pub returns-in_default-name_of-2 : goal.returns-in_default-name_of-2
returns-in_default-name_of-2 c =
    let there : 1 < length c.args.words.now = omega arith in
    λ u v. no_second (map string_bytes c.args.words.now) 0 (omega (arith, length-map c.args.words.now string_bytes))
    (λ n h. c.in_default-name_of-2.ensures.none n (subst (λ (w : List ℕ). IsName w n) (sym (image_at string_bytes c.args.words.now 1 c.to-item.result [] there c.to-item.is)) h)) _

pub returns : goal.returns
returns c =
    let there : 1 < length c.args.words.now = omega arith in
    let count : length c.args.words.now ≡ 2 = omega arith in
    rw (to_z-of_z w64 c.in-Some.from c.in-Some.ensures.some.fits, to_z-of_z w64 c.in-Some-name_of.to c.in-Some-name_of.ensures.some.fits)
    (two_written (map string_bytes c.args.words.now) (string_bytes c.from-item.result) (string_bytes c.to-item.result) c.in-Some.from c.in-Some-name_of.to
    (length-map c.args.words.now string_bytes ∙ count)
    (image_at string_bytes c.args.words.now 0 c.from-item.result [] (omega arith) c.from-item.is)
    (image_at string_bytes c.args.words.now 1 c.to-item.result [] there c.to-item.is)
    c.in-Some.ensures.some c.in-Some-name_of.ensures.some)
