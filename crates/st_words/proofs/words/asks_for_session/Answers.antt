use Rattle.std.proofs.Common.{rules, ◌≡◌, ◌∙◌, IsTrue, length, map, [], codes, get_or, arith}
use Rattle.std.specs.String.{string_bytes}
use Rattle.std.proofs.lemmas.List.{length-map}
use Rattle.st_words.proofs.WordLemmas.{image_at, one_word, its_word}
use Rattle.st_words.proofs.words.asks_for_session.Goals as goal

pub returns-in-len1 : goal.returns-in-len1
returns-in-len1 c =
    let count : length c.args.words.now ≡ 1 = omega arith in
    let first : string_bytes c.word-item.result ≡ get_or (map string_bytes c.args.words.now) 0 [] = image_at string_bytes c.args.words.now 0 c.word-item.result [] (omega arith) c.word-item.is in
    let same : IsTrue c.eq.result → string_bytes c.word-item.result ≡ codes "session" = search rules in
    let said : string_bytes c.word-item.result ≡ codes "session" → IsTrue c.eq.result = search rules in (
      λ t. one_word (map string_bytes c.args.words.now) (string_bytes c.word-item.result) (codes "session") (length-map c.args.words.now string_bytes ∙ count) first (same t),
      λ e. said (its_word (map string_bytes c.args.words.now) (string_bytes c.word-item.result) (codes "session") first e),
    )
