use Rattle.st_words.proofs.words.poles_by_name.Goals as goal

pub returns-in-None : goal.returns-in-None
returns-in-None c = λ from to h. c.in-None.ensures from to h.1
