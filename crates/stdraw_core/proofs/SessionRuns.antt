-- The lines of a session are those of a run of its calls, each with the reply of the state that it is asked in.
use Rattle.std.proofs.Common.{◌≡◌, ℕ, suc, ℤ, List, [], ◌∷◌, ◌++◌, refl, sym, ap, ◌∙◌, subst, append-nil, append_assoc}
use Rattle.std.specs.Prelude.{Result, Ok, Err}
use Rattle.st_report.specs.declared.stop.Refusal.{Refusal}
use Rattle.st_session.specs.Runs.{Call, Runs, asked, asking, at_end, edited, editing}
use Rattle.st_session.specs.States.{SessionValue}
use Rattle.st_session.specs.declared.reply.Reply.{Reply}
use Rattle.st_verdict.specs.Stages.{Then, goes_on, refuses}
use Rattle.st_verdict.proofs.Public.{value_found}
use Rattle.stdraw_core.specs.Session.{AnswersCalls, Carries, SoFar, reply_line, reply_lines, so_far}

same_text : (a b : List ℕ) → (let r : Result (List ℕ) Refusal = Ok a in r) ≡ Ok b → a ≡ b
same_text a b e = cc

-- the calls lead from here to a last session, and their lines are the rest of the text
pub record HasRun (cs : List Call) (z : SoFar) (out : List ℕ) : Type 0 where
  pub replies : List Reply
  pub last : SessionValue
  pub runs : Runs z.session cs replies last
  pub text : out ≡ z.text ++ reply_lines cs replies

behind : (c : Call) (cs : List Call) (k : ℕ) (z z' : SoFar) (out : List ℕ) → Carries k c z (Ok z') → HasRun cs z' out → HasRun (c ∷ cs) z out
behind (editing c) cs k z z' out h rest = record {
  replies = rest.replies;
  last = rest.last;
  runs = edited h.0 rest.runs;
  text = rest.text ∙ ap (λ (t : List ℕ). t ++ reply_lines cs rest.replies) h.1;
}
behind (asking u v) cs k z z' out h rest = record {
  replies = h.1.0 ∷ rest.replies;
  last = rest.last;
  runs = asked h.1.1 (subst (λ (x : SessionValue). Runs x cs rest.replies rest.last) h.0 rest.runs);
  text = rest.text ∙ ap (λ (t : List ℕ). t ++ reply_lines cs rest.replies) h.1.2 ∙ append_assoc z.text (reply_line u v h.1.0) (reply_lines cs rest.replies);
}

-- an output is that of a run
pub run_found : (cs : List Call) (k : ℕ) (z : SoFar) (out : List ℕ) → AnswersCalls k cs z (Ok out) → HasRun cs z out
run_found [] k z out h = record { replies = []; last = z.session; runs = at_end; text = same_text out z.text h ∙ sym (append-nil z.text) }
run_found (c ∷ cs) k z out h =
    let first = value_found (Carries k c z) (AnswersCalls (suc k) cs) out h in
    behind c cs k z first.value out first.is (run_found cs (suc k) first.value out first.goes)

-- a run gives an output
pub run_answers : (x last : SessionValue) (cs : List Call) (rs : List Reply) (k : ℕ) (text : List ℕ) → Runs x cs rs last → AnswersCalls k cs (so_far x text) (Ok (text ++ reply_lines cs rs))
run_answers x last [] [] k text at_end = ap (λ (t : List ℕ). let r : Result (List ℕ) Refusal = Ok t in r) (append-nil text)
run_answers x last [] (r ∷ rs) k text h = elim h [ ]
run_answers x last (asking u v ∷ cs) [] k text h = elim h [ ]
run_answers x last (editing c ∷ cs) rs k text (edited {y = y} h rest) = goes_on (so_far y text) (h, refl) (run_answers y last cs rs (suc k) text rest)
run_answers x last (asking u v ∷ cs) (r ∷ rs) k text (asked h rest) =
    let line : List ℕ = reply_line u v r in
    goes_on (so_far x (text ++ line)) (refl, (r, h, refl))
    (subst (λ (t : List ℕ). AnswersCalls (suc k) cs (so_far x (text ++ line)) (Ok t)) (append_assoc text line (reply_lines cs rs)) (run_answers x last cs rs (suc k) (text ++ line) rest))
