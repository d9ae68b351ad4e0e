-- What a run over memory ends with, where no write into memory failed.
use Rattle.std.proofs.Common.{◌≡◌, ℕ, ◌+◌, ◌-◌, ◌^◌, ◌<◌, ◌∙◌, List, [], true, false, inl, inr, ap, subst, sym, arith}
use Rattle.std.specs.Prelude.{◌≢◌, Ok, Err, IsTrue}
use Rattle.st_port.specs.Faults.{Rose, counter, no_fault}
use Rattle.st_port.specs.Memory.{Vessel, vessel_state}
use Rattle.st_port.specs.Sure.{sure_state}
use Rattle.st_report.specs.Lines.{line_of}
use Rattle.st_report.specs.Telling.{Tells}
use Rattle.st_report.specs.declared.stop.Status.{Status}
use Rattle.st_report.specs.declared.stop.Status.TheVariants as status
use Rattle.stdraw_core.specs.Answer.{IsAnswer}
use Rattle.stdraw_core.specs.Run.{EndsBy, is_done, is_refused, is_unread, is_cut, no_memory}
use Rattle.st_callers.specs.OverMemory.{IsRefusedAs}

-- a text sink that has taken nothing
abbrev pub empty : Vessel
empty = record { taken = []; faults = 0; is_flushed = false }

-- a count that stands at 0 did not rise
not_risen : (n : ℕ) → n ≡ 0 → Rose (counter 0) (counter n) → ⊥
not_risen n z rose = elim (subst (λ k. Rose (counter 0) (counter k)) z rose) [ inl l ↦ absurd (omega (arith, l)) | inr t ↦ absurd (cc) ]

never_rises : Rose no_fault no_fault → ⊥
never_rises (inl l) = absurd (omega (arith, l))
never_rises (inr t) = absurd (cc)

-- a line that was told without a fault is there, and flushed
told_whole : (diag : Vessel) (line : List ℕ) → diag.faults ≡ 0 → Tells (vessel_state empty) (vessel_state diag) line → (diag.taken ≡ line) × IsTrue diag.is_flushed
told_whole diag line z (inl h) = (h.0.bytes, h.1)
told_whole diag line z (inr h) = absurd (not_risen diag.faults z h.1)

-- nothing was told
untold : (diag : Vessel) (line : List ℕ) → diag ≡ empty → Tells (vessel_state empty) (vessel_state diag) line → ⊥
untold diag line e told =
    let whole = told_whole diag line (ap (λ (d : Vessel). d.faults) e) told in
    let flushed : IsTrue false = subst (λ z. IsTrue z) (ap (λ (d : Vessel). d.is_flushed) e) whole.1 in
    absurd (cc)

output_of : (words : List (List ℕ)) (file left : List ℕ) (out diag : Vessel) (s : Status)
    → EndsBy words (sure_state file) (sure_state left) (vessel_state empty) (vessel_state out) (vessel_state empty) (vessel_state diag) s
    → s ≡ status.Done → diag ≡ empty → IsAnswer words file (Ok out.taken)
output_of words file left out diag s (is_done e same done) d quiet =
    subst (λ z. IsAnswer words file (Ok z)) (sym done.gains.bytes) (subst (λ z. IsAnswer words z (Ok done.text)) (sym done.ready.told) done.ready.answer)
output_of words file left out diag s (is_refused same told) d quiet = absurd (untold diag (line_of told.refusal) quiet told.line)
output_of words file left out diag s (is_unread e same unread told) d quiet = absurd (cc (e, d))
output_of words file left out diag s (is_cut e cut told) d quiet = absurd (cc (e, d))
output_of words file left out diag s (no_memory e same told) d quiet = absurd (cc (e, d))

-- with Done the output is the answer
pub answered_whole : (words : List (List ℕ)) (file src left : List ℕ) (out out' diag diag' : Vessel) (s : Status) → src ≡ file → out ≡ empty → diag ≡ empty
    → EndsBy words (sure_state src) (sure_state left) (vessel_state out) (vessel_state out') (vessel_state diag) (vessel_state diag') s
    → s ≡ status.Done → (s ≡ status.Done → diag' ≡ diag) → IsAnswer words file (Ok out'.taken)
answered_whole words file src left out out' diag diag' s at_file at_out at_diag ends d quiet =
    let a = subst (λ z. EndsBy words (sure_state z) (sure_state left) (vessel_state out) (vessel_state out') (vessel_state diag) (vessel_state diag') s) at_file ends in
    let b = subst (λ z. EndsBy words (sure_state file) (sure_state left) (vessel_state z) (vessel_state out') (vessel_state diag) (vessel_state diag') s) at_out a in
    let e = subst (λ z. EndsBy words (sure_state file) (sure_state left) (vessel_state empty) (vessel_state out') (vessel_state z) (vessel_state diag') s) at_diag b in
    output_of words file left out' diag' s e d (quiet d ∙ at_diag)

refusal_of : (words : List (List ℕ)) (file left : List ℕ) (out diag : Vessel) (s : Status)
    → EndsBy words (sure_state file) (sure_state left) (vessel_state empty) (vessel_state out) (vessel_state empty) (vessel_state diag) s
    → s ≢ status.Done → s ≢ status.NoMemory → out.faults ≡ 0 → diag.faults ≡ 0 → IsRefusedAs words file s diag.taken
refusal_of words file left out diag s (is_done e same done) d m zo zd = absurd (d e)
refusal_of words file left out diag s (is_refused same told) d m zo zd = record {
  refusal = told.refusal;
  answer = subst (λ z. IsAnswer words z (Err told.refusal)) (sym told.refused.told) told.refused.answer;
  status = told.status;
  told = (told_whole diag (line_of told.refusal) zd told.line).0;
}
refusal_of words file left out diag s (is_unread e same unread told) d m zo zd = absurd (never_rises unread.rose)
refusal_of words file left out diag s (is_cut e cut told) d m zo zd = absurd (not_risen out.faults zo cut.rose)
refusal_of words file left out diag s (no_memory e same told) d m zo zd = absurd (m e)

-- else it is a refusal, which the status and the line tell
pub refused_whole : (words : List (List ℕ)) (file src left : List ℕ) (out out' diag diag' : Vessel) (s : Status) → src ≡ file → out ≡ empty → diag ≡ empty
    → EndsBy words (sure_state src) (sure_state left) (vessel_state out) (vessel_state out') (vessel_state diag) (vessel_state diag') s
    → s ≢ status.Done → s ≢ status.NoMemory → out'.faults ≡ 0 → diag'.faults ≡ 0 → IsRefusedAs words file s diag'.taken
refused_whole words file src left out out' diag diag' s at_file at_out at_diag ends d m zo zd =
    let a = subst (λ z. EndsBy words (sure_state z) (sure_state left) (vessel_state out) (vessel_state out') (vessel_state diag) (vessel_state diag') s) at_file ends in
    let b = subst (λ z. EndsBy words (sure_state file) (sure_state left) (vessel_state z) (vessel_state out') (vessel_state diag) (vessel_state diag') s) at_out a in
    let e = subst (λ z. EndsBy words (sure_state file) (sure_state left) (vessel_state empty) (vessel_state out') (vessel_state z) (vessel_state diag') s) at_diag b in
    refusal_of words file left out' diag' s e d m zo zd
