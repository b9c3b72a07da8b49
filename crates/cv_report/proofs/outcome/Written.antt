-- How a run ends behind the lines of its games and steps.
use Rattle.std.proofs.Common.{◌≡◌, ℕ, List, Option, ap₂, refl, sym, subst, ◌⊎◌, inl, inr}
use Rattle.std.specs.Prelude.{◌≢◌, ◌&&◌, is_some}
use Rattle.cv_outside.specs.Causes.{Rose}
use Rattle.cv_report.specs.Lines.{Lines, shown_text}
use Rattle.cv_report.specs.Printed.{is_shown, printed, rest_text}
use Rattle.cv_report.specs.Streams.{is_streamed}
use Rattle.cv_report.specs.Writing.{TakesAll, TakesFront}
use Rattle.cv_report.specs.declared.report.Report.{Report}
use Rattle.cv_report.specs.declared.report.Status.{Status}
use Rattle.cv_report.specs.declared.report.Status.TheVariants as status
use Rattle.cv_report.specs.outcome.Refused.{SaysMemory}
use Rattle.cv_report.specs.outcome.Written.{EndsBy, IsWritten, unwritten}
use Rattle.cv_report.proofs.Takes.{front_all, front_more}

unwritten_either : (s : Status) → (unwritten s ≡ s) ⊎ (unwritten s ≡ status.Write)
unwritten_either status.Memory = inl refl
unwritten_either status.Proved = inr refl
unwritten_either status.Done = inr refl
unwritten_either (status.Open c) = inr refl
unwritten_either (status.FileRefused f) = inr refl
unwritten_either status.Words = inr refl
unwritten_either status.Read = inr refl
unwritten_either status.Write = inr refl
unwritten_either (status.Limit w) = inr refl

unwritten_memory : (s : Status) → s ≡ status.Memory → unwritten s ≡ status.Memory
unwritten_memory s e = subst (λ x. unwritten x ≡ status.Memory) (sym e) refl

unwritten_ends : (s : Status) → unwritten s ≢ status.Write → unwritten s ≡ status.Memory
unwritten_ends status.Memory n = refl
unwritten_ends status.Proved n = absurd (n refl)
unwritten_ends status.Done n = absurd (n refl)
unwritten_ends (status.Open c) n = absurd (n refl)
unwritten_ends (status.FileRefused f) n = absurd (n refl)
unwritten_ends status.Words n = absurd (n refl)
unwritten_ends status.Read n = absurd (n refl)
unwritten_ends status.Write n = absurd (n refl)
unwritten_ends (status.Limit w) n = absurd (n refl)

-- all was put
pub going_ends : (r : Report) (l : Lines) (before now : Option (List ℕ)) (old new : ℕ) → r.status ≢ status.Write → TakesAll before now (printed r l) → IsWritten before now r.status r l × EndsBy old new r.status r
going_ends r l before now old new n p =
    (record { front = front_all before now (printed r l) p; all = λ a b. p }, record { either = inl refl; write = λ e. absurd (n e); memory = λ e. e })

-- the sink failed
pub failed_ends : (r : Report) (l : Lines) (s : Status) (before now : Option (List ℕ)) (old new : ℕ) → s ≡ unwritten r.status → TakesFront before now (printed r l) × Rose old new → IsWritten before now s r l × EndsBy old new s r
failed_ends r l s before now old new e p =
    subst (λ s. IsWritten before now s r l × EndsBy old new s r) (sym e)
    (record { front = p.0; all = λ a b. absurd (b (unwritten_ends r.status a)) }, record { either = unwritten_either r.status; write = λ w. p.1; memory = unwritten_memory r.status })

-- memory ran out for what is left
pub spent_ends : (r q : Report) (l : Lines) (before now : Option (List ℕ)) (old new : ℕ) → SaysMemory r q → TakesFront before now (shown_text (is_shown r) l) → IsWritten before now status.Memory q l × EndsBy old new status.Memory q
spent_ends r q l before now old new m p =
    let same : is_shown r ≡ is_shown q = sym (ap₂ (λ c f. is_streamed c && is_some f) m.command m.file) in (
      record {
        front = front_more before now (shown_text (is_shown q) l) (rest_text q) (subst (λ b. TakesFront before now (shown_text b l)) same p);
        all = λ a b. absurd (b refl);
      },
      record {
        either = inl (sym m.status);
        write = λ e. absurd (let both : status.Memory ≡ status.Write = e in cc);
        memory = λ e. refl;
      },
    )
