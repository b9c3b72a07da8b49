-- What bytes call for is said of them.
use Rattle.std.proofs.Common.{◌≡◌, ℕ, refl, ap, sym, ◌∙◌, subst, Ok, Err, inl, inr}
use Rattle.cv_library.specs.Givens.{Given}
use Rattle.cv_accept.specs.declared.error.FileError.{FileError}
use Rattle.cv_accept.specs.declared.error.FileError.TheVariants as fault
use Rattle.cv_accept.specs.Accepted.{Content, Refuses, most_pool, read_of}
use Rattle.cv_report.specs.declared.report.Command.{Command}
use Rattle.cv_report.specs.declared.report.Status.{Status}
use Rattle.cv_report.specs.declared.report.Status.TheVariants as status
use Rattle.cv_report.specs.declared.report.Which.TheVariants.{Depth, File, Nodes, Pool, Steps, Tokens}
use Rattle.cv.specs.Faults.{status_of as ended_by}
use Rattle.cv.specs.Strategy.{EndsBy, IsExpected, Judged}

judged_as : (c : Command) (s : Status) (source : Given) → IsExpected c (read_of most_pool source) s → Judged c s source
judged_as c status.Memory source h = tt
judged_as c status.Proved source h = h
judged_as c status.Done source h = h
judged_as c (status.Open cause) source h = h
judged_as c (status.FileRefused f) source h = h
judged_as c status.Words source h = h
judged_as c status.Read source h = h
judged_as c status.Write source h = h
judged_as c (status.Limit (Pool need)) source h = inl h
judged_as c (status.Limit (Tokens n)) source h = h
judged_as c (status.Limit (Nodes n)) source h = h
judged_as c (status.Limit (Depth n)) source h = h
judged_as c (status.Limit Steps) source h = h
judged_as c (status.Limit File) source h = h

-- a run over a file ends as is expected of it
pub judged_file : (command : Command) (s : Status) (source : Given) (c : Content) → read_of most_pool source ≡ Ok c → EndsBy command c c.script s → Judged command s source
judged_file command s source c e h = judged_as command s source (subst (λ r. IsExpected command r s) (sym e) h)

judged_refusal : (c : Command) (x : FileError) (source : Given) → read_of most_pool source ≡ Err x → Judged c (ended_by x) source
judged_refusal c x source e = judged_as c (ended_by x) source (subst (λ r. IsExpected c r (ended_by x)) (sym e) refl)

-- under the pool's own limit
pub reads_at : (n : ℕ) (source : Given) (c : Content) → n ≡ most_pool → read_of n source ≡ Ok c → read_of most_pool source ≡ Ok c
reads_at n source c e h = ap (λ m. read_of m source) (sym e) ∙ h

pub refuses_at : (n : ℕ) (source : Given) (x : FileError) → n ≡ most_pool → Refuses n source x → Refuses most_pool source x
refuses_at n source x e h = subst (λ m. Refuses m source x) e h

pub judged_fault : (c : Command) (x : FileError) (source : Given) → Refuses most_pool source x → Judged c (ended_by x) source
judged_fault c (fault.Lex x) source e = judged_refusal c (fault.Lex x) source e
judged_fault c (fault.LibraryLex x) source e = judged_refusal c (fault.LibraryLex x) source e
judged_fault c (fault.Library x) source e = judged_refusal c (fault.Library x) source e
judged_fault c (fault.Expand x) source e = judged_refusal c (fault.Expand x) source e
judged_fault c (fault.Tokens n) source e = judged_refusal c (fault.Tokens n) source e
judged_fault c (fault.Parse x) source e = judged_refusal c (fault.Parse x) source e
judged_fault c (fault.Script k) source e = judged_refusal c (fault.Script k) source e
judged_fault c (fault.Types x) source e = judged_refusal c (fault.Types x) source e
judged_fault c (fault.Scope x) source e = judged_refusal c (fault.Scope x) source e
judged_fault c (fault.Group k x) source e = judged_refusal c (fault.Group k x) source e
judged_fault c (fault.Query k) source e = judged_refusal c (fault.Query k) source e
judged_fault c (fault.Room need) source e = inr e
judged_fault c fault.OutOfMemory source e = tt
