-- What is printed of a report, by its command. This profile's own.
use Rattle.std.specs.Prelude.{ℕ, ◌+◌, ◌-◌, ◌^◌, ◌&&◌, Bool, min, true, false, is_some, List, [], ◌∷◌, ◌++◌, codes, length, Option, Some, None}
use Rattle.std.specs.Fmt.{decimal}
use Rattle.cv_outside.specs.Causes.{next_count}
use Rattle.cv_outside.specs.words.sample.Samples.{file_of}
use Rattle.cv_syntax.specs.declared.work.File.{File}
use Rattle.cv_report.specs.declared.report.Command.{Command}
use Rattle.cv_report.specs.declared.report.Command.TheVariants.{Games, Nothing, Prove, Sample}
use Rattle.cv_report.specs.declared.report.Report.{Report}
use Rattle.cv_report.specs.declared.report.Status.{Status}
use Rattle.cv_report.specs.declared.report.Status.TheVariants as status
use Rattle.cv_report.specs.declared.report.Verdict.{Verdict}
use Rattle.cv_report.specs.declared.report.Verdict.TheVariants.{NotProved, Proved}
use Rattle.cv_report.specs.Lines.{Lines, shown_text}
use Rattle.cv_report.specs.Streams.{is_streamed}
use Rattle.cv_report.specs.Text.{end_text, verdicts_asked}

-- how many queries are proved, and how many terms their sums have together; a count stops at the greatest u64

abbrev pub counted_with : ℕ × ℕ → Verdict → ℕ × ℕ
counted_with c (Proved s) = (next_count c.0, min (c.1 + length s) (2 ^ 64 - 1))
counted_with c NotProved = c

unfoldable pub counted : ℕ × ℕ → List Verdict → ℕ × ℕ
counted c [] = c
counted c (v ∷ vs) = counted (counted_with c v) vs

abbrev pub counts_text : (number : ℕ) → ℕ × ℕ → List ℕ
counts_text n c = codes "sample " ++ decimal n ++ codes "\nproved " ++ decimal c.0 ++ codes "\nterms " ++ decimal c.1 ++ codes "\n"

-- the counts of a sample of which a proof was asked; without a file, or where memory ran out, the end line alone

abbrev pub counts_by : (number : ℕ) → Report → Status → List ℕ
counts_by n r status.Memory = end_text status.Memory
counts_by n r s = counts_text n (counted (0, 0) r.verdicts.items)

abbrev pub summary_text : (number : ℕ) → Report → Option File → List ℕ
summary_text n r None = end_text r.status
summary_text n r (Some f) = counts_by n r r.status

-- the text of a sample, which has no end line
abbrev pub sample_text : (number : ℕ) → Status → List ℕ
sample_text n status.Done = file_of n
sample_text n s = end_text s

-- the verdicts on the queries of a file, or on the one that was asked alone, and the end line
abbrev pub verdicts_and_end : (query : Option ℕ) → Report → List ℕ
verdicts_and_end query r = verdicts_asked r.work.names query r.verdicts.items ++ end_text r.status

-- what is printed behind the lines of games and steps; `games` prints no verdicts
abbrev pub rest_by : Command → Report → List ℕ
rest_by (Prove moves more query) r = verdicts_and_end query r
rest_by Games r = end_text r.status
rest_by (Sample n true) r = summary_text n r r.file
rest_by (Sample n false) r = sample_text n r.status
rest_by Nothing r = verdicts_and_end None r

abbrev pub rest_text : Report → List ℕ
rest_text r = rest_by r.command r

-- the lines of games and steps are shown where there is a file, unless it is a sample
abbrev pub is_shown : Report → Bool
is_shown r = is_streamed r.command && is_some r.file

-- What is printed of a report whose file has these lines of games and steps.
abbrev pub printed : Report → Lines → List ℕ
printed r l = shown_text (is_shown r) l ++ rest_text r
