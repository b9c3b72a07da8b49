-- What is kept of a run while its report is written.
use Rattle.std.proofs.Common.{◌≡◌, ℕ, List, [], Option, Some, None, refl, ap, sym, ◌∙◌, subst, ◌⊎◌, inl, inr}
use Rattle.std.specs.Prelude.{IfSome, IsSome, MatchOption, slice_get}
use Rattle.std.specs.declared.alloc.Global.{Global}
use Rattle.std.specs.declared.vec.Vec.{Vec}
use Rattle.cv_accept.specs.Accepted.{IsFile, most_pool}
use Rattle.cv_follow.specs.Courses.{Course, IsCourse}
use Rattle.cv_follow.specs.Scripts.{is_without_block}
use Rattle.cv_library.specs.Givens.{Given}
use Rattle.cv_outside.specs.words.Forms.{Text}
use Rattle.cv_outside.specs.words.Words.{command_read}
use Rattle.cv_report.specs.declared.report.Command.{Command}
use Rattle.cv_report.specs.declared.report.Command.TheVariants as command
use Rattle.cv_report.specs.declared.report.Report.{Report}
use Rattle.cv_report.specs.declared.report.Status.{Status}
use Rattle.cv_report.specs.declared.report.Status.TheVariants as status
use Rattle.cv_report.specs.outcome.Refused.{SaysMemory, SaysNothing}
use Rattle.cv_report.specs.outcome.Written.{IsWritten}
use Rattle.cv_report.specs.declared.stream.Stream.{Stream}
use Rattle.cv_script.specs.declared.steps.Step.{Step}
use Rattle.cv_syntax.specs.declared.work.File.{File}
use Rattle.cv_syntax.specs.declared.work.Work.{Work}
use Rattle.cv.specs.Answers.{Answers, Begins, IsComplete, Says, lines_along, lines_by, names_in}
use Rattle.cv.specs.Calls.{AreBoundedCalls, HasBoundedCalls}
use Rattle.cv.specs.Causes.{ComesFrom, Outside}
use Rattle.cv.specs.Causes as cause
use Rattle.cv.specs.Games.{AreClose, HasCloseGames}
use Rattle.cv.specs.Steps.{AreCloseSteps, HasCloseSteps}
use Rattle.cv.specs.Strategy.{HasFile, HoldsAlong, IsSound, Judged, MayHaveFile, Proceeds, SpeaksOfFile, TakesSteps, declared_in, file_in, game_in, steps_in}
use Rattle.cv.specs.Strategy as strategy
use Rattle.cv.specs.Words.{SaysOfWords, command_of}

-- A report is kept, or it is one that memory ran out in, over the same file.
abbrev IsKept : (old new : Report) → Type 0
IsKept old new = (new ≡ old) ⊎ SaysMemory old new

-- what speaks of the work, the file and the proof block alone stays
same_file : (old new : Report) (P : Work → Option File → Option (Vec Step Global) → Type 0) → SaysMemory old new → P old.work old.file old.script → P new.work new.file new.script
same_file old new P m h =
    subst (λ (w : Work). P w new.file new.script) (sym m.work)
    (subst (λ (f : Option File). P old.work f new.script) (sym m.file)
    (subst (λ (v : Option (Vec Step Global)). P old.work old.file v) (sym m.script) h))

-- without verdicts nothing is called proved
sound_by : (r : Report) → r.verdicts.items ≡ [] → (o : Option File) → IfSome o (λ f. (c : Course) → TakesSteps r f c → HoldsAlong r f c)
sound_by r n None = tt
sound_by r n (Some f) = λ c w k query s q v. absurd (let x = sym (ap (λ vs. slice_get vs k) n) ∙ v in cc)

pub kept_sound : (old new : Report) → IsKept old new → IsSound old → IsSound new
kept_sound old new (inl e) h = subst IsSound (sym e) h
kept_sound old new (inr m) h = sound_by new m.verdicts new.file

pub kept_close : (old new : Report) → IsKept old new → HasCloseGames old → HasCloseGames new
kept_close old new (inl e) h = subst HasCloseGames (sym e) h
kept_close old new (inr m) h = same_file old new (λ w f v. HasCloseGames (record new { work = w; file = f })) m h

pub kept_steps : (old new : Report) → IsKept old new → HasCloseSteps old → HasCloseSteps new
kept_steps old new (inl e) h = subst HasCloseSteps (sym e) h
kept_steps old new (inr m) h = same_file old new (λ w f v. HasCloseSteps (record new { work = w; file = f })) m h

pub kept_calls : (old new : Report) → IsKept old new → HasBoundedCalls old → HasBoundedCalls new
kept_calls old new (inl e) h = subst HasBoundedCalls (sym e) h
kept_calls old new (inr m) h = same_file old new (λ w f v. HasBoundedCalls (record new { work = w; file = f })) m h

kept_command : (words : List Text) (old new : Report) → SaysMemory old new → (old.command ≡ command_of (command_read words)) ⊎ ((old.command ≡ command.Nothing) × (old.status ≡ status.Memory))
    → (new.command ≡ command_of (command_read words)) ⊎ ((new.command ≡ command.Nothing) × (new.status ≡ status.Memory))
kept_command words old new m (inl e) = inl (m.command ∙ e)
kept_command words old new m (inr e) = inr (m.command ∙ e.0, m.status)

pub kept_words : (words : List Text) (old new : Report) → IsKept old new → SaysOfWords words old → SaysOfWords words new
kept_words words old new (inl e) h = subst (SaysOfWords words) (sym e) h
kept_words words old new (inr m) h = record {
  plain = h.plain;
  command = kept_command words old new m h.command;
  refused = λ n. inr m.status;
  only = λ e. absurd (let f = sym m.status ∙ e in cc);
  sample = λ s. inr m.status;
}

-- the answers along a course

not_done : (s : Status) → s ≡ status.Memory → s ≡ status.Done → ⊥
not_done s m d = let e = sym m ∙ d in cc

module _ (o : Outside) (course : Course) where
  follows_memory : (old new : Report) → SaysMemory old new → (f : Option File) → MatchOption f (SaysNothing old) (λ g. Proceeds old g course (steps_in old)) → MatchOption f (SaysNothing new) (λ g. Proceeds new g course (steps_in new))
  follows_memory old new m None h = record { verdicts = m.verdicts; script = m.script ∙ h.script }
  follows_memory old new m (Some f) h = record {
    took = record { leads = subst (λ (w : Work). strategy.Leads (record new { work = w }) f course) (sym m.work) h.took.leads; verdicts = strategy.none m.status m.verdicts };
    by = inl m.status;
  }

  abbrev memory_answers : (old new : Report) → SaysMemory old new → Answers o.told old course → Answers o.told new course
  memory_answers old new m h = record {
    source = h.source;
    agree = h.agree;
    short = λ s. h.short (subst (λ (f : Option File). IsSome f) m.file s);
    names = h.names;
    file = same_file old new (λ w f v. IfSome f (λ g. IsFile most_pool h.source (file_in (record new { work = w; script = v }) g h.names))) m h.file;
    course = same_file old new (λ w f v. IfSome f (λ g. IsCourse (is_without_block (steps_in (record new { work = w; script = v }))) (declared_in (record new { work = w })) w.decls.own (game_in (record new { work = w }) g) (names_in (record new { work = w }) h.names) course)) m h.course;
    drawn = λ s n. absurd (n m.status);
    follows = follows_memory old new m new.file (subst (λ (f : Option File). MatchOption f (SaysNothing old) (λ g. Proceeds old g course (steps_in old))) (sym m.file) h.follows);
    given = λ s. absurd (subst HasFile m.status s);
    only = λ s. subst MayHaveFile (sym m.status) tt;
    shown = λ g s. absurd (not_done new.status m.status s);
    judged = λ s. absurd (subst SpeaksOfFile m.status s);
  }

-- what holds of each course holds of the one that a report has

sound_along : (r : Report) (c : Course) (o : Option File) → IfSome o (λ f. (k : Course) → TakesSteps r f k → HoldsAlong r f k) → MatchOption o (SaysNothing r) (λ f. Proceeds r f c (steps_in r)) → IfSome o (λ f. HoldsAlong r f c)
sound_along r c None h p = tt
sound_along r c (Some f) h p = h c p.took

led_along : (r : Report) (P : File → Course → Type 0) (c : Course) (o : Option File) → IfSome o (λ f. (k : Course) → strategy.Leads r f k → P f k) → MatchOption o (SaysNothing r) (λ f. Proceeds r f c (steps_in r)) → IfSome o (λ f. P f c)
led_along r P c None h p = tt
led_along r P c (Some f) h p = h c p.took.leads

-- what is said and written of a run that began so

abbrev Told : Outside → (before after : Option (List ℕ)) → Status → Report → Type 0
Told o before after end r = (c : Course) × (a : Answers o.told r c) × ComesFrom o r c r.status × IsWritten before after end r (lines_along r a.names c)

told_begun : {o : Outside} {before now : Option (List ℕ)} {old new : ℕ} {s : Stream} {r : Report} (h : Begins o before now old new s r) (after : Option (List ℕ)) (end : Status) (kept : Report) → IsKept r kept → IsWritten before after end kept (lines_along r h.answers.names h.course) → Told o before after end kept
told_begun {o} {before} {now} {old} {new} {s} {r} h after end kept (inl e) w =
    subst (λ (q : Report). IsWritten before after end q (lines_along r h.answers.names h.course) → Told o before after end q) (sym e) (λ v. (h.course, h.answers, h.cause, v)) w
told_begun {o} {before} {now} {old} {new} {s} {r} h after end kept (inr m) w = (
  h.course,
  memory_answers o h.course r kept m h.answers,
  subst (ComesFrom o kept h.course) (sym m.status) cause.memory,
  same_file r kept (λ x f v. IsWritten before after end kept (lines_by (record kept { work = x }) h.answers.names h.course f)) m w,
)

pub says_begun : {o : Outside} {before now : Option (List ℕ)} {old new : ℕ} {s : Stream} {r : Report} (h : Begins o before now old new s r) (after : Option (List ℕ)) (end : Status) (kept : Report) → IsKept r kept → IsSound kept → HasCloseGames kept → HasCloseSteps kept → HasBoundedCalls kept
    → IsWritten before after end kept (lines_along r h.answers.names h.course) → Says o before after end kept
says_begun {o} {before} h after end kept k sound games steps calls w =
    let t : Told o before after end kept = told_begun h after end kept k w in
    record {
      course = t.0;
      headline = sound_along kept t.0 kept.file sound t.1.follows;
      games = led_along kept (AreClose kept) t.0 kept.file games t.1.follows;
      steps = led_along kept (AreCloseSteps kept) t.0 kept.file steps t.1.follows;
      calls = led_along kept (AreBoundedCalls kept) t.0 kept.file calls t.1.follows;
      answers = t.1;
      cause = t.2;
      written = t.3;
    }

pub kept_complete : (c : Command) (source : Given) (old new : Report) → IsKept old new → IsComplete c source old.status → IsComplete c source new.status
kept_complete c source old new (inl e) h = subst (λ (r : Report). IsComplete c source r.status) (sym e) h
kept_complete c source old new (inr m) h = subst (IsComplete c source) (sym m.status) (record { short = λ k. tt; long = λ k. inr refl })
