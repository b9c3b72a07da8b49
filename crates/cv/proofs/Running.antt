-- What a run over an accepted file answers.
use Rattle.std.proofs.Common.{◌≡◌, ℕ, Bool, true, false, List, length, refl, ap, sym, ◌∙◌, subst, Option, Some, None, Ok, ◌⊎◌, inl, inr}
use Rattle.std.specs.Prelude.{IfSome, IsSome, MatchOption}
use Rattle.std.specs.declared.vec.Vec.{Vec}
use Rattle.std.specs.declared.alloc.Global.{Global}
use Rattle.cv_syntax.specs.declared.work.File.{File}
use Rattle.cv_syntax_trees.specs.Tree.{Tree}
use Rattle.cv_script.specs.declared.steps.Step.{Step}
use Rattle.cv_library.specs.Givens.{Given}
use Rattle.cv_accept.specs.Accepted.{Content, IsFile, most_pool, read_of}
use Rattle.cv_accept.specs.Works.{script_in}
use Rattle.cv_accept.proofs.Readings.{read_is_file}
use Rattle.cv_costs.specs.Factors.{parameters_in}
use Rattle.cv_report.specs.declared.report.Command.{Command}
use Rattle.cv_report.specs.declared.report.Report.{Report}
use Rattle.cv_report.specs.declared.report.Status.{Status}
use Rattle.cv_report.specs.declared.report.Status.TheVariants as status
use Rattle.cv_report.specs.declared.stream.Stream.{Stream}
use Rattle.cv_report.specs.Lines.{Lines}
use Rattle.cv_report.specs.Printed.{is_shown}
use Rattle.cv_report.specs.Streams.{Streams}
use Rattle.cv_report.specs.outcome.Refused.{SaysNothing}
use Rattle.cv_follow.specs.Courses.{Course, IsCourse, lines_of, names_behind}
use Rattle.cv_follow.specs.Scripts.{is_without_block}
use Rattle.cv.specs.Answers.{Answers, Begins, lines_along, lines_by, names_in}
use Rattle.cv.specs.Causes.{ComesFrom, Outside}
use Rattle.cv.specs.Causes as cause
use Rattle.cv.specs.Runs.{HasRun, Runs}
use Rattle.cv.specs.Strategy.{EndsBy, EndsWithout, Judged, Leads, Proceeds, ProceedsBy, ProceedsWithout, declared_in, file_in, game_in, is_games, moves_in, steps_in}
use Rattle.cv.specs.Words.{AreTold, IsShort}
use Rattle.cv.proofs.Causing.{found_cause, script_cause_of}
use Rattle.cv.proofs.Commands.{games_is}
use Rattle.cv.proofs.Verdicts.{judged_file}

module _ (c : Content) (f : File) (r : Report) (course : Course) (h : HasRun c f r course) where
  -- a run over a file ends as a course of it has it

  ends_without : (games : Bool) → ProceedsWithout games r course → EndsWithout games (moves_in r.command) (file_in r f (length c.names)) r.status
  ends_without true p = p.status
  ends_without false p =
      (length r.work.pool.trees, record { proof = course.proof; last = course.last; leads = h.proceeds.took.leads; made = p.made; counted = p.counted; few = p.few; ends = p.ends })

  ends : (o : Option (List Tree)) → ProceedsBy r f course o → EndsBy r.command (file_in r f (length c.names)) o r.status
  ends None p = ends_without (is_games r.command) p
  ends (Some s) p = record {
    walked = p.end;
    steps = p.steps;
    room = p.room;
    stands = p.stands;
    follows = record { proof = course.proof; left = p.ends.left; split = p.ends.split; last = course.last; leads = h.proceeds.took.leads; ends = p.ends.ends };
    ends = p.ended;
  }

  module _ (source : Given) (reads : read_of most_pool source ≡ Ok c) where
    judged_by : (r.status ≡ status.Memory) ⊎ ProceedsBy r f course (steps_in r) → Judged r.command r.status source
    judged_by (inl m) = subst (λ (t : Status). Judged r.command t source) (sym m) tt
    judged_by (inr p) = judged_file r.command r.status source c reads (subst (λ (d : Content). EndsBy r.command d d.script r.status) h.content (ends (steps_in r) p))

    pub judged_under : (command : Command) → r.command ≡ command → Judged command r.status source
    judged_under command e = subst (λ (d : Command). Judged d r.status source) e (judged_by h.proceeds.by)

    -- its answers are those of the course
    abbrev run_answers : (told : Option Given) → IsShort source → AreTold told source → Answers told r course
    run_answers told few a = record {
      source = source;
      agree = a;
      short = λ s. few;
      names = length c.names;
      file = subst (λ (o : Option File). IfSome o (λ g. IsFile most_pool source (file_in r g (length c.names)))) (sym h.file) (read_is_file most_pool source (file_in r f (length c.names)) (reads ∙ ap Ok (sym h.content)));
      course = subst (λ (o : Option File). IfSome o (λ g. IsCourse (is_without_block (steps_in r)) (declared_in r) r.work.decls.own (game_in r g) (names_in r (length c.names)) course)) (sym h.file)
          (subst (λ (d : Content). IsCourse (is_without_block d.script) d.declarations d.own d.game d.names course) (sym h.content) h.course);
      drawn = λ s n. subst (λ (d : Content). r.work.names ≡ names_behind d.names course.tables) (sym h.content) (h.drawn n);
      follows = subst (λ (o : Option File). MatchOption o (SaysNothing r) (λ g. Proceeds r g course (steps_in r))) (sym h.file) h.proceeds;
      given = λ s. subst (λ (o : Option File). IsSome o) (sym h.file) refl;
      only = λ s. h.status;
      shown = λ g s. subst (λ (o : Option File). IsSome o) (sym h.file) refl;
      judged = λ s. judged_by h.proceeds.by;
    }

  -- and its status has its cause there

  module _ (o : Outside) where
    cause_without : (games : Bool) → is_games r.command ≡ games → r.script ≡ None → ProceedsWithout games r course → ComesFrom o r course r.status
    cause_without true i e p = subst (ComesFrom o r course) (sym p.status) (cause.shown (games_is r.command i) e)
    cause_without false i e p = found_cause o r f course h.file h.proceeds.took e p

    cause_by : (v : Option (Vec Step Global)) → r.script ≡ v → ProceedsBy r f course (script_in r.work.pool.trees v) → ComesFrom o r course r.status
    cause_by None e p = cause_without (is_games r.command) refl e p
    cause_by (Some v) e p = script_cause_of o r f course h.file h.proceeds.took _ (ap (script_in r.work.pool.trees) e) p

    cause_of : (r.status ≡ status.Memory) ⊎ ProceedsBy r f course (steps_in r) → ComesFrom o r course r.status
    cause_of (inl m) = subst (ComesFrom o r course) (sym m) cause.memory
    cause_of (inr p) = cause_by r.script refl p

    pub run_cause : ComesFrom o r course r.status
    run_cause = cause_of h.proceeds.by

-- so a run begins, with its lines
module _ (c : Content) (f : File) (r : Report) (order : List ℕ) (before now : Option (List ℕ)) (old new : ℕ) (s : Stream) (w : Runs c f order before now old new s r) where
  same_lines : lines_along r (length c.names) w.course ≡ lines_of c.names order c.game w.course
  same_lines =
      ap (lines_by r (length c.names) w.course) w.has.file
      ∙ (ap (λ (d : Content). lines_of d.names (parameters_in r.work.decls.list) d.game w.course) w.has.content ∙ ap (λ ps. lines_of c.names ps c.game w.course) w.ordered)

  pub run_begins : (source : Given) → read_of most_pool source ≡ Ok c → IsShort source → (o : Outside) → AreTold o.told source → Begins o before now old new s r
  run_begins source reads few o a = record {
    course = w.course;
    answers = run_answers c f r w.course w.has source reads o.told few a;
    cause = run_cause c f r w.course w.has o;
    streams = subst (λ (l : Lines). Streams (is_shown r) l before now old new s) (sym same_lines) w.streams;
  }
