-- A run over a file that went along a course: its report, and what was put of it.
use Rattle.std.proofs.Common.{◌≡◌, ℕ, ◌<◌, ◌≤◌, ◌+◌, ◌&&◌, arith, Bool, true, false, List, [], ◌∷◌, ◌++◌, length, map, take, refl, ap, sym, ◌∙◌, subst, Option, Some, None, ◌⊎◌, inl, inr}
use Rattle.std.specs.Prelude.{All, IfSome, ◌≢◌}
use Rattle.std.proofs.lemmas.List.{take_all}
use Rattle.std.specs.declared.alloc.Global.{Global}
use Rattle.std.specs.declared.vec.Vec.{Vec}
use Rattle.cv_accept.specs.Accepted.{Content}
use Rattle.cv_accept.specs.Works.{content_at, content_in, content_nodes, script_in}
use Rattle.cv_costs.specs.Factors.{parameters_in}
use Rattle.cv_follow.proofs.Following.{ends_wider}
use Rattle.cv_follow.proofs.QueryLists.{queries_same}
use Rattle.cv_follow.specs.Courses.{Course, IsReached, PutsCourse, course_at, legs_of, lines_of, names_behind}
use Rattle.cv_follow.specs.Fillings.{IsBlockWalk, StandsBy, StandsFor, has_word}
use Rattle.cv_follow.specs.Scripts.{is_without_block, verdicts_of}
use Rattle.cv_kernel.specs.Followed.{known_to}
use Rattle.cv_follow.specs.Searches.{FindsAlong, HasSearched}
use Rattle.cv_follow.specs.Walks.{EndsAlong, HasStopped}
use Rattle.cv_follow.specs.Walks as walks
use Rattle.cv_follow.specs.declared.walk.Walk.{Walk}
use Rattle.cv_kernel.specs.Proofs.{IsProof, closed_by, nodes_along}
use Rattle.cv_kernel.specs.Proofs as proofs
use Rattle.cv_meaning.specs.Queries.{queries_in}
use Rattle.cv_parse.specs.Declaring.{IsBelow}
use Rattle.cv_pool.proofs.Growth.{Grows_refl}
use Rattle.cv_report.specs.Streams.{Streams, is_streamed, lines_at}
use Rattle.cv_report.specs.declared.report.Command.{Command}
use Rattle.cv_report.specs.declared.report.Report.{Report}
use Rattle.cv_report.specs.declared.report.Status.{Status}
use Rattle.cv_report.specs.declared.report.Status.TheVariants as status
use Rattle.cv_report.specs.declared.report.Verdict.{Verdict}
use Rattle.cv_report.specs.declared.stream.Stream.{Stream}
use Rattle.cv_report.specs.verdicts.Verdicts.{verdicts_by}
use Rattle.cv_script.specs.declared.steps.Step.{Step}
use Rattle.cv_script.specs.reader.Scripts.{trees_of}
use Rattle.cv_steps.specs.Sequences.{scene}
use Rattle.cv_syntax.specs.Classes.{DeclsView, queries}
use Rattle.cv_syntax.specs.Declarations.{declarations}
use Rattle.cv_syntax.specs.PoolTrees.{tree_at}
use Rattle.cv_syntax.specs.declared.work.File.{File}
use Rattle.cv_syntax.specs.declared.work.Work.{Work}
use Rattle.cv_syntax_trees.specs.Declarations.{Declaration}
use Rattle.cv_syntax_trees.specs.Tree.{Tree}
use Rattle.cv.proofs.Commands.{may_under, memory_under}
use Rattle.cv.proofs.Ended.{ends_may, search_may}
use Rattle.cv.proofs.Growing.{content_grown}
use Rattle.cv.proofs.OpenQueries.{none_closed}
use Rattle.cv.specs.Runs.{Runs}
use Rattle.cv.specs.Strategy.{FollowsScript, HasVerdicts, MayHaveFile, ProceedsBy, ProceedsWithout, ShowsFile, declared_in, ends_under, is_games, moves_in, steps_in}
use Rattle.cv.specs.Strategy as strategy

-- the lines of a file are shown where the command streams them
and_true : (b : Bool) → b ≡ (b && true)
and_true true = refl
and_true false = refl

-- what a run is over

pub record IsOver (start : Work) (f : File) (script : Option (Vec Step Global)) : Type 0 where
  pub here : f.game.root.0 < length start.pool.trees
  pub below : All (IsBelow (length start.pool.trees)) start.decls.list
  pub live : IfSome script (λ v. All (λ s. s.0.0 < length start.pool.trees) v.items)

abbrev pub first_of : Work → File → Tree
first_of w f = tree_at w.pool.trees (Some f.game.root)

abbrev Puts : (middle after : Option (List ℕ)) → (mid new : ℕ) → Work → File → (s t : Stream) → Course → Type 0
Puts middle after mid new start f s t c = PutsCourse middle after mid new start (first_of start f) s t c

-- the file holds the same in the end

abbrev Stays : (start now : Work) → File → Option (Vec Step Global) → Type 0
Stays start now f script = content_in (take (length start.names) now.names) now.decls.own now.pool.trees now.decls.list f.game.root script ≡ content_at start f.game.root script

stays : (start now : Work) (f : File) (script : Option (Vec Step Global)) → IsOver start f script → {found : Bool} {P : Course → Type 0} → IsReached found start now (first_of start f) P → Stays start now f script
stays start now f script o h = content_grown start now f.game.root script h.grows h.names h.decls o.here o.below o.live

-- so its report and what was put are those of the course
module _ (start now : Work) (f : File) (command : Command) (script : Option (Vec Step Global)) (verdicts : Vec Verdict Global) (end : Status) where
  abbrev pub report : Report
  report = record { work = now; file = Some f; command = command; script = script; verdicts = verdicts; status = end }

  pub runs : (before middle after : Option (List ℕ)) (old mid new : ℕ) (s t : Stream) → Streams (is_streamed command) (lines_at start f.game.root) before middle old mid s → Stays start now f script
      → (h : IsReached (is_without_block (script_in start.pool.trees script)) start now (first_of start f) (Puts middle after mid new start f s t))
      → (end ≢ status.Memory → now.names ≡ names_behind start.names h.course.tables) → MayHaveFile end → HasVerdicts report h.course → (end ≡ status.Memory) ⊎ ProceedsBy report f h.course (steps_in report)
      → Runs (content_at start f.game.root script) f (parameters_in start.decls.list) before after old new t report
  unfolding legs_of
  runs before middle after old mid new s t begun same h drawn may said by = record {
    course = h.course;
    has = record {
      file = refl;
      content = same;
      course = h.is;
      drawn = drawn;
      proceeds = record {
        took = record { leads = subst (λ (d : Content). IsProof d.declarations (known_to d.own) d.game h.course.proof h.course.last) (sym same) h.is.leads; verdicts = said };
        by = by;
      };
      status = may;
    };
    ordered = ap (λ (v : DeclsView). parameters_in v.list) h.decls;
    streams = subst (λ b. Streams b (lines_of start.names (parameters_in start.decls.list) (first_of start f) h.course) before after old new t) (and_true (is_streamed command)) (h.puts (is_streamed command) before old begun);
  }

-- the verdicts of a course, in the end as in the beginning
same_verdicts : (r : Report) (c : Course) (d : Content) → d.declarations ≡ declared_in r → r.verdicts.items ≡ verdicts_of c.proof (queries_in d.declarations) → HasVerdicts r c
same_verdicts r c d e v = strategy.all (subst (λ ds. r.verdicts.items ≡ verdicts_of c.proof (queries_in ds)) e v)

-- steps that were found without a proof block
module _ (start now : Work) (f : File) (command : Command) (w : Walk) (o : IsOver start f None) (proves : is_games command ≡ false) (moves : ℕ) (allowed : moves ≡ moves_in command) (before middle after : Option (List ℕ)) (old mid new : ℕ) (s t : Stream) where
  abbrev found_report : Report
  found_report = report start now f command None w.verdicts w.status

  abbrev FoundRuns : Type 0
  FoundRuns = Runs (content_at start f.game.root None) f (parameters_in start.decls.list) before after old new t found_report

  pub search_runs : Streams (is_streamed command) (lines_at start f.game.root) before middle old mid s → HasSearched start now (first_of start f) moves (Puts middle after mid new start f s t) w → FoundRuns
  search_runs begun h = go h.outcome
    where
      ds : List Declaration
      ds = declarations start.pool.trees start.decls.list

      c : Course
      c = h.reached.course

      same : Stays start now f None
      same = stays start now f None o h.reached

      by : (w.status ≢ status.Memory → now.names ≡ names_behind start.names c.tables) → MayHaveFile w.status → HasVerdicts found_report c → (w.status ≡ status.Memory) ⊎ ProceedsWithout (is_games command) found_report c → FoundRuns
      by = runs start now f command None w.verdicts w.status before middle after old mid new s t begun same h.reached

      go : HasStopped start.names now (queries_in ds) c (FindsAlong (length now.pool.trees) moves ds start.decls.own c) w → FoundRuns
      go (walks.out_of_memory m v) = by (λ n. absurd (n m)) (subst MayHaveFile (sym m) tt) (strategy.none m v) (inl m)
      go (walks.with_verdicts e v n) =
          let finds = subst (λ k. FindsAlong (length now.pool.trees) k (declared_in found_report) now.decls.own c w.status) allowed (subst (λ (d : Content). FindsAlong (length now.pool.trees) moves d.declarations d.own c w.status) (sym same) e) in
          by (λ m. n) (search_may _ _ _ _ _ _ _ w.status e.ends) (same_verdicts found_report c (content_at start f.game.root None) (sym (ap (λ (d : Content). d.declarations) same)) v)
          (inr (subst (λ b. ProceedsWithout b found_report c) (sym proves) finds))

-- a run that takes no step, since the games are asked for
module _ (start : Work) (f : File) (command : Command) (verdicts : Vec Verdict Global) (end : Status) (games : is_games command ≡ true) (before middle : Option (List ℕ)) (old mid : ℕ) (s : Stream) where
  abbrev games_report : Report
  games_report = report start start f command None verdicts end

  abbrev first_course : Course
  first_course = course_at (first_of start f)

  abbrev ShownRuns : Type 0
  ShownRuns = Runs (content_at start f.game.root None) f (parameters_in start.decls.list) before middle old mid s games_report

  by_end : Streams (is_streamed command) (lines_at start f.game.root) before middle old mid s → MayHaveFile end → HasVerdicts games_report first_course → (end ≡ status.Memory) ⊎ ShowsFile games_report first_course → ShownRuns
  unfolding names_behind
  by_end begun may said p =
      let whole : take (length start.names) start.names ≡ start.names = take_all (length start.names) start.names (omega arith) in
      let reached : IsReached true start start (first_of start f) (Puts middle middle mid mid start f s s) = record {
        course = first_course;
        is = record { leads = proofs.start; drawn = tt };
        grows = Grows_refl start.pool;
        names = whole;
        decls = refl;
        puts = λ shows first count h. h;
      } in
      runs start start f command None verdicts end before middle middle old mid mid s s begun
      (ap (λ (ns : List (List ℕ)). content_in ns start.decls.own start.pool.trees start.decls.list f.game.root None) whole) reached (λ n. refl) may said (by p)
    where
      by : (end ≡ status.Memory) ⊎ ShowsFile games_report first_course → (end ≡ status.Memory) ⊎ ProceedsWithout (is_games command) games_report first_course
      by (inl m) = inl m
      by (inr w) = inr (subst (λ b. ProceedsWithout b games_report first_course) (sym games) w)

  pub games_run : Streams (is_streamed command) (lines_at start f.game.root) before middle old mid s → end ≡ status.Done → verdicts.items ≡ verdicts_by (λ k. None) 1 (queries start.decls.list) → ShownRuns
  games_run begun e v = by_end begun (subst MayHaveFile (sym e) tt) (strategy.all (v ∙ none_closed start.pool.trees start.decls.list)) (inr (record { steps = refl; status = e }))

  pub games_spent : Streams (is_streamed command) (lines_at start f.game.root) before middle old mid s → end ≡ status.Memory → verdicts.items ≡ [] → ShownRuns
  games_spent begun m v = by_end begun (subst MayHaveFile (sym m) tt) (strategy.none m v) (inl m)

-- steps of a proof block that were followed

-- a script without the word is followed behind the nodes of its file
wider : (b : Bool) (few many : ℕ) (ds : List Declaration) (own : ℕ) (first : Tree) (script steps queries : List Tree) (room : ℕ) (c : Course) (end : Status) → few ≤ many → StandsBy b few script steps room → EndsAlong room ds own first steps queries c end
    → (r : ℕ) × StandsBy b many script steps r × EndsAlong r ds own first steps queries c end
wider false few many ds own first script steps queries room c end l s e =
    let n = s.1 in (
      many,
      (s.0, refl),
      record {
        left = e.left;
        split = e.split;
        ends = ends_wider (room + nodes_along ds (known_to own) first c.proof) (many + nodes_along ds (known_to own) first c.proof) (length c.proof) (scene ds (known_to own) c.last) (closed_by c.proof) queries e.left end (omega arith) e.ends;
      },
    )
wider true few many ds own first script steps queries room c end l s e = (room, s, e)

-- what a file holds was followed along a course
abbrev IsFollowed : Course → (end : Status) → Content → Option (List Tree) → Type 0
IsFollowed c end d None = ⊥
IsFollowed c end d (Some script) =
    (steps : List Tree) × (room : ℕ) × StandsFor (content_nodes d) script steps room × EndsAlong room d.declarations d.own d.game steps (queries_in d.declarations) c end

module _ (start now : Work) (f : File) (command : Command) (script : Vec Step Global) (w : Walk) (end : Status) (o : IsOver start f (Some script)) (under : end ≡ ends_under command w.status) (nodes : length start.pool.trees ≤ content_nodes (content_at start f.game.root (Some script)))
    (before middle after : Option (List ℕ)) (old mid new : ℕ) (s t : Stream) where
  abbrev script_report : Report
  script_report = report start now f command (Some script) w.verdicts end

  abbrev content : Content
  content = content_at start f.game.root (Some script)

  abbrev block : List Tree
  block = trees_of start.pool.trees script.items

  abbrev FollowedRuns : Type 0
  FollowedRuns = Runs content f (parameters_in start.decls.list) before after old new t script_report

  memory : w.status ≡ status.Memory → end ≡ status.Memory
  memory m = under ∙ (ap (ends_under command) m ∙ memory_under command)

  by_block : Streams (is_streamed command) (lines_at start f.game.root) before middle old mid s → IsBlockWalk (length start.pool.trees) start now (first_of start f) block (queries_in content.declarations) (Puts middle after mid new start f s t) w → FollowedRuns
  by_block begun h = go h.walk.outcome
    where
      c : Course
      c = h.walk.reached.course

      same : Stays start now f (Some script)
      same = stays start now f (Some script) o h.walk.reached

      follows : EndsAlong h.room content.declarations content.own content.game h.steps (queries_in content.declarations) c w.status → FollowsScript script_report f (trees_of now.pool.trees script.items) c
      follows e =
          let v = wider (has_word block) (length start.pool.trees) (content_nodes content) content.declarations content.own content.game block h.steps (queries_in content.declarations) h.room c w.status nodes h.stands e in
          let k : IsFollowed c w.status content (Some block) = (h.steps, v.0, v.1, v.2) in
          let n = subst (λ (d : Content). IsFollowed c w.status d d.script) (sym same) k in
          record { steps = n.0; room = n.1; stands = n.2; end = w.status; ends = n.3; ended = under }

      by : (end ≢ status.Memory → now.names ≡ names_behind start.names c.tables) → MayHaveFile end → HasVerdicts script_report c → (end ≡ status.Memory) ⊎ FollowsScript script_report f (trees_of now.pool.trees script.items) c → FollowedRuns
      by = runs start now f command (Some script) w.verdicts end before middle after old mid new s t begun same h.walk.reached

      go : HasStopped start.names now (queries_in content.declarations) c (EndsAlong h.room content.declarations content.own content.game h.steps (queries_in content.declarations) c) w → FollowedRuns
      go (walks.out_of_memory m v) = by (λ n. absurd (n (memory m))) (subst MayHaveFile (sym (memory m)) tt) (strategy.none (memory m) v) (inl (memory m))
      go (walks.with_verdicts e v n) =
          by (λ m. n) (subst MayHaveFile (sym under) (may_under command w.status (ends_may (h.room + nodes_along content.declarations (known_to content.own) content.game c.proof) (length c.proof) (scene content.declarations (known_to content.own) c.last) (closed_by c.proof) (queries_in content.declarations) e.left w.status e.ends)))
          (same_verdicts script_report c content (sym (ap (λ (d : Content). d.declarations) same)) v) (inr (follows e))

  pub script_runs : Streams (is_streamed command) (lines_at start f.game.root) before middle old mid s → (steps : List Step) → steps ≡ script.items
      → IsBlockWalk (length start.pool.trees) start now (first_of start f) (trees_of start.pool.trees steps) (map (λ n. tree_at start.pool.trees (Some n)) (queries start.decls.list)) (Puts middle after mid new start f s t) w → FollowedRuns
  script_runs begun steps e h =
      by_block begun
      (subst (λ qs. IsBlockWalk (length start.pool.trees) start now (first_of start f) block qs (Puts middle after mid new start f s t) w) (sym (queries_same start.pool.trees start.decls.list))
      (subst (λ ss. IsBlockWalk (length start.pool.trees) start now (first_of start f) (trees_of start.pool.trees ss) (map (λ n. tree_at start.pool.trees (Some n)) (queries start.decls.list)) (Puts middle after mid new start f s t) w) e h))
