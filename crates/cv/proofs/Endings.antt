-- How runs end.
use Rattle.std.proofs.Common.{◌≡◌, ℕ, suc, ◌+◌, ◌<◌, ◌≤◌, arith, refl, ap, nat_lt, Bool, true, false, if◌then◌else◌, List, [], ◌∷◌, ◌++◌, length, length-append, map, take, Option, Some, None, Result, Ok, Err, sym, ◌∙◌, subst, ◌⊎◌, inl, inr, append-nil}
use Rattle.std.specs.Prelude.{IfSome, IsNone, IsSome, IsSomeAnd, MatchOption, is_some, option_and_then, ◌&&◌, ◌≢◌}
use Rattle.cv_outside.specs.Causes.{NoFault, Rose}
use Rattle.cv_outside.specs.Told.{Files}
use Rattle.cv_outside.specs.declared.shelf.FetchError.{FetchError}
use Rattle.cv_outside.specs.declared.shelf.FetchError.TheVariants as fetch
use Rattle.cv_syntax.specs.declared.work.BuildError.TheVariants as build
use Rattle.cv_syntax.specs.declared.work.File.{File as SourceFile}
use Rattle.cv_syntax_trees.specs.Tree.{Tree, Empty}
use Rattle.cv_parse.specs.declared.error.ParseError.TheVariants as parse
use Rattle.cv_library.specs.Givens.{Given}
use Rattle.cv_accept.specs.declared.error.FileError.{FileError}
use Rattle.cv_accept.specs.declared.error.FileError.TheVariants as fault
use Rattle.cv_accept.specs.Accepted.{Content, IsFile, IsFull, Refuses, read_of, most_bytes, most_pool}
use Rattle.cv_accept.specs.Works.{content_nodes}
use Rattle.cv_meaning.specs.Queries.{queries_in}
use Rattle.cv_accept.proofs.Readings.{file_is_read, full_content}
use Rattle.cv_script.proofs.reader.Steps.{items_nodes}
use Rattle.std.proofs.lemmas.List.{length-map}
use Rattle.cv_kernel.specs.Proofs.{closed_by, nodes_along}
use Rattle.cv_scene.specs.Scenes.{Scene}
use Rattle.cv_steps.specs.Sequences.{scene}
use Rattle.cv_report.specs.declared.report.Which.TheVariants.{Depth, File, Nodes, Pool, Steps, Tokens}
use Rattle.cv_report.specs.verdicts.Verdicts.{ended_with}
use Rattle.cv_follow.specs.Scripts.{EndsScript, Follows, Stops, first_open, is_without_block, most_steps, no_room, refused, too_deep, too_large, too_many}
use Rattle.cv_kernel.specs.Followed.{known_to}
use Rattle.cv.proofs.Walking.{never_stops}
use Rattle.cv_report.specs.declared.report.Status.{Status}
use Rattle.cv_report.specs.declared.report.Status.TheVariants as status
use Rattle.cv_report.specs.declared.report.Command.{Command}
use Rattle.cv_report.specs.declared.report.Command.TheVariants as command
use Rattle.cv_report.specs.declared.report.Report.{Report}
use Rattle.cv.specs.Answers.{Answers, Begins, IsComplete, IsSilent, lines_by, names_in}
use Rattle.cv.specs.Causes.{ComesFrom, Outside}
use Rattle.cv.specs.Causes as cause
use Rattle.cv.specs.Faults.{status_of as ended_by}
use Rattle.cv_report.specs.outcome.Fetched.{fetch_ended}
use Rattle.cv.specs.Games.{AreClose, HasCloseGames}
use Rattle.cv.specs.Calls.{AreBoundedCalls, HasBoundedCalls}
use Rattle.cv_report.specs.outcome.Refused.{SaysNothing}
use Rattle.cv.specs.Steps.{AreCloseSteps, HasCloseSteps}
use Rattle.cv_report.specs.Lines.{Lines, games_along}
use Rattle.cv_report.specs.Streams.{IsPut, Streams, is_streamed}
use Rattle.cv_report.specs.Writing.{TakesAll}
use Rattle.cv_report.specs.declared.flow.Flow.{Flow}
use Rattle.cv_report.specs.declared.stream.Stream.{Stream}
use Rattle.cv_follow.specs.Courses.{Course, IsCourse, course_at, legs_of}
use Rattle.cv.specs.Strategy.{AcceptsAll, EndsBy, EndsWell, EndsWithout, HasFile, HoldsAlong, IsExpected, IsGood, IsSound, Judged, Leads, Proceeds, SpeaksOfFile, TakesSteps, declared_in, ends_under, file_in, game_in, is_games, moves_in, steps_in}
use Rattle.cv.specs.Words.{AreTold, IsLong, IsShort, command_of, source_asked, text_asked, without_library}
use Rattle.cv_outside.specs.words.Forms.{Asked, Games, Prove, Sample}
use Rattle.cv.proofs.Causing.{refusal_cause, where_told}
use Rattle.cv.proofs.Commands.{Speaks, speaks_under}
use Rattle.cv_follow.specs.Fillings.{StandsBy, StandsFor, has_word}
use Rattle.cv_follow.specs.Searches.{EndsSearch, Passes, by_limit, by_room, by_step, end_of_search, without_more}
use Rattle.cv_syntax_trees.proofs.lists.Options.{some_injective}
use Rattle.cv_report.specs.declared.report.Cause.TheVariants.{Moves, Stuck}
use Rattle.cv_report.specs.declared.report.Which.{Which}
use Rattle.cv.proofs.Verdicts.{judged_fault}

-- a good file is proved

script_proved : (s : Status) (f : Content) (steps : List Tree) → AcceptsAll f steps → Follows (content_nodes f) f.declarations f.own f.game steps (queries_in f.declarations) s → s ≡ status.Proved
script_proved s f steps g w = go w.left w.split w.ends
  where
    go : (left : List Tree) → steps ≡ map (λ t. t.step) w.proof ++ left → EndsScript (content_nodes f + nodes_along f.declarations (known_to f.own) f.game w.proof) (length w.proof) (scene f.declarations (known_to f.own) w.last) (closed_by w.proof) (queries_in f.declarations) left s → s ≡ status.Proved
    go [] i e = e ∙ ap ended_with (g.closed w.proof w.last (i ∙ append-nil (map (λ t. t.step) w.proof)) w.leads)
    go (next ∷ left) i e =
        let few : suc (length w.proof) ≤ most_steps = (
        let l = g.few in
        let m = ap length i ∙ length-append (map (λ t. t.step) w.proof) (next ∷ left) in
        let n = length-map w.proof (λ t. t.step) in
        omega arith
        ) in
        absurd (never_stops (content_nodes f + nodes_along f.declarations (known_to f.own) f.game w.proof) (length w.proof) (scene f.declarations (known_to f.own) w.last) (closed_by w.proof) next (g.goes w.proof w.last next left i w.leads) few s e)

-- a script without the word is followed itself
plain_follows : (f : Content) (block steps : List Tree) (room : ℕ) (s : Status) → has_word block ≡ false → StandsFor (content_nodes f) block steps room → Follows room f.declarations f.own f.game steps (queries_in f.declarations) s → Follows (content_nodes f) f.declarations f.own f.game block (queries_in f.declarations) s
plain_follows f block steps room s n h w =
    let both = subst (λ b. StandsBy b (content_nodes f) block steps room) n h in
    subst (λ k. Follows k f.declarations f.own f.game block (queries_in f.declarations) s) both.1
    (subst (λ ts. Follows room f.declarations f.own f.game ts (queries_in f.declarations) s) both.0 w)

file_proved : (c : Command) (s : Status) (f : Content) (script : Option (List Tree)) (steps : List Tree) → script ≡ Some steps → has_word steps ≡ false → AcceptsAll f steps → EndsBy c f script s → s ≡ ends_under c status.Proved
file_proved c s f None steps e n g h = absurd (cc)
file_proved c s f (Some given) steps e n g h =
    let same : steps ≡ given = sym (some_injective e) in
    h.ends ∙ ap (ends_under c) (script_proved h.walked f given (subst (AcceptsAll f) same g) (plain_follows f given h.steps h.room h.walked (ap has_word (sym same) ∙ n) h.stands h.follows))

good_proved : (c : Command) (s : Status) (source : Given) → IsGood source → IsExpected c (read_of most_pool source) s → s ≡ ends_under c status.Proved
good_proved c s source g h = file_proved c s g.content g.content.script g.steps g.script g.plain g.succeeds (subst (λ r. IsExpected c r s) (file_is_read most_pool source g.content g.file) h)

-- a pool has room for the proof block of a good file

good_room : (source : Given) (need : ℕ) → IsGood source → IsFull most_pool source need → ⊥
good_room source need g w =
    let same = full_content most_pool source need g.content w (file_is_read most_pool source g.content g.file) in
    let nodes = ap content_nodes same in
    let l = g.succeeds.fits in
    let o = w.lacks.over in
    let a = w.lacks.asked in
    let n = items_nodes w.lacks.script in
    omega arith

judged_well : (c : Command) (s : Status) (source : Given) → IsGood source → Judged c s source → (IsExpected c (read_of most_pool source) s → s ≡ ends_under c status.Proved) → EndsWell c s
judged_well c status.Memory source g j e = inr refl
judged_well c status.Proved source g j e = inl (e j)
judged_well c status.Done source g j e = inl (e j)
judged_well c (status.FileRefused fault) source g j e = inl (e j)
judged_well c (status.Limit (Pool need)) source g (inl j) e = inl (e j)
judged_well c (status.Limit (Pool need)) source g (inr j) e = absurd (good_room source need g j)
judged_well c (status.Limit (Tokens n)) source g j e = inl (e j)
judged_well c (status.Limit (Nodes n)) source g j e = inl (e j)
judged_well c (status.Limit (Depth n)) source g j e = inl (e j)
judged_well c (status.Limit Steps) source g j e = inl (e j)
judged_well c (status.Limit File) source g j e = inl (e j)
judged_well c (status.Open cause) source g j e = inl (e j)
judged_well c status.Words source g j e = inl (e j)
judged_well c status.Read source g j e = inl (e j)
judged_well c status.Write source g j e = inl (e j)

pub ends_well : (c : Command) (s r : Status) (source : Given) → IsComplete c source r → IsGood source → (s ≡ r) ⊎ (s ≡ status.Write) → s ≢ status.Write → EndsWell c s
ends_well c s r source k g (inl e) n = subst (EndsWell c) (sym e) (judged_well c r source g (k.short g.short) (good_proved c r source g))
ends_well c s r source k g (inr e) n = absurd (n e)

-- a source that is short isn't long
short_or_long : (source : Given) → IsShort source → IsLong source → ⊥
short_or_long source s (inl l) = let f = s.file in omega arith
short_or_long source s (inr l) = go source.library s.library l
  where
    go : (library : Option (List ℕ)) → IfSome library (λ bytes. length bytes ≤ most_bytes) → IsSomeAnd library (λ bytes. most_bytes < length bytes) → ⊥
    go None f l = l
    go (Some bytes) f l = omega arith

-- what is said of a told source
pub judged_complete : (c : Command) (told : Option Given) (source : Given) (s : Status) → AreTold told source → IsShort source → Judged c s source → IfSome told (λ (b : Given). IsComplete c b s)
judged_complete c told source s a l j = where_told told source (λ (b : Given). IsComplete c b s) a (record { short = λ k. j; long = λ k. absurd (short_or_long source l k) })

-- what is read speaks of a file, unless memory ran out

-- a script stops by a status that speaks of its file

stop_speaks : (taken count : ℕ) (sc : Scene) (ks : List ℕ) (step : Tree) (s : Status) → Stops taken count sc ks step s → SpeaksOfFile s
stop_speaks taken count sc ks step s (too_many l) = tt
stop_speaks taken count sc ks step s (refused c p l e) = tt
stop_speaks taken count sc ks step s (too_large n l e) = tt
stop_speaks taken count sc ks step s (too_deep n l e) = tt
stop_speaks taken count sc ks step s (no_room n l e) = tt

ended_speaks : (o : Option ℕ) → SpeaksOfFile (ended_with o)
ended_speaks None = tt
ended_speaks (Some k) = tt

follows_speak : (f : Content) (room : ℕ) (steps : List Tree) (s : Status) → Follows room f.declarations f.own f.game steps (queries_in f.declarations) s → SpeaksOfFile s
follows_speak f room steps s h = go h.left h.ends
  where
    go : (left : List Tree) → EndsScript (room + nodes_along f.declarations (known_to f.own) f.game h.proof) (length h.proof) (scene f.declarations (known_to f.own) h.last) (closed_by h.proof) (queries_in f.declarations) left s → SpeaksOfFile s
    go [] e = subst SpeaksOfFile (sym e) (ended_speaks (first_open (closed_by h.proof) 1 (queries_in f.declarations)))
    go (next ∷ left) e = stop_speaks _ _ _ _ next s e

-- so does a search

finish_speaks : (b : Bool) → SpeaksOfFile (if b then status.Open Stuck else status.Open Moves)
finish_speaks true = tt
finish_speaks false = tt

without_more_speaks : (moves made : ℕ) (o : Option ℕ) → SpeaksOfFile (end_of_search moves made o)
without_more_speaks moves made None = tt
without_more_speaks moves made (Some k) = finish_speaks (nat_lt made moves)

passes_speak : (taken count : ℕ) (sc : Scene) (ks : List ℕ) (which : Which) → Passes taken count sc ks which → SpeaksOfFile (status.Limit which)
passes_speak taken count sc ks which (by_step _ next h) = stop_speaks taken count sc ks next (status.Limit which) h
passes_speak taken count sc ks _ (by_room need l) = tt

search_speaks : (moves made taken : ℕ) (sc : Scene) (found : List Tree) (ks : List ℕ) (queries : List Tree) (s : Status) → EndsSearch moves made taken sc found ks queries s → SpeaksOfFile s
search_speaks moves made taken sc found ks queries _ without_more = without_more_speaks moves made (first_open ks 1 queries)
search_speaks moves made taken sc found ks queries _ (by_limit which h) = passes_speak taken (length found) sc ks which h

without_speaks : (f : Content) (games : Bool) (moves : ℕ) (s : Status) → EndsWithout games moves f s → Speaks s
without_speaks f true moves s h = inl h
without_speaks f false moves s h = inr (search_speaks _ _ _ _ _ _ _ s h.1.ends)

ends_speak : (c : Command) (f : Content) (script : Option (List Tree)) (s : Status) → EndsBy c f script s → Speaks s
ends_speak c f None s h = without_speaks f (is_games c) (moves_in c) s h
ends_speak c f (Some steps) s h = subst Speaks (sym h.ends) (speaks_under c h.walked (follows_speak f h.room h.steps h.walked h.follows))

-- a refusal ends a run that has no file and isn't done, and speaks of what is read unless memory ran out
abbrev EndsRefused : Status → Type 0
EndsRefused s = (HasFile s → ⊥) × (s ≢ status.Done) × ((s ≡ status.Memory) ⊎ SpeaksOfFile s)

refusal_ends : (x : FileError) → EndsRefused (ended_by x)
refusal_ends (fault.Lex x) = (λ h. h, λ e. (cc), inr tt)
refusal_ends (fault.LibraryLex x) = (λ h. h, λ e. (cc), inr tt)
refusal_ends (fault.Library x) = (λ h. h, λ e. (cc), inr tt)
refusal_ends (fault.Expand x) = (λ h. h, λ e. (cc), inr tt)
refusal_ends (fault.Tokens n) = (λ h. h, λ e. (cc), inr tt)
refusal_ends (fault.Parse (parse.Syntax k)) = (λ h. h, λ e. (cc), inr tt)
refusal_ends (fault.Parse (parse.Nesting k)) = (λ h. h, λ e. (cc), inr tt)
refusal_ends (fault.Parse (parse.NameTwice k)) = (λ h. h, λ e. (cc), inr tt)
refusal_ends (fault.Parse (parse.NameUnknown k)) = (λ h. h, λ e. (cc), inr tt)
refusal_ends (fault.Parse (parse.Build (build.Full n))) = (λ h. h, λ e. (cc), inr tt)
refusal_ends (fault.Parse (parse.Build (build.Nodes n))) = (λ h. h, λ e. (cc), inr tt)
refusal_ends (fault.Parse (parse.Build (build.Depth n))) = (λ h. h, λ e. (cc), inr tt)
refusal_ends (fault.Parse (parse.Build build.OutOfMemory)) = (λ h. h, λ e. (cc), inl refl)
refusal_ends (fault.Script k) = (λ h. h, λ e. (cc), inr tt)
refusal_ends (fault.Types x) = (λ h. h, λ e. (cc), inr tt)
refusal_ends (fault.Scope x) = (λ h. h, λ e. (cc), inr tt)
refusal_ends (fault.Group k x) = (λ h. h, λ e. (cc), inr tt)
refusal_ends (fault.Query k) = (λ h. h, λ e. (cc), inr tt)
refusal_ends (fault.Room need) = (λ h. h, λ e. (cc), inr tt)
refusal_ends fault.OutOfMemory = (λ h. h, λ e. (cc), inl refl)

-- of two kinds of statuses, the second speaks
refused_speaks : (s : Status) → (s ≡ status.Memory) ⊎ SpeaksOfFile s → (s ≡ status.Memory) ⊎ Speaks s
refused_speaks s (inl m) = inl m
refused_speaks s (inr h) = inr (inr h)

expected_speaks : (c : Command) (s : Status) (r : Result Content FileError) → IsExpected c r s → (s ≡ status.Memory) ⊎ Speaks s
expected_speaks c s (Ok f) h = inr (ends_speak c f f.script s h)
expected_speaks c s (Err x) h = subst (λ y. (y ≡ status.Memory) ⊎ Speaks y) (sym h) (refused_speaks (ended_by x) (refusal_ends x).2)

pub judged_speaks : (c : Command) (s : Status) (source : Given) → Judged c s source → (s ≡ status.Memory) ⊎ Speaks s
judged_speaks c status.Memory source j = inl refl
judged_speaks c status.Proved source j = expected_speaks c status.Proved (read_of most_pool source) j
judged_speaks c status.Done source j = inr (inl refl)
judged_speaks c (status.Open x) source j = expected_speaks c (status.Open x) (read_of most_pool source) j
judged_speaks c (status.FileRefused f) source j = expected_speaks c (status.FileRefused f) (read_of most_pool source) j
judged_speaks c status.Words source j = expected_speaks c status.Words (read_of most_pool source) j
judged_speaks c status.Read source j = expected_speaks c status.Read (read_of most_pool source) j
judged_speaks c status.Write source j = expected_speaks c status.Write (read_of most_pool source) j
judged_speaks c (status.Limit (Pool need)) source (inl j) = expected_speaks c (status.Limit (Pool need)) (read_of most_pool source) j
judged_speaks c (status.Limit (Pool need)) source (inr j) = inr (inr tt)
judged_speaks c (status.Limit (Tokens n)) source j = expected_speaks c (status.Limit (Tokens n)) (read_of most_pool source) j
judged_speaks c (status.Limit (Nodes n)) source j = expected_speaks c (status.Limit (Nodes n)) (read_of most_pool source) j
judged_speaks c (status.Limit (Depth n)) source j = expected_speaks c (status.Limit (Depth n)) (read_of most_pool source) j
judged_speaks c (status.Limit Steps) source j = expected_speaks c (status.Limit Steps) (read_of most_pool source) j
judged_speaks c (status.Limit File) source j = expected_speaks c (status.Limit File) (read_of most_pool source) j

-- neither Words nor Write
pub speaks_never : (s : Status) → (s ≡ status.Memory) ⊎ Speaks s → (s ≢ status.Words) × (s ≢ status.Write)
speaks_never s (inl m) = (λ e. (let h = sym m ∙ e in cc), λ e. (let h = sym m ∙ e in cc))
speaks_never s (inr (inl d)) = (λ e. (let h = sym d ∙ e in cc), λ e. (let h = sym d ∙ e in cc))
speaks_never s (inr (inr h)) = (λ e. subst SpeaksOfFile e h, λ e. subst SpeaksOfFile e h)

-- reports without a file

pub sound_without : (r : Report) → r.file ≡ None → IsSound r
sound_without r e = subst (λ (o : Option SourceFile). IfSome o (λ f. (c : Course) → TakesSteps r f c → HoldsAlong r f c)) (sym e) tt

pub close_without : (r : Report) → r.file ≡ None → HasCloseGames r
close_without r e = subst (λ (o : Option SourceFile). IfSome o (λ f. (c : Course) → Leads r f c → AreClose r f c)) (sym e) tt

pub steps_without : (r : Report) → r.file ≡ None → HasCloseSteps r
steps_without r e = subst (λ (o : Option SourceFile). IfSome o (λ f. (c : Course) → Leads r f c → AreCloseSteps r f c)) (sym e) tt

pub calls_without : (r : Report) → r.file ≡ None → HasBoundedCalls r
calls_without r e = subst (λ (o : Option SourceFile). IfSome o (λ f. (c : Course) → Leads r f c → AreBoundedCalls r f c)) (sym e) tt

-- the course of no file
abbrev pub nowhere : Course
nowhere = course_at Empty

-- no file is read from a source, the told one where there is any
abbrev told_source : Option Given → Given
told_source None = without_library []
told_source (Some source) = source

are_told : (told : Option Given) → AreTold told (told_source told)
are_told None = tt
are_told (Some source) = refl

answers_of : (told : Option Given) (source : Given) (r : Report) → AreTold told source → r.file ≡ None → SaysNothing r → (HasFile r.status → ⊥) → (r.command ≡ command.Games → r.status ≡ status.Done → ⊥) → (SpeaksOfFile r.status → Judged r.command r.status source) → Answers told r nowhere
answers_of told source r a e n h d j = record {
  source = source;
  agree = a;
  short = λ s. absurd (without s);
  names = 0;
  file = subst (λ (o : Option SourceFile). IfSome o (λ f. IsFile most_pool source (file_in r f 0))) (sym e) tt;
  course = subst (λ (o : Option SourceFile). IfSome o (λ f. IsCourse (is_without_block (steps_in r)) (declared_in r) r.work.decls.own (game_in r f) (names_in r 0) nowhere)) (sym e) tt;
  drawn = λ s n. absurd (without s);
  follows = subst (λ (o : Option SourceFile). MatchOption o (SaysNothing r) (λ f. Proceeds r f nowhere (steps_in r))) (sym e) n;
  given = λ s. absurd (h s);
  only = λ s. absurd (without s);
  shown = λ g s. absurd (d g s);
  judged = j;
}
  where
    without : IsSome r.file → ⊥
    without s = let t = subst (λ (o : Option SourceFile). IsSome o) e s in cc

answers_without : (told : Option Given) (r : Report) → r.file ≡ None → SaysNothing r → (HasFile r.status → ⊥) → (r.command ≡ command.Games → r.status ≡ status.Done → ⊥) → (SpeaksOfFile r.status → ⊥) → Answers told r nowhere
answers_without told r e n h d j = answers_of told (told_source told) r (are_told told) e n h d (λ s. absurd (j s))

-- no lines are put of them

nothing_put : (before : Option (List ℕ)) → TakesAll before before []
nothing_put None = tt
nothing_put (Some first) = sym (append-nil first)

and_false : (b : Bool) → (b && false) ≡ false
and_false true = refl
and_false false = refl

nothing_streamed : (l : Lines) (before : Option (List ℕ)) (old : ℕ) (s : Stream) → l.legs ≡ [] → IsSilent s → Streams false l before before old old s
unfolding games_along
nothing_streamed l before old s n q = record {
  later = omega arith;
  shown = q.shows;
  order = λ f e. absurd (cc);
  steps = q.steps ∙ sym (ap length n);
  game = q.game ∙ sym (ap (games_along 2) n);
  put = subst (λ (f : Flow). IsPut f before before old old []) (sym q.flow) (nothing_put before);
}

begins_without : (o : Outside) (before : Option (List ℕ)) (old : ℕ) (s : Stream) (r : Report) → r.file ≡ None → IsSilent s → Answers o.told r nowhere → ComesFrom o r nowhere r.status → Begins o before before old old s r
unfolding legs_of
begins_without o before old s r e q answers cause = record {
  course = nowhere;
  answers = answers;
  cause = cause;
  streams = subst (λ (x : Option SourceFile). Streams (is_streamed r.command && is_some x) (lines_by r answers.names nowhere x) before before old old s) (sym e)
      (subst (λ (b : Bool). Streams b (lines_by r answers.names nowhere None) before before old old s) (sym (and_false (is_streamed r.command))) (nothing_streamed (lines_by r answers.names nowhere None) before old s refl q));
}

pub memory_begins : (o : Outside) (before : Option (List ℕ)) (old : ℕ) (s : Stream) (r : Report) → r.file ≡ None → SaysNothing r → IsSilent s → r.status ≡ status.Memory → Begins o before before old old s r
memory_begins o before old s r e n q m =
    begins_without o before old s r e q (answers_without o.told r e n (λ h. subst HasFile m h) (λ g d. (let h = sym m ∙ d in cc)) (λ h. subst SpeaksOfFile m h)) (subst (ComesFrom o r nowhere) (sym m) cause.memory)

-- bytes that are refused
pub refusal_begins : (o : Outside) (before : Option (List ℕ)) (old : ℕ) (s : Stream) (r : Report) (source : Given) (x : FileError) → AreTold o.told source → Refuses most_pool source x → r.status ≡ ended_by x → r.file ≡ None → SaysNothing r → IsSilent s → Begins o before before old old s r
refusal_begins o before old s r source x a f m e n q =
    begins_without o before old s r e q
    (answers_of o.told source r a e n (λ h. (refusal_ends x).0 (subst HasFile m h)) (λ g d. (refusal_ends x).1 (sym m ∙ d)) (λ h. subst (λ y. Judged r.command y source) (sym m) (judged_fault r.command x source f)))
    (subst (ComesFrom o r nowhere) (sym m) (refusal_cause o r nowhere source a e x f))

-- a file that isn't fetched

abbrev EndsUnread : Status → Type 0
EndsUnread s = (HasFile s → ⊥) × (s ≢ status.Done) × (SpeaksOfFile s → ⊥) × (s ≢ status.Words) × (s ≢ status.Write)

unread_ends : (x : FetchError) → EndsUnread (fetch_ended x)
unread_ends fetch.Failed = (λ h. h, λ e. (cc), λ h. h, λ e. (cc), λ e. (cc))
unread_ends fetch.Long = (λ h. h, λ e. (cc), λ h. h, λ e. (cc), λ e. (cc))
unread_ends fetch.OutOfMemory = (λ h. h, λ e. (cc), λ h. h, λ e. (cc), λ e. (cc))

fetch_cause : (o : Outside) (r : Report) (x : FetchError) → (x ≡ fetch.Failed → Rose o.before o.after) → (x ≡ fetch.Long → IfSome o.told IsLong) → ComesFrom o r nowhere (fetch_ended x)
fetch_cause o r fetch.Failed f l = cause.read (f refl)
fetch_cause o r fetch.Long f l = cause.long (l refl)
fetch_cause o r fetch.OutOfMemory f l = cause.memory

pub fetch_begins : (o : Outside) (before : Option (List ℕ)) (old : ℕ) (s : Stream) (r : Report) (x : FetchError) → (x ≡ fetch.Failed → Rose o.before o.after) → (x ≡ fetch.Long → IfSome o.told IsLong) → r.status ≡ fetch_ended x → r.file ≡ None → SaysNothing r → IsSilent s → Begins o before before old old s r
fetch_begins o before old s r x f l m e n q =
    begins_without o before old s r e q (answers_without o.told r e n (λ h. (unread_ends x).0 (subst HasFile m h)) (λ g d. (unread_ends x).1 (sym m ∙ d)) (λ h. (unread_ends x).2 (subst SpeaksOfFile m h)))
    (subst (ComesFrom o r nowhere) (sym m) (fetch_cause o r x f l))

pub fetch_never : (x : FetchError) → (fetch_ended x ≢ status.Words) × (fetch_ended x ≢ status.Write)
fetch_never x = ((unread_ends x).3, (unread_ends x).4)

pub fetch_complete : (c : Command) (told : Option Given) (x : FetchError) (before after : ℕ) → (x ≡ fetch.Failed → Rose before after) → (x ≡ fetch.Long → IfSome told IsLong) → NoFault before after → IfSome told (λ (b : Given). IsComplete c b (fetch_ended x))
fetch_complete c None x before after f l n = tt
fetch_complete c (Some b) fetch.Failed before after f l n = absurd (n (f refl))
fetch_complete c (Some b) fetch.Long before after f l n = record { short = λ k. absurd (short_or_long b k (l refl)); long = λ k. inl refl }
fetch_complete c (Some b) fetch.OutOfMemory before after f l n = record { short = λ k. tt; long = λ k. inr refl }

-- words that give no command, and a sample whose text is asked for

pub words_begins : (o : Outside) (before : Option (List ℕ)) (old : ℕ) (s : Stream) (r : Report) → r.file ≡ None → SaysNothing r → IsSilent s → r.status ≡ status.Words → o.asked ≡ None → Begins o before before old old s r
words_begins o before old s r e n q m w =
    begins_without o before old s r e q (answers_without o.told r e n (λ h. subst HasFile m h) (λ g d. (let h = sym m ∙ d in cc)) (λ h. subst SpeaksOfFile m h))
    (subst (ComesFrom o r nowhere) (sym m) (cause.words (subst (λ (a : Option Asked). IsNone a) (sym w) refl)))

pub text_begins : (o : Outside) (before : Option (List ℕ)) (old : ℕ) (s : Stream) (r : Report) (asked : Asked) (k : ℕ) → r.file ≡ None → SaysNothing r → IsSilent s → (r.command ≡ command.Games → ⊥) → r.status ≡ status.Done → o.asked ≡ Some asked → text_asked asked ≡ Some k → Begins o before before old old s r
text_begins o before old s r asked k e n q g m w t =
    begins_without o before old s r e q (answers_without o.told r e n (λ h. subst HasFile m h) (λ c d. g c) (λ h. subst SpeaksOfFile m h))
    (subst (ComesFrom o r nowhere) (sym m)
    (cause.sampled (subst (λ (a : Option Asked). IsSome (option_and_then text_asked a)) (sym w) (subst (λ (x : Option ℕ). IsSome x) (sym t) refl))))

-- where no bytes are told nothing is called for
pub untold_complete : (told : Option Given) (P : Given → Type 0) → told ≡ None → IfSome told P
untold_complete told P e = subst (λ (t : Option Given). IfSome t P) (sym e) tt

pub text_untold : (told : Option Files) (asked : Asked) (n : ℕ) → text_asked asked ≡ Some n → source_asked told (Some asked) ≡ None
text_untold told (Prove file moves more library query) n e = absurd (cc)
text_untold told (Games file library) n e = absurd (cc)
text_untold told (Sample m true) n e = absurd (cc)
text_untold told (Sample m false) n e = refl

pub text_no_games : (asked : Asked) (n : ℕ) → text_asked asked ≡ Some n → command_of (Some asked) ≡ command.Games → ⊥
text_no_games (Prove file moves more library query) n e g = absurd (cc)
text_no_games (Games file library) n e g = absurd (cc)
text_no_games (Sample m true) n e g = absurd (cc)
text_no_games (Sample m false) n e g = (cc)

-- want of memory is complete
pub memory_complete : (c : Command) (told : Option Given) (s : Status) → s ≡ status.Memory → IfSome told (λ (b : Given). IsComplete c b s)
memory_complete c None s e = tt
memory_complete c (Some b) s e = subst (λ (x : Status). IsComplete c b x) (sym e) (record { short = λ k. tt; long = λ k. inr refl })

pub ruleset without_file = (sound_without, close_without, steps_without, calls_without, memory_begins, words_begins, text_begins, text_untold, text_no_games, untold_complete)
