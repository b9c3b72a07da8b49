-- How a run ends that followed a script, or that found steps.
use Rattle.std.proofs.Common.{ℕ, ◌+◌, nat_lt, Bool, true, false, if◌then◌else◌, List, [], ◌∷◌, length, sym, subst, Option, Some, None}
use Rattle.cv_syntax_trees.specs.Tree.{Tree}
use Rattle.cv_report.specs.declared.report.Cause.TheVariants.{Moves, Stuck}
use Rattle.cv_report.specs.declared.report.Status.{Status}
use Rattle.cv_report.specs.declared.report.Status.TheVariants as status
use Rattle.cv_report.specs.declared.report.Which.{Which}
use Rattle.cv_scene.specs.Scenes.{Scene}
use Rattle.cv_report.specs.verdicts.Verdicts.{ended_with}
use Rattle.cv_follow.specs.Scripts.{EndsScript, Stops, first_open, no_room, refused, too_deep, too_large, too_many}
use Rattle.cv_follow.specs.Searches.{EndsSearch, Passes, by_limit, by_room, by_step, end_of_search, without_more}
use Rattle.cv.specs.Strategy.{MayHaveFile}

-- how a run ends that followed a script

stops_may : (taken count : ℕ) (s : Scene) (ks : List ℕ) (step : Tree) (end : Status) → Stops taken count s ks step end → MayHaveFile end
stops_may taken count s ks step end (too_many k) = tt
stops_may taken count s ks step end (refused condition place k e) = tt
stops_may taken count s ks step end (too_large nodes k e) = tt
stops_may taken count s ks step end (too_deep depth k e) = tt
stops_may taken count s ks step end (no_room need k r) = tt

ended_may : (o : Option ℕ) → MayHaveFile (ended_with o)
ended_may None = tt
ended_may (Some k) = tt

pub ends_may : (taken count : ℕ) (s : Scene) (ks : List ℕ) (queries left : List Tree) (end : Status) → EndsScript taken count s ks queries left end → MayHaveFile end
ends_may taken count s ks queries [] end h = subst MayHaveFile (sym h) (ended_may (first_open ks 1 queries))
ends_may taken count s ks queries (step ∷ left) end h = stops_may taken count s ks step end h

-- how a search ends

finish_may : (b : Bool) → MayHaveFile (if b then status.Open Stuck else status.Open Moves)
finish_may true = tt
finish_may false = tt

without_more_may : (moves made : ℕ) (o : Option ℕ) → MayHaveFile (end_of_search moves made o)
without_more_may moves made None = tt
without_more_may moves made (Some k) = finish_may (nat_lt made moves)

passes_may : (taken count : ℕ) (s : Scene) (ks : List ℕ) (which : Which) → Passes taken count s ks which → MayHaveFile (status.Limit which)
passes_may taken count s ks which (by_step _ next h) = stops_may taken count s ks next (status.Limit which) h
passes_may taken count s ks _ (by_room need l) = tt

pub search_may : (moves made taken : ℕ) (s : Scene) (found : List Tree) (ks : List ℕ) (queries : List Tree) (end : Status) → EndsSearch moves made taken s found ks queries end → MayHaveFile end
search_may moves made taken s found ks queries _ without_more = without_more_may moves made (first_open ks 1 queries)
search_may moves made taken s found ks queries _ (by_limit which h) = passes_may taken (length found) s ks which h
