-- How runs end under a command.
use Rattle.std.proofs.Common.{◌≡◌, ℕ, true, List, refl, ◌⊎◌, inl, inr}
use Rattle.cv_syntax_trees.specs.Tree.{Tree}
use Rattle.cv_follow.specs.Scripts.{Stops, no_room, refused, too_deep, too_large, too_many}
use Rattle.cv_report.specs.declared.report.Cause.TheVariants.{Moves, NoClose, StepRefused, Stuck}
use Rattle.cv_report.specs.declared.report.Command.{Command}
use Rattle.cv_report.specs.declared.report.Command.TheVariants as command
use Rattle.cv_report.specs.declared.report.Status.{Status}
use Rattle.cv_report.specs.declared.report.Status.TheVariants as status
use Rattle.cv_report.specs.declared.report.Which.TheVariants.{Depth, File as FileLimit, Nodes, Pool, Steps, Tokens}
use Rattle.cv_scene.specs.Scenes.{Scene}
use Rattle.cv.specs.Strategy.{MayHaveFile, SpeaksOfFile, ends_under, is_games, shown}

pub games_is : (c : Command) → is_games c ≡ true → c ≡ command.Games
games_is command.Games e = refl
games_is (command.Prove n more query) e = absurd (cc)
games_is (command.Sample n p) e = absurd (cc)
games_is command.Nothing e = absurd (cc)

-- a step that isn't accepted ends each command alike

shown_stops : (taken count : ℕ) (sc : Scene) (ks : List ℕ) (step : Tree) (s : Status) → Stops taken count sc ks step s → shown s ≡ s
shown_stops taken count sc ks step s (too_many l) = refl
shown_stops taken count sc ks step s (refused c p l e) = refl
shown_stops taken count sc ks step s (too_large n l e) = refl
shown_stops taken count sc ks step s (too_deep n l e) = refl
shown_stops taken count sc ks step s (no_room n l e) = refl

pub stops_under : (c : Command) (taken count : ℕ) (sc : Scene) (ks : List ℕ) (step : Tree) (s : Status) → Stops taken count sc ks step s → ends_under c s ≡ s
stops_under command.Games taken count sc ks step s h = shown_stops taken count sc ks step s h
stops_under (command.Prove n more query) taken count sc ks step s h = refl
stops_under (command.Sample n p) taken count sc ks step s h = refl
stops_under command.Nothing taken count sc ks step s h = refl

-- a run over a file may end so under each command

shown_may : (s : Status) → MayHaveFile s → MayHaveFile (shown s)
shown_may status.Proved h = tt
shown_may status.Done h = tt
shown_may (status.Open (NoClose k)) h = tt
shown_may (status.Open (StepRefused k c p)) h = tt
shown_may (status.Open Stuck) h = tt
shown_may (status.Open Moves) h = tt
shown_may (status.FileRefused f) h = h
shown_may status.Words h = h
shown_may status.Read h = h
shown_may status.Write h = h
shown_may status.Memory h = h
shown_may (status.Limit FileLimit) h = h
shown_may (status.Limit (Tokens n)) h = h
shown_may (status.Limit (Nodes n)) h = tt
shown_may (status.Limit (Depth n)) h = tt
shown_may (status.Limit Steps) h = tt
shown_may (status.Limit (Pool n)) h = tt

pub may_under : (c : Command) (s : Status) → MayHaveFile s → MayHaveFile (ends_under c s)
may_under command.Games s h = shown_may s h
may_under (command.Prove n more query) s h = h
may_under (command.Sample n p) s h = h
may_under command.Nothing s h = h

-- a status speaks of a file, or tells that `games` is done
abbrev pub Speaks : Status → Type 0
Speaks s = (s ≡ status.Done) ⊎ SpeaksOfFile s

shown_speaks : (s : Status) → SpeaksOfFile s → Speaks (shown s)
shown_speaks status.Proved h = inl refl
shown_speaks status.Done h = absurd h
shown_speaks (status.Open (NoClose k)) h = inl refl
shown_speaks (status.Open (StepRefused k c p)) h = inr tt
shown_speaks (status.Open Stuck) h = inr tt
shown_speaks (status.Open Moves) h = inr tt
shown_speaks (status.FileRefused f) h = inr tt
shown_speaks status.Words h = absurd h
shown_speaks status.Read h = absurd h
shown_speaks status.Write h = absurd h
shown_speaks status.Memory h = absurd h
shown_speaks (status.Limit FileLimit) h = absurd h
shown_speaks (status.Limit (Tokens n)) h = inr tt
shown_speaks (status.Limit (Nodes n)) h = inr tt
shown_speaks (status.Limit (Depth n)) h = inr tt
shown_speaks (status.Limit Steps) h = inr tt
shown_speaks (status.Limit (Pool n)) h = inr tt

pub speaks_under : (c : Command) (s : Status) → SpeaksOfFile s → Speaks (ends_under c s)
speaks_under command.Games s h = shown_speaks s h
speaks_under (command.Prove n more query) s h = inr h
speaks_under (command.Sample n p) s h = inr h
speaks_under command.Nothing s h = inr h

-- memory ends each command alike
pub memory_under : (c : Command) → ends_under c status.Memory ≡ status.Memory
memory_under command.Games = refl
memory_under (command.Prove n more query) = refl
memory_under (command.Sample n p) = refl
memory_under command.Nothing = refl
