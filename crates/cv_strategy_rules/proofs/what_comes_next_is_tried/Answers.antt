use Rattle.std.proofs.Common.{ℕ, List}
use Rattle.cv_syntax_trees.specs.Tree.{Tree}
use Rattle.cv_scene.specs.Scenes.{Scene}
use Rattle.cv_settling_rules.specs.Candidates.{Candidate}
use Rattle.cv_strategy_rules.specs.Coming.{Closing, ComesNext, IsTried, Kind, Moving, Settling}
use Rattle.cv_strategy_rules.specs.Settling.{MaySettle, Settles}
use Rattle.cv_strategy_rules.proofs.what_comes_next_is_tried.Goals as goal

may_settle : (s : Scene) (c : Candidate) → Settles s c → MaySettle s c
may_settle s c t = record { by = t.by; next = t.next; leads = t.legal.leads; lower = t.lower }

tried : (s : Scene) (closed : List ℕ) (kind : Kind) (step : Tree) → ComesNext s closed kind step → IsTried s closed kind step
tried s closed Settling t (c, first, of) = (c, first.behind, may_settle s c first.settles, of)
tried s closed Closing t n = n
tried s closed Moving t (due, m, first, of) = (due, m, first.behind, of)

pub returns : goal.returns
returns c = tried
