-- A game under other names has equal chances.
use Rattle.std.proofs.Common.{◌≡◌, ℕ, Bool, List, inl, sym, subst}
use Rattle.cv_syntax_trees.specs.Tree.{Tree}
use Rattle.cv_meaning.specs.Tapes.{Cell, Tape}
use Rattle.cv_meaning.specs.Interpretation.{Setting}
use Rattle.cv_meaning.specs.Runs.{Adversary}
use Rattle.cv_meaning.specs.Cells.{cells}
use Rattle.cv_meaning.specs.Experiments.{Experiment, mode_of, holds_on}
use Rattle.cv_meaning.specs.Chances.{Same}
use Rattle.cv_meaning.specs.Advantage.{chance_of}
use Rattle.cv_meaning_chances.specs.Tests.{IsCoveredFor, renamed}
use Rattle.cv_meaning_chances.proofs.alignment.Closing.{equal_under_names}
use Rattle.cv_steps_laws.specs.renaming.Naming.{with_names, cell_with_name, IsNaming, KeepsTested}
use Rattle.cv_steps_laws.proofs.renaming.Services.{holds_under}
use Rattle.cv_steps_laws.proofs.renaming.Cells.{one_to_one, cells_under}

covered : (p : Tape → Bool) (cs ds : List (Cell × ℕ)) → cs ≡ ds → IsCoveredFor p cs ds
covered p cs ds e = subst (IsCoveredFor p cs) e (λ c k. inl k)

pub chances_under : (g : Setting) (name : ℕ → ℕ) (x : Experiment) (a : Adversary) (game : Tree) → IsNaming g name → KeepsTested name (mode_of x) → Same (chance_of g x a game) (chance_of g x a (with_names name game))
chances_under g name x a game fine kept =
    let e : cells g (mode_of x) a (with_names name game) ≡ renamed (cell_with_name name) (cells g (mode_of x) a game) = cells_under g name fine (mode_of x) kept a game in
    equal_under_names g g x x a (cell_with_name name) game (with_names name game) (one_to_one g name fine)
    (λ t. holds_under g name fine t x a game kept)
    (covered (holds_on g x a (with_names name game)) _ _ (sym e)) (covered (holds_on g x a (with_names name game)) _ _ e)
