use Rattle.std.proofs.Common.{◌≡◌, List, drop}
use Rattle.cv_pool.specs.KindTree.{KindTree}
use Rattle.cv_syntax_trees.specs.Tree.{chain}
use Rattle.cv_scene.specs.lines.Given.{term_for}
use Rattle.cv_settling.specs.Putting.{names_of, terms_of}
use Rattle.cv_settling.proofs.terms.given_for.Given as goal

abbrev pub invariant-loop-there : goal.invariant-loop-there
invariant-loop-there l =
    (trees : List KindTree) → term_for (names_of (drop l.there-index l.given)) (chain (terms_of trees (drop l.there-index l.given))) l.name ≡ term_for (names_of l.given) (chain (terms_of trees l.given)) l.name
