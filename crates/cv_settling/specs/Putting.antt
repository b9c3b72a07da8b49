-- A tree with terms for names, as the code has these: a list of names, each with the node of its term. This profile's own.
use Rattle.std.specs.Prelude.{ℕ, List, map, Some}
use Rattle.cv_pool.specs.KindTree.{KindTree}
use Rattle.cv_syntax_trees.specs.Tree.{Tree, chain}
use Rattle.cv_syntax.specs.PoolTrees.{tree_at}
use Rattle.cv_scene.specs.lines.Given.{with_given}
use Rattle.cv_settling.specs.declared.terms.Given.{Given}

abbrev pub names_of : List Given → List ℕ
names_of gs = map (λ (g : Given). g.name) gs

abbrev pub terms_of : List KindTree → List Given → List Tree
terms_of trees gs = map (λ (g : Given). tree_at trees (Some g.term)) gs

abbrev pub put_in : List KindTree → List Given → Tree → Tree
put_in trees gs t = with_given (names_of gs) (chain (terms_of trees gs)) t
