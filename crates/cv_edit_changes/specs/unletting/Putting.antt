-- A tree without the definitions of a variable, with a term in place of each read of it, in one walk.
use Rattle.std.specs.Prelude.{ℕ, if◌then◌else◌, List}
use Rattle.cv_syntax_trees.specs.Tree.{Tree, Empty, Node}
use Rattle.cv_meaning.specs.Still.{defines}
use Rattle.cv_scene.specs.lines.Given.{with_given}
use Rattle.cv_scene.specs.Scenes.{head_reads}
use Rattle.cv_steps.specs.Changes.{only}

-- the term has the index terms of the read for these indices
unfoldable pub put_in : (x : ℕ) → (indices : List ℕ) → (term : Tree) → Tree → Tree
put_in x is m Empty = Empty
put_in x is m (Node h a b) =
    if head_reads x h then with_given is a m
    else if defines (only x) h then put_in x is m b else Node h (put_in x is m a) (put_in x is m b)
