-- What the equations of truth values make of a term, where they make it smaller. This profile's own.
use Rattle.std.specs.Prelude.{if◌then◌else◌}
use Rattle.cv_syntax_trees.specs.declared.head.Head.TheVariants.{And, Eq, Not, Or}
use Rattle.cv_syntax_trees.specs.Tree.{Tree, Node, first, same_tree}
use Rattle.cv_scene.specs.lines.Truths.{no, yes}

abbrev pub opposite : Tree → Tree
opposite m = if same_tree m yes then no else if same_tree m no then yes else first m

abbrev pub shorter : Tree → Tree
shorter (Node Eq m n) = if same_tree n yes then m else yes
shorter (Node And m n) = if same_tree m yes then n else if same_tree n yes then m else no
shorter (Node Or m n) = if same_tree m no then n else if same_tree n no then m else yes
shorter (Node Not m e) = opposite m
shorter t = t
