-- How the code sees the lines of a derivation.
use Rattle.std.specs.Prelude.{ℕ, List}
use Rattle.cv_pool.specs.KindTree.{KindTree}
use Rattle.cv_pool.specs.Nodes.{ChildBelow}
use Rattle.cv_syntax_trees.specs.declared.head.Head.TheVariants as head
use Rattle.cv_syntax_trees.specs.Tree.{Tree, Empty, Node}
use Rattle.cv_syntax.specs.PoolTrees.{tree_at}
use Rattle.cv_scene.specs.lines.Lines.{Lines, By, Cases, Statement, Holds, IsDefined, lines_of}
use Rattle.cv_derive_lines.specs.declared.lines.Line.{Line}
use Rattle.cv_derive_lines.specs.declared.lines.Line.TheVariants as line
use Rattle.cv_derive_lines.specs.declared.lines.Claim.{Claim}
use Rattle.cv_derive_lines.specs.declared.lines.Claim.TheVariants as claim

abbrev pub statement_of : List KindTree → Claim → Statement
statement_of trees (claim.Holds t) = Holds (tree_at trees t)
statement_of trees (claim.IsDefined c) = IsDefined (tree_at trees c)

-- a line in front of others
abbrev pub in_front : List KindTree → Line → Lines → Lines
in_front trees (line.By t r) rest = By (statement_of trees t) (tree_at trees r) rest
in_front trees (line.Cases c d e u) rest = Cases (tree_at trees c) (lines_of (tree_at trees d)) (lines_of (tree_at trees e)) (tree_at trees u) rest

-- the line of an item in front of others
abbrev pub front : Tree → Lines → Lines
front (Node head.Line t r) rest = By (Holds t) r rest
front (Node head.Defined t r) rest = By (IsDefined t) r rest
front (Node head.Cases t (Node d first (Node e second u))) rest = Cases t (lines_of first) (lines_of second) u rest
front t rest = By (Holds Empty) Empty rest

-- the nodes of a line are below a number

abbrev pub IsClaimBelow : ℕ → Claim → Type 0
IsClaimBelow n (claim.Holds t) = ChildBelow n t
IsClaimBelow n (claim.IsDefined c) = ChildBelow n c

abbrev pub AreBelow : ℕ → Line → Type 0
AreBelow n (line.By t r) = IsClaimBelow n t × ChildBelow n r
AreBelow n (line.Cases c d e u) = ChildBelow n c × ChildBelow n d × ChildBelow n e × ChildBelow n u
