-- The trees of lines and of their reasons.
use Rattle.std.specs.Prelude.{ℕ, ◌<◌, List, [], ◌∷◌, map, All}
use Rattle.cv_syntax_trees.specs.declared.head.Head.TheVariants as head
use Rattle.cv_syntax_trees.specs.Tree.{Tree, chain}
use Rattle.cv_syntax.specs.PoolTrees.{tree_at}
use Rattle.cv_pool.specs.KindTree.{KindTree}
use Rattle.cv_pool.specs.Nodes.{ChildBelow}
use Rattle.cv_pool.specs.declared.node.NodeId.{NodeId}
use Rattle.cv_step_writer.specs.declared.lines.Reason.{Reason}
use Rattle.cv_step_writer.specs.declared.lines.Reason.TheVariants as reason
use Rattle.cv_step_writer.specs.declared.lines.Line.{Line}
use Rattle.cv_step_writer.specs.declared.lines.Line.TheVariants as line
use Rattle.cv_step_writer.specs.Items.{number, numbers, over, term, terms}

abbrev pub reason_tree : List KindTree → Reason → Tree
reason_tree trees (reason.Fact k) = over head.ByFact (number k ∷ [])
reason_tree trees reason.Here = over head.ByHere []
reason_tree trees (reason.Of l) = over head.ByOf (number l ∷ [])
reason_tree trees (reason.Site l k) = over head.BySite (number l ∷ number k ∷ [])
reason_tree trees (reason.Equation k ms) = over head.ByEquation (number k ∷ terms trees ms.items ∷ [])
reason_tree trees reason.Refl = over head.ByRefl []
reason_tree trees (reason.Sym l) = over head.BySym (number l ∷ [])
reason_tree trees (reason.Trans l m) = over head.ByTrans (number l ∷ number m ∷ [])
reason_tree trees (reason.Cong ls) = over head.ByCong (numbers ls.items ∷ [])
reason_tree trees (reason.Mp l m) = over head.ByMp (number l ∷ number m ∷ [])
reason_tree trees (reason.And l m) = over head.ByAnd (number l ∷ number m ∷ [])
reason_tree trees (reason.Left l) = over head.ByLeft (number l ∷ [])
reason_tree trees (reason.Right l) = over head.ByRight (number l ∷ [])
reason_tree trees (reason.Contra l m) = over head.ByContra (number l ∷ number m ∷ [])
reason_tree trees (reason.Exfalso l) = over head.ByExfalso (number l ∷ [])
reason_tree trees reason.Data = over head.ByData []
reason_tree trees reason.Given = over head.ByGiven []
reason_tree trees (reason.Again l) = over head.ByAgain (number l ∷ [])
reason_tree trees reason.Bool = over head.ByBool []
reason_tree trees (reason.OtherFact k) = over head.ByOtherFact (number k ∷ [])
reason_tree trees reason.OtherHere = over head.ByOtherHere []
reason_tree trees (reason.Same k) = over head.BySame (number k ∷ [])
reason_tree trees (reason.Distinct l d e k) = over head.ByDistinct (number l ∷ number d ∷ number e ∷ number k ∷ [])
reason_tree trees (reason.Late l ls) = over head.ByLate (number l ∷ numbers ls.items ∷ [])

abbrev pub line_tree : List KindTree → Line → Tree
line_tree trees (line.Holds m by) = over head.Line (term trees m ∷ reason_tree trees by ∷ [])
line_tree trees (line.Equal m n by) = over head.Line (over head.Eq (term trees m ∷ term trees n ∷ []) ∷ reason_tree trees by ∷ [])
line_tree trees (line.Defined c by) = over head.Defined (term trees c ∷ reason_tree trees by ∷ [])
line_tree trees (line.Cases c d e m) = over head.Cases (term trees c ∷ tree_at trees d ∷ tree_at trees e ∷ term trees m ∷ [])

-- a derivation is the list of its lines
abbrev pub derivation : List KindTree → List Line → Tree
derivation trees lines = chain (map (line_tree trees) lines)

-- The nodes that are named stand below a number.

abbrev pub IsBelow : ℕ → NodeId → Type 0
IsBelow n m = m.0 < n

abbrev pub IsReasonBelow : ℕ → Reason → Type 0
IsReasonBelow n (reason.Equation k ms) = All (IsBelow n) ms.items
IsReasonBelow n by = Unit {0}

abbrev pub IsLineBelow : ℕ → Line → Type 0
IsLineBelow n (line.Holds m by) = IsBelow n m × IsReasonBelow n by
IsLineBelow n (line.Equal l m by) = IsBelow n l × IsBelow n m × IsReasonBelow n by
IsLineBelow n (line.Defined c by) = IsBelow n c × IsReasonBelow n by
IsLineBelow n (line.Cases c d e m) = IsBelow n c × ChildBelow n d × ChildBelow n e × IsBelow n m

abbrev pub AreLinesBelow : ℕ → List Line → Type 0
AreLinesBelow n lines = All (IsLineBelow n) lines
