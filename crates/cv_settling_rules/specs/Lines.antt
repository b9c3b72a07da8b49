-- Derivations as lists of lines, none of which is by cases; and the lines that take a conjunct out of a term that is cited. This
-- profile's own.
use Rattle.std.specs.Prelude.{◌≡◌, ℕ, ◌+◌, List, [], ◌∷◌, map, Option, Some, None, option_and_then}
use Rattle.cv_syntax_trees.specs.declared.head.Head.TheVariants as head
use Rattle.cv_syntax_trees.specs.declared.head.Head.TheVariants.{And}
use Rattle.cv_syntax_trees.specs.Tree.{Tree, Node, chain, first, second}
use Rattle.cv_step_writer.specs.Items.{number, over}
use Rattle.cv_scene.specs.Sights.{from_one}
use Rattle.cv_scene.specs.lines.Lines.{Statement, Holds, IsDefined}

pub record Line : Type 0 where
  pub says : Statement
  pub reason : Tree

abbrev pub statement_tree : Statement → (reason : Tree) → Tree
statement_tree (Holds t) r = over head.Line (t ∷ r ∷ [])
statement_tree (IsDefined c) r = over head.Defined (c ∷ r ∷ [])

-- the tree of a derivation
abbrev pub derivation : List Line → Tree
derivation lines = chain (map (λ (l : Line). statement_tree l.says l.reason) lines)

-- conjuncts

pub data Side : Type 0 where
  Left Right : Side

-- a side of a conjunction
abbrev pub side_of : Side → Tree → Tree
side_of Left t = first t
side_of Right t = second t

abbrev pub side_if : Side → Tree → Option Tree
side_if side (Node And m n) = Some (side_of side (Node And m n))
side_if side t = None

-- what sides lead to, the outermost of which comes first
abbrev pub along : List Side → Tree → Option Tree
along [] t = Some t
along (side ∷ sides) t = option_and_then (along sides) (side_if side t)

-- where a conjunct stands: the number of a fact, its term, and the sides that lead to the conjunct
pub record Citation : Type 0 where
  pub fact : ℕ
  pub term : Tree
  pub sides : List Side

pub record IsCited (facts : List Tree) (q : Citation) (m : Tree) : Type 0 where
  pub fact : from_one facts q.fact ≡ Some q.term
  pub conjunct : along q.sides q.term ≡ Some m

abbrev pub side_reason : Side → (line : ℕ) → Tree
side_reason Left l = over head.ByLeft (number l ∷ [])
side_reason Right l = over head.ByRight (number l ∷ [])

-- the lines for the sides of a term that a line says
abbrev pub side_lines : (line : ℕ) → Tree → List Side → List Line
side_lines l t [] = []
side_lines l t (side ∷ sides) =
    record { says = Holds (side_of side t); reason = side_reason side l } ∷ side_lines (l + 1) (side_of side t) sides

-- those of a conjunct, the first of which has this number and cites the fact by this reason
abbrev pub citation_lines : (line : ℕ) → (reason : Tree) → Citation → List Line
citation_lines l reason q = record { says = Holds q.term; reason = reason } ∷ side_lines l q.term q.sides
