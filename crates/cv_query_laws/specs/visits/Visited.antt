-- That a node was visited at the copy of what lies below it. This profile's own.
use Rattle.std.specs.Prelude.{◌≡◌, ℕ, Bool, true, false, List, ◌++◌, Some}
use Rattle.cv_syntax_trees.specs.declared.head.Head.{Head}
use Rattle.cv_syntax_trees.specs.declared.head.Head.TheVariants.{Par, Repl}
use Rattle.cv_syntax_trees.specs.Tree.{Tree}
use Rattle.cv_meaning.specs.Interpretation.{Setting}
use Rattle.cv_meaning.specs.Memory.{Indices}
use Rattle.cv_meaning.specs.Serving.{Visit}
use Rattle.cv_meaning.specs.Tapes.{Tape}
use Rattle.cv_meaning_laws.specs.adequacy.Broken.{StandsAt}
use Rattle.cv_query_laws.specs.visits.Bodies.{LiesInBody, body_taken}

-- the first elements of a list
abbrev pub IsFront : {A : Type 0} → List A → List A → Type 0
IsFront xs ys = (rest : List _) × (ys ≡ xs ++ rest)

-- a service comes to such a node, where it comes to what lies below it: parallel processes and replications only open inputs
abbrev pub head_is_visited : Head → Bool
head_is_visited Par = false
head_is_visited (Repl i n) = false
head_is_visited h = true

-- Among these visits is one of the node, at the first ones of these indices. Where the place `below` lies in a body of the node, the
-- visit took this body.
pub record HasVisitAbove (g : Setting) (t : Tape) (vs : List Visit) (place : ℕ) (tree : Tree) (below : ℕ) (at : Indices) : Type 0 where
  pub number : ℕ
  pub visit : Visit
  pub stands : StandsAt vs number visit
  pub there : visit.place ≡ place
  pub same : visit.tree ≡ tree
  pub front : IsFront visit.before.indices at
  pub body : (k : ℕ) → LiesInBody tree place k below → body_taken g t visit ≡ Some k
