-- Where a service stands: a construct, its place, the number of the body and the values that are handed to it. This profile's own.
use Rattle.std.specs.Prelude.{ℕ, List, []}
use Rattle.cv_syntax_trees.specs.Tree.{Tree, Empty, Node, first_place, second_place}
use Rattle.cv_meaning.specs.Tapes.{Tape}
use Rattle.cv_meaning.specs.Interpretation.{Setting}
use Rattle.cv_meaning.specs.Memory.{Local}
use Rattle.cv_meaning.specs.Inputs.{Input}
use Rattle.cv_meaning.specs.Serving.{Served, Turn, ended, Yielded, step, serve, Visit, visits}

pub record Point : Type 0 where
  pub tree : Tree
  pub place : ℕ
  pub number : ℕ
  pub bound : List ℕ

abbrev pub at_input : Input → List ℕ → Point
at_input i vs = record { tree = i.tree; place = i.place; number = 0; bound = vs }

-- the same service, one construct further
abbrev pub first_of : Tree → ℕ → ℕ → List ℕ → Point
first_of Empty p k vs = record { tree = Empty; place = p; number = k; bound = vs }
first_of (Node h a b) p k vs = record { tree = a; place = first_place p h; number = k; bound = vs }

abbrev pub second_of : Tree → ℕ → ℕ → List ℕ → Point
second_of Empty p k vs = record { tree = Empty; place = p; number = k; bound = vs }
second_of (Node h a b) p k vs = record { tree = b; place = second_place p h a; number = k; bound = vs }

abbrev pub into_first : Point → ℕ → List ℕ → Point
into_first p k vs = first_of p.tree p.place k vs

abbrev pub into_second : Point → ℕ → List ℕ → Point
into_second p k vs = second_of p.tree p.place k vs

abbrev pub turn_of : Setting → Tape → Tree → ℕ → ℕ → List ℕ → Local → Turn
turn_of g t Empty p k vs s = ended Yielded [] s
turn_of g t (Node h a b) p k vs s = step g t h a b p k vs s

abbrev pub turn_at : Setting → Tape → Point → Local → Turn
turn_at g t p s = turn_of g t p.tree p.place p.number p.bound s

abbrev pub serve_at : Setting → Tape → Point → Local → Served
serve_at g t p s = serve g t p.tree p.place p.number p.bound s

abbrev pub visits_at : Setting → Tape → Point → Local → List Visit
visits_at g t p s = visits g t p.tree p.place p.number p.bound s
