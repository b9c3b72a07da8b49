-- What the derivations of a certificate are to end with, by the items of its parts; and what the code answers.
use Rattle.std.specs.Prelude.{Bool, List, [], ◌∷◌}
use Rattle.cv_syntax_trees.specs.Tree.{Tree, Empty}
use Rattle.cv_meaning.specs.Correspondences.{Atom, RightEvent, RightTerm}
use Rattle.cv_scene.specs.lines.Ends.{is_end}
use Rattle.cv_scene.specs.lines.Lines.{Statement, Holds as HoldsTerm, IsDefined, lines_of, statements}
use Rattle.cv_scene.specs.lines.Truths.{no}
use Rattle.cv_scene.specs.Scenes.{Scene}
use Rattle.cv_query_certificates.specs.Claims.{behind_cell}
use Rattle.cv_query_certificates.specs.EventNodes.{arguments_at, only_site}
use Rattle.cv_query_certificates.specs.Failures as failures
use Rattle.cv_query_entries.specs.ends.Said.{said_equal}
use Rattle.cv_query_parts.specs.Said.{Way, Above, ByCell, Holds}
use Rattle.cv_query.specs.declared.testing.Failure.{Failure}

-- what a route's derivation is to say last
abbrev pub said_by : Scene → (put : Tree → Tree) → Atom → Way → List Statement
said_by s put (RightEvent inj f ms) (Above q by) = said_equal (arguments_at s.game q) (put ms)
said_by s put (RightEvent inj f ms) (ByCell c q by) = IsDefined c ∷ said_equal (behind_cell c (only_site s.game c) (arguments_at s.game q)) (put ms)
said_by s put (RightTerm m) (Holds by) = HoldsTerm (put m) ∷ []
said_by s put c way = HoldsTerm no ∷ []

-- the derivation of a route, where it is one for the atom
abbrev pub derived_by : Atom → Way → Tree
derived_by (RightEvent inj f ms) (Above q by) = by
derived_by (RightEvent inj f ms) (ByCell c q by) = by
derived_by (RightTerm m) (Holds by) = by
derived_by c way = Empty

abbrev pub ends_by : Scene → (put : Tree → Tree) → Atom → Way → Bool
ends_by s put c way = is_end (statements (lines_of (derived_by c way))) (said_by s put c way)

-- a failure as the code has it
abbrev pub failure_of : Failure → failures.Failure
failure_of f = record { condition = f.condition; place = f.place }
