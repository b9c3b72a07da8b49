-- Copies of a variable's secrecy as the code has them. This profile's own.
use Rattle.std.specs.Prelude.{ℕ, List, [], ◌∷◌, Option, None, Some}
use Rattle.cv_pool.specs.KindTree.{KindTree}
use Rattle.cv_pool.specs.Nodes.{ChildBelow}
use Rattle.cv_syntax.specs.PoolTrees.{tree_at}
use Rattle.cv_scope_rules.specs.Context.{items}
use Rattle.cv_query_certificates.specs.SecretPairs.{Copy}
use Rattle.cv_query_offences.specs.declared.cells.CellCopy.{CellCopy}

abbrev pub copy_seen : List KindTree → CellCopy → Copy
copy_seen trees c = record { place = c.place; source = c.source; indices = items (tree_at trees c.terms) }

abbrev pub copies_seen : List KindTree → Option CellCopy → List Copy
copies_seen trees None = []
copies_seen trees (Some c) = copy_seen trees c ∷ []

abbrev pub IsCopyBelow : ℕ → CellCopy → Type 0
IsCopyBelow n c = ChildBelow n c.terms
