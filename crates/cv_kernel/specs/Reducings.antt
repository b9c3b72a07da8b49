-- Cryptographic steps by the names of their equivalence and of the variable for its key. This profile's own.
use Rattle.std.specs.Prelude.{Option, Some, None, option_and_then}
use Rattle.cv_syntax_trees.specs.Tree.{Tree}
use Rattle.cv_script.specs.Views.{StepItems, items_of_step}
use Rattle.cv_script.specs.Views as items
use Rattle.cv_kernel.specs.declared.reducing.Reducing.{Reducing}

abbrev pub reducing_of_items : StepItems → Option Reducing
reducing_of_items (items.Crypto e x) = Some (record { equivalence = e; key = x })
reducing_of_items other = None

-- the equivalence and the key of a step, where it is a cryptographic one
abbrev pub reducing_in : Tree → Option Reducing
reducing_in t = option_and_then reducing_of_items (items_of_step t)
