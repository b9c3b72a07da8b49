-- Places in the preorder of a file: the terms of its declarations stand before its process.
use Rattle.std.specs.Prelude.{ℕ, ◌+◌, ◌<◌, List, Option, Some, None, flat_map}
use Rattle.cv_syntax_trees.specs.Declarations.{Declaration}
use Rattle.cv_scope_rules.specs.typing.Parts.{declaration_parts}
use Rattle.cv_scope_rules.specs.typing.Refusals.{parts_size}
use Rattle.cv_scope_rules.specs.declared.fault.Fault.{Fault}
use Rattle.cv_scope_rules.specs.declared.fault.ScopeFault.{ScopeFault}
use Rattle.cv_scope_rules.specs.declared.fault.ScopeFault.TheVariants.{Unscoped, TwoSites, Channel, Replications, OutOfMemory}

-- how many nodes stand before the process
abbrev pub nodes_before : List Declaration → ℕ
nodes_before ds = parts_size (flat_map (declaration_parts ds) ds)

-- the fault of a node that stands behind so many others
abbrev pub behind : ℕ → Option (ℕ × Fault) → Option (ℕ × Fault)
behind n None = None
behind n (Some (place, fault)) = Some (n + place, fault)

abbrev pub refused_behind : ℕ → ScopeFault → ScopeFault
refused_behind n (Unscoped p) = Unscoped (n + p)
refused_behind n (TwoSites p) = TwoSites (n + p)
refused_behind n (Channel p) = Channel (n + p)
refused_behind n (Replications p) = Replications (n + p)
refused_behind n OutOfMemory = OutOfMemory

-- the place behind so many nodes has a number of 32 bits
abbrev pub HasPlace : ℕ → ScopeFault → Type 0
HasPlace n (Unscoped p) = n + p < 4294967296
HasPlace n (TwoSites p) = n + p < 4294967296
HasPlace n (Channel p) = n + p < 4294967296
HasPlace n (Replications p) = n + p < 4294967296
HasPlace n OutOfMemory = Unit {0}
