-- What a refusal says.
use Rattle.std.specs.Prelude.{ℕ, List, Option, Some, None, IfSome}
use Rattle.cv_syntax_trees.specs.Declarations.{Declaration}
use Rattle.cv_syntax_trees.specs.Tree.{Tree}
use Rattle.cv_scope_rules.specs.declared.fault.Fault.{Fault}
use Rattle.cv_scope_rules.specs.declared.fault.Fault.TheVariants as fault
use Rattle.cv_scope_rules.specs.declared.fault.ScopeFault.{ScopeFault}
use Rattle.cv_scope_rules.specs.declared.fault.ScopeFault.TheVariants as refused
use Rattle.cv_syntax.specs.faults.Walk as walk
use Rattle.cv_scope_rules.specs.Scope.{IsFirstFault}

abbrev pub refusal : ℕ → Fault → ScopeFault
refusal p fault.Unscoped = refused.Unscoped p
refusal p fault.TwoSites = refused.TwoSites p
refusal p fault.Channel = refused.Channel p
refusal p fault.Replications = refused.Replications p

-- the place and the fault that a refusal names; want of memory names none
abbrev pub named : ScopeFault → Option (ℕ × Fault)
named (refused.Unscoped p) = Some (p, fault.Unscoped)
named (refused.TwoSites p) = Some (p, fault.TwoSites)
named (refused.Channel p) = Some (p, fault.Channel)
named (refused.Replications p) = Some (p, fault.Replications)
named refused.OutOfMemory = None

-- The refusal names what was found. Want of memory says nothing.
abbrev pub IsRefusalOf : Option (ℕ × Fault) → ScopeFault → Type 0
IsRefusalOf found t = walk.IsRefusalOf found (named t)

-- The refusal names the first fault of a game. Want of memory says nothing.
abbrev pub IsFirstRefusal : List Declaration → Tree → ScopeFault → Type 0
IsFirstRefusal ds game t = IfSome (named t) (λ x. IsFirstFault ds game x.0 x.1)
