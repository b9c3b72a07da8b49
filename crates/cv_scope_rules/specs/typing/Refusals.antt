-- What a refusal says.
use Rattle.std.specs.Prelude.{◌≡◌, ℕ, ◌+◌, List, [], ◌∷◌, Option, Some, None, Result, IfSome, MatchResult}
use Rattle.cv_syntax_trees.specs.Declarations.{Declaration}
use Rattle.cv_syntax_trees.specs.Tree.{size}
use Rattle.cv_scope_rules.specs.declared.typing.fault.Fault.{Fault}
use Rattle.cv_scope_rules.specs.declared.typing.fault.Fault.TheVariants as fault
use Rattle.cv_scope_rules.specs.declared.typing.fault.TypeFault.{TypeFault}
use Rattle.cv_scope_rules.specs.declared.typing.fault.TypeFault.TheVariants as refused
use Rattle.cv_scope_rules.specs.typing.Parts.{Part, IsFirstIn, first_in}
use Rattle.cv_syntax.specs.faults.Walk as walk

abbrev pub refusal : ℕ → Fault → TypeFault
refusal p fault.WrongType = refused.WrongType p
refusal p fault.Arity = refused.Arity p
refusal p fault.IndexAsMessage = refused.IndexAsMessage p
refusal p fault.NotFixed = refused.NotFixed p

-- the place and the fault that a refusal names; want of memory names none
abbrev pub named : TypeFault → Option (ℕ × Fault)
named (refused.WrongType p) = Some (p, fault.WrongType)
named (refused.Arity p) = Some (p, fault.Arity)
named (refused.IndexAsMessage p) = Some (p, fault.IndexAsMessage)
named (refused.NotFixed p) = Some (p, fault.NotFixed)
named refused.OutOfMemory = None

-- The refusal names what was found. Want of memory says nothing.
abbrev pub IsRefusalOf : Option (ℕ × Fault) → TypeFault → Type 0
IsRefusalOf found t = walk.IsRefusalOf found (named t)

-- The refusal names the first fault of parts, the first of which stands at place 0. Want of memory says nothing.
abbrev pub IsFirstRefusal : List Declaration → List Part → TypeFault → Type 0
IsFirstRefusal ds parts t = IfSome (named t) (λ x. IsFirstIn ds 0 parts x.0 x.1)

-- how many syntax nodes parts have
abbrev pub parts_size : List Part → ℕ
parts_size [] = 0
parts_size (part ∷ parts) = size part.tree + parts_size parts

-- Parts, the first of which stands at a place, are typed, and this is the place behind them; or the first fault is named.
abbrev pub IsChecked : List Declaration → ℕ → List Part → Result ℕ TypeFault → Type 0
IsChecked ds p parts r = MatchResult r (λ next. (first_in ds p parts ≡ None) × (next ≡ p + parts_size parts)) (IsRefusalOf (first_in ds p parts))
