-- Array scope: each node of a game obeys the rules; else the first node in preorder that does not.
use Rattle.std.specs.Prelude.{◌||◌, ℕ, Bool, List, [], Option, is_some}
use Rattle.cv_syntax_trees.specs.Declarations.{Declaration}
use Rattle.cv_syntax_trees.specs.Tree.{Tree}
use Rattle.cv_meaning.specs.Interpretation.{is_constant_of}
use Rattle.cv_syntax_trees.specs.sites.Sites.{first_site}
unfoldable pub use Rattle.cv_syntax_trees.specs.sites.Sites.{is_untyped_in}
pub use Rattle.cv_syntax_trees.specs.sites.Sites.{is_untyped_here}
use Rattle.cv_syntax.specs.faults.Walk as walk
use Rattle.cv_syntax.specs.faults.Walk.{IsObeyed, Walk}
use Rattle.cv_scope_rules.specs.declared.fault.Fault.{Fault}
use Rattle.cv_scope_rules.specs.Standing.{Standing, at_root, first_standing, second_standing}
use Rattle.cv_scope_rules.specs.Rules.{Names, Obeys, Breaks}
use Rattle.cv_scope_rules.specs.Tests.{fault_of}

-- A tree inherits where it stands: what is known there, and what stands before it.
abbrev pub scope_walk : Names → Walk Standing Fault
scope_walk names = record {
  fault = λ s h a b. fault_of names s h a b;
  first = λ s h a. first_standing s h a;
  second = λ s h a. second_standing s h a;
  Obeys = λ s h a b. (f : Fault) → Obeys names s h a b f;
  Breaks = λ s h a b f. Breaks names s h a b f;
}

-- every node of the tree obeys the rules
abbrev pub IsScopedAt : Names → Standing → Tree → Type 0
IsScopedAt names s t = IsObeyed (scope_walk names) s t

-- a node at q of the tree breaks the rules of a kind
abbrev pub Faulty : Names → Standing → Tree → ℕ → Fault → Type 0
Faulty names s t q f = walk.Faulty (scope_walk names) s s.place t q f

-- a fault, and none at a lesser place
abbrev pub IsFirst : Names → Standing → Tree → ℕ → Fault → Type 0
IsFirst names s t q f = walk.IsFirst (scope_walk names) s s.place t q f

-- the place and the fault of the first node in preorder that breaks a rule
abbrev pub first_fault : Names → Standing → Tree → Option (ℕ × Fault)
first_fault names s t = walk.first_fault (scope_walk names) s s.place t

-- games and contexts

abbrev pub is_variable : Tree → ℕ → Bool
is_variable game x = is_some (first_site x [] game) || is_untyped_in x game

abbrev pub names_of : List Declaration → Tree → Names
names_of ds game = record { constant = is_constant_of ds; variable = is_variable game }

abbrev pub IsScoped : List Declaration → Tree → Type 0
IsScoped ds game = IsScopedAt (names_of ds game) at_root game

abbrev pub IsFirstFault : List Declaration → Tree → ℕ → Fault → Type 0
IsFirstFault ds game q f = IsFirst (names_of ds game) at_root game q f

abbrev pub first_scope_fault : List Declaration → Tree → Option (ℕ × Fault)
first_scope_fault ds game = first_fault (names_of ds game) at_root game
