-- The rules of array scope, one by one: what each asks of a node, by its head and its children a and b.
use Rattle.std.specs.Prelude.{◌≡◌, ◌≤◌, ℕ, Bool, true, false, ◌&&◌, ◌==◌, List, [], ◌∷◌, ◌++◌, ◌⊎◌, length}
use Rattle.std.specs.List.{AllByRecursion, list_any}
use Rattle.cv_syntax_trees.specs.declared.head.Head.{Head}
use Rattle.cv_syntax_trees.specs.declared.head.Head.TheVariants.{Repl, In, Out, Branch, Leaf, Read, Name}
use Rattle.cv_syntax_trees.specs.Tree.{Tree, Empty, Node, first}
use Rattle.cv_syntax_trees.specs.sites.Counting.{count}
use Rattle.cv_scope_rules.specs.declared.fault.Fault.{Fault}
use Rattle.cv_scope_rules.specs.declared.fault.Fault.TheVariants.{Unscoped, TwoSites, Channel, Replications}
use Rattle.cv_scope_rules.specs.declared.position.Position.{Position}
use Rattle.cv_scope_rules.specs.declared.position.Position.TheVariants.{OneCell}
use Rattle.cv_scope_rules.specs.Context.{Context}
use Rattle.cv_scope_rules.specs.Sites.{Site, InOneOf, named_here, channel_here}
use Rattle.cv_scope_rules.specs.Standing.{Standing}

-- which names are constants, and which are variables of the game
pub record Names : Type 0 where
  pub constant : ℕ → Bool
  pub variable : ℕ → Bool

-- Reads. A cell is read below its definition, or in the reach of a `defined` list that has it.

abbrev pub IsAmong : Tree → List Tree → Type 0
IsAmong t [] = ⊥
IsAmong t (c ∷ cs) = (t ≡ c) ⊎ IsAmong t cs

abbrev pub InReach : Context → Tree → Type 0
InReach Γ t = IsAmong t Γ.cells ⊎ IsAmong t Γ.own

abbrev pub is_index : List (ℕ × ℕ) → ℕ → Bool
is_index rs x = list_any (λ (r : ℕ × ℕ). r.0 == x) rs

-- a bare name is a current index, a constant or a cell in reach
abbrev pub ReadsInReach : Names → Context → Head → Tree → Tree → Type 0
ReadsInReach names Γ (Leaf x) a b = (is_index Γ.replications x ≡ true) ⊎ ((names.constant x ≡ true) ⊎ InReach Γ (Node (Leaf x) a b))
ReadsInReach names Γ (Read x) a b = InReach Γ (Node (Read x) a b)
ReadsInReach names Γ h a b = Unit {0}

-- the cells of a `defined` list themselves are only tested
abbrev pub IsInScope : Names → Position → Context → Head → Tree → Tree → Type 0
IsInScope names OneCell Γ h a b = Unit {0}
IsInScope names w Γ h a b = ReadsInReach names Γ h a b

-- Sites. A name has several only in different branches of one `if` or `find`, and under the same replications;
-- inputs of one channel also bind values of the same types.

abbrev pub AreAlike : Site → Site → Type 0
AreAlike e s = (e.replications ≡ s.replications) × (e.types ≡ s.types)

-- a site may stand behind an earlier one, the earlier branches of the tests around it being at these places
abbrev pub MayFollow : List (ℕ × ℕ) → Site → Site → Type 0
MayFollow passed s e = e.name ≡ s.name → InOneOf passed e.place × AreAlike e s

-- sites of one node, each of which may stand behind all earlier ones
abbrev pub MayStand : List (ℕ × ℕ) → List Site → List Site → Type 0
MayStand passed sites [] = Unit {0}
MayStand passed sites (s ∷ ss) = AllByRecursion (MayFollow passed s) sites × MayStand passed (sites ++ s ∷ []) ss

-- Channels. An input or an output carries exactly the current indices.

abbrev pub is_name : ℕ → Head → Bool
is_name x (Name y) = x == y
is_name x h = false

abbrev pub carries : List (ℕ × ℕ) → Tree → Bool
carries [] Empty = true
carries (r ∷ rs) (Node h a b) = is_name r.0 h && carries rs b
carries _ _ = false

abbrev pub carries_current : List (ℕ × ℕ) → Head → Tree → Bool
carries_current rs (In c) a = carries rs (first a)
carries_current rs (Out c) a = carries rs (first a)
carries_current rs h a = true

-- Replications. At most eight stand above a node, a branch has at most eight indices, and an index name is not bound
-- twice on a path and is no variable's.

abbrev pub IsFewIndices : Head → Tree → Type 0
IsFewIndices Branch a = count a ≤ 8
IsFewIndices h a = Unit {0}

abbrev pub BindsNewIndex : Names → List (ℕ × ℕ) → Head → Type 0
BindsNewIndex names rs (Repl i n) = (is_index rs i ≡ false) × (names.variable i ≡ false)
BindsNewIndex names rs h = Unit {0}

-- what a node is asked, so that it has no fault of a kind
abbrev pub Obeys : Names → Standing → Head → Tree → Tree → Fault → Type 0
Obeys names s h a b Unscoped = IsInScope names s.position s.known h a b
Obeys names s h a b TwoSites = MayStand s.passed s.sites (named_here s.known.replications s.place h a)
Obeys names s h a b Channel = (carries_current s.known.replications h a ≡ true) × MayStand s.passed s.sites (channel_here s.known.replications s.place h a)
Obeys names s h a b Replications = (length s.known.replications ≤ 8) × IsFewIndices h a × BindsNewIndex names s.known.replications h

-- a node breaks the rules of a kind, and obeys those of the kinds before it
abbrev pub Breaks : Names → Standing → Head → Tree → Tree → Fault → Type 0
Breaks names s h a b Unscoped = Obeys names s h a b Unscoped → ⊥
Breaks names s h a b TwoSites = Obeys names s h a b Unscoped × (Obeys names s h a b TwoSites → ⊥)
Breaks names s h a b Channel = Obeys names s h a b Unscoped × Obeys names s h a b TwoSites × (Obeys names s h a b Channel → ⊥)
Breaks names s h a b Replications = Obeys names s h a b Unscoped × Obeys names s h a b TwoSites × Obeys names s h a b Channel × (Obeys names s h a b Replications → ⊥)
