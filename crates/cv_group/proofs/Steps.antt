-- The rules on what functions bind and read, and on sides, from node to node.
use Rattle.std.proofs.Common.{◌≡◌, ℕ, Bool, false, ◌||◌, ap}
use Rattle.cv_syntax_trees.specs.declared.head.Head.{Head}
use Rattle.cv_syntax_trees.specs.Tree.{Tree, Empty, Node}
use Rattle.cv_group_rules.specs.Rules.{defines, defines_here, names_here, names_of, reads}
use Rattle.cv_group_rules.specs.Symbols.{Symbols}
use Rattle.cv_group_rules.specs.Faults.{group_fault}
use Rattle.cv_group.specs.Tables.{function_names, sides_fault}

pub names_of_step : (t : Tree) (h : Head) (a b : Tree) → t ≡ Node h a b → (n x : ℕ) → names_of t n x ≡ (function_names a n x || names_of b n x)
unfolding names_of
names_of_step t h a b e n x = ap (λ s. names_of s n x) e

pub names_of_end : (t : Tree) → t ≡ Empty → (n x : ℕ) → names_of t n x ≡ false
unfolding names_of
names_of_end t e n x = ap (λ s. names_of s n x) e

pub defines_step : (t : Tree) (h : Head) (a b : Tree) → t ≡ Node h a b → (x : ℕ) → defines t x ≡ (defines_here h x || (defines a x || defines b x))
unfolding defines
defines_step t h a b e x = ap (λ s. defines s x) e

pub defines_end : (t : Tree) → t ≡ Empty → (x : ℕ) → defines t x ≡ false
unfolding defines
defines_end t e x = ap (λ s. defines s x) e

pub reads_step : (t : Tree) (h : Head) (a b : Tree) → t ≡ Node h a b → (x : ℕ) → reads t x ≡ (names_here h x || (reads a x || reads b x))
unfolding reads
reads_step t h a b e x = ap (λ s. reads s x) e

pub reads_end : (t : Tree) → t ≡ Empty → (x : ℕ) → reads t x ≡ false
unfolding reads
reads_end t e x = ap (λ s. reads s x) e

-- an equivalence, by its sides
pub group_sides : (symbols : Symbols) (t : Tree) (h : Head) (a b : Tree) → t ≡ Node h a b → group_fault symbols t ≡ sides_fault symbols a b
unfolding group_fault
group_sides symbols t h a b e = ap (group_fault symbols) e
