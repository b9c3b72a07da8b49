-- Lists of trees, by their first tree and the rest.
use Rattle.std.proofs.Common.{◌≡◌, ℕ, zero, suc, ◌+◌, ◌-◌, ◌≤◌, List, [], ◌∷◌, ◌++◌, length, refl, ap, sym, ◌∙◌, arith, append_assoc, append-nil}
use Rattle.cv_syntax_trees.specs.Tree.{Tree, Empty, Node, first, second}
use Rattle.cv_syntax.proofs.Trees.{tree_of_NoTree}
use Rattle.cv_print_tables.specs.Prints.{chain_items, single_items, node_items}

abbrev pub chain_parts : Tree → List Tree
chain_parts Empty = []
chain_parts (Node h a b) = a ∷ chain_items b

pub chain_open : (t : Tree) → chain_items t ≡ chain_parts t
unfolding chain_items
chain_open Empty = refl
chain_open (Node h a b) = refl

pub single_none : (n : ℕ) (t : Tree) → n ≡ 0 → single_items n t ≡ []
unfolding single_items
single_none zero t e = refl
single_none (suc n) t e = absurd (omega arith)

pub single_one : (n : ℕ) (t : Tree) → n ≡ 1 → single_items n t ≡ t ∷ []
unfolding single_items
single_one zero t e = absurd (omega arith)
single_one (suc zero) t e = refl
single_one (suc (suc n)) t e = absurd (omega arith)

pub single_more : (n : ℕ) (t : Tree) → 2 ≤ n → single_items n t ≡ first t ∷ single_items (n - 1) (second t)
unfolding single_items
single_more zero t e = absurd (omega arith)
single_more (suc zero) t e = absurd (omega arith)
single_more (suc (suc n)) t e = ap (λ k. first t ∷ single_items k (second t)) (let i : suc n ≡ suc (suc n) - 1 = omega arith in i)

pub single_length : (n : ℕ) (t : Tree) → length (single_items n t) ≡ n
unfolding single_items
single_length zero t = refl
single_length (suc zero) t = refl
single_length (suc (suc n)) t = ap suc (single_length (suc n) (second t))

pub node_none : (n : ℕ) (t : Tree) → n ≡ 0 → node_items n t ≡ []
node_none zero t e = refl
node_none (suc n) t e = absurd (omega arith)

pub node_one : (n : ℕ) (t : Tree) → n ≡ 1 → node_items n t ≡ first t ∷ []
unfolding single_items
node_one zero t e = absurd (omega arith)
node_one (suc zero) t e = refl
node_one (suc (suc n)) t e = absurd (omega arith)

pub node_more : (n : ℕ) (t : Tree) → 2 ≤ n → node_items n t ≡ single_items n t
unfolding single_items
node_more zero t e = absurd (omega arith)
node_more (suc zero) t e = absurd (omega arith)
node_more (suc (suc n)) t e = refl

pub ruleset list_laws = (chain_open, single_none, single_one, single_more, single_length, node_none, node_one, node_more, tree_of_NoTree, append_assoc, append-nil)
