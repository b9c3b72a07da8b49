-- A number that is above all names of a tree is none of them.
use Rattle.std.proofs.Common.{◌≡◌, ℕ, suc, ◌≤◌, Bool, false, ◌||◌, ◌==◌, max, refl, arith}
use Rattle.std.proofs.Math.Nat.{le-max_left, le-max_right}
use Rattle.std.proofs.lemmas.Bool.Decides.{nat_tests}
use Rattle.cv_syntax_trees.specs.declared.head.Head.{Head}
use Rattle.cv_syntax_trees.specs.declared.head.Head.TheVariants.{Binder, Call, Key, Leaf, Let, Name, New, Read, Repl}
use Rattle.cv_syntax_trees.specs.Tree.{Tree, Empty, Node}
use Rattle.cv_scene.specs.Scenes.{head_names, names}
use Rattle.cv_match_laws.specs.answers.Answers.{above_head, above_names}

-- a smaller number is another one
less : (x y : ℕ) → suc y ≤ x → (y == x) ≡ false
less x y h = grind (arith, nat_tests)

above_node : (x : ℕ) (h : Head) → above_head h ≤ x → head_names x h ≡ false
above_node x (Repl i n) h = less x i h
above_node x (Name i) h = less x i h
above_node x (New y T) h = less x y h
above_node x (Let y T) h = less x y h
above_node x (Binder y T) h = less x y h
above_node x (Leaf y) h = less x y h
above_node x (Read y) h = less x y h
above_node x (Key y) h = less x y h
above_node x (Call y l) h = less x y h
above_node x h e = refl

neither : (a b c : Bool) → a ≡ false → b ≡ false → c ≡ false → (a || (b || c)) ≡ false
neither a b c e f g = cc

pub unnamed_above : (x : ℕ) (t : Tree) → above_names t ≤ x → names x t ≡ false
unfolding above_names names
unnamed_above x Empty e = refl
unnamed_above x (Node h a b) e =
    let i : above_head h ≤ x = omega (arith, e, le-max_left (above_head h) (max (above_names a) (above_names b))) in
    let j : max (above_names a) (above_names b) ≤ x = omega (arith, e, le-max_right (above_head h) (max (above_names a) (above_names b))) in
    let k : above_names a ≤ x = omega (arith, j, le-max_left (above_names a) (above_names b)) in
    let l : above_names b ≤ x = omega (arith, j, le-max_right (above_names a) (above_names b)) in
    neither (head_names x h) (names x a) (names x b) (above_node x h i) (unnamed_above x a k) (unnamed_above x b l)
