-- Reads in conditions, node by node.
use Rattle.std.proofs.Common.{◌≡◌, ℕ, Bool, true, false, ◌&&◌, cond, Some, None, refl, ap, sym, ◌∙◌}
use Rattle.std.specs.Prelude.{◌||◌}
use Rattle.cv_syntax_trees.specs.declared.head.Head.{Head}
use Rattle.cv_syntax_trees.specs.Tree.{Tree, Empty, Node, first_place, second_place}
use Rattle.cv_syntax_trees.specs.sites.Sites.{first_of}
use Rattle.cv_scope_rules.specs.declared.position.Position.{Position}
use Rattle.cv_scope_rules.specs.Context.{first_position, second_position}
use Rattle.cv_scene.specs.Scenes.{first_reading, head_reads}
use Rattle.cv_scene.specs.Refusals.{first_in_condition, is_condition}
use Rattle.cv_match.specs.reads.Within.{use_within}

pub within_end : (within : Bool) (x : ℕ) (w : Position) (p : ℕ) (t : Tree) → t ≡ Empty → use_within within x w p t ≡ None
unfolding use_within first_reading first_in_condition
within_end true x w p t e = ap (first_reading x p) e
within_end false x w p t e = ap (first_in_condition x w p) e

within_split : (within : Bool) (x : ℕ) (w : Position) (p : ℕ) (h : Head) (a b : Tree) → use_within within x w p (Node h a b) ≡ cond (within && head_reads x h) (Some p) (first_of (use_within (within || is_condition w) x (first_position w h) (first_place p h) a) (use_within within x (second_position w h) (second_place p h a) b))
unfolding use_within first_reading first_in_condition
within_split true x w p h a b = refl
within_split false x w p h a b = refl

pub within_node : (within : Bool) (x : ℕ) (w : Position) (p : ℕ) (t : Tree) (h : Head) (a b : Tree) → t ≡ Node h a b → use_within within x w p t ≡ cond (within && head_reads x h) (Some p) (first_of (use_within (within || is_condition w) x (first_position w h) (first_place p h) a) (use_within within x (second_position w h) (second_place p h a) b))
within_node within x w p t h a b e = ap (use_within within x w p) e ∙ within_split within x w p h a b

pub within_moved : (x : ℕ) (t : Tree) (i j : Bool) (v w : Position) (p q : ℕ) → i ≡ j → v ≡ w → p ≡ q → use_within j x w q t ≡ use_within i x v p t
within_moved x t i j v w p q e f g = ap (λ b. use_within b x w q t) (sym e) ∙ (ap (λ u. use_within i x u q t) (sym f) ∙ ap (λ n. use_within i x v n t) (sym g))

pub within_true : (x : ℕ) (w : Position) (p : ℕ) (t : Tree) → use_within true x w p t ≡ first_reading x p t
unfolding use_within
within_true x w p t = refl
