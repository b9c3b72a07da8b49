-- A term in the game, by its head.
use Rattle.std.proofs.Common.{◌≡◌, ℕ, Option, Some, None, refl, ap, sym, ◌∙◌, false}
use Rattle.cv_syntax_trees.specs.declared.head.Head.{Head}
use Rattle.cv_syntax_trees.specs.declared.head.Head.TheVariants.{Leaf, Read, Eq}
use Rattle.cv_syntax_trees.specs.Children.{is_empty}
use Rattle.cv_syntax_trees.specs.Tree.{Tree, Empty, Node, first}
use Rattle.cv_meaning.specs.contexts.Inlined.{Caller, Drawn, Scope, array_in_game, call_in, in_game, indices_equal, leaf_in_game, read_at, standing_of}
use Rattle.cv_inline.specs.terms.Scopes.{both, same_call}

pub read_at_Node : (y : ℕ) (t : Tree) → is_empty t ≡ false → read_at y t ≡ Node (Read y) t Empty
read_at_Node y Empty h = absurd (cc)
read_at_Node y (Node h a b) e = refl

module _ (d : Drawn) (c : Caller) (Σ : Scope) where
  pub in_game_Empty : (t : Tree) → t ≡ Empty → in_game d c Σ t ≡ Empty
  unfolding in_game
  in_game_Empty t e = ap (in_game d c Σ) e

  pub in_game_Leaf : (t : Tree) (h : Head) (a b : Tree) (x : ℕ) → t ≡ Node h a b → h ≡ Leaf x → in_game d c Σ t ≡ leaf_in_game d c x (standing_of Σ x)
  unfolding in_game
  in_game_Leaf t h a b x e f = ap (in_game d c Σ) (e ∙ ap (λ k. Node k a b) f)

  pub in_game_Read : (t : Tree) (h : Head) (a b : Tree) (v : ℕ) → t ≡ Node h a b → h ≡ Read v → in_game d c Σ t ≡ array_in_game d v (call_in Σ (first a))
  unfolding in_game
  in_game_Read t h a b v e f = ap (in_game d c Σ) (e ∙ ap (λ k. Node k a b) f)

  equal_by : (o p : Option (ℕ × Tree)) (q : Option ((ℕ × Tree) × (ℕ × Tree))) (m : Tree) → q ≡ both o p → indices_equal o p m ≡ (elim q [ None ↦ m | Some k ↦ same_call k.0 k.1 ])
  equal_by (Some j) (Some k) q m e = ap (λ r. elim r [ None ↦ m | Some k ↦ same_call k.0 k.1 ]) (sym e)
  equal_by (Some j) None q m e = ap (λ r. elim r [ None ↦ m | Some k ↦ same_call k.0 k.1 ]) (sym e)
  equal_by None p q m e = ap (λ r. elim r [ None ↦ m | Some k ↦ same_call k.0 k.1 ]) (sym e)

  pub in_game_Eq : (t : Tree) (h : Head) (a b : Tree) (q : Option ((ℕ × Tree) × (ℕ × Tree))) → t ≡ Node h a b → h ≡ Eq → q ≡ both (call_in Σ a) (call_in Σ b) → in_game d c Σ t ≡ (elim q [ None ↦ Node Eq (in_game d c Σ a) (in_game d c Σ b) | Some k ↦ same_call k.0 k.1 ])
  unfolding in_game
  in_game_Eq t h a b q e f g = ap (in_game d c Σ) (e ∙ ap (λ k. Node k a b) f) ∙ equal_by (call_in Σ a) (call_in Σ b) q (Node Eq (in_game d c Σ a) (in_game d c Σ b)) g

  pub in_game_other : (t : Tree) (h : Head) (a b : Tree) → t ≡ Node h a b → ((x : ℕ) → h ≡ Leaf x → ⊥) → ((x : ℕ) → h ≡ Read x → ⊥) → (h ≡ Eq → ⊥) → in_game d c Σ t ≡ Node h (in_game d c Σ a) (in_game d c Σ b)
  unfolding in_game
  in_game_other t h a b e l r q = ap (in_game d c Σ) e ∙ by_head h a b l r q where
    by_head : (h : Head) (a b : Tree) → ((x : ℕ) → h ≡ Leaf x → ⊥) → ((x : ℕ) → h ≡ Read x → ⊥) → (h ≡ Eq → ⊥) → in_game d c Σ (Node h a b) ≡ Node h (in_game d c Σ a) (in_game d c Σ b)
    by_head (Leaf x) a b l r q = absurd (l x refl)
    by_head (Read x) a b l r q = absurd (r x refl)
    by_head Eq a b l r q = absurd (q refl)
    by_head h a b l r q = refl
