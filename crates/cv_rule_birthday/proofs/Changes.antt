-- Walks over a game that is changed, node by node.
use Rattle.std.proofs.Common.{◌≡◌, ℕ, ◌+◌, Bool, true, false, cond, sym, ap, ◌∙◌}
use Rattle.cv_syntax_trees.specs.declared.head.Head.{Head}
use Rattle.cv_syntax_trees.specs.Tree.{Tree, Empty, Node, first_place, second_place}
use Rattle.cv_costs.specs.wording.Changing.{changed_at, is_changed}
use Rattle.cv_rule_birthday.specs.Comparing.{compared}
use Rattle.cv_rule_birthday.specs.Needs.{made_of_changed, made_of_compared}

module _ (places : ℕ → Bool) (p : ℕ) (t : Tree) (h : Head) (a b : Tree) (e : t ≡ Node h a b) where
  pub changed_here : (v : Bool) → v ≡ is_changed places p h → v ≡ true → changed_at places compared p t ≡ compared t
  unfolding changed_at
  changed_here v f g =
      ap (changed_at places compared p) e
      ∙ (ap (λ w. cond w (compared (Node h a b)) (Node h (changed_at places compared (first_place p h) a) (changed_at places compared (second_place p h a) b))) (sym f ∙ g) ∙ ap compared (sym e))

  pub changed_later : (v : Bool) → v ≡ is_changed places p h → v ≡ false → changed_at places compared p t ≡ Node h (changed_at places compared (first_place p h) a) (changed_at places compared (second_place p h a) b)
  unfolding changed_at
  changed_later v f g =
      ap (changed_at places compared p) e
      ∙ ap (λ w. cond w (compared (Node h a b)) (Node h (changed_at places compared (first_place p h) a) (changed_at places compared (second_place p h a) b))) (sym f ∙ g)

  pub made_here : (v : Bool) → v ≡ is_changed places p h → v ≡ true → made_of_changed places p t ≡ made_of_compared t
  unfolding made_of_changed
  made_here v f g =
      ap (made_of_changed places p) e
      ∙ (ap (λ w. cond w (made_of_compared (Node h a b)) (made_of_changed places (first_place p h) a + made_of_changed places (second_place p h a) b + 1)) (sym f ∙ g) ∙ ap made_of_compared (sym e))

  pub made_later : (v : Bool) → v ≡ is_changed places p h → v ≡ false → made_of_changed places p t ≡ made_of_changed places (first_place p h) a + made_of_changed places (second_place p h a) b + 1
  unfolding made_of_changed
  made_later v f g =
      ap (made_of_changed places p) e
      ∙ ap (λ w. cond w (made_of_compared (Node h a b)) (made_of_changed places (first_place p h) a + made_of_changed places (second_place p h a) b + 1)) (sym f ∙ g)

pub changed_end : (places : ℕ → Bool) (p : ℕ) (t : Tree) → t ≡ Empty → changed_at places compared p t ≡ Empty
unfolding changed_at
changed_end places p t e = ap (changed_at places compared p) e

pub made_end : (places : ℕ → Bool) (p : ℕ) (t : Tree) → t ≡ Empty → made_of_changed places p t ≡ 0
unfolding made_of_changed
made_end places p t e = ap (made_of_changed places p) e
