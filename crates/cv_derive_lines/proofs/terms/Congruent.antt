-- Congruence, by the heads and the arguments of two terms.
use Rattle.std.proofs.Common.{◌≡◌, ℕ, Bool, true, false, ◌&&◌, [], Some, None, refl, sym, ap, ap₂, ◌∙◌}
use Rattle.std.specs.Prelude.{if◌then◌else◌}
use Rattle.cv_syntax_trees.specs.declared.head.Head.{Head}
use Rattle.cv_syntax_trees.specs.declared.head.Head.TheVariants.{Eq, Leaf}
use Rattle.cv_syntax_trees.specs.Children.{is_empty}
use Rattle.cv_syntax_trees.specs.Head.{same_head}
use Rattle.cv_syntax_trees.specs.Tree.{Tree, Empty, Node}
use Rattle.cv_syntax_trees.proofs.Equality.{same_head_exact}
use Rattle.cv_scope_rules.specs.Context.{items}
use Rattle.cv_scope_rules.specs.Rules.{is_index}
use Rattle.cv_scene.specs.Reasons.{are_congruent_by, arguments, is_congruent}
use Rattle.cv_scene.specs.Sights.{Sight}
use Rattle.cv_scene.specs.lines.Inferences.{Visible}
use Rattle.cv_derive_reasons.specs.inferences.Sides.{sides_of}
use Rattle.cv_derive_reasons.proofs.inferences.Forms.{tested}
use Rattle.cv_derive_lines.proofs.terms.Listing.{no_more}

module _ (s : Sight) (v : Visible) (ls : Tree) where
  abbrev congruent_by : Tree → Tree → Bool
  congruent_by (Node h a b) (Node k c d) = same_head h k && are_congruent_by v (items ls) (arguments s h a b) (arguments s k c d)
  congruent_by m n = false

  congruent_form : (t : Tree) → is_congruent s v ls t ≡ tested (sides_of Eq t) (λ p. congruent_by p.0 p.1)
  congruent_form (Node Eq (Node h a b) (Node k c d)) = refl
  congruent_form (Node Eq (Node h a b) Empty) = refl
  congruent_form (Node Eq Empty n) = refl
  congruent_form t = refl

  pub one_head : (t m n : Tree) (h k : Head) (a b c d : Tree) → Some (m, n) ≡ sides_of Eq t → m ≡ Node h a b → n ≡ Node k c d → same_head h k ≡ true → (q : Bool) → q ≡ are_congruent_by v (items ls) (arguments s h a b) (arguments s h c d) → q ≡ is_congruent s v ls t
  one_head t m n h k a b c d e f g i q j =
      j ∙ (ap (λ x. are_congruent_by v (items ls) (arguments s h a b) (arguments s x c d)) (same_head_exact h k i)
      ∙ sym (congruent_form t ∙ (ap (λ o. tested o (λ p. congruent_by p.0 p.1)) (sym e) ∙ (ap₂ congruent_by f g ∙ ap (λ x. x && are_congruent_by v (items ls) (arguments s h a b) (arguments s k c d)) i))))

  -- the arguments of two nodes with one head

  module _ (h : Head) (a b c d : Tree) where
    abbrev equal : Bool
    equal = are_congruent_by v (items ls) (arguments s h a b) (arguments s h c d)

    pub of_index : (x : ℕ) (r : Bool) → h ≡ Leaf x → r ≡ is_index s.replications x → r ≡ true → false ≡ equal
    of_index x r e f g = sym (ap (λ k. are_congruent_by v (items ls) (arguments s k a b) (arguments s k c d)) e ∙ ap (λ q. are_congruent_by v (items ls) (if q then None else Some []) (if q then None else Some [])) (sym f ∙ g))

    pub of_variable : (x : ℕ) (r q : Bool) → h ≡ Leaf x → r ≡ is_index s.replications x → r ≡ false → q ≡ is_empty ls → q ≡ equal
    of_variable x r q e f g i = i ∙ sym (ap (λ k. are_congruent_by v (items ls) (arguments s k a b) (arguments s k c d)) e ∙ (ap (λ q. are_congruent_by v (items ls) (if q then None else Some []) (if q then None else Some [])) (sym f ∙ g) ∙ no_more v ls))
