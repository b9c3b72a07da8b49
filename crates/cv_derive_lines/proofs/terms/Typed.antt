-- Typed trees, node by node.
use Rattle.std.proofs.Common.{◌≡◌, ℕ, Bool, true, false, not, ◌&&◌, Option, refl, sym, ap, ap₂, ◌∙◌}
use Rattle.std.specs.Prelude.{◌||◌, is_some}
use Rattle.cv_syntax_trees.specs.declared.head.Head.{Head}
use Rattle.cv_syntax_trees.specs.declared.head.Head.TheVariants.{Leaf, Read, Apply}
use Rattle.cv_syntax_trees.specs.Tree.{Tree, Empty, Node}
use Rattle.cv_scope_rules.specs.typing.Signature.{Signature, Above}
use Rattle.cv_scope_rules.specs.typing.Typing.{fault_of}
use Rattle.cv_scope_rules.specs.typing.Wants.{Want, wants}
use Rattle.cv_scene.specs.Terms.{Names}
use Rattle.cv_derive_lines.specs.terms.Typed.{is_known_head, is_typed_tree}

-- tests, one behind the other

pub then_second : (p q a b : Bool) → a ≡ p → a ≡ true → b ≡ q → b ≡ (p && q)
then_second p q a b e f g = g ∙ ap (λ c. c && q) (sym f ∙ e)

-- nodes

pub no_fault : {A : Type 0} (o found : Option A) (b : Bool) → is_some o ≡ not b → o ≡ found → b ≡ not (is_some found)
no_fault o found b e f = twice b ∙ (ap not (sym e) ∙ ap (λ x. not (is_some x)) f)
  where
    twice : (b : Bool) → b ≡ not (not b)
    twice true = refl
    twice false = refl

pub other_known : (known : Names) (h : Head) → ((x : ℕ) → h ≡ Leaf x → ⊥) → ((x : ℕ) → h ≡ Read x → ⊥) → ((f : ℕ) → h ≡ Apply f → ⊥) → true ≡ is_known_head known h
other_known known (Leaf x) l r a = absurd (l x refl)
other_known known (Read x) l r a = absurd (r x refl)
other_known known (Apply f) l r a = absurd (a f refl)
other_known known h l r a = refl

-- trees

pub typed_end : (known : Names) (e : Signature) (above : Above) (w : Want) (t : Tree) → t ≡ Empty → is_typed_tree known e above w t ≡ true
unfolding is_typed_tree
typed_end known e above w t i = ap (is_typed_tree known e above w) i

module _ (known : Names) (e : Signature) (above : Above) (w : Want) (t : Tree) (h : Head) (a b : Tree) (i : t ≡ Node h a b) (c : Bool) (f : c ≡ (is_known_head known h && not (is_some (fault_of e above w h a)))) where
  abbrev children : Want × Want → Bool
  children u = is_typed_tree known e above u.0 a && is_typed_tree known e above u.1 b

  open_node : is_typed_tree known e above w t ≡ (c && children (wants e above w h a))
  unfolding is_typed_tree
  open_node = ap (is_typed_tree known e above w) i ∙ ap (λ k. k && children (wants e above w h a)) (sym f)

  pub typed_not : c ≡ false → is_typed_tree known e above w t ≡ false
  typed_not g = open_node ∙ ap (λ k. k && children (wants e above w h a)) g

  module _ (g : c ≡ true) (u : Want × Want) (j : u ≡ wants e above w h a) (d : Bool) (k : d ≡ is_typed_tree known e above u.0 a) where
    by_children : is_typed_tree known e above w t ≡ (d && is_typed_tree known e above u.1 b)
    by_children = open_node ∙ (ap₂ (λ x y. x && children y) g (sym j) ∙ ap (λ x. x && is_typed_tree known e above u.1 b) (sym k))

    pub typed_first : d ≡ false → is_typed_tree known e above w t ≡ false
    typed_first l = by_children ∙ ap (λ x. x && is_typed_tree known e above u.1 b) l

    pub typed_rest : d ≡ true → is_typed_tree known e above w t ≡ is_typed_tree known e above u.1 b
    typed_rest l = by_children ∙ ap (λ x. x && is_typed_tree known e above u.1 b) l
