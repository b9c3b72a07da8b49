-- Cells of lists, as the code goes through a game.
use Rattle.std.proofs.Common.{◌≡◌, ℕ, ◌+◌, Bool, true, false, cond, Option, Some, None, refl, sym, ap, ap₂, ◌∙◌}
use Rattle.cv_syntax_trees.specs.declared.head.Head.{Head}
use Rattle.cv_syntax_trees.specs.declared.head.Head.TheVariants.{Branch}
use Rattle.cv_syntax_trees.specs.Head.{weight}
use Rattle.cv_syntax_trees.specs.Tree.{Tree, Empty, Node, first_place, second_place, size}
use Rattle.cv_syntax_trees.specs.sites.Sites.{first_of}
use Rattle.cv_scene.specs.Sights.{variable_of}
use Rattle.cv_rule_pick.specs.Looks.{link_in}
use Rattle.cv_rule_pick.specs.Picking.{first_cell, first_listed, is_one}

module _ (xs : ℕ → Bool) (p : ℕ) (t : Tree) where
  pub cell_here : (h : Head) (c more : Tree) (b : Bool) → t ≡ Node h c more → b ≡ is_one xs (variable_of c) → b ≡ true → first_cell xs p t ≡ Some (first_place p h)
  cell_here h c more b e f g = ap (first_cell xs p) e ∙ ap (λ v. cond v (Some (first_place p h)) (first_cell xs (second_place p h c) more)) (sym f ∙ g)

  pub cell_rest : (h : Head) (c more : Tree) (b : Bool) → t ≡ Node h c more → b ≡ is_one xs (variable_of c) → b ≡ false → first_cell xs (second_place p h c) more ≡ first_cell xs p t
  cell_rest h c more b e f g = sym (ap (first_cell xs p) e ∙ ap (λ v. cond v (Some (first_place p h)) (first_cell xs (second_place p h c) more)) (sym f ∙ g))

  pub cell_end : t ≡ Empty → first_cell xs p t ≡ None
  cell_end e = ap (first_cell xs p) e

-- a branch by the link of its list

record IsLink (h : Head) (b : Tree) (k : Head) (cells rest : Tree) : Type 0 where
  head : h ≡ Branch
  tree : b ≡ Node k cells rest

one_link : (p q : Head × (Tree × Tree)) → ◌≡◌ {A = Option (Head × (Tree × Tree))} (Some p) (Some q) → p ≡ q
one_link p q e = cc

link_is : (h : Head) (b : Tree) (k : Head) (cells rest : Tree) → Some (k, (cells, rest)) ≡ link_in h b → IsLink h b k cells rest
link_is Branch Empty k cells rest e = absurd (cc)
link_is Branch (Node q x y) k cells rest e =
    record { head = refl; tree = sym (ap (λ (z : Head × (Tree × Tree)). Node z.0 z.1.0 z.1.1) (one_link (k, (cells, rest)) (q, (x, y)) e)) }
link_is h b k cells rest e = absurd (cc)

pub link_size : (h : Head) (b : Tree) (k : Head) (cells rest : Tree) → Some (k, (cells, rest)) ≡ link_in h b → size b ≡ weight k + size cells + size rest
unfolding size
link_size h b k cells rest e = ap size (link_is h b k cells rest e).tree

module _ (xs : ℕ → Bool) (p : ℕ) (t : Tree) (h : Head) (a b : Tree) (e : t ≡ Node h a b) where
  listed_link : (k : Head) (cells rest : Tree) → Some (k, (cells, rest)) ≡ link_in h b
      → first_listed xs p t ≡ first_of (first_cell xs (first_place (second_place p h a) k) cells) (first_listed xs (second_place (second_place p h a) k cells) rest)
  unfolding first_listed
  listed_link k cells rest f =
      let l = link_is h b k cells rest f in
      ap (first_listed xs p) e ∙ (ap₂ (λ q u. first_listed xs p (Node q a u)) l.head l.tree
      ∙ ap (λ q. first_of (first_cell xs (first_place (second_place p q a) k) cells) (first_listed xs (second_place (second_place p q a) k cells) rest)) (sym l.head))

  pub link_found : (k : Head) (cells rest : Tree) (q n : ℕ) → Some (k, (cells, rest)) ≡ link_in h b → q ≡ first_place (second_place p h a) k → first_cell xs q cells ≡ Some n → first_listed xs p t ≡ Some n
  link_found k cells rest q n f g i = listed_link k cells rest f ∙ ap (λ o. first_of o (first_listed xs (second_place (second_place p h a) k cells) rest)) (ap (λ m. first_cell xs m cells) (sym g) ∙ i)

  pub link_rest : (k : Head) (cells rest : Tree) (q : ℕ) → Some (k, (cells, rest)) ≡ link_in h b → q ≡ first_place (second_place p h a) k → first_cell xs q cells ≡ None → first_listed xs (second_place (second_place p h a) k cells) rest ≡ first_listed xs p t
  link_rest k cells rest q f g i = sym (listed_link k cells rest f ∙ ap (λ o. first_of o (first_listed xs (second_place (second_place p h a) k cells) rest)) (ap (λ m. first_cell xs m cells) (sym g) ∙ i))

  listed_plain : None ≡ link_in h b → first_listed xs p t ≡ first_of (first_listed xs (first_place p h) a) (first_listed xs (second_place p h a) b)
  unfolding first_listed
  listed_plain f = ap (first_listed xs p) e ∙ go h b f
    where
      go : (h : Head) (b : Tree) → None ≡ link_in h b → first_listed xs p (Node h a b) ≡ first_of (first_listed xs (first_place p h) a) (first_listed xs (second_place p h a) b)
      go Branch Empty f = refl
      go Branch (Node q x y) f = absurd (cc)
      go h b f = refl

  pub plain_found : (q n : ℕ) → None ≡ link_in h b → q ≡ first_place p h → first_listed xs q a ≡ Some n → first_listed xs p t ≡ Some n
  plain_found q n f g i = listed_plain f ∙ ap (λ o. first_of o (first_listed xs (second_place p h a) b)) (ap (λ m. first_listed xs m a) (sym g) ∙ i)

  pub plain_rest : (q : ℕ) → None ≡ link_in h b → q ≡ first_place p h → first_listed xs q a ≡ None → first_listed xs (second_place p h a) b ≡ first_listed xs p t
  plain_rest q f g i = sym (listed_plain f ∙ ap (λ o. first_of o (first_listed xs (second_place p h a) b)) (ap (λ m. first_listed xs m a) (sym g) ∙ i))

pub listed_end : (xs : ℕ → Bool) (p : ℕ) (t : Tree) → t ≡ Empty → first_listed xs p t ≡ None
unfolding first_listed
listed_end xs p t e = ap (first_listed xs p) e
