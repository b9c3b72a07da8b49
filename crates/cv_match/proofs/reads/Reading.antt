-- Reads in arguments, node by node.
use Rattle.std.proofs.Common.{◌≡◌, ℕ, ap₂, Bool, true, false, cond, List, Some, None, refl, ap, sym, ◌∙◌}
use Rattle.cv_syntax_trees.specs.declared.head.Head.{Head}
use Rattle.cv_syntax_trees.specs.Tree.{Tree, Empty, Node, first_place, second_place}
use Rattle.cv_syntax_trees.specs.sites.Sites.{first_of}
use Rattle.cv_scene.specs.Scenes.{first_reading}
use Rattle.cv_scene.specs.Refusals.{first_in_arguments, is_name_of}

pub argument_none : (x : ℕ) (xs : List (ℕ × ℕ)) (t : Tree) (p : ℕ) (m : Tree) → m ≡ Empty → None ≡ first_in_arguments x xs t p m
unfolding first_in_arguments
argument_none x xs Empty p m e = refl
argument_none x xs (Node h a b) p m e = sym (ap (first_in_arguments x xs (Node h a b) p) e)

module _ (x : ℕ) (xs : List (ℕ × ℕ)) (t : Tree) (p : ℕ) (m : Tree) where
  pub argument_end : t ≡ Empty → None ≡ first_in_arguments x xs t p m
  unfolding first_in_arguments
  argument_end e = sym (ap (λ u. first_in_arguments x xs u p m) e)

  module _ (h : Head) (a b : Tree) (e : t ≡ Node h a b) (k : Head) (c d : Tree) (f : m ≡ Node k c d) (v : Bool) (g : v ≡ is_name_of xs h) where
    parts : first_in_arguments x xs t p m ≡ cond v (first_reading x p m) (first_of (first_in_arguments x xs a (first_place p k) c) (first_in_arguments x xs b (second_place p k c) d))
    unfolding first_in_arguments
    parts =
        ap₂ (λ u n. first_in_arguments x xs u p n) e f
        ∙ ap₂ (λ w n. cond w (first_reading x p n) (first_of (first_in_arguments x xs a (first_place p k) c) (first_in_arguments x xs b (second_place p k c) d))) (sym g) (sym f)

    pub argument_here : v ≡ true → first_reading x p m ≡ first_in_arguments x xs t p m
    argument_here i = sym (parts ∙ ap (λ w. cond w (first_reading x p m) (first_of (first_in_arguments x xs a (first_place p k) c) (first_in_arguments x xs b (second_place p k c) d))) i)

    module _ (i : v ≡ false) (q : ℕ) (j : q ≡ first_place p k) where
      within : first_in_arguments x xs t p m ≡ first_of (first_in_arguments x xs a q c) (first_in_arguments x xs b (second_place p k c) d)
      within =
          parts
          ∙ ap₂ (λ w n. cond w (first_reading x p m) (first_of (first_in_arguments x xs a n c) (first_in_arguments x xs b (second_place p k c) d))) i (sym j)

      pub argument_first : (r : ℕ) → Some r ≡ first_in_arguments x xs a q c → Some r ≡ first_in_arguments x xs t p m
      argument_first r l = sym (within ∙ ap (λ o. first_of o (first_in_arguments x xs b (second_place p k c) d)) (sym l))

      pub argument_rest : (n : ℕ) → n ≡ second_place p k c → None ≡ first_in_arguments x xs a q c → first_in_arguments x xs b n d ≡ first_in_arguments x xs t p m
      argument_rest n r l = ap (λ o. first_in_arguments x xs b o d) r ∙ sym (within ∙ ap (λ o. first_of o (first_in_arguments x xs b (second_place p k c) d)) (sym l))
