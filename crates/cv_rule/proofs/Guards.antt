-- Trees whose `defined` lists name a variable, node by node.
use Rattle.std.proofs.Common.{◌≡◌, ℕ, Bool, true, false, ◌||◌, Option, Some, None, refl, sym, ap, ◌∙◌}
use Rattle.cv_syntax_trees.specs.declared.head.Head.{Head}
use Rattle.cv_syntax_trees.specs.declared.head.Head.TheVariants.{Branch}
use Rattle.cv_syntax_trees.specs.Tree.{Tree, Empty, Node}
use Rattle.cv_steps.specs.Unletting.{has_cell_of, is_listed}
use Rattle.cv_rule.specs.Listing.{guards_in}

pub no_guards : (h : Head) (t : Tree) → t ≡ Empty → None ≡ guards_in h t
no_guards Branch t e = sym (ap (guards_in Branch) e)
no_guards h t e = refl

module _ (x : ℕ) where
  abbrev by : (a b : Tree) → Option (Tree × Tree) → Bool
  by a b None = is_listed x a || is_listed x b
  by a b (Some g) = has_cell_of x g.0 || is_listed x g.1

  opened : (h : Head) (a b : Tree) → is_listed x (Node h a b) ≡ by a b (guards_in h b)
  unfolding is_listed
  opened Branch a (Node k cells rest) = refl
  opened Branch a Empty = refl
  opened h a b = refl

  module _ (t : Tree) (h : Head) (a b : Tree) (e : t ≡ Node h a b) where
    listed_by : (o : Option (Tree × Tree)) → guards_in h b ≡ o → is_listed x t ≡ by a b o
    listed_by o f = ap (is_listed x) e ∙ (opened h a b ∙ ap (by a b) f)

    module _ (cells rest : Tree) (f : guards_in h b ≡ Some (cells, rest)) where
      pub in_list : has_cell_of x cells ≡ true → is_listed x t ≡ true
      in_list i = listed_by (Some (cells, rest)) f ∙ ap (λ v. v || is_listed x rest) i

      pub behind_list : has_cell_of x cells ≡ false → is_listed x t ≡ is_listed x rest
      behind_list i = listed_by (Some (cells, rest)) f ∙ ap (λ v. v || is_listed x rest) i

    module _ (f : guards_in h b ≡ None) where
      pub in_first : is_listed x a ≡ true → is_listed x t ≡ true
      in_first i = listed_by None f ∙ ap (λ v. v || is_listed x b) i

      pub in_second : is_listed x a ≡ false → is_listed x t ≡ is_listed x b
      in_second i = listed_by None f ∙ ap (λ v. v || is_listed x b) i

  pub lists_nothing : (t : Tree) → t ≡ Empty → is_listed x t ≡ false
  unfolding is_listed
  lists_nothing t e = ap (is_listed x) e
