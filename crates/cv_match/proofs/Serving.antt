-- Coins of sites.
use Rattle.std.proofs.Common.{◌≡◌, ℕ, Bool, true, false, ◌&&◌, List, map, Option, Some, None, refl, ap, ap₂, sym, ◌∙◌}
use Rattle.std.specs.Prelude.{not}
use Rattle.cv_syntax_trees.specs.declared.head.Head.{Head}
use Rattle.cv_syntax_trees.specs.declared.head.Head.TheVariants.{Binder}
use Rattle.cv_syntax_trees.specs.Tree.{Tree, Empty, Node}
use Rattle.cv_syntax.proofs.Trees.{tree_of_NoTree}
use Rattle.cv_meaning.specs.Correspondences.{typed_names}
use Rattle.cv_scene.specs.Scenes.{is_queried}
use Rattle.cv_scene.specs.Sights.{variable_of}
use Rattle.cv_scene.specs.Instances.{Matching}
use Rattle.cv_scene.specs.Refusals.{are_coins, has_key, is_coin, is_of_type, new_of, stands_under}
use Rattle.cv_scene.specs.Sites.{Site}
use Rattle.cv_match.specs.Fitting.{is_own_use}

pub ruleset first = (tree_of_NoTree)

-- a coin, test by test

module _ (M : Matching) (s : Site) (c : ℕ) (m : Tree) (o : Option ℕ) where
  pub coin_none : o ≡ None → false ≡ is_coin M s c m o
  coin_none e = sym (ap (is_coin M s c m) e)

  module _ (y : ℕ) (e : o ≡ Some y) (rs : List (ℕ × ℕ)) (f : rs ≡ s.replications) (v : Bool) (g : v ≡ stands_under rs (new_of M.scene.game y)) where
    coin_parts : is_coin M s c m o ≡ (v && is_own_use M s c m y)
    unfolding is_own_use
    coin_parts = ap (is_coin M s c m) e ∙ ap (λ w. w && is_own_use M s c m y) (ap (λ l. stands_under l (new_of M.scene.game y)) (sym f) ∙ sym g)

    pub coin_elsewhere : v ≡ false → false ≡ is_coin M s c m o
    coin_elsewhere i = sym (coin_parts ∙ ap (λ w. w && is_own_use M s c m y) i)

    pub coin_own : v ≡ true → (r : Bool) → r ≡ is_own_use M s c m y → r ≡ is_coin M s c m o
    coin_own i r j = j ∙ sym (coin_parts ∙ ap (λ w. w && is_own_use M s c m y) i)

-- coins of a list of binders, one after another
module _ (M : Matching) (s : Site) (term_of : ℕ × ℕ → Tree) (t : Tree) where
  abbrev all_coins : Tree → Bool
  all_coins u = are_coins M s (typed_names u) (map term_of (typed_names u))

  pub coins_end : t ≡ Empty → true ≡ all_coins t
  coins_end e = sym (ap all_coins e)

  module _ (h : Head) (a b : Tree) (e : t ≡ Node h a b) where
    pub coins_other : ((x T : ℕ) → h ≡ Binder x T → ⊥) → true ≡ all_coins t
    coins_other n = sym (ap all_coins e ∙ step h n)
      where
        step : (h : Head) → ((x T : ℕ) → h ≡ Binder x T → ⊥) → all_coins (Node h a b) ≡ true
        step (Binder x T) n = absurd (n x T refl)
        step h n = refl

    module _ (x T : ℕ) (i : h ≡ Binder x T) (v : Bool) (j : v ≡ is_coin M s x (term_of (x, T)) (variable_of (term_of (x, T)))) where
      first_coin : all_coins t ≡ (v && all_coins b)
      first_coin = ap all_coins e ∙ (ap (λ k. all_coins (Node k a b)) i ∙ ap (λ w. w && all_coins b) (sym j))

      pub coins_wrong : v ≡ false → false ≡ all_coins t
      coins_wrong y = sym (first_coin ∙ ap (λ w. w && all_coins b) y)

      pub coins_right : v ≡ true → all_coins b ≡ all_coins t
      coins_right y = sym (first_coin ∙ ap (λ w. w && all_coins b) y)

-- the key, test by test
module _ (M : Matching) (T : ℕ) (o : Option (ℕ × List (ℕ × ℕ))) (v : Bool) (e : T ≡ M.group.key.1) (f : v ≡ is_of_type T o) (g : o ≡ new_of M.scene.game M.key) where
  key_test : has_key M ≡ (v && not (is_queried M.scene M.key))
  key_test = ap (λ w. w && not (is_queried M.scene M.key)) (sym (f ∙ ap₂ is_of_type e g))

  pub key_elsewhere : v ≡ false → v ≡ has_key M
  key_elsewhere i = i ∙ sym (key_test ∙ ap (λ w. w && not (is_queried M.scene M.key)) i)

  pub key_drawn : v ≡ true → (q : Bool) → q ≡ is_queried M.scene M.key → not q ≡ has_key M
  key_drawn i q j = sym (key_test ∙ ap₂ (λ w r. w && not r) i (sym j))
