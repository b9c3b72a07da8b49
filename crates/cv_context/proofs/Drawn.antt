-- Variables that stand for coins, site by site.
use Rattle.std.proofs.Common.{◌≡◌, ℕ, suc, ◌+◌, ◌<◌, ◌≤◌, Bool, false, ◌||◌, List, [], ◌∷◌, length, drop, get_or, map, Option, refl, ap, ap₂, sym, ◌∙◌, arith}
use Rattle.std.proofs.lemmas.List.{drop_all, drop_more}
use Rattle.std.specs.List.{All, list_any}
use Rattle.cv_pool.specs.KindTree.{KindTree}
use Rattle.cv_pool.specs.declared.node.NodeId.{NodeId}
use Rattle.cv_syntax.specs.PoolTrees.{tree_at}
use Rattle.cv_scene.specs.Sights.{variable_of}
use Rattle.cv_scene.specs.Contexts.{is_coin_variable}
use Rattle.cv_scene.specs.Instances.{Instance, Matching, is_read_of}
use Rattle.cv_match_terms.specs.patterns.Sites.{HasInstance, site_in}
use Rattle.cv_match_terms.specs.declared.patterns.site.Site.{Site}
use Rattle.cv_context.specs.Roles.{is_coin_at, is_read_in}

any_step : {A : Type 0} (p : A → Bool) (xs : List A) (k : ℕ) (d : A) → k < length xs → list_any p (drop k xs) ≡ (p (get_or xs k d) || list_any p (drop (k + 1) xs))
any_step p xs k d l = ap (list_any p) (drop_more xs k d l)

pub any_past : {A : Type 0} (p : A → Bool) (xs : List A) (k : ℕ) → length xs ≤ k → list_any p (drop k xs) ≡ false
any_past p xs k l = ap (list_any p) (drop_all k xs l)

pub read_step : (trees : List KindTree) (ms : List (Option NodeId)) (k : ℕ) (d : Option NodeId) (o : Option ℕ) (y : ℕ) → k < length ms → o ≡ variable_of (tree_at trees (get_or ms k d)) → is_read_in trees (drop k ms) y ≡ (is_read_of y o || is_read_in trees (drop (k + 1) ms) y)
read_step trees ms k d o y l e =
    any_step (λ m. is_read_of y (variable_of (tree_at trees m))) ms k d l ∙ ap (λ v. is_read_of y v || is_read_in trees (drop (k + 1) ms) y) (sym e)

pub coin_step : (trees : List KindTree) (ss : List Site) (k : ℕ) (d : Site) (y : ℕ) → k < length ss → is_coin_at trees (drop k ss) y ≡ (is_read_in trees (get_or ss k d).instance.coins.items y || is_coin_at trees (drop (k + 1) ss) y)
coin_step trees ss k d y l = any_step (λ (s : Site). is_read_in trees s.instance.coins.items y) ss k d l

-- so these are the variables of coins at the sites of a search
pub found : (trees : List KindTree) (M : Matching) (y : ℕ) (ss : List Site) → All (HasInstance trees M) ss → is_coin_at trees ss y ≡ is_coin_variable (map (site_in trees M) ss) y
found trees M y [] e = refl
found trees M y (s ∷ ss) e = ap₂ (λ a b. a || b) one (found trees M y ss (λ k d l. e (suc k) d (omega arith)))
  where
    any_map : (ms : List (Option NodeId)) → list_any (λ m. is_read_of y (variable_of (tree_at trees m))) ms ≡ list_any (λ m. is_read_of y (variable_of m)) (map (tree_at trees) ms)
    any_map [] = refl
    any_map (m ∷ ms) = ap (λ b. is_read_of y (variable_of (tree_at trees m)) || b) (any_map ms)

    one : is_read_in trees s.instance.coins.items y ≡ list_any (λ m. is_read_of y (variable_of m)) (site_in trees M s).call.instance.coins
    one = any_map s.instance.coins.items ∙ ap (λ (I : Instance). list_any (λ m. is_read_of y (variable_of m)) I.coins) (e 0 s (omega arith)).instance.terms
