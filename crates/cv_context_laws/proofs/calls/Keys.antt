-- The indices of the key are a list in each call that is found in a game's context.
use Rattle.std.proofs.Common.{◌≡◌, ℕ, true, List, [], Option, Some, None, refl, sym, ap, subst, ◌∙◌}
use Rattle.std.specs.Prelude.{IfSome}
use Rattle.cv_syntax_trees.specs.Tree.{Tree, first}
use Rattle.cv_scope_rules.specs.Phrases.{Inputs, is_phrase}
use Rattle.cv_scene.specs.Reductions.{Reduction, context_of_game, matching}
use Rattle.cv_inline_sites.specs.branches.Moves.{IsList}
use Rattle.cv_inline_draws.specs.callings.Sites.{HasListedKeys}
use Rattle.cv_inline.specs.NextGame.{call_of}
use Rattle.cv_context_laws.specs.calls.Calls.{IsCallOf}
use Rattle.cv_context_laws.proofs.calls.Games.{game_calls}
use Rattle.cv_context_laws.proofs.calls.Instances.{IsInGame, key_list, no_call_in_terms, site_in_game}
use Rattle.cv_context_laws.proofs.calls.Found.{Found, found_by}

pub listed_keys : (r : Reduction) → is_phrase Inputs r.scene.game ≡ true → HasListedKeys (context_of_game r).game
listed_keys r e l = go (call_of [] l (context_of_game r).game) refl
  where
    in_game : (rs : List (ℕ × ℕ)) (x m : ℕ) (a : Tree) (k : IsCallOf r rs x m a) → IsInGame (matching r) k.site.call.instance
    in_game rs x m a k = site_in_game r e m k.site k.listed

    plain : (rs : List (ℕ × ℕ)) (x m : ℕ) (a b : Tree) → Unit {0} → IsCallOf r rs x m a → call_of rs l a ≡ None
    plain rs x m a b u k = ap (call_of rs l) k.instance ∙ no_call_in_terms (matching r) k.site.call.instance l rs (in_game rs x m a k)

    go : (o : Option Found) → call_of [] l (context_of_game r).game ≡ o → IfSome o (λ c. IsList (first (first c.1)))
    go None i = tt
    go (Some c) i =
        let f = found_by r l (λ t. Unit {0}) (λ h a b u. (tt, tt)) plain (context_of_game r).game [] c tt (game_calls r e) i in
        subst (λ t. IsList (first (first t))) (sym f.call.instance) (key_list (matching r) f.call.site.call.instance (in_game c.0 f.variable l c.1 f.call))
