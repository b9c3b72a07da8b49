-- Next games choose the right side's key, so none is a game where `new` may not.
use Rattle.std.proofs.Common.{◌≡◌, ℕ, Bool, true, false, cond, ◌&&◌, ◌||◌, List, [], ◌∷◌, ◌++◌, refl, sym, ap, ap₂, ◌∙◌}
use Rattle.std.proofs.lemmas.Bool.{and_parts, both_ways}
use Rattle.cv_syntax_trees.specs.declared.head.Head.{Head}
use Rattle.cv_syntax_trees.specs.declared.head.Head.TheVariants.{New}
use Rattle.cv_syntax_trees.specs.Tree.{Tree, Empty, Node}
use Rattle.cv_meaning.specs.contexts.Groups.{Right, side_group}
use Rattle.cv_scope_rules.specs.Context.{replications_below}
use Rattle.cv_scope_rules.specs.Made.{made_by}
use Rattle.cv_scope_rules.specs.Phrases.{Inputs, is_phrase}
use Rattle.cv_scope_rules.specs.Sites.{Variable}
use Rattle.cv_scope_rules.specs.typing.Signature.{is_fixed_in}
use Rattle.cv_context_runs.proofs.instances.Terms.{only_terms}
use Rattle.cv_inline.specs.Draws.{drawn_by}
use Rattle.cv_inline.specs.NextGame.{InlinedCalls, inlined_calls_of}
use Rattle.cv_match_laws.specs.answers.Drawn.{draws, finds, next_game}
use Rattle.cv_scene.specs.Contexts.{is_coin_variable}
use Rattle.cv_scene.specs.LeftTerms.{HasLeftTerms}
use Rattle.cv_scene.specs.Reductions.{Reduction, context_of_game, matching, sites}
use Rattle.cv_scene.specs.Refusals.{definitions_in, has_key, is_of_type, new_of, only_new}
use Rattle.cv_scene.specs.Scenes.{has_some_new, is_new_head}
use Rattle.cv_steps_laws.specs.crypto.Steps.{is_next}
use Rattle.cv_strategy_moves.specs.Keys.{has_choice_of}
use Rattle.cv_strategy_moves.proofs.Advising.{Definitions, of_two}
use Rattle.cv_strategy_moves.proofs.Chosen.{follows}
use Rattle.cv_strategy_moves.proofs.Unfixed.{no_game}

-- a variable whose only definition is a `new` is defined by `new`

some_new : Definitions → Bool
some_new [] = false
some_new (d ∷ ds) = is_new_head d.0 || some_new ds

or_assoc : (b c d : Bool) → (b || (c || d)) ≡ ((b || c) || d)
or_assoc true c d = refl
or_assoc false c d = refl

some_both : (cs ds : Definitions) → some_new (cs ++ ds) ≡ (some_new cs || some_new ds)
unfolding some_new
some_both [] ds = refl
some_both (c ∷ cs) ds = ap (λ z. is_new_head c.0 || z) (some_both cs ds) ∙ or_assoc (is_new_head c.0) (some_new cs) (some_new ds)

here : (z : Bool) (h : Head) (rs : List (ℕ × ℕ)) → some_new (cond z ((h, rs) ∷ []) []) ≡ (is_new_head h && z)
unfolding some_new
here z h rs = go z (is_new_head h) refl
  where
    go : (z b : Bool) → is_new_head h ≡ b → some_new (cond z ((h, rs) ∷ []) []) ≡ (is_new_head h && z)
    go true true e = ap (λ w. w || false) e ∙ sym (ap (λ w. w && true) e)
    go true false e = ap (λ w. w || false) e ∙ sym (ap (λ w. w && true) e)
    go false true e = sym (ap (λ w. w && false) e)
    go false false e = sym (ap (λ w. w && false) e)

same_news : (x : ℕ) (t : Tree) (rs : List (ℕ × ℕ)) → some_new (definitions_in x rs t) ≡ has_some_new x t
unfolding definitions_in has_some_new some_new
same_news x Empty rs = refl
same_news x (Node h a b) rs =
    some_both (cond (made_by h a (Variable x)) ((h, rs) ∷ []) []) (definitions_in x rs a ++ definitions_in x (replications_below h rs) b)
    ∙ ap₂ ◌||◌ (here (made_by h a (Variable x)) h rs)
    (some_both (definitions_in x rs a) (definitions_in x (replications_below h rs) b) ∙ ap₂ ◌||◌ (same_news x a rs) (same_news x b (replications_below h rs)))

of_one : (T : ℕ) (h : Head) (rs : List (ℕ × ℕ)) → is_of_type T (only_new ((h, rs) ∷ [])) ≡ true → some_new ((h, rs) ∷ []) ≡ true
unfolding some_new
of_one T (New x U) rs e = refl
of_one T h rs e = absurd (both_ways _ refl e)

of_new : (T : ℕ) (ds : Definitions) → is_of_type T (only_new ds) ≡ true → some_new ds ≡ true
of_new T [] e = absurd (both_ways _ refl e)
of_new T (d ∷ []) e = of_one T d.0 d.1 e
of_new T (d ∷ c ∷ ds) e = absurd (both_ways _ (of_two T d.0 d.1 c ds) e)

module _ (r : Reduction) (names labels : List ℕ) (phrase : is_phrase Inputs r.scene.game ≡ true) (left : HasLeftTerms r.scene.declarations (matching r).group) (key : has_key (matching r) ≡ true) where
  abbrev calls : InlinedCalls
  calls = inlined_calls_of (context_of_game r) r.key (drawn_by (draws r) names (finds r) labels)

  is_drawn : has_some_new r.key r.scene.game ≡ true
  is_drawn =
      sym (same_news r.key r.scene.game [])
      ∙ of_new (matching r).group.key.1 (definitions_in r.key [] r.scene.game) (and_parts (is_of_type (matching r).group.key.1 (new_of r.scene.game r.key)) _ key).0

  is_chosen : has_choice_of (side_group Right r.equivalence).key.1 (next_game r names labels) ≡ true
  is_chosen = follows (matching r) (is_coin_variable (sites r)) r.answer (λ t e. only_terms r.scene.declarations (matching r) t left e) calls r.scene.game Inputs refl phrase is_drawn [] 0 []

  pub unfixed : is_fixed_in r.scene.declarations (side_group Right r.equivalence).key.1 ≡ false → is_next r.scene.declarations (next_game r names labels) ≡ false
  unfixed u = no_game r.scene.declarations (side_group Right r.equivalence).key.1 u (next_game r names labels) is_chosen
