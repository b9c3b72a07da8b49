-- How many sites a tree has is the same at each place.
use Rattle.std.proofs.Common.{◌≡◌, ℕ, ◌+◌, Bool, true, false, cond, List, [], ◌∷◌, ◌++◌, length, Option, Some, None, refl, ◌∙◌, arith}
use Rattle.std.proofs.lemmas.List.{length-append}
use Rattle.cv_syntax_trees.specs.Tree.{Tree, Empty, Node, first_place, second_place}
use Rattle.cv_scope_rules.specs.Context.{first_position, replications_below, second_position}
use Rattle.cv_scope_rules.specs.declared.position.Position.{Position}
use Rattle.cv_scene.specs.Instances.{Call, Matching, call_at}
use Rattle.cv_scene.specs.Sites.{Site, is_guard, sites_in}
use Rattle.cv_scene.specs.Contexts.{context_in}
use Rattle.cv_scene.specs.Reductions.{Reduction, is_coin, matching}

-- the tree in the context
abbrev pub context : Reduction → Position → List (ℕ × ℕ) → ℕ → Tree → Tree
context r w rs j t = context_in (matching r) (is_coin r) r.answer w rs j t

pub count_sites : (M : Matching) (w : Position) (rs : List (ℕ × ℕ)) (t : Tree) (p q : ℕ) → length (sites_in M w rs p t) ≡ length (sites_in M w rs q t)
unfolding sites_in
count_sites M w rs Empty p q = refl
count_sites M w rs (Node h a b) p q =
    go (call_at M (Node h a b)) (is_guard w) _ _ _ _
    (count_sites M (first_position w h) rs a (first_place p h) (first_place q h)) (count_sites M (second_position w h) (replications_below h rs) b (second_place p h a) (second_place q h a))
  where
    here : ℕ → Call → Site
    here j c = record { place = j; term = Node h a b; replications = rs; call = c }

    among : ℕ → Option Call → Bool → List Site → List Site → List Site
    among j o z xs ys = elim o as (λ _. List Site) [ Some c ↦ here j c ∷ [] | None ↦ cond z [] xs ++ ys ]

    go : (o : Option Call) (z : Bool) (xs ys vs ws : List Site) → length xs ≡ length vs → length ys ≡ length ws → length (among p o z xs ys) ≡ length (among q o z vs ws)
    go (Some c) z xs ys vs ws e f = refl
    go None true xs ys vs ws e f = f
    go None false xs ys vs ws e f = omega (arith, length-append xs ys, length-append vs ws)
