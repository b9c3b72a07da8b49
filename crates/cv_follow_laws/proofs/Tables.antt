-- The tables of names along a course are fixed by its steps.
use Rattle.std.proofs.Common.{◌≡◌, ℕ, zero, suc, ◌≤◌, Bool, List, [], ◌∷◌, ◌++◌, length, map, take, Option, refl, ap, ap₂, sym, ◌∙◌, subst, arith}
use Rattle.cv_syntax_trees.specs.Declarations.{Declaration}
use Rattle.cv_syntax_trees.specs.Tree.{Tree}
use Rattle.cv_kernel.specs.Drawings.{game_after}
use Rattle.cv_follow.specs.Courses.{DrawsThrough, Table, names_behind}

-- two lists of tables whose fronts end alike are one
pub same_tables : (names : Table) (a b : List Table) → length a ≡ length b → ((k : ℕ) → k ≤ length a → names_behind names (take k a) ≡ names_behind names (take k b)) → a ≡ b
unfolding names_behind
same_tables names [] [] l h = refl
same_tables names [] (y ∷ b) l h = absurd (omega (arith, l))
same_tables names (x ∷ a) [] l h = absurd (omega (arith, l))
same_tables names (x ∷ a) (y ∷ b) l h =
    let first : x ≡ y = h 1 (omega arith) in
    ap₂ (λ (t : Table) (ts : List Table). t ∷ ts) first
    (same_tables x a b (omega (arith, l)) (λ k j. h (suc k) (omega (arith, j)) ∙ ap (λ t. names_behind t (take k b)) (sym first)))

module _ (found : Bool) (ds : List Declaration) (known : ℕ → Bool) (own : ℕ) where
  -- there is one for each step
  pub as_many : (game : Tree) (ts : List (Tree × Option Tree)) (names : Table) (tables : List Table) → DrawsThrough found ds known own game ts names tables → length tables ≡ length ts
  as_many game [] names [] h = refl
  as_many game [] names (table ∷ tables) h = absurd h
  as_many game (t ∷ ts) names [] h = absurd h
  as_many game (t ∷ ts) names (table ∷ tables) h = ap suc (as_many (game_after t.1 game) ts table tables h.1)

  -- those of the steps in front are in front
  pub through_front : (game : Tree) (ts us : List (Tree × Option Tree)) (names : Table) (tables : List Table) → DrawsThrough found ds known own game (ts ++ us) names tables → DrawsThrough found ds known own game ts names (take (length ts) tables)
  through_front game [] us names tables h = tt
  through_front game (t ∷ ts) us names [] h = absurd h
  through_front game (t ∷ ts) us names (table ∷ tables) h = (h.0, through_front (game_after t.1 game) ts us table tables h.1)
