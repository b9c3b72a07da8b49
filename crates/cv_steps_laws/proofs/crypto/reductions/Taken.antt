-- The taken names are those of the file and of the game.
use Rattle.std.proofs.Common.{◌≡◌, ℕ, zero, suc, ◌<◌, ◌≤◌, Bool, true, false, ◌||◌, ◌==◌, nat_lt, List, [], ◌∷◌, ◌++◌, All, refl, sym, ap₂, ◌∙◌, ltb-true, arith}
use Rattle.std.proofs.Math.Bool.{or-false}
use Rattle.std.proofs.lemmas.Bool.{or_left, or_right, eq-eqb}
use Rattle.std.proofs.lemmas.Bool.Decides.{nat_tests}
use Rattle.std.proofs.lemmas.List.Elements.{All-cons}
use Rattle.std.proofs.lemmas.List.Folds.{list_any-append}
use Rattle.cv_syntax_trees.specs.declared.head.Head.{Head}
use Rattle.cv_syntax_trees.specs.declared.head.Head.TheVariants.{Binder, Call, Key, Leaf, Let, Name, New, Read, Repl}
use Rattle.cv_syntax_trees.specs.Declarations.{Declaration}
use Rattle.cv_syntax_trees.specs.Tree.{Tree, Empty, Node}
use Rattle.cv_meaning.specs.Candidates.{below}
use Rattle.cv_scene.specs.Scenes.{head_names, names}
use Rattle.cv_inline_draws.specs.names.Texts.{is_listed}
use Rattle.cv_inline_draws.specs.taken_names.Taken.{names_at, names_in, taken_names}
use Rattle.cv_match_laws.specs.answers.Answers.{file_scene}
use Rattle.cv_steps_laws.specs.crypto.reductions.Tables.{AreTaken, HasNamesBelow}

listed_both : (xs ys : List ℕ) (x : ℕ) → is_listed (xs ++ ys) x ≡ (is_listed xs x || is_listed ys x)
listed_both xs ys x = list_any-append (λ y. y == x) xs ys

one_more : (x n : ℕ) → (nat_lt x n || (n == x)) ≡ nat_lt x (suc n)
one_more x n = grind (arith, nat_tests)

none_below : (x : ℕ) → nat_lt x 0 ≡ false
none_below x = grind (arith, nat_tests)

listed_below : (n x : ℕ) → is_listed (below n) x ≡ nat_lt x n
listed_below zero x = sym (none_below x)
listed_below (suc n) x = listed_both (below n) (n ∷ []) x ∙ (ap₂ ◌||◌ (listed_below n x) (or-false (n == x)) ∙ one_more x n)

listed_at : (h : Head) (x : ℕ) → is_listed (names_at h) x ≡ head_names x h
listed_at (Repl i n) x = or-false (i == x)
listed_at (Name i) x = or-false (i == x)
listed_at (New y T) x = or-false (y == x)
listed_at (Let y T) x = or-false (y == x)
listed_at (Binder y T) x = or-false (y == x)
listed_at (Leaf y) x = or-false (y == x)
listed_at (Read y) x = or-false (y == x)
listed_at (Key y) x = or-false (y == x)
listed_at (Call y l) x = or-false (y == x)
listed_at h x = refl

listed_in : (t : Tree) (x : ℕ) → is_listed (names_in t) x ≡ names x t
unfolding names_in names
listed_in Empty x = refl
listed_in (Node h a b) x =
    listed_both (names_at h) (names_in a ++ names_in b) x ∙ ap₂ ◌||◌ (listed_at h x) (listed_both (names_in a) (names_in b) x ∙ ap₂ ◌||◌ (listed_in a x) (listed_in b x))

pub listed : (own : ℕ) (game : Tree) (x : ℕ) → is_listed (taken_names own game) x ≡ (nat_lt x own || names x game)
listed own game x = listed_both (below own) (names_in game) x ∙ ap₂ ◌||◌ (listed_below own x) (listed_in game x)

-- what holds of each number that is listed holds of all
all_listed : (P : ℕ → Type 0) (xs : List ℕ) → ((x : ℕ) → is_listed xs x ≡ true → P x) → All P xs
all_listed P [] f = λ k d h. absurd (omega arith)
all_listed P (x ∷ xs) f = All-cons P x xs (f x (or_left (x == x) _ (eq-eqb x x refl))) (all_listed P xs (λ y e. f y (or_right (x == y) _ e)))

module _ (ds : List Declaration) (own count : ℕ) (game : Tree) (small : own ≤ count) (named : HasNamesBelow count game) where
  number_below : (x : ℕ) → (nat_lt x own || names x game) ≡ true → x < count
  number_below x e = go (nat_lt x own) refl e
    where
      go : (b : Bool) → nat_lt x own ≡ b → (b || names x game) ≡ true → x < count
      go true i e = let h : x < own = ltb-true x own i in omega arith
      go false i e = named x e

  pub are_taken : AreTaken (file_scene ds own game) count (taken_names own game)
  are_taken = record {
    known = λ x e. listed own game x ∙ or_left (nat_lt x own) (names x game) e;
    named = λ x e. listed own game x ∙ or_right (nat_lt x own) (names x game) e;
    below = all_listed (λ x. x < count) (taken_names own game) (λ x e. number_below x (sym (listed own game x) ∙ e));
  }
