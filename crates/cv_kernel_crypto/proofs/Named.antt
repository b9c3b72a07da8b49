-- The names of a game whose names are taken.
use Rattle.std.proofs.Common.{◌≡◌, ℕ, ◌<◌, ◌≤◌, Bool, true, false, ◌==◌, ◌||◌, nat_lt, List, [], ◌∷◌, All, length, refl, ap, ◌∙◌, arith}
use Rattle.std.proofs.lemmas.Bool.{or_left, or_right, eq-eqb}
use Rattle.std.proofs.lemmas.Bool.Decides.{nat_tests}
use Rattle.std.proofs.lemmas.List.Elements.{All-head, All-tail}
use Rattle.cv_syntax_trees.specs.declared.head.Head.{Head}
use Rattle.cv_syntax_trees.specs.declared.head.Head.TheVariants.{Binder, Call, Key, Leaf, Let, Name, New, Read, Repl}
use Rattle.cv_syntax_trees.specs.Tree.{Tree, Empty, Node}
use Rattle.cv_scene.specs.Scenes.{head_names, names}
use Rattle.cv_match_laws.specs.answers.Answers.{above_head, above_names}
use Rattle.cv_inline_draws.specs.names.Texts.{is_listed}
use Rattle.cv_steps_laws.specs.crypto.reductions.Tables.{HasNamesBelow}
use Rattle.cv_inline_draws.specs.taken_names.Taken.{taken_names}
use Rattle.cv_steps_laws.specs.crypto.Steps.{first_answer}
use Rattle.cv_kernel_crypto.specs.Stages.{AreTakenNames}

-- one more than each name is no more than a number above all

above_one : (n : ℕ) (h : Head) → ((x : ℕ) → head_names x h ≡ true → x < n) → above_head h ≤ n
above_one n (Repl i m) f = let l = f i (eq-eqb i i refl) in omega arith
above_one n (Name i) f = let l = f i (eq-eqb i i refl) in omega arith
above_one n (New x T) f = let l = f x (eq-eqb x x refl) in omega arith
above_one n (Let x T) f = let l = f x (eq-eqb x x refl) in omega arith
above_one n (Binder x T) f = let l = f x (eq-eqb x x refl) in omega arith
above_one n (Leaf x) f = let l = f x (eq-eqb x x refl) in omega arith
above_one n (Read x) f = let l = f x (eq-eqb x x refl) in omega arith
above_one n (Key x) f = let l = f x (eq-eqb x x refl) in omega arith
above_one n (Call x m) f = let l = f x (eq-eqb x x refl) in omega arith
above_one n h f = omega arith

above_all : (n : ℕ) (t : Tree) → HasNamesBelow n t → above_names t ≤ n
unfolding above_names names
above_all n Empty f = omega arith
above_all n (Node h a b) f =
    let l = above_one n h (λ x e. f x (or_left (head_names x h) _ e)) in
    let k = above_all n a (λ x e. f x (or_right (head_names x h) _ (or_left (names x a) _ e))) in
    let m = above_all n b (λ x e. f x (or_right (head_names x h) _ (or_right (names x a) _ e))) in
    omega arith

-- all numbers of a list are below a bound, so one that is listed is

below_listed : (n : ℕ) (xs : List ℕ) (x : ℕ) → All (λ y. y < n) xs → is_listed xs x ≡ true → x < n
below_listed n [] x f e = absurd (cc)
below_listed n (y ∷ ys) x f e = go (y == x) refl e (below_listed n ys x (All-tail (λ z. z < n) y ys f))
  where
    go : (b : Bool) → (y == x) ≡ b → (b || is_listed ys x) ≡ true → (is_listed ys x ≡ true → x < n) → x < n
    go true i e g = let l = All-head (λ z. z < n) y ys f in grind (arith, nat_tests)
    go false i e g = g e

-- so names that are listed with those of the file are below it
pub named_below : (count own : ℕ) (game : Tree) (taken : List ℕ) → ((x : ℕ) → is_listed (taken_names own game) x ≡ (nat_lt x own || names x game)) → taken ≡ taken_names own game → All (λ x. x < count) taken → HasNamesBelow count game
named_below count own game taken listed e a x f = below_listed count taken x a (ap (λ xs. is_listed xs x) e ∙ (listed x ∙ or_right (nat_lt x own) (names x game) f))

pub answers_above : (table : List (List ℕ)) (own : ℕ) (game : Tree) (taken : List ℕ) → AreTakenNames table own game taken → above_names game ≤ first_answer
answers_above table own game taken a = let l = above_all (length table) game a.named in omega (arith, a.few)
