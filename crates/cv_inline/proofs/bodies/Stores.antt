-- Stores that agree at all names but those that are assigned.
use Rattle.std.proofs.Common.{◌≡◌, ℕ, Bool, true, false, cond, ◌&&◌, ◌==◌, List, ◌∷◌, Some, refl, sym, ap, ◌∙◌}
use Rattle.cv_syntax_trees.specs.declared.head.Head.TheVariants.{Binder}
use Rattle.cv_syntax_trees.specs.Tree.{Tree, Node, binds}
use Rattle.cv_meaning.specs.Tapes.{same_tuple}
use Rattle.cv_meaning.specs.Memory.{Store, put}
use Rattle.cv_meaning.specs.Binders.{bound_to}
use Rattle.cv_meaning_laws.specs.Agreement.{AgreeOn}
use Rattle.std.proofs.lemmas.Bool.{or_parts}

pub agree_then : (on : ℕ → Bool) (m n k : Store) → AgreeOn on m n → AgreeOn on n k → AgreeOn on m k
agree_then on m n k e f x u o = e x u o ∙ f x u o

pub put_agree : (m : Store) (x : ℕ) (u : List ℕ) (v : ℕ) (on : ℕ → Bool) → ((y : ℕ) → on y ≡ true → (y == x) ≡ false) → AgreeOn on m (put m x u v)
unfolding put
put_agree m x u v on apart y w o = sym (ap (λ b. cond (b && same_tuple w u) (Some v) (m y w)) (apart y o))

pub bound_agree : (m : Store) (u : List ℕ) (bs : Tree) (vs : List ℕ) (on : ℕ → Bool) → ((y : ℕ) → on y ≡ true → binds bs y ≡ false) → AgreeOn on m (bound_to m u bs vs)
unfolding bound_to binds
bound_agree m u (Node (Binder x T) a b) (v ∷ vs) on apart =
    agree_then on m (put m x u v) (bound_to (put m x u v) u b vs) (put_agree m x u v on (λ y o. (or_parts (y == x) _ (apart y o)).0))
    (bound_agree (put m x u v) u b vs on (λ y o. (or_parts (binds a y) _ (or_parts (y == x) _ (apart y o)).1).1))
bound_agree m u bs vs on apart = λ y w o. refl

-- an assignment at a tuple leaves other tuples as they are

pub put_elsewhere : (m : Store) (x : ℕ) (u : List ℕ) (v y : ℕ) (w : List ℕ) → same_tuple w u ≡ false → m y w ≡ put m x u v y w
unfolding put
put_elsewhere m x u v y w e = sym (ap (λ b. cond ((y == x) && b) (Some v) (m y w)) e ∙ go (y == x))
  where
    go : (b : Bool) → cond (b && false) (Some v) (m y w) ≡ m y w
    go true = refl
    go false = refl

pub bound_elsewhere : (m : Store) (u : List ℕ) (bs : Tree) (vs : List ℕ) (y : ℕ) (w : List ℕ) → same_tuple w u ≡ false → m y w ≡ bound_to m u bs vs y w
unfolding bound_to
bound_elsewhere m u (Node (Binder x T) a b) (v ∷ vs) y w e = put_elsewhere m x u v y w e ∙ bound_elsewhere (put m x u v) u b vs y w e
bound_elsewhere m u bs vs y w e = refl
