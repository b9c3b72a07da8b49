-- Lists of binders, as they are gone through.
use Rattle.std.proofs.Common.{◌≡◌, ℕ, true, false, refl, ap, eq-eqb, ne_eqb, ◌∙◌}
use Rattle.std.specs.Prelude.{◌||◌, ◌==◌}
use Rattle.cv_syntax_trees.specs.declared.head.Head.{Head}
use Rattle.cv_syntax_trees.specs.declared.head.Head.TheVariants.{Binder}
use Rattle.cv_syntax_trees.specs.Tree.{Tree, Empty, Node}
use Rattle.cv_scope_rules.specs.Made.{is_bound}

pub bound_empty : (t : Tree) (y : ℕ) → t ≡ Empty → is_bound t y ≡ false
unfolding is_bound
bound_empty t y e = ap (λ u. is_bound u y) e

pub bound_binder : (t : Tree) (h : Head) (a b : Tree) (x T y : ℕ) → t ≡ Node h a b → h ≡ Binder x T → is_bound t y ≡ ((y == x) || is_bound b y)
unfolding is_bound
bound_binder t h a b x T y e f = ap (λ u. is_bound u y) (e ∙ ap (λ k. Node k a b) f)

pub bound_other : (t : Tree) (h : Head) (a b : Tree) (y : ℕ) → t ≡ Node h a b → ((x T : ℕ) → h ≡ Binder x T → ⊥) → is_bound t y ≡ false
unfolding is_bound
bound_other t h a b y e n = ap (λ u. is_bound u y) e ∙ go h n
  where
    go : (k : Head) → ((x T : ℕ) → k ≡ Binder x T → ⊥) → is_bound (Node k a b) y ≡ false
    go (Binder x T) m = absurd (m x T refl)
    go k m = refl

-- the variable is the binder's, or it isn't
pub binder_is : (t : Tree) (h : Head) (a b : Tree) (x T y : ℕ) → t ≡ Node h a b → h ≡ Binder x T → y ≡ x → is_bound t y ≡ true
binder_is t h a b x T y e f g = bound_binder t h a b x T y e f ∙ ap (λ v. v || is_bound b y) (eq-eqb y x g)

pub binder_differs : (t : Tree) (h : Head) (a b : Tree) (x T y : ℕ) → t ≡ Node h a b → h ≡ Binder x T → (y ≡ x → ⊥) → is_bound t y ≡ is_bound b y
binder_differs t h a b x T y e f g = bound_binder t h a b x T y e f ∙ ap (λ v. v || is_bound b y) (ne_eqb y x g)

pub ruleset binders = (bound_empty)
