-- Sites of another sort than the first, along a list of binders.
use Rattle.std.proofs.Common.{◌≡◌, ℕ, Bool, true, false, ◌||◌, refl, ap, sym, ◌∙◌}
use Rattle.cv_syntax_trees.specs.declared.head.Head.{Head}
use Rattle.cv_syntax_trees.specs.declared.head.Head.TheVariants.{Binder}
use Rattle.cv_syntax_trees.specs.Tree.{Tree, Empty, Node}
use Rattle.cv_syntax_trees.specs.declared.sites.sort.Sort.{Sort}
use Rattle.cv_scope_rules.specs.typing.Signature.{Arrays, variable_sort}
use Rattle.cv_scope_rules.specs.typing.Typing.{binders_differ}
use Rattle.cv_syntax_trees.specs.sites.Sorts.{differs_from}

pub differ_step : (r : Arrays) (sort : ℕ → Sort) (t : Tree) (h : Head) (a b : Tree) (x T : ℕ) → t ≡ Node h a b → h ≡ Binder x T → binders_differ r sort t ≡ (differs_from (variable_sort r x) (sort T) || binders_differ r sort b)
unfolding binders_differ
differ_step r sort t h a b x T e f = ap (binders_differ r sort) e ∙ ap (λ k. binders_differ r sort (Node k a b)) f

pub differ_skip : (r : Arrays) (sort : ℕ → Sort) (t : Tree) (h : Head) (a b : Tree) → t ≡ Node h a b → ((x T : ℕ) → h ≡ Binder x T → ⊥) → binders_differ r sort t ≡ binders_differ r sort b
unfolding binders_differ
differ_skip r sort t h a b e n = ap (binders_differ r sort) e ∙ step h n
  where
    step : (h : Head) → ((x T : ℕ) → h ≡ Binder x T → ⊥) → binders_differ r sort (Node h a b) ≡ binders_differ r sort b
    step (Binder x T) n = absurd (n x T refl)
    step h n = refl

pub differ_end : (r : Arrays) (sort : ℕ → Sort) (t : Tree) → t ≡ Empty → binders_differ r sort t ≡ false
unfolding binders_differ
differ_end r sort t e = ap (binders_differ r sort) e

pub or_true : (x d m total : Bool) → x ≡ (d || m) → x ≡ total → d ≡ true → true ≡ total
or_true x d m total e h f = sym (ap (λ b. b || m) f) ∙ (sym e ∙ h)

pub or_false : (x d m total : Bool) → x ≡ (d || m) → x ≡ total → d ≡ false → m ≡ total
or_false x d m total e h f = sym (ap (λ b. b || m) f) ∙ (sym e ∙ h)
