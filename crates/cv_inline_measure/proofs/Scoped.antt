-- What bodies add in scopes that the code has made, as it is told.
use Rattle.std.proofs.Common.{◌≡◌, ℕ, ◌∷◌, Option, Some, None, refl, ap, subst, ◌∙◌}
use Rattle.cv_pool.specs.declared.node.NodeId.{NodeId}
use Rattle.cv_syntax_trees.specs.declared.head.Head.TheVariants.{No}
use Rattle.cv_syntax_trees.specs.Tree.{lone}
use Rattle.cv_syntax.specs.PoolTrees.{tree_at}
use Rattle.cv_meaning.specs.contexts.Inlined.{Own, Scope}
use Rattle.cv_inline.specs.declared.terms.caller.Caller.{Caller}
use Rattle.cv_inline.specs.terms.Drawings.{drawn_in}
use Rattle.cv_inline_sites.specs.Calls.{argument_in, first_argument}
use Rattle.cv_inline_sites.specs.declared.calls.Argument as code
use Rattle.cv_inline_sites.specs.declared.listing.subtree.Subtree.{Subtree}
use Rattle.cv_inline_sites.specs.declared.pairs.pairs.Pair.{Pair}
use Rattle.cv_inline_laws.specs.extents.Extents.{Extent, extent, under}
use Rattle.cv_inline_measure.specs.declared.added.Added.{Added}
use Rattle.cv_inline_measure.specs.declared.measuring.Measure.{Measure}
use Rattle.cv_inline_measure.specs.declared.measuring.Measure.TheVariants.{Nodes, Path}
use Rattle.cv_inline_measure.specs.declared.setting.Setting.{Setting}
use Rattle.cv_inline_measure.specs.Counts.{IsTold, measure_in}
use Rattle.cv_syntax.specs.limits.Limits.{told}
use Rattle.cv_inline_measure.specs.Settings.{body_in, branch_in, branch_scope_in, call_in, caller_at, callers_at, front_in, measure_of, trees_of}
use Rattle.cv_inline_measure.proofs.Arguments.{with_argument, without_arguments}

pub branch_told : (s : Setting) (c : Caller) (Σ Τ : Scope) (p : ℕ) (o : Caller) (q : Pair) (f : ℕ) (a r : Added) → Τ ≡ branch_scope_in s c Σ p o q → f ≡ told (front_in s c Τ p o q) → IsTold a (body_in s c Τ (record { place = q.place; root = q.body })) →
    ((n : ℕ) (e : Extent) → f ≡ told n → IsTold a e → IsTold r (under (measure_of s) 1 n e)) → IsTold r (branch_in s c Σ p o q)
branch_told s c Σ Τ p o q f a r e g h u =
    subst (λ (Υ : Scope). IsTold r (under (measure_of s) 1 (front_in s c Υ p o q) (body_in s c Υ (record { place = q.place; root = q.body })))) e
    (u (front_in s c Τ p o q) (body_in s c Τ (record { place = q.place; root = q.body })) g h)

pub bound_told : (s : Setting) (c : Caller) (Σ Τ : Scope) (b : Subtree) (f : ℕ) (a r : Added) → Σ ≡ Τ → IsTold a (body_in s c Σ b) → ((n : ℕ) (e : Extent) → f ≡ told n → IsTold a e → IsTold r (under (measure_of s) 1 n e)) →
    (n : ℕ) → f ≡ told n → IsTold r (under (measure_of s) 1 n (body_in s c Τ b))
bound_told s c Σ Τ b f a r e h u n g = subst (λ (Υ : Scope). IsTold r (under (measure_of s) 1 n (body_in s c Υ b))) e (u n (body_in s c Σ b) g h)

pub told_same : (a : Added) (e f : Extent) → e ≡ f → IsTold a e → IsTold a f
told_same a e f q = subst (IsTold a) q

pub call_without : (s : Setting) (c : Caller) (Σ : Scope) (bs ms : Option NodeId) (b : Subtree) → b.place ≡ 0 → None ≡ first_argument (tree_at (trees_of s) bs) (tree_at (trees_of s) ms) → body_in s c Σ b ≡ call_in s c Σ bs ms b
call_without s c Σ bs ms b e n =
    ap (λ p. body_in s c Σ (record { place = p; root = b.root })) e
    ∙ without_arguments (measure_of s) (drawn_in s.drawn.now) (callers_at s) (caller_at s c) Σ (tree_at (trees_of s) b.root) (tree_at (trees_of s) bs) (tree_at (trees_of s) ms) n

pub call_with : (s : Setting) (c : Caller) (Σ Τ : Scope) (bs ms : Option NodeId) (b : Subtree) (a : code.Argument) (f : ℕ) (x r : Added) → Some (argument_in (trees_of s) a) ≡ first_argument (tree_at (trees_of s) bs) (tree_at (trees_of s) ms) → Τ ≡ (a.name, Own) ∷ Σ →
    f ≡ told (extent (measure_of s) (tree_at (trees_of s) a.term)) → IsTold x (call_in s c Τ a.binders a.terms b) → ((n : ℕ) (e : Extent) → f ≡ told n → IsTold x e → IsTold r (under (measure_of s) 1 n e)) → IsTold r (call_in s c Σ bs ms b)
call_with s c Σ Τ bs ms b a f x r e g h i u =
    subst (IsTold r) (with_argument (measure_of s) (drawn_in s.drawn.now) (callers_at s) (caller_at s c) Σ (tree_at (trees_of s) b.root) (tree_at (trees_of s) bs) (tree_at (trees_of s) ms) (argument_in (trees_of s) a) e)
    (u (extent (measure_of s) (tree_at (trees_of s) a.term)) (call_in s c ((a.name, Own) ∷ Σ) a.binders a.terms b) h (subst (λ (Υ : Scope). IsTold x (call_in s c Υ a.binders a.terms b)) g i))

pub false_told : (m : Measure) → 1 ≡ told (extent (measure_in m) (lone No))
unfolding extent
false_told Nodes = refl
false_told Path = refl
