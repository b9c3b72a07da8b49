-- What is in reach behind a node.
use Rattle.std.proofs.Common.{◌≡◌, ℕ, ◌+◌, ◌≤◌, ◌||◌, Bool, true, false, List, [], ◌∷◌, ◌++◌, length, append-nil, length-append, refl, sym, ap, ap₂, ◌∙◌, arith}
use Rattle.std.proofs.lemmas.List.Folds.{list_any-append}
use Rattle.std.specs.List.{list_any}
use Rattle.cv_syntax_trees.specs.declared.head.Head.{Head}
use Rattle.cv_syntax_trees.specs.declared.head.Head.TheVariants.{Call, Cons, In, Key, Let, New, Repl}
use Rattle.cv_syntax_trees.specs.Head.{weight}
use Rattle.cv_syntax_trees.specs.Tree.{Tree, same_tree}
use Rattle.cv_scope_rules.specs.declared.position.Position.{Position}
use Rattle.cv_scope_rules.specs.declared.position.Position.TheVariants.{Cells, Guarded, Guards}
use Rattle.cv_scope_rules.specs.Context.{Context, cells_of, replications_below, second_context}
use Rattle.cv_rule_pick.specs.declared.scope.Reach.{Reach}
use Rattle.cv_rule_pick.specs.Reach.{Reaches, given_cells, own_given}

pub below_length : (h : Head) (rs : List (ℕ × ℕ)) → length (replications_below h rs) ≤ length rs + weight h
below_length (Repl i n) rs = omega (arith, length-append rs ((i, n) ∷ []))
below_length h rs = omega arith

pub second_cells : (w : Position) (h : Head) (a : Tree) (Γ : Context) → (second_context w h a Γ).cells ≡ Γ.cells ++ given_cells w h a Γ
second_cells Guards Cons a Γ = refl
second_cells Guarded Cons a Γ = refl
second_cells Cells Cons a Γ = refl
second_cells w Cons a Γ = sym (append-nil Γ.cells)
second_cells w (In c) a Γ = refl
second_cells w (New x T) a Γ = refl
second_cells w (Let x T) a Γ = refl
second_cells w (Key x) a Γ = refl
second_cells w (Call x l) a Γ = refl
second_cells w h a Γ = sym (append-nil Γ.cells)

pub second_own : (w : Position) (h : Head) (a : Tree) (Γ : Context) → (second_context w h a Γ).own ≡ own_given w h a Γ
second_own Guards Cons a Γ = refl
second_own Guarded Cons a Γ = refl
second_own Cells Cons a Γ = refl
second_own w Cons a Γ = refl
second_own w h a Γ = refl

-- one cell alone
pub only_one : (f : Tree → Bool) (c : Tree) → f c ≡ list_any f (c ∷ [])
only_one f c = go (f c)
  where
    go : (v : Bool) → v ≡ (v || false)
    go true = refl
    go false = refl

pub reaches : (t : Tree) (w : Position) (h : Head) (a : Tree) (Γ : Context) (r s : Reach) (v : Bool) → Reaches t Γ r → v ≡ list_any (same_tree t) (given_cells w h a Γ) → s.known ≡ (r.known || v) → s.own ≡ list_any (same_tree t) (own_given w h a Γ) → Reaches t (second_context w h a Γ) s
reaches t w h a Γ r s v k e f g = record {
  known = ap (list_any (same_tree t)) (second_cells w h a Γ) ∙ (list_any-append (same_tree t) Γ.cells (given_cells w h a Γ) ∙ (ap₂ ◌||◌ k.known (sym e) ∙ sym f));
  own = ap (list_any (same_tree t)) (second_own w h a Γ) ∙ sym g;
}

pub own_more : (t : Tree) (Γ : Context) (a : Tree) (v u : Bool) → list_any (same_tree t) Γ.own ≡ v → u ≡ list_any (same_tree t) (cells_of Γ.replications a) → (v || u) ≡ list_any (same_tree t) (Γ.own ++ cells_of Γ.replications a)
own_more t Γ a v u e f = ap₂ ◌||◌ (sym e) f ∙ sym (list_any-append (same_tree t) Γ.own (cells_of Γ.replications a))
