-- What is known on the way down to a place.
use Rattle.std.proofs.Common.{◌≡◌, ℕ, ◌+◌, ◌-◌, ◌||◌, false, Option, Some, None, refl, sym, ap, ap₂, ◌∙◌}
use Rattle.std.specs.List.{list_any}
use Rattle.cv_syntax_trees.specs.declared.head.Head.{Head}
use Rattle.cv_syntax_trees.specs.declared.head.Head.TheVariants.{Cons}
use Rattle.cv_syntax_trees.specs.Head.{weight}
use Rattle.cv_syntax_trees.specs.Tree.{Tree, Empty, Node, same_tree, size}
use Rattle.cv_path.specs.declared.place.Lies.TheVariants.{Here, Within, Behind}
use Rattle.cv_path.specs.Places.{LiesAt}
use Rattle.cv_path.proofs.Going.{choice_behind, choice_here, choice_within, less_behind, less_within}
use Rattle.cv_scope_rules.specs.declared.position.Position.{Position}
use Rattle.cv_scope_rules.specs.declared.position.Position.TheVariants as position
use Rattle.cv_scope_rules.specs.Context.{Context, context_at, first_context, first_position, nothing_known, second_context, second_position}
use Rattle.cv_scope_rules.specs.Tests.{is_in_reach}
use Rattle.cv_rule_pick.specs.declared.scope.Reach.{Reach}
use Rattle.cv_rule_pick.specs.Reach.{Reaches}

module _ (w : Position) (Γ : Context) (t : Tree) (h : Head) (a b : Tree) (p q : ℕ) (e : t ≡ Node h a b) where
  pub context_here : LiesAt h a p Here → context_at w Γ t p ≡ Some Γ
  unfolding context_at
  context_here l =
      ap (λ u. context_at w Γ u p) e
      ∙ choice_here h a p (Some Γ) (context_at (first_position w h) (first_context w h Γ) a (p - weight h)) (context_at (second_position w h) (second_context w h a Γ) b (p - (weight h + size a))) l

  pub context_within : LiesAt h a p (Within q) → context_at w Γ t p ≡ context_at (first_position w h) (first_context w h Γ) a q
  unfolding context_at
  context_within l =
      ap (λ u. context_at w Γ u p) e
      ∙ (choice_within h a p (Some Γ) (context_at (first_position w h) (first_context w h Γ) a (p - weight h)) (context_at (second_position w h) (second_context w h a Γ) b (p - (weight h + size a))) q l
      ∙ ap (context_at (first_position w h) (first_context w h Γ) a) (less_within h a p q l))

  pub context_behind : LiesAt h a p (Behind q) → context_at w Γ t p ≡ context_at (second_position w h) (second_context w h a Γ) b q
  unfolding context_at
  context_behind l =
      ap (λ u. context_at w Γ u p) e
      ∙ (choice_behind h a p (Some Γ) (context_at (first_position w h) (first_context w h Γ) a (p - weight h)) (context_at (second_position w h) (second_context w h a Γ) b (p - (weight h + size a))) q l
      ∙ ap (context_at (second_position w h) (second_context w h a Γ) b) (less_behind h a p q l))

pub context_empty : (w : Position) (Γ : Context) (t : Tree) (p : ℕ) → t ≡ Empty → context_at w Γ t p ≡ None
unfolding context_at
context_empty w Γ t p e = ap (λ u. context_at w Γ u p) e

pub none_there : {A : Type 0} (w : Position) (Γ Δ : Context) (t : Tree) (p : ℕ) → t ≡ Empty → context_at w Γ t p ≡ Some Δ → A
none_there w Γ Δ t p e f = absurd (clash (sym (context_empty w Γ t p e) ∙ f))
  where
    clash : ◌≡◌ {A = Option Context} None (Some Δ) → ⊥
    clash g = cc

pub nothing_reached : (t : Tree) → Reaches t nothing_known (record { known = false; own = false })
nothing_reached t = record { known = refl; own = refl }

first_keeps : (w : Position) (h : Head) (Γ : Context) → ((first_context w h Γ).cells ≡ Γ.cells) × ((first_context w h Γ).own ≡ Γ.own)
first_keeps position.Bodies Cons Γ = (refl, refl)
first_keeps position.ElseBody Cons Γ = (refl, refl)
first_keeps w Cons Γ = (refl, refl)
first_keeps w h Γ = (refl, refl)

pub keeps_first : (t : Tree) (w : Position) (h : Head) (Γ : Context) (r : Reach) → Reaches t Γ r → Reaches t (first_context w h Γ) r
keeps_first t w h Γ r k =
    let f = first_keeps w h Γ in
    record { known = ap (list_any (same_tree t)) f.0 ∙ k.known; own = ap (list_any (same_tree t)) f.1 ∙ k.own }

pub here_reached : (t : Tree) (w : Position) (Γ Δ : Context) (u : Tree) (h : Head) (a b : Tree) (p : ℕ) → u ≡ Node h a b → LiesAt h a p Here → context_at w Γ u p ≡ Some Δ → (r : Reach) → Reaches t Γ r → (r.known || r.own) ≡ is_in_reach Δ t
here_reached t w Γ Δ u h a b p e l f r k =
    let g : Γ ≡ Δ = same (sym (context_here w Γ u h a b p 0 e l) ∙ f) in
    sym (ap₂ ◌||◌ k.known k.own) ∙ ap (λ (Θ : Context). is_in_reach Θ t) g
  where
    same : ◌≡◌ {A = Option Context} (Some Γ) (Some Δ) → Γ ≡ Δ
    same j = cc
