-- Terms and indices at a place of a game, as the code goes through lists.
use Rattle.std.proofs.Common.{◌≡◌, ℕ, ◌+◌, ◌-◌, ◌<◌, ◌&&◌, Bool, true, false, cond, nat_lt, Some, refl, sym, ap, ap₂, ◌∙◌, arith, List}
use Rattle.cv_syntax_trees.specs.Children.{is_empty}
use Rattle.cv_syntax_trees.specs.declared.head.Head.{Head}
use Rattle.cv_syntax_trees.specs.declared.head.Head.TheVariants.{Binder}
use Rattle.cv_syntax_trees.specs.Head.{weight}
use Rattle.cv_syntax_trees.specs.Tree.{Tree, Empty, Node, size}
use Rattle.cv_scope_rules.specs.declared.position.Position.{Position}
use Rattle.cv_scope_rules.specs.declared.position.Position.TheVariants.{Anywhere}
use Rattle.cv_scope_rules.specs.Context.{Context, context_at, first_context, first_position, known_at, nothing_known, second_context, second_position}
use Rattle.cv_scope_rules.specs.Phrases.{is_phrase}
use Rattle.cv_scope_rules.specs.Rules.{Names}
use Rattle.cv_scope_rules.specs.Scope.{names_of}
use Rattle.cv_scene.specs.Scenes.{Scene}
use Rattle.cv_scene.specs.Terms.{is_term_at, replications_at, replications_by}
use Rattle.cv_costs.specs.names.Reach.{is_in_scope, is_in_scope_at, is_in_scope_by}
use Rattle.cv_rule_pick.specs.Picking.{are_indices_at, are_terms_at}

-- something is known at each place

known : (w : Position) (Γ : Context) (t : Tree) (p : ℕ) → p < size t → (Δ : Context) × (context_at w Γ t p ≡ Some Δ)
unfolding context_at size
known w Γ Empty p l = absurd (omega arith)
known w Γ (Node h a b) p l =
    go (nat_lt p (weight h)) (nat_lt p (weight h + size a)) refl refl (λ k. known (first_position w h) (first_context w h Γ) a (p - weight h) k) (λ k. known (second_position w h) (second_context w h a Γ) b (p - (weight h + size a)) k)
  where
    go : (u v : Bool) → nat_lt p (weight h) ≡ u → nat_lt p (weight h + size a) ≡ v
        → (p - weight h < size a → (Δ : Context) × (context_at (first_position w h) (first_context w h Γ) a (p - weight h) ≡ Some Δ))
        → (p - (weight h + size a) < size b → (Δ : Context) × (context_at (second_position w h) (second_context w h a Γ) b (p - (weight h + size a)) ≡ Some Δ))
        → (Δ : Context) × (cond u (Some Γ) (cond v (context_at (first_position w h) (first_context w h Γ) a (p - weight h)) (context_at (second_position w h) (second_context w h a Γ) b (p - (weight h + size a)))) ≡ Some Δ)
    go true v e f i j = (Γ, refl)
    go false true e f i j = i (grind (arith, e, f))
    go false false e f i j = j (grind (arith, l, e, f))

pub scope_there : (s : Scene) (p : ℕ) (m : Tree) (names : Names) (rs : List (ℕ × ℕ)) (there : Bool) → p < size s.game → names ≡ names_of s.declarations s.game → rs ≡ replications_at s p
    → ((Γ : Context) → known_at s.game p ≡ Some Γ → Γ.replications ≡ rs → there ≡ is_in_scope names Γ m) → there ≡ is_in_scope_at s p m
scope_there s p m names rs there l e f k =
    let z = known Anywhere nothing_known s.game p l in
    k z.0 z.1 (sym (f ∙ ap replications_by z.1)) ∙ (ap (λ n. is_in_scope n z.0 m) e ∙ sym (ap (λ o. is_in_scope_by (names_of s.declarations s.game) o m) z.1))

pub both_hold : (x y b there : Bool) → b ≡ x → b ≡ true → there ≡ y → there ≡ (x && y)
both_hold x y b there e f g = g ∙ ap (λ v. v && y) (sym f ∙ e)

-- terms

no_term : (s : Scene) (p : ℕ) (h : Head) (ms : Tree) → are_terms_at s p (Node h Empty ms) ≡ false
unfolding is_phrase
no_term s p h ms = refl

module _ (s : Scene) (p : ℕ) (t : Tree) (h : Head) (m ms : Tree) (e : t ≡ Node h m ms) where
  pub none_there : m ≡ Empty → are_terms_at s p t ≡ false
  none_there f = ap (are_terms_at s p) e ∙ (ap (λ u. are_terms_at s p (Node h u ms)) f ∙ no_term s p h ms)

  pub terms_rest : (b : Bool) → b ≡ is_term_at s p m → b ≡ true → are_terms_at s p ms ≡ are_terms_at s p t
  terms_rest b f g = sym (ap (are_terms_at s p) e ∙ ap (λ v. v && are_terms_at s p ms) (sym f ∙ g))

  pub term_fails : (b : Bool) → b ≡ is_term_at s p m → b ≡ false → are_terms_at s p t ≡ false
  term_fails b f g = ap (are_terms_at s p) e ∙ ap (λ v. v && are_terms_at s p ms) (sym f ∙ g)

pub terms_end : (s : Scene) (p : ℕ) (t : Tree) → t ≡ Empty → are_terms_at s p t ≡ true
terms_end s p t e = ap (are_terms_at s p) e

-- index terms

pub indices_short : (s : Scene) (p : ℕ) (us ms : Tree) (h : Head) (x T : ℕ) (a b : Tree) → us ≡ Node h a b → h ≡ Binder x T → ms ≡ Empty → are_indices_at s p us ms ≡ false
indices_short s p us ms h x T a b e f g = ap₂ (are_indices_at s p) (e ∙ ap (λ q. Node q a b) f) g

pub indices_end : (s : Scene) (p : ℕ) (us ms : Tree) (b : Bool) → us ≡ Empty → b ≡ is_empty ms → b ≡ are_indices_at s p us ms
indices_end s p us ms b e f = f ∙ (go ms ∙ sym (ap (λ t. are_indices_at s p t ms) e))
  where
    go : (t : Tree) → is_empty t ≡ are_indices_at s p Empty t
    go Empty = refl
    go (Node h m more) = refl
