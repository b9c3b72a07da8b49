-- The replications above a place of a game in array scope: they are the same of what is known and of what stands there, and
-- there are at most eight.
use Rattle.std.proofs.Common.{◌≡◌, ℕ, ◌≤◌, List, length, Some, None, refl, sym, ap, subst, ◌∙◌}
use Rattle.cv_syntax.specs.faults.Walk.{IsObeyed}
use Rattle.cv_syntax_trees.specs.Declarations.{Declaration}
use Rattle.cv_syntax_trees.specs.Tree.{Tree, Empty, Node}
use Rattle.cv_scope_rules.specs.declared.fault.Fault.TheVariants as fault
use Rattle.cv_scope_rules.specs.declared.position.Position.{Position}
use Rattle.cv_scope_rules.specs.declared.position.Position.TheVariants.{Anywhere}
use Rattle.cv_scope_rules.specs.Above.{first_standing, second_standing, standing_at, stands_at}
use Rattle.cv_scope_rules.specs.Context.{Context, context_at, first_context, first_position, known_at, nothing_known, replications_below, second_context, second_position}
use Rattle.cv_scope_rules.specs.Rules.{Names, Obeys}
use Rattle.cv_scope_rules.specs.Scope.{IsScoped, IsScopedAt, names_of}
use Rattle.cv_scope_rules.specs.Standing.{Standing, at_root}
use Rattle.cv_scope_rules.specs.Standing as known
use Rattle.cv_scope_rules.proofs.Apart as apart
use Rattle.cv_path.specs.declared.place.Lies.{Lies}
use Rattle.cv_path.specs.declared.place.Lies.TheVariants.{Here, Within, Behind}
use Rattle.cv_path.specs.Places.{LiesAt}
use Rattle.cv_path.proofs.Bounds.{lies_somewhere}
use Rattle.cv_scene.specs.Terms.{replications_by}
use Rattle.cv_derive_facts.proofs.Covering.{known_behind, known_empty, known_here, known_within}
use Rattle.cv_derive_facts.proofs.Standings.{first_replications, second_replications, standing_behind, standing_empty, standing_here, standing_within}

-- what is known and what stands

same_at : (w : Position) (Γ Δ : Context) (t : Tree) (p : ℕ) → Γ.replications ≡ Δ.replications → replications_by (context_at w Γ t p) ≡ replications_by (standing_at w Δ t p)
same_at w Γ Δ Empty p e = ap replications_by (known_empty w Γ p ∙ sym (standing_empty w Δ Empty p refl))
same_at w Γ Δ (Node h a b) p e =
    go (λ q. same_at (first_position w h) (first_context w h Γ) (first_standing w h Δ) a q (apart.first_replications w h Γ ∙ (e ∙ sym (first_replications w h Δ))))
    (λ q. same_at (second_position w h) (second_context w h a Γ) (second_standing w h a Δ) b q (apart.second_replications w h a Γ ∙ (ap (replications_below h) e ∙ sym (second_replications w h a Δ)))) (lies_somewhere h a p)
  where
    go : ((q : ℕ) → replications_by (context_at (first_position w h) (first_context w h Γ) a q) ≡ replications_by (standing_at (first_position w h) (first_standing w h Δ) a q))
        → ((q : ℕ) → replications_by (context_at (second_position w h) (second_context w h a Γ) b q) ≡ replications_by (standing_at (second_position w h) (second_standing w h a Δ) b q))
        → (l : Lies) × LiesAt h a p l → replications_by (context_at w Γ (Node h a b) p) ≡ replications_by (standing_at w Δ (Node h a b) p)
    go f g (Here, l) = ap replications_by (known_here w Γ h a b p 0 l) ∙ (e ∙ sym (ap replications_by (standing_here w Δ (Node h a b) h a b p 0 refl l)))
    go f g (Within q, l) = ap replications_by (known_within w Γ h a b p q l) ∙ (f q ∙ sym (ap replications_by (standing_within w Δ (Node h a b) h a b p q refl l)))
    go f g (Behind q, l) = ap replications_by (known_behind w Γ h a b p q l) ∙ (g q ∙ sym (ap replications_by (standing_behind w Δ (Node h a b) h a b p q refl l)))

pub known_replications : (game : Tree) (p : ℕ) → replications_by (known_at game p) ≡ replications_by (stands_at game p)
known_replications game p = same_at Anywhere nothing_known nothing_known game p refl

-- how many there are

few_at : (names : Names) (s : Standing) (w : Position) (Γ Δ : Context) (t : Tree) (p : ℕ) → IsScopedAt names s t → Γ.replications ≡ s.known.replications → standing_at w Γ t p ≡ Some Δ → length Δ.replications ≤ 8
unfolding IsObeyed
few_at names s w Γ Δ Empty p i r e = absurd (no_context (sym (standing_empty w Γ Empty p refl) ∙ e))
  where
    no_context : None ≡ Some Δ → ⊥
    no_context x = cc
few_at names s w Γ Δ (Node h a b) p i r e =
    let o : Obeys names s h a b fault.Replications = i.0 fault.Replications in
    go o.0
    (λ q. few_at names (known.first_standing s h a) (first_position w h) (first_standing w h Γ) Δ a q i.1 (first_replications w h Γ ∙ (r ∙ sym (apart.first_replications s.position h s.known))))
    (λ q. few_at names (known.second_standing s h a) (second_position w h) (second_standing w h a Γ) Δ b q i.2 (second_replications w h a Γ ∙ (ap (replications_below h) r ∙ sym (apart.second_replications s.position h a s.known)))) (lies_somewhere h a p)
  where
    same : Γ ≡ Δ → length s.known.replications ≤ 8 → length Δ.replications ≤ 8
    same x = subst (λ rs. length rs ≤ 8) (sym r ∙ ap (λ (Θ : Context). Θ.replications) x)

    go : length s.known.replications ≤ 8
        → ((q : ℕ) → standing_at (first_position w h) (first_standing w h Γ) a q ≡ Some Δ → length Δ.replications ≤ 8)
        → ((q : ℕ) → standing_at (second_position w h) (second_standing w h a Γ) b q ≡ Some Δ → length Δ.replications ≤ 8)
        → (l : Lies) × LiesAt h a p l → length Δ.replications ≤ 8
    go n f g (Here, l) = same (let z = sym (standing_here w Γ (Node h a b) h a b p 0 refl l) ∙ e in cc) n
    go n f g (Within q, l) = f q (sym (standing_within w Γ (Node h a b) h a b p q refl l) ∙ e)
    go n f g (Behind q, l) = g q (sym (standing_behind w Γ (Node h a b) h a b p q refl l) ∙ e)

pub few_replications : (ds : List Declaration) (game : Tree) (p : ℕ) (Δ : Context) → IsScoped ds game → stands_at game p ≡ Some Δ → length Δ.replications ≤ 8
few_replications ds game p Δ i e = few_at (names_of ds game) at_root Anywhere nothing_known Δ game p i refl e
