-- The way to a place: the last choice of a variable, the number of replications, and where something is known.
use Rattle.std.proofs.Common.{◌≡◌, ℕ, ◌+◌, ◌-◌, ◌<◌, ◌≤◌, Bool, true, false, cond, List, length, Option, Some, None, is_some, refl, sym, ap, ap₂, subst, ◌∙◌, arith, nat_lt, le-ltb, lt-ltb, ltb-true, ltb-false}
use Rattle.cv_syntax_trees.specs.declared.head.Head.{Head}
use Rattle.cv_syntax_trees.specs.Head.{weight}
use Rattle.cv_syntax_trees.specs.Tree.{Tree, Empty, Node, first_place, second_place, size}
use Rattle.cv_syntax.specs.faults.Walk.{IsObeyed}
use Rattle.cv_syntax_trees.specs.Declarations.{Declaration}
use Rattle.cv_path.specs.declared.place.Lies.{Lies}
use Rattle.cv_path.specs.declared.place.Lies.TheVariants.{Here, Within, Behind}
use Rattle.cv_path.specs.Places.{LiesAt}
use Rattle.cv_path.proofs.Bounds.{lies_somewhere}
use Rattle.cv_path.proofs.Going.{choice_behind, choice_here, choice_within, less_behind, less_within}
use Rattle.cv_scope_rules.specs.declared.position.Position.{Position}
use Rattle.cv_scope_rules.specs.declared.fault.Fault.TheVariants as fault
use Rattle.cv_scope_rules.specs.declared.position.Position.TheVariants.{Anywhere}
use Rattle.cv_scope_rules.specs.Context.{Context, context_at, first_context, first_position, known_at, nothing_known, replications_below, second_context, second_position}
use Rattle.cv_scope_rules.specs.Rules.{Names, Obeys}
use Rattle.cv_scope_rules.specs.Scope.{IsScoped, IsScopedAt, names_of}
use Rattle.cv_scope_rules.specs.Standing.{Standing, at_root, first_standing, second_standing}
use Rattle.cv_scope_rules.proofs.Apart.{first_replications, second_replications}
use Rattle.cv_scene.specs.Terms.{replications_by}
use Rattle.cv_derive_facts.proofs.Covering.{known_behind, known_empty, known_here, known_within}
use Rattle.cv_rule_fresh.specs.collisions.Choices as choices
use Rattle.cv_rule_fresh.specs.collisions.Choices.{Choice, choice_in}

module _ (x : ℕ) (last : Option Choice) (place : ℕ) (t : Tree) (h : Head) (a b : Tree) (p r : ℕ) (e : t ≡ Node h a b) where
  abbrev in_first : Option Choice
  in_first = choice_in x last (first_place (place - p) h) a (p - weight h)

  abbrev in_second : Option Choice
  in_second = choice_in x (choices.choice_behind x last (place - p) h) (second_place (place - p) h a) b (p - (weight h + size a))

  pub last_here : LiesAt h a p Here → choice_in x last (place - p) t p ≡ last
  unfolding choice_in
  last_here l = ap (λ u. choice_in x last (place - p) u p) e ∙ choice_here h a p last in_first in_second l

  pub last_within : p ≤ place → LiesAt h a p (Within r) → choice_in x last (place - p) t p ≡ choice_in x last (place - r) a r
  unfolding choice_in
  last_within m l =
      let l0 : weight h + r ≡ p = l.0 in
      let there : place - p + weight h ≡ place - r = omega arith in
      ap (λ u. choice_in x last (place - p) u p) e
      ∙ (choice_within h a p last in_first in_second r l ∙ ap₂ (λ q n. choice_in x last q a n) there (less_within h a p r l))

  pub last_behind : p ≤ place → (new : Option Choice) → new ≡ choices.choice_behind x last (place - p) h → LiesAt h a p (Behind r) → choice_in x last (place - p) t p ≡ choice_in x new (place - r) b r
  unfolding choice_in
  last_behind m new f l =
      let l0 : weight h + size a + r ≡ p = l in
      let there : place - p + weight h + size a ≡ place - r = omega arith in
      ap (λ u. choice_in x last (place - p) u p) e
      ∙ (choice_behind h a p last in_first in_second r l
      ∙ (ap₂ (λ q n. choice_in x (choices.choice_behind x last (place - p) h) q b n) there (less_behind h a p r l) ∙ ap (λ o. choice_in x o (place - r) b r) (sym f)))

pub last_nowhere : (x : ℕ) (last : Option Choice) (q : ℕ) (t : Tree) (p : ℕ) → t ≡ Empty → choice_in x last q t p ≡ None
unfolding choice_in
last_nowhere x last q t p e = ap (λ u. choice_in x last q u p) e

-- there are at most eight replications above a place of a game in array scope

few_at : (names : Names) (s : Standing) (w : Position) (Γ Δ : Context) (t : Tree) (p : ℕ) → IsScopedAt names s t → Γ.replications ≡ s.known.replications → context_at w Γ t p ≡ Some Δ → length Δ.replications ≤ 8
unfolding IsObeyed
few_at names s w Γ Δ Empty p i r e = absurd (no_context (sym (known_empty w Γ p) ∙ e))
  where
    no_context : None ≡ Some Δ → ⊥
    no_context x = cc
few_at names s w Γ Δ (Node h a b) p i r e =
    let o : Obeys names s h a b fault.Replications = i.0 fault.Replications in
    go o.0
    (λ q. few_at names (first_standing s h a) (first_position w h) (first_context w h Γ) Δ a q i.1 (first_replications w h Γ ∙ (r ∙ sym (first_replications s.position h s.known))))
    (λ q. few_at names (second_standing s h a) (second_position w h) (second_context w h a Γ) Δ b q i.2 (second_replications w h a Γ ∙ (ap (replications_below h) r ∙ sym (second_replications s.position h a s.known)))) (lies_somewhere h a p)
  where
    same : Γ ≡ Δ → length s.known.replications ≤ 8 → length Δ.replications ≤ 8
    same x = subst (λ rs. length rs ≤ 8) (sym r ∙ ap (λ (Θ : Context). Θ.replications) x)

    go : length s.known.replications ≤ 8
        → ((q : ℕ) → context_at (first_position w h) (first_context w h Γ) a q ≡ Some Δ → length Δ.replications ≤ 8)
        → ((q : ℕ) → context_at (second_position w h) (second_context w h a Γ) b q ≡ Some Δ → length Δ.replications ≤ 8)
        → (l : Lies) × LiesAt h a p l → length Δ.replications ≤ 8
    go n f g (Here, l) = same (let z = sym (known_here w Γ h a b p 0 l) ∙ e in cc) n
    go n f g (Within q, l) = f q (sym (known_within w Γ h a b p q l) ∙ e)
    go n f g (Behind q, l) = g q (sym (known_behind w Γ h a b p q l) ∙ e)

pub few_above : (ds : List Declaration) (game : Tree) (p : ℕ) → IsScoped ds game → length (replications_by (known_at game p)) < 255
few_above ds game p i = go (known_at game p) refl
  where
    go : (o : Option Context) → known_at game p ≡ o → length (replications_by o) < 255
    go None e = omega arith
    go (Some Δ) e = let few = few_at (names_of ds game) at_root Anywhere nothing_known Δ game p i refl e in omega arith

-- something is known exactly at the places of a tree

further : (p k n : ℕ) → k ≤ p → nat_lt (p - k) n ≡ nat_lt p (k + n)
further p k n l = go (nat_lt (p - k) n) refl
  where
    go : (v : Bool) → nat_lt (p - k) n ≡ v → v ≡ nat_lt p (k + n)
    go true e = let m = ltb-true (p - k) n e in sym (lt-ltb p (k + n) (omega arith))
    go false e = let m = ltb-false (p - k) n e in sym (le-ltb p (k + n) (omega arith))

pub known_by_size : (w : Position) (Γ : Context) (t : Tree) (p : ℕ) → is_some (context_at w Γ t p) ≡ nat_lt p (size t)
unfolding context_at size
known_by_size w Γ Empty p = sym (le-ltb p 0 (omega arith))
known_by_size w Γ (Node h a b) p =
    go (context_at (first_position w h) (first_context w h Γ) a (p - weight h)) (context_at (second_position w h) (second_context w h a Γ) b (p - (weight h + size a))) (nat_lt p (weight h)) (nat_lt p (weight h + size a)) refl refl
    (known_by_size (first_position w h) (first_context w h Γ) a (p - weight h)) (known_by_size (second_position w h) (second_context w h a Γ) b (p - (weight h + size a)))
  where
    go : (x y : Option Context) (u v : Bool) → nat_lt p (weight h) ≡ u → nat_lt p (weight h + size a) ≡ v → is_some x ≡ nat_lt (p - weight h) (size a) → is_some y ≡ nat_lt (p - (weight h + size a)) (size b)
        → is_some (cond u (Some Γ) (cond v x y)) ≡ nat_lt p (weight h + size a + size b)
    go x y true v e f i j = let l = ltb-true p (weight h) e in sym (lt-ltb p (weight h + size a + size b) (omega arith))
    go x y false true e f i j =
        let l = ltb-false p (weight h) e in
        let m = ltb-true p (weight h + size a) f in
        i ∙ (lt-ltb (p - weight h) (size a) (omega arith) ∙ sym (lt-ltb p (weight h + size a + size b) (omega arith)))
    go x y false false e f i j = let l = ltb-false p (weight h + size a) f in j ∙ further p (weight h + size a) (size b) l
