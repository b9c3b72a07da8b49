-- The replications above a place: the same for what is known there and for what stands there; and none has a name of a constant
-- or a variable.
use Rattle.std.proofs.Common.{◌≡◌, ℕ, ◌+◌, ◌-◌, Bool, true, false, cond, nat_lt, List, [], ◌∷◌, ◌++◌, Option, Some, refl, sym, ap, subst, ◌∙◌}
use Rattle.std.specs.Prelude.{option_map}
use Rattle.std.proofs.lemmas.Bool.{and_parts, not-true}
use Rattle.std.specs.List.{AllByRecursion}
use Rattle.cv_syntax_trees.specs.declared.head.Head.{Head}
use Rattle.cv_syntax_trees.specs.declared.head.Head.TheVariants.{Repl, Cons}
use Rattle.cv_syntax_trees.specs.Head.{weight}
use Rattle.cv_syntax_trees.specs.Tree.{Tree, Empty, Node, size}
use Rattle.cv_syntax.specs.faults.Walk.{IsObeyed}
use Rattle.cv_scope_rules.specs.declared.fault.Fault.TheVariants.{Replications}
use Rattle.cv_scope_rules.specs.declared.position.Position.{Position}
use Rattle.cv_scope_rules.specs.declared.position.Position.TheVariants as position
use Rattle.cv_scope_rules.specs.Context.{Context, context_at, first_context, first_position, known_at, nothing_known, replications_below, second_context, second_position}
use Rattle.cv_scope_rules.specs.Rules.{BindsNewIndex, Names}
use Rattle.cv_scope_rules.specs.Scope.{IsScopedAt}
use Rattle.cv_scope_rules.specs.Standing as scope
use Rattle.cv_scope_rules.specs.Phrases.{binds_none, head_binds_none}
use Rattle.cv_scope_rules.specs.Above.{first_standing, second_standing, standing_at, stands_at, with_failed, with_held}
use Rattle.cv_scope_rules.proofs.Apart.{first_replications, second_replications}
use Rattle.cv_derive_facts.proofs.Standings.{first_replications as first_same, second_replications as second_same}
use Rattle.cv_syntax_trees.proofs.lists.Each.{AllByRecursion_append}

abbrev pub above : Option Context → Option (List (ℕ × ℕ))
above o = option_map (λ (Γ : Context). Γ.replications) o

same_above : (t : Tree) (w : Position) (Γ Δ : Context) (p : ℕ) → Γ.replications ≡ Δ.replications → above (context_at w Γ t p) ≡ above (standing_at w Δ t p)
unfolding context_at standing_at
same_above Empty w Γ Δ p e = refl
same_above (Node h a b) w Γ Δ p e =
    go (nat_lt p (weight h)) (nat_lt p (weight h + size a))
    (same_above a (first_position w h) (first_context w h Γ) (first_standing w h Δ) (p - weight h) (first_replications w h Γ ∙ (e ∙ sym (first_same w h Δ))))
    (same_above b (second_position w h) (second_context w h a Γ) (second_standing w h a Δ) (p - (weight h + size a)) (second_replications w h a Γ ∙ (ap (replications_below h) e ∙ sym (second_same w h a Δ))))
  where
    x : Option Context
    x = context_at (first_position w h) (first_context w h Γ) a (p - weight h)

    y : Option Context
    y = standing_at (first_position w h) (first_standing w h Δ) a (p - weight h)

    u : Option Context
    u = context_at (second_position w h) (second_context w h a Γ) b (p - (weight h + size a))

    v : Option Context
    v = standing_at (second_position w h) (second_standing w h a Δ) b (p - (weight h + size a))

    go : (c d : Bool) → above x ≡ above y → above u ≡ above v → above (cond c (Some Γ) (cond d x u)) ≡ above (cond c (Some Δ) (cond d y v))
    go true d i j = ap Some e
    go false true i j = i
    go false false i j = j

pub same_replications : (game : Tree) (p : ℕ) → above (known_at game p) ≡ above (stands_at game p)
same_replications game p = same_above game position.Anywhere nothing_known nothing_known p refl

-- names of replications

module _ (P : ℕ → Type 0) where
  abbrev HeadIs : Head → Type 0
  HeadIs (Repl i n) = P i
  HeadIs h = Unit {0}

  abbrev pub AllAre : Tree → Type 0
  AllAre Empty = Unit {0}
  AllAre (Node h a b) = HeadIs h × AllAre a × AllAre b

  abbrev pub Each : List (ℕ × ℕ) → Type 0
  Each rs = AllByRecursion (λ (r : ℕ × ℕ). P r.0) rs

  below_each : (h : Head) (rs : List (ℕ × ℕ)) → HeadIs h → Each rs → Each (replications_below h rs)
  below_each (Repl i n) rs k e = AllByRecursion_append (λ (r : ℕ × ℕ). P r.0) rs ((i, n) ∷ []) e (k, tt)
  below_each h rs k e = e

  some_is : (Γ Δ : Context) → ◌≡◌ {A = Option Context} (Some Γ) (Some Δ) → Γ ≡ Δ
  some_is Γ Δ e = cc

  each_standing : (t : Tree) (w : Position) (Γ Δ : Context) (p : ℕ) → AllAre t → Each Γ.replications → standing_at w Γ t p ≡ Some Δ → Each Δ.replications
  unfolding standing_at
  each_standing Empty w Γ Δ p a e f = absurd (cc)
  each_standing (Node h a b) w Γ Δ p k e f =
      go (nat_lt p (weight h)) (nat_lt p (weight h + size a)) f
      (each_standing a (first_position w h) (first_standing w h Γ) Δ (p - weight h) k.1 (subst Each (sym (first_same w h Γ)) e))
      (each_standing b (second_position w h) (second_standing w h a Γ) Δ (p - (weight h + size a)) k.2 (subst Each (sym (second_same w h a Γ)) (below_each h Γ.replications k.0 e)))
    where
      go : (c d : Bool) → cond c (Some Γ) (cond d (standing_at (first_position w h) (first_standing w h Γ) a (p - weight h)) (standing_at (second_position w h) (second_standing w h a Γ) b (p - (weight h + size a)))) ≡ Some Δ
          → (standing_at (first_position w h) (first_standing w h Γ) a (p - weight h) ≡ Some Δ → Each Δ.replications) → (standing_at (second_position w h) (second_standing w h a Γ) b (p - (weight h + size a)) ≡ Some Δ → Each Δ.replications) → Each Δ.replications
      go true d f i j = subst (λ (Θ : Context). Each Θ.replications) (some_is Γ Δ f) e
      go false true f i j = i f
      go false false f i j = j f

  pub each_above : (game : Tree) (p : ℕ) (Γ : Context) → AllAre game → stands_at game p ≡ Some Γ → Each Γ.replications
  each_above game p Γ k e = each_standing game position.Anywhere nothing_known Γ p k tt e

pub no_constants : (names : ℕ → Bool) (t : Tree) → binds_none names t ≡ true → AllAre (λ i. names i ≡ false) t
unfolding binds_none
no_constants names Empty e = tt
no_constants names (Node h a b) e =
    let p = and_parts (head_binds_none names h) _ e in
    let q = and_parts (binds_none names a) _ p.1 in
    (head h p.0, no_constants names a q.0, no_constants names b q.1)
  where
    head : (h : Head) → head_binds_none names h ≡ true → HeadIs (λ i. names i ≡ false) h
    head (Repl i n) e = not-true (names i) e
    head h e = tt

pub no_variables : (names : Names) (s : scope.Standing) (t : Tree) → IsScopedAt names s t → AllAre (λ i. names.variable i ≡ false) t
unfolding IsObeyed
no_variables names s Empty o = tt
no_variables names s (Node h a b) o = (head h (o.0 Replications).2, no_variables names (scope.first_standing s h a) a o.1, no_variables names (scope.second_standing s h a) b o.2)
  where
    head : (h : Head) → BindsNewIndex names s.known.replications h → HeadIs (λ i. names.variable i ≡ false) h
    head (Repl i n) e = e.1
    head h e = tt
