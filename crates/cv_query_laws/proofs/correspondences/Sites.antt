-- A definition of a variable with one site stands at the site, below the same replications.
use Rattle.std.proofs.Common.{◌≡◌, ℕ, ◌⊎◌, Bool, true, false, cond, List, [], ◌∷◌, ◌++◌, inl, inr, refl, sym, ap, subst, ◌∙◌}
use Rattle.cv_syntax_trees.specs.declared.head.Head.{Head}
use Rattle.cv_syntax_trees.specs.declared.head.Head.TheVariants.{Branch, Cons}
use Rattle.cv_syntax_trees.specs.Tree.{Tree, Empty, Node, first_place, second_place}
use Rattle.cv_scope_rules.specs.declared.position.Position.{Position}
use Rattle.cv_scope_rules.specs.declared.position.Position.TheVariants.{Anywhere, Guards, Guarded}
use Rattle.cv_scope_rules.specs.Above.{first_standing, second_standing}
use Rattle.cv_scope_rules.specs.Behind.{behind_site, sites_in, sites_of}
use Rattle.cv_scope_rules.specs.Context.{Context, first_context, first_position, nothing_known, second_context, second_position}
use Rattle.cv_scope_rules.specs.Made.{made_by}
use Rattle.cv_scope_rules.specs.Sites.{Variable}
use Rattle.cv_scope_runs.specs.Promises.{IsDefinition, after_site, definitions_in, definitions_of}
use Rattle.cv_derive_facts.proofs.Covering.{Covers, first_covers, same_covers, second_covers}
use Rattle.cv_query_laws.proofs.correspondences.Behind.{IsAmong, among_left, among_right}

record IsSited (P Q : Tree → Type 0) (d : ℕ × Context) (sites : List (ℕ × Context)) : Type 0 where
  site : ℕ × Context
  among : IsAmong site sites
  place : d.0 ≡ site.0
  covers : Covers P Q d.1 site.1

split : (d : ℕ × Context) (xs ys : List (ℕ × Context)) → IsDefinition d (xs ++ ys) → IsDefinition d xs ⊎ IsDefinition d ys
split d [] ys a = inr a
split d (x ∷ xs) ys (inl e) = inl (inl e)
split d (x ∷ xs) ys (inr a) = go (split d xs ys a)
  where
    go : IsDefinition d xs ⊎ IsDefinition d ys → IsDefinition d (x ∷ xs) ⊎ IsDefinition d ys
    go (inl b) = inl (inr b)
    go (inr b) = inr b

-- what is true of what is known behind a definition is true of what stands behind its site
module _ (P Q : Tree → Type 0) where
  left : (d : ℕ × Context) (xs ys : List (ℕ × Context)) → IsSited P Q d xs → IsSited P Q d (xs ++ ys)
  left d xs ys s = record { site = s.site; among = among_left s.site xs ys s.among; place = s.place; covers = s.covers }

  right : (d : ℕ × Context) (xs ys : List (ℕ × Context)) → IsSited P Q d ys → IsSited P Q d (xs ++ ys)
  right d xs ys s = record { site = s.site; among = among_right s.site xs ys s.among; place = s.place; covers = s.covers }

  behind_same : (h : Head) (a b : Tree) (Γ Δ : Context) → Covers P Q Γ Δ → Covers P Q (after_site h a b Γ) (behind_site h a b Δ)
  behind_same Branch us (Node h cells (Node k c body)) Γ Δ e =
      second_covers P Q Guarded Cons c (second_context Guards Cons cells (second_context Anywhere Branch us Γ)) (second_standing Guards Cons cells (second_standing Anywhere Branch us Δ))
      (second_covers P Q Guards Cons cells (second_context Anywhere Branch us Γ) (second_standing Anywhere Branch us Δ) (second_covers P Q Anywhere Branch us Γ Δ e))
  behind_same Branch us (Node h cells Empty) Γ Δ e = second_covers P Q Anywhere Branch us Γ Δ e
  behind_same Branch us Empty Γ Δ e = second_covers P Q Anywhere Branch us Γ Δ e
  behind_same h a b Γ Δ e = second_covers P Q Anywhere h a Γ Δ e

  site_here : (m : Bool) (p : ℕ) (Γ Δ : Context) (d : ℕ × Context) → Covers P Q Γ Δ → IsDefinition d (cond m ((p, Γ) ∷ []) []) → IsSited P Q d (cond m ((p, Δ) ∷ []) [])
  site_here true p Γ Δ d c (inl e) = record {
    site = (p, Δ);
    among = inl refl;
    place = ap (λ (x : ℕ × Context). x.0) e;
    covers = subst (λ (x : ℕ × Context). Covers P Q x.1 Δ) (sym e) c;
  }
  site_here true p Γ Δ d c (inr a) = absurd a
  site_here false p Γ Δ d c a = absurd a

  sited : (x : ℕ) (w : Position) (Γ Δ : Context) (p : ℕ) (t : Tree) (d : ℕ × Context) → Covers P Q Γ Δ → IsDefinition d (definitions_in x w Γ p t) → IsSited P Q d (sites_in x w Δ p t)
  unfolding definitions_in sites_in
  sited x w Γ Δ p Empty d c a = absurd a
  sited x w Γ Δ p (Node h a b) d c i =
      go (split d (cond (made_by h a (Variable x)) ((p, after_site h a b Γ) ∷ []) []) _ i)
      (sited x (first_position w h) (first_context w h Γ) (first_standing w h Δ) (first_place p h) a d (first_covers P Q w h Γ Δ c))
      (sited x (second_position w h) (second_context w h a Γ) (second_standing w h a Δ) (second_place p h a) b d (second_covers P Q w h a Γ Δ c))
    where
      ds : List (ℕ × Context)
      ds = definitions_in x (first_position w h) (first_context w h Γ) (first_place p h) a

      es : List (ℕ × Context)
      es = definitions_in x (second_position w h) (second_context w h a Γ) (second_place p h a) b

      below : IsDefinition d ds ⊎ IsDefinition d es
          → (IsDefinition d ds → IsSited P Q d (sites_in x (first_position w h) (first_standing w h Δ) (first_place p h) a))
          → (IsDefinition d es → IsSited P Q d (sites_in x (second_position w h) (second_standing w h a Δ) (second_place p h a) b))
          → IsSited P Q d (sites_in x (first_position w h) (first_standing w h Δ) (first_place p h) a ++ sites_in x (second_position w h) (second_standing w h a Δ) (second_place p h a) b)
      below (inl j) f k = left d _ _ (f j)
      below (inr j) f k = right d _ _ (k j)

      go : IsDefinition d (cond (made_by h a (Variable x)) ((p, after_site h a b Γ) ∷ []) []) ⊎ IsDefinition d (ds ++ es)
          → (IsDefinition d ds → IsSited P Q d (sites_in x (first_position w h) (first_standing w h Δ) (first_place p h) a))
          → (IsDefinition d es → IsSited P Q d (sites_in x (second_position w h) (second_standing w h a Δ) (second_place p h a) b))
          → IsSited P Q d (sites_in x w Δ p (Node h a b))
      go (inl j) f k = left d (cond (made_by h a (Variable x)) ((p, behind_site h a b Δ) ∷ []) []) _ (site_here (made_by h a (Variable x)) p (after_site h a b Γ) (behind_site h a b Δ) d (behind_same h a b Γ Δ c) j)
      go (inr j) f k = right d (cond (made_by h a (Variable x)) ((p, behind_site h a b Δ) ∷ []) []) _ (below (split d ds es j) f k)

  pub only_site_covers : (game : Tree) (x p : ℕ) (Δ : Context) (d : ℕ × Context) → sites_of game x ≡ (p, Δ) ∷ [] → IsDefinition d (definitions_of game x) → (d.0 ≡ p) × Covers P Q d.1 Δ
  only_site_covers game x p Δ d e i =
      let s = sited x Anywhere nothing_known nothing_known 0 game d (same_covers P Q nothing_known) i in
      go s.site s.place s.covers (subst (IsAmong s.site) e s.among)
    where
      go : (s : ℕ × Context) → d.0 ≡ s.0 → Covers P Q d.1 s.1 → IsAmong s ((p, Δ) ∷ []) → (d.0 ≡ p) × Covers P Q d.1 Δ
      go s f k (inl z) = (f ∙ ap (λ (y : ℕ × Context). y.0) z, subst (λ (y : ℕ × Context). Covers P Q d.1 y.1) z k)
      go s f k (inr z) = absurd z

pub only_definition : (game : Tree) (x p : ℕ) (Δ : Context) (d : ℕ × Context) → sites_of game x ≡ (p, Δ) ∷ [] → IsDefinition d (definitions_of game x) → (d.0 ≡ p) × (Δ.replications ≡ d.1.replications)
only_definition game x p Δ d e i = let r = only_site_covers (λ f. Unit {0}) (λ c. Unit {0}) game x p Δ d e i in (r.0, r.1.replications)
