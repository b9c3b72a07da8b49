-- Definitions that are counted.
use Rattle.std.proofs.Common.{◌≡◌, ℕ, ◌+◌, Bool, true, false, cond, List, [], ◌∷◌, ◌++◌, Some, None, refl, sym, ap, ap₂, ◌∙◌}
use Rattle.std.specs.Prelude.{◌==◌}
use Rattle.cv_syntax_trees.specs.declared.head.Head.{Head}
use Rattle.cv_syntax_trees.specs.Head.{weight}
use Rattle.cv_syntax_trees.specs.Tree.{Tree, Empty, Node, first_place, second_place, size}
use Rattle.cv_scope_rules.specs.declared.position.Position.{Position}
use Rattle.cv_scope_rules.specs.declared.position.Position.TheVariants.{Anywhere}
use Rattle.cv_scope_rules.specs.Context.{Context, first_position, nothing_known, second_position}
use Rattle.cv_scope_rules.specs.Sites.{Variable}
use Rattle.cv_scope_rules.specs.Made.{made_by}
use Rattle.cv_derive_facts.specs.declared.sites.Seen.{Seen}
use Rattle.cv_derive_facts.specs.declared.sites.Seen.TheVariants.{Nothing, Once, Often}
use Rattle.cv_derive_facts.specs.Definitions.{counted_on, only, places, places_of, seen_then}
use Rattle.cv_scope_rules.specs.Behind.{behind_site, sites_in, sites_of}
use Rattle.cv_scope_rules.specs.Above.{first_standing, second_standing}

pub counted_append : (s : Seen) (ps qs : List ℕ) → counted_on s (ps ++ qs) ≡ counted_on (counted_on s ps) qs
counted_append s [] qs = refl
counted_append s (p ∷ ps) qs = counted_append (seen_then s p) ps qs

pub places_empty : (x p : ℕ) (t : Tree) → t ≡ Empty → places_of x p t ≡ []
unfolding places_of
places_empty x p t e = ap (places_of x p) e

pub places_node : (x p : ℕ) (t : Tree) (h : Head) (a b : Tree) → t ≡ Node h a b → places_of x p t ≡ (cond (made_by h a (Variable x)) (p ∷ []) []) ++ (places_of x (p + weight h) a ++ places_of x (p + weight h + size a) b)
unfolding places_of
places_node x p t h a b e = ap (places_of x p) e

-- one construct more
pub places_go : (x p q : ℕ) (t : Tree) (h : Head) (a b : Tree) (d : Bool) (s u v total : Seen) → t ≡ Node h a b → d ≡ made_by h a (Variable x) → u ≡ cond d (seen_then s p) s → v ≡ counted_on u (places_of x (p + weight h) a) → q ≡ p + weight h + size a
    → counted_on s (places_of x p t) ≡ total → counted_on v (places_of x q b) ≡ total
places_go x p q t h a b d s u v total e f g i j k =
    ap₂ (λ w n. counted_on w (places_of x n b)) i j
    ∙ (sym (counted_append u (places_of x (p + weight h) a) (places_of x (p + weight h + size a) b))
    ∙ (ap (λ w. counted_on w (places_of x (p + weight h) a ++ places_of x (p + weight h + size a) b)) (g ∙ here d)
    ∙ (sym (counted_append s (cond d (p ∷ []) []) (places_of x (p + weight h) a ++ places_of x (p + weight h + size a) b))
    ∙ (ap (λ c. counted_on s ((cond c (p ∷ []) []) ++ (places_of x (p + weight h) a ++ places_of x (p + weight h + size a) b))) f
    ∙ (sym (ap (counted_on s) (places_node x p t h a b e)) ∙ k)))))
  where
    here : (c : Bool) → cond c (seen_then s p) s ≡ counted_on s (cond c (p ∷ []) [])
    here true = refl
    here false = refl

often : (ps : List ℕ) → counted_on Often ps ≡ Often
often [] = refl
often (p ∷ ps) = often ps

pub counted_empty : (s : Seen) (x p : ℕ) (t : Tree) → t ≡ Empty → counted_on s (places_of x p t) ≡ s
counted_empty s x p t e = ap (counted_on s) (places_empty x p t e)

-- one definition was seen where there is one
pub only_once : (ps : List ℕ) (p : ℕ) → counted_on Nothing ps ≡ Once p → only ps ≡ Some p
only_once [] p e = absurd (cc)
only_once (q ∷ []) p e = ap Some (cc)
only_once (q ∷ (r ∷ ps)) p e = absurd (clash (sym (often ps) ∙ e))
  where
    clash : Often ≡ Once p → ⊥
    clash x = cc

pub not_once : (ps : List ℕ) → ((p : ℕ) → counted_on Nothing ps ≡ Once p → ⊥) → only ps ≡ None
not_once [] n = refl
not_once (p ∷ []) n = absurd (n p refl)
not_once (p ∷ (q ∷ ps)) n = refl

-- the places of the sites

module _ (x : ℕ) where
  places_append : (ss rs : List (ℕ × Context)) → places (ss ++ rs) ≡ places ss ++ places rs
  places_append [] rs = refl
  places_append (s ∷ ss) rs = ap (λ l. s.0 ∷ l) (places_append ss rs)

  places_where : (b : Bool) (p : ℕ) (Γ : Context) → places (cond b ((p, Γ) ∷ []) []) ≡ cond b (p ∷ []) []
  places_where true p Γ = refl
  places_where false p Γ = refl

  places_in : (w : Position) (Γ : Context) (p : ℕ) (t : Tree) → places (sites_in x w Γ p t) ≡ places_of x p t
  unfolding sites_in places_of
  places_in w Γ p Empty = refl
  places_in w Γ p (Node h a b) =
      places_append (cond (made_by h a (Variable x)) ((p, behind_site h a b Γ) ∷ []) []) _
      ∙ ap₂ (λ k l. k ++ l) (places_where (made_by h a (Variable x)) p (behind_site h a b Γ))
      (places_append (sites_in x (first_position w h) (first_standing w h Γ) (first_place p h) a) _
      ∙ ap₂ (λ k l. k ++ l) (places_in (first_position w h) (first_standing w h Γ) (first_place p h) a) (places_in (second_position w h) (second_standing w h a Γ) (second_place p h a) b))

pub places_sites : (game : Tree) (x : ℕ) → places (sites_of game x) ≡ places_of x 0 game
places_sites game x = places_in x Anywhere nothing_known 0 game
