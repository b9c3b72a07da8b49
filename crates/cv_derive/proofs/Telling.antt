-- The facts at a place, one by one.
use Rattle.std.proofs.Common.{◌≡◌, ℕ, zero, suc, ◌-◌, List, [], map, false, Option, Some, None, refl, sym, ap, ◌∙◌, arith}
use Rattle.std.specs.Prelude.{option_and_then, option_map, slice_get}
use Rattle.std.proofs.lemmas.Option.{slice_get-map}
use Rattle.cv_syntax_trees.specs.Tree.{Tree, same_tree}
use Rattle.cv_scope_rules.specs.Context.{Context}
use Rattle.cv_scene.specs.Reasons.{is_tree}
use Rattle.cv_scene.specs.Sights.{facts_by, from_one}
use Rattle.cv_scene.specs.Terms.{replications_by}
use Rattle.cv_derive_facts.specs.Facts.{AreFactsOf, FactAt, term_of}

pub no_fact : (k : ℕ) (ts : List Tree) (t : Tree) → k ≡ 0 → false ≡ is_tree (from_one ts k) t
no_fact k ts t e = sym (ap (λ j. is_tree (from_one ts j) t) e)

from_one_get : {A : Type 0} (xs : List A) (k : ℕ) → (k ≡ 0 → ⊥) → from_one xs k ≡ slice_get xs (k - 1)
from_one_get xs zero n = absurd (n refl)
from_one_get xs (suc k) n = let e : k ≡ suc k - 1 = omega arith in ap (slice_get xs) e

module _ (f : Tree → Tree) where
  terms_get : (rs : List (ℕ × ℕ)) (fs : List FactAt) (k : ℕ) → (k ≡ 0 → ⊥) → from_one (map f (map (term_of rs) fs)) k ≡ option_map f (option_map (term_of rs) (slice_get fs (k - 1)))
  terms_get rs fs k n = from_one_get (map f (map (term_of rs) fs)) k n ∙ (slice_get-map f (map (term_of rs) fs) (k - 1) ∙ ap (option_map f) (slice_get-map (term_of rs) fs (k - 1)))

  -- the fact of a number is that of the term
  pub fact_terms : (o : Option Context) (fs : Option (List FactAt)) (k : ℕ) → (k ≡ 0 → ⊥) → AreFactsOf o fs
      → from_one (map f (facts_by o)) k ≡ option_map f (option_map (term_of (replications_by o)) (option_and_then (λ gs. slice_get gs (k - 1)) fs))
  fact_terms None None k n a = from_one_get [] k n
  fact_terms None (Some fs) k n a = absurd a
  fact_terms (Some Γ) None k n a = absurd a
  fact_terms (Some Γ) (Some fs) k n a = ap (λ ts. from_one (map f ts) k) a ∙ terms_get Γ.replications fs k n

  module _ (o : Option Context) (fs : Option (List FactAt)) (rs : List (ℕ × ℕ)) (k : ℕ) (n : k ≡ 0 → ⊥) (a : AreFactsOf o fs) (r : replications_by o ≡ rs) (g : Option FactAt) (e : g ≡ option_and_then (λ gs. slice_get gs (k - 1)) fs) (t : Tree) where
    here : is_tree (from_one (map f (facts_by o)) k) t ≡ is_tree (option_map f (option_map (term_of rs) g)) t
    here = ap (λ x. is_tree x t) (fact_terms o fs k n a ∙ (ap (λ l. option_map f (option_map (term_of l) (option_and_then (λ gs. slice_get gs (k - 1)) fs))) r ∙ ap (λ x. option_map f (option_map (term_of rs) x)) (sym e)))

    pub fact_there : (u : FactAt) → Some u ≡ g → same_tree t (f (term_of rs u)) ≡ is_tree (from_one (map f (facts_by o)) k) t
    fact_there u i = sym (here ∙ ap (λ x. is_tree (option_map f (option_map (term_of rs) x)) t) (sym i))

    pub fact_missing : None ≡ g → false ≡ is_tree (from_one (map f (facts_by o)) k) t
    fact_missing i = sym (here ∙ ap (λ x. is_tree (option_map f (option_map (term_of rs) x)) t) (sym i))
