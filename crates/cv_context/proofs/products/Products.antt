-- Products of parameters, site by site.
use Rattle.std.proofs.Common.{◌≡◌, ℕ, ◌+◌, ◌<◌, ◌≤◌, Bool, true, false, cond, ◌==◌, List, [], ◌∷◌, ◌++◌, length, drop, get_or, map, refl, ap, sym, ◌∙◌, append_assoc, append-nil}
use Rattle.std.proofs.lemmas.List.{drop_all, drop_more}
use Rattle.std.specs.Prelude.{filter}
use Rattle.std.specs.declared.vec.Vec.{Vec}
use Rattle.std.specs.declared.alloc.Global.{Global}
use Rattle.cv_pool.specs.KindTree.{KindTree}
use Rattle.cv_scene.specs.Contexts.{calls_of, parameters_of}
use Rattle.cv_scene.specs.Instances.{Matching}
use Rattle.cv_scene.specs.Sites as instances
use Rattle.cv_match_terms.specs.patterns.Sites.{site_in}
use Rattle.cv_match_terms.specs.declared.patterns.site.Site.{Site}
use Rattle.cv_context.specs.products.Products.{products, products_at}

pub ruleset appending = (append_assoc, append-nil)

-- where nothing is left
pub at_end : {A B : Type 0} (f : List A → List B) → f [] ≡ [] → (xs : List A) (k : ℕ) (done all : List B) → length xs ≤ k → done ++ f (drop k xs) ≡ all → done ≡ all
at_end f e xs k done all l i = sym (append-nil done) ∙ ap (λ ys. done ++ ys) (sym (ap f (drop_all k xs l) ∙ e)) ∙ i

-- one site more, of the function or of another
module _ (ss : List Site) (k j : ℕ) (d : Site) (more : j < length ss) (done all : List (List ℕ)) (i : done ++ products_at (drop j ss) k ≡ all) where
  here : products_at (drop j ss) k ≡ map (λ (s : Site). parameters_of s.replications.items) (cond ((get_or ss j d).function == k) (get_or ss j d ∷ filter (λ (s : Site). s.function == k) (drop (j + 1) ss)) (filter (λ (s : Site). s.function == k) (drop (j + 1) ss)))
  here = ap (λ xs. products_at xs k) (drop_more ss j d more)

  left : Bool → List (List ℕ)
  left b = map (λ (s : Site). parameters_of s.replications.items) (cond b (get_or ss j d ∷ filter (λ (s : Site). s.function == k) (drop (j + 1) ss)) (filter (λ (s : Site). s.function == k) (drop (j + 1) ss)))

  pub passed_by : ((get_or ss j d).function == k) ≡ false → done ++ products_at (drop (j + 1) ss) k ≡ all
  unfolding left
  passed_by e = ap (λ xs. done ++ xs) (sym (here ∙ ap left e)) ∙ i

  pub called : ((get_or ss j d).function == k) ≡ true → (now : List (List ℕ)) (ns : List ℕ) → ns ≡ parameters_of (get_or ss j d).replications.items → now ≡ done ++ ns ∷ [] → now ++ products_at (drop (j + 1) ss) k ≡ all
  unfolding left
  called e now ns f g =
      ap (λ xs. xs ++ products_at (drop (j + 1) ss) k) g ∙ append_assoc done (ns ∷ []) (products_at (drop (j + 1) ss) k)
      ∙ ap (λ x. done ++ x ∷ products_at (drop (j + 1) ss) k) f ∙ ap (λ xs. done ++ xs) (sym (here ∙ ap left e)) ∙ i

-- so these are the calls of the definition
pub of_sites : (trees : List KindTree) (M : Matching) (k : ℕ) (ss : List Site) → products_at ss k ≡ calls_of (map (site_in trees M) ss) k
of_sites trees M k [] = refl
of_sites trees M k (s ∷ ss) = go (s.function == k) (of_sites trees M k ss)
  where
    go : (b : Bool) → products_at ss k ≡ calls_of (map (site_in trees M) ss) k → map (λ (x : Site). parameters_of x.replications.items) (cond b (s ∷ filter (λ (x : Site). x.function == k) ss) (filter (λ (x : Site). x.function == k) ss))
        ≡ map (λ (x : instances.Site). parameters_of x.replications) (cond b (site_in trees M s ∷ filter (λ (x : instances.Site). x.call.position == k) (map (site_in trees M) ss)) (filter (λ (x : instances.Site). x.call.position == k) (map (site_in trees M) ss)))
    go true e = ap (λ l. parameters_of s.replications.items ∷ l) e
    go false e = e
