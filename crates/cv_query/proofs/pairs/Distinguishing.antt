-- Variables whose values are taken to differ, name by name, and indices above, index by index.
use Rattle.std.proofs.Common.{◌≡◌, ℕ, ◌+◌, ◌<◌, ◌≤◌, Bool, true, false, ◌||◌, List, [], ◌∷◌, ◌++◌, length, drop, take, get_or, reverse, refl, sym, ap, ap₂, ◌∙◌, Option, Some, None, is_some}
use Rattle.std.specs.Prelude.{◌==◌, if◌then◌else◌}
use Rattle.std.specs.List.{list_any}
use Rattle.std.proofs.lemmas.List.{drop_all, drop_more, reverse-append, take_more}
use Rattle.std.proofs.lemmas.List.Folds.{list_any-append}
use Rattle.cv_syntax_trees.specs.lists.Options.{first_of}
use Rattle.cv_syntax_trees.specs.declared.sites.sort.Sort.TheVariants.{BelowParameter}
use Rattle.cv_scope_rules.specs.declared.typing.precedence.Precedence.TheVariants.{First}
use Rattle.cv_scope_rules.specs.typing.Signature.{Above}
use Rattle.cv_scope_rules.specs.typing.Wants.{bound}
use Rattle.cv_scene.specs.Large.{first_other_site, is_large}
use Rattle.cv_scene.specs.Scenes.{Scene}
use Rattle.cv_scene.specs.Terms.{indices_above}
use Rattle.cv_query_certificates.specs.PairParts.{distinct_fault, first_unfit_name, is_named_in}
use Rattle.cv_query_certificates.specs.Secrets.{first_definition}

-- names before, in either order

turned : (a b : Bool) → (a || (b || false)) ≡ (b || a)
turned true true = refl
turned true false = refl
turned false true = refl
turned false false = refl

any_reverse : (p : ℕ → Bool) (xs : List ℕ) → list_any p (reverse xs) ≡ list_any p xs
any_reverse p [] = refl
any_reverse p (x ∷ xs) =
    ap (list_any p) (reverse-append (x ∷ []) xs)
    ∙ (list_any-append p (reverse xs) (x ∷ [])
    ∙ (ap (λ b. b || (p x || false)) (any_reverse p xs) ∙ turned (list_any p xs) (p x)))

module _ (s : Scene) (before : List ℕ) (x : ℕ) (o : Option ℕ) where
  pub no_site : o ≡ None → Some 0 ≡ distinct_fault s (reverse before) x o
  no_site e = sym (ap (distinct_fault s (reverse before) x) e)

  module _ (p : ℕ) (e : o ≡ Some p) (other : Option ℕ) (f : other ≡ first_other_site (is_large s) x 0 s.game) where
    by_site : distinct_fault s (reverse before) x o ≡ first_of other (if is_named_in (reverse before) x then Some p else None)
    by_site = ap (distinct_fault s (reverse before) x) e ∙ ap (λ q. first_of q (if is_named_in (reverse before) x then Some p else None)) (sym f)

    pub other_site : (q : ℕ) → other ≡ Some q → Some q ≡ distinct_fault s (reverse before) x o
    other_site q g = sym (by_site ∙ ap (λ r. first_of r (if is_named_in (reverse before) x then Some p else None)) g)

    module _ (g : other ≡ None) (b : Bool) (i : b ≡ list_any (λ y. y == x) before) where
      by_name : distinct_fault s (reverse before) x o ≡ (if b then Some p else None)
      by_name = by_site ∙ (ap (λ r. first_of r (if is_named_in (reverse before) x then Some p else None)) g ∙ ap (λ c. if c then Some p else None) (any_reverse (λ y. y == x) before ∙ sym i))

      pub named_before : b ≡ true → Some p ≡ distinct_fault s (reverse before) x o
      named_before j = sym (by_name ∙ ap (λ c. if c then Some p else None) j)

      pub named_once : b ≡ false → None ≡ distinct_fault s (reverse before) x o
      named_once j = sym (by_name ∙ ap (λ c. if c then Some p else None) j)

module _ (s : Scene) (xs : List ℕ) (k : ℕ) (l : k < length xs) (o total : Option ℕ) (e : o ≡ distinct_fault s (reverse (take k xs)) (get_or xs k 0) (first_definition s.game (get_or xs k 0)))
    (i : first_unfit_name s (reverse (take k xs)) (drop k xs) ≡ total) where
  one_name : first_unfit_name s (reverse (take k xs)) (drop k xs) ≡ first_of o (first_unfit_name s (reverse (take (k + 1) xs)) (drop (k + 1) xs))
  one_name =
      ap (first_unfit_name s (reverse (take k xs))) (drop_more xs k 0 l)
      ∙ ap₂ (λ q ys. first_of q (first_unfit_name s ys (drop (k + 1) xs))) (sym e) (sym (ap reverse (take_more xs k 0 l) ∙ reverse-append (take k xs) (get_or xs k 0 ∷ [])))

  pub unfit : is_some o ≡ true → o ≡ total
  unfit j = go o j ∙ (sym one_name ∙ i)
    where
      go : (q : Option ℕ) → is_some q ≡ true → q ≡ first_of q (first_unfit_name s (reverse (take (k + 1) xs)) (drop (k + 1) xs))
      go None f = absurd (let z : false ≡ true = f in cc)
      go (Some x) f = refl

  pub fit : is_some o ≡ false → first_unfit_name s (reverse (take (k + 1) xs)) (drop (k + 1) xs) ≡ total
  fit j = go o j ∙ (sym one_name ∙ i)
    where
      go : (q : Option ℕ) → is_some q ≡ false → first_unfit_name s (reverse (take (k + 1) xs)) (drop (k + 1) xs) ≡ first_of q (first_unfit_name s (reverse (take (k + 1) xs)) (drop (k + 1) xs))
      go None f = refl
      go (Some x) f = absurd (let z : true ≡ false = f in cc)

pub all_fit : (s : Scene) (xs : List ℕ) (k : ℕ) (total : Option ℕ) → length xs ≤ k → first_unfit_name s (reverse (take k xs)) (drop k xs) ≡ total → None ≡ total
all_fit s xs k total l i = sym (ap (first_unfit_name s (reverse (take k xs))) (drop_all k xs l)) ∙ i

-- indices above

pub index_more : (f g total : Above) (rs : List (ℕ × ℕ)) (k : ℕ) → k < length rs → g ≡ bound First f (get_or rs k (0, 0)).0 (BelowParameter (get_or rs k (0, 0)).1) → indices_above f (drop k rs) ≡ total → indices_above g (drop (k + 1) rs) ≡ total
index_more f g total rs k l e i = ap (λ h. indices_above h (drop (k + 1) rs)) e ∙ (sym (ap (indices_above f) (drop_more rs k (0, 0) l)) ∙ i)

pub all_indices : (f total : Above) (rs : List (ℕ × ℕ)) (k : ℕ) → length rs ≤ k → indices_above f (drop k rs) ≡ total → f ≡ total
all_indices f total rs k l i = sym (ap (indices_above f) (drop_all k rs l)) ∙ i

pub both_above : (f : Above) (xs ys : List (ℕ × ℕ)) → indices_above f (xs ++ ys) ≡ indices_above (indices_above f xs) ys
both_above f [] ys = refl
both_above f (x ∷ xs) ys = both_above (bound First f x.0 (BelowParameter x.1)) xs ys
