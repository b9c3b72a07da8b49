-- What names and labels are drawn for is found again from them; the others keep their roles.
use Rattle.std.proofs.Common.{◌≡◌, ℕ, zero, suc, ◌+◌, ◌<◌, ◌≤◌, Bool, true, false, cond, ◌||◌, ◌==◌, List, [], ◌∷◌, map, length, Option, Some, None, refl, sym, ap, subst, ◌∙◌, eq-eqb, eqb-true, arith}
use Rattle.std.proofs.lemmas.List.{length-map}
use Rattle.std.proofs.lemmas.Bool.{both_ways, and_parts, or_parts}
use Rattle.std.specs.List.{AllByRecursion, IsDistinct, list_any}
use Rattle.cv_meaning.specs.contexts.Roles.{Role, Index}
use Rattle.cv_inline.specs.Draws.{drawn_for, is_drawn, name_for, roles_of, same_find, same_role}
use Rattle.cv_inline.proofs.Named.{found_again, same_find_exact, same_role_exact}
use Rattle.cv_inline_laws.specs.draws.DrawnNames.{AreApart, DrawnNames, drawn_in, find_in, has_find, has_indices, is_drawn_for, is_new, numbers_from, role_in}
use Rattle.cv_inline_laws.proofs.draws.Fresh.{above_apart}
use Rattle.cv_syntax_trees.proofs.lists.Tests.{differ_comm}

-- numbers in a row

pub as_many_numbers : {A : Type 0} (n : ℕ) (ds : List A) → length (numbers_from n ds) ≡ length ds
as_many_numbers n [] = refl
as_many_numbers n (d ∷ ds) = ap suc (as_many_numbers (suc n) ds)

pub numbers_above : {A : Type 0} (m n : ℕ) (ds : List A) → m ≤ n → AllByRecursion (λ y. m ≤ y) (numbers_from n ds)
numbers_above m n [] p = tt
numbers_above m n (d ∷ ds) p = (p, numbers_above m (suc n) ds (omega arith))

pub numbers_differ : {A : Type 0} (n : ℕ) (ds : List A) → IsDistinct ◌==◌ (numbers_from n ds)
unfolding IsDistinct
numbers_differ n [] = tt
numbers_differ n (d ∷ ds) = (above_apart n (numbers_from (suc n) ds) (numbers_above (suc n) (suc n) ds (omega arith)), numbers_differ (suc n) ds)

-- what isn't drawn

not_drawn : {A : Type 0} (other : ℕ → A) (ds : List A) (xs : List ℕ) (y : ℕ) → list_any (λ x. x == y) xs ≡ false → drawn_for other ds xs y ≡ other y
not_drawn other [] xs y e = refl
not_drawn other (d ∷ ds) [] y e = refl
not_drawn other (d ∷ ds) (x ∷ xs) y e =
    let p = or_parts (x == y) _ e in ap (λ b. cond b d (drawn_for other ds xs y)) (differ_comm x y p.0) ∙ not_drawn other ds xs y p.1

-- the name of what is drawn is one of the names
among : {A : Type 0} (same : A → A → Bool) (ds : List A) (xs : List ℕ) (r : A) → length xs ≡ length ds → is_drawn same ds r ≡ true → list_any (λ x. x == name_for same ds xs r) xs ≡ true
among same [] xs r l i = absurd (both_ways _ refl i)
among same (d ∷ ds) [] r l i = absurd (omega arith)
among same (d ∷ ds) (x ∷ xs) r l i = go (same d r) i (among same ds xs r (omega arith))
  where
    or_right : (c : Bool) {e : Bool} → e ≡ true → (c || e) ≡ true
    or_right true j = refl
    or_right false j = j

    go : (b : Bool) → (b || is_drawn same ds r) ≡ true → (is_drawn same ds r ≡ true → list_any (λ y. y == name_for same ds xs r) xs ≡ true) → ((x == cond b x (name_for same ds xs r)) || list_any (λ y. y == cond b x (name_for same ds xs r)) xs) ≡ true
    go true i h = ap (λ c. c || list_any (λ y. y == x) xs) (eq-eqb x x refl)
    go false i h = or_right (x == name_for same ds xs r) (h i)

-- finds

abbrev same_option : Option (ℕ × ℕ) → Option (ℕ × ℕ) → Bool
same_option (Some f) (Some g) = same_find f g
same_option _ _ = false

same_option_exact : (f g : Option (ℕ × ℕ)) → same_option f g ≡ true → f ≡ g
same_option_exact (Some f) (Some g) e = ap Some (same_find_exact f g e)
same_option_exact None g e = absurd (both_ways false refl e)
same_option_exact (Some f) None e = absurd (both_ways false refl e)

abbrev as_options : List (ℕ × ℕ) → List (Option (ℕ × ℕ))
as_options fs = map (λ (f : ℕ × ℕ). Some f) fs

same_label : (fs : List (ℕ × ℕ)) (ls : List ℕ) (r : ℕ × ℕ) → name_for same_option (as_options fs) ls (Some r) ≡ name_for same_find fs ls r
same_label [] ls r = refl
same_label (f ∷ fs) [] r = refl
same_label (f ∷ fs) (l ∷ ls) r = ap (cond (same_find f r) l) (same_label fs ls r)

same_drawn : (fs : List (ℕ × ℕ)) (r : ℕ × ℕ) → is_drawn same_option (as_options fs) (Some r) ≡ is_drawn same_find fs r
same_drawn [] r = refl
same_drawn (f ∷ fs) r = ap (λ b. same_find f r || b) (same_drawn fs r)

module _ (d : DrawnNames) (a : AreApart d) where
  abbrev roles : List Role
  roles = roles_of d.draws

  roles_many : length d.names ≡ length roles
  roles_many = a.names ∙ sym (length-map d.draws (λ e. e.role))

  pub name_again : (r : Role) → is_drawn_for d r ≡ true → role_in d (name_for same_role roles d.names r) ≡ r
  name_again r i = found_again same_role same_role_exact d.game_role roles d.names r roles_many a.names_apart i

  pub name_new : (r : Role) → is_drawn_for d r ≡ true → is_new d (name_for same_role roles d.names r) ≡ true
  name_new r i = among same_role roles d.names r roles_many i

  index_drawn : (s q o b j m k : ℕ) → has_indices d s q o b j m ≡ true → j ≤ k → k < j + m → is_drawn_for d (Index s q o b k) ≡ true
  index_drawn s q o b j zero k e p l = absurd (omega arith)
  index_drawn s q o b j (suc m) k e p l =
      let f = and_parts (is_drawn_for d (Index s q o b j)) _ e in go (j == k) refl f.0 (λ z. index_drawn s q o b (suc j) m k f.1 z (omega arith))
    where
      go : (c : Bool) → (j == k) ≡ c → is_drawn_for d (Index s q o b j) ≡ true → (suc j ≤ k → is_drawn_for d (Index s q o b k) ≡ true) → is_drawn_for d (Index s q o b k) ≡ true
      go true g h r = subst (λ z. is_drawn_for d (Index s q o b z) ≡ true) (eqb-true j k g) h
      go false g h r = r (let z : j ≡ k → ⊥ = λ z. both_ways _ g (eq-eqb j k z) in omega arith)

  pub index_among : (s q o b m k : ℕ) → has_indices d s q o b 0 m ≡ true → k < m → is_drawn_for d (Index s q o b k) ≡ true
  index_among s q o b m k e l = index_drawn s q o b 0 m k e (omega arith) (omega arith)

  pub label_again : (s q : ℕ) → has_find d s q ≡ true → find_in d ((drawn_in d).label s q) ≡ Some (s, q)
  label_again s q i =
      ap (λ l. find_in d l) (sym (same_label d.finds d.labels (s, q)))
      ∙ found_again same_option same_option_exact (λ k. None) (as_options d.finds) d.labels (Some (s, q)) (a.labels ∙ sym (length-map d.finds (λ f. Some f))) a.labels_apart (same_drawn d.finds (s, q) ∙ i)

pub other_role : (d : DrawnNames) (y : ℕ) → is_new d y ≡ false → role_in d y ≡ d.game_role y
other_role d y e = not_drawn d.game_role (roles_of d.draws) d.names y e

pub other_label : (d : DrawnNames) (l : ℕ) → list_any (λ k. k == l) d.labels ≡ false → find_in d l ≡ None
other_label d l e = not_drawn (λ k. None) (as_options d.finds) d.labels l e

pub new_above : (n : ℕ) (xs : List ℕ) (y : ℕ) → AllByRecursion (λ x. n ≤ x) xs → list_any (λ x. x == y) xs ≡ true → n ≤ y
new_above n [] y a e = absurd (both_ways false refl e)
new_above n (x ∷ xs) y a e = go (x == y) refl e (new_above n xs y a.1)
  where
    go : (b : Bool) → (x == y) ≡ b → (b || list_any (λ x. x == y) xs) ≡ true → (list_any (λ x. x == y) xs ≡ true → n ≤ y) → n ≤ y
    go true f e k = let z : x ≡ y = eqb-true x y f in let w : n ≤ x = a.0 in omega arith
    go false f e k = k e
