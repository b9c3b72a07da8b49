-- What a search for a variable and a place finds among sorted definitions.
use Rattle.std.proofs.Common.{◌≡◌, ℕ, ◌<◌, ◌≤◌, Bool, true, false, ◌&&◌, not, nat_lt, cond, List, length, Bor, Option, Some, None, ◌⊎◌, inl, inr, refl, sym, ap, ap₂, subst, ◌∙◌, arith, le-ltb, lt-ltb, eq-eqb, eqb-true, ltb-false, ltb-true, get_or}
use Rattle.std.specs.Prelude.{◌==◌, option_copied, slice_get}
use Rattle.std.specs.Slice.{IsItemAt}
use Rattle.std.proofs.lemmas.Bool.{cases_lt}
use Rattle.std.specs.List.Sorted.{IsNonDecreasingBy, IsPartitionPoint, IsSorted}
use Rattle.std.specs.Ordering.{MatchOrdering, is_lt, nat_cmp, ordering_index, ordering_then}
use Rattle.std.specs.declared.cmp.Ordering.{Ordering}
use Rattle.std.specs.declared.cmp.Ordering.TheVariants.{Equal, Greater, Less}
use Rattle.std.specs.Cmp.{IsTotalOrder}
use Rattle.std.proofs.lemmas.Cmp.{nat_cmp_total, on_total, ranked, then_total}
use Rattle.std.proofs.lemmas.List.Folds.{list_any_at, list_any_none}
use Rattle.std.proofs.lemmas.Option.{get_or_from_slice_get, slice_get_read, slice_get_within}
use Rattle.std.proofs.lemmas.List.Sorted.{ranks_by, searchable_from_sorted, sorted_far}
use Rattle.cv_settling_lateness.specs.Defining.{by_name_and_place, definition, has_within, is_within}
use Rattle.cv_settling_lateness.specs.declared.definitions.Definition.{Definition}

-- the order

total : IsTotalOrder by_name_and_place
total = then_total (on_total (λ (d : Definition). d.name) nat_cmp_total) (on_total (λ (d : Definition). d.place) nat_cmp_total)

same_number : (m n : ℕ) → m ≡ n → nat_cmp m n ≡ Equal
same_number m n e = ap₂ (λ u v. cond u Less (cond v Equal Greater)) (le-ltb m n (omega arith)) (eq-eqb m n e)

smaller_number : (m n : ℕ) → m < n → nat_cmp m n ≡ Less
smaller_number m n l = ap (λ u. cond u Less (cond (m == n) Equal Greater)) (lt-ltb m n l)

less_by_name : (d e : Definition) → d.name < e.name → by_name_and_place d e ≡ Less
less_by_name d e l = ap (λ o. ordering_then o (nat_cmp d.place e.place)) (smaller_number d.name e.name l)

less_by_place : (d e : Definition) → d.name ≡ e.name → d.place < e.place → by_name_and_place d e ≡ Less
less_by_place d e s l = ap₂ ordering_then (same_number d.name e.name s) (smaller_number d.place e.place l)

-- what it says of a definition and another one

abbrev IsBefore : Definition → Definition → Type 0
IsBefore d e = (d.name < e.name) ⊎ ((d.name ≡ e.name) × (d.place < e.place))

less : (d e : Definition) → by_name_and_place d e ≡ Less → IsBefore d e
less d e f = go (nat_cmp d.name e.name) (nat_cmp d.place e.place) (ranked d.name e.name (nat_cmp d.name e.name) refl) (ranked d.place e.place (nat_cmp d.place e.place) refl) f
  where
    go : (o p : Ordering) → MatchOrdering o (d.name < e.name) (d.name ≡ e.name) (e.name < d.name) → MatchOrdering p (d.place < e.place) (d.place ≡ e.place) (e.place < d.place) → ordering_then o p ≡ Less → IsBefore d e
    go Less p r s f = inl r
    go Equal Less r s f = inr (r, s)
    go Equal Equal r s f = absurd (cc)
    go Equal Greater r s f = absurd (cc)
    go Greater p r s f = absurd (cc)

greater : (d e : Definition) → by_name_and_place d e ≡ Greater → IsBefore e d
greater d e f = go (nat_cmp d.name e.name) (nat_cmp d.place e.place) (ranked d.name e.name (nat_cmp d.name e.name) refl) (ranked d.place e.place (nat_cmp d.place e.place) refl) f
  where
    go : (o p : Ordering) → MatchOrdering o (d.name < e.name) (d.name ≡ e.name) (e.name < d.name) → MatchOrdering p (d.place < e.place) (d.place ≡ e.place) (e.place < d.place) → ordering_then o p ≡ Greater → IsBefore e d
    go Less p r s f = absurd (cc)
    go Equal Less r s f = absurd (cc)
    go Equal Equal r s f = absurd (cc)
    go Equal Greater r s f = inr (sym r, s)
    go Greater p r s f = inl r

equal : (d e : Definition) → by_name_and_place d e ≡ Equal → (d.name ≡ e.name) × (d.place ≡ e.place)
equal d e f = go (nat_cmp d.name e.name) (nat_cmp d.place e.place) (ranked d.name e.name (nat_cmp d.name e.name) refl) (ranked d.place e.place (nat_cmp d.place e.place) refl) f
  where
    go : (o p : Ordering) → MatchOrdering o (d.name < e.name) (d.name ≡ e.name) (e.name < d.name) → MatchOrdering p (d.place < e.place) (d.place ≡ e.place) (e.place < d.place) → ordering_then o p ≡ Equal → (d.name ≡ e.name) × (d.place ≡ e.place)
    go Less p r s f = absurd (cc)
    go Equal Less r s f = absurd (cc)
    go Equal Equal r s f = (r, s)
    go Equal Greater r s f = absurd (cc)
    go Greater p r s f = absurd (cc)

not_less : (d e : Definition) → is_lt (by_name_and_place d e) ≡ false → IsBefore d e → ⊥
not_less d e f (inl l) = let g = sym (ap is_lt (less_by_name d e l)) ∙ f in cc
not_less d e f (inr p) = let g = sym (ap is_lt (less_by_place d e p.0 p.1)) ∙ f in cc

-- a definition of the variable between the places

module _ (x low high : ℕ) where
  within : (d : Definition) → d.name ≡ x → low ≤ d.place → d.place < high → is_within x low high d ≡ true
  within d e l m = ap₂ (λ a b. a && b) (eq-eqb x d.name (sym e)) (ap₂ (λ a b. not a && b) (le-ltb d.place low l) (lt-ltb d.place high m))

  not_within : (d : Definition) → (d.name ≡ x → low ≤ d.place → d.place < high → ⊥) → is_within x low high d ≡ false
  not_within d f = go (x == d.name) (nat_lt d.place low) (nat_lt d.place high) refl refl refl
    where
      go : (a b c : Bool) → (x == d.name) ≡ a → nat_lt d.place low ≡ b → nat_lt d.place high ≡ c → (a && (not b && c)) ≡ false
      go false b c e l m = refl
      go true true c e l m = refl
      go true false false e l m = refl
      go true false true e l m = absurd (f (sym (eqb-true x d.name e)) (ltb-false d.place low l) (ltb-true d.place high m))

  module _ (xs : List Definition) (sorted : IsSorted by_name_and_place xs) where
    abbrev key : Definition
    key = definition low x

    -- it stands in the list itself
    pub found : (k : ℕ) → k < length xs → ((d : Definition) → by_name_and_place (get_or xs k d) key ≡ Equal) → nat_lt low high ≡ has_within x low high xs
    found k l e = go (nat_lt low high) refl
      where
        go : (b : Bool) → nat_lt low high ≡ b → b ≡ has_within x low high xs
        go true m =
            let q = equal (get_or xs k key) key (e key) in
            sym (list_any_at (is_within x low high) xs k key l (within (get_or xs k key) q.0 (let i : (get_or xs k key).place ≡ low = q.1 in omega arith) (let i : (get_or xs k key).place ≡ low = q.1 in let j : low < high = ltb-true low high m in omega arith)))
        go false m = sym (list_any_none (is_within x low high) xs (λ j d i. not_within (get_or xs j d) (λ s n o. let p : high ≤ low = ltb-false low high m in omega arith)))

    -- the comparisons rise along the list, as the search asks
    pub rising : IsNonDecreasingBy (λ (d : Definition). ordering_index (by_name_and_place d key)) xs
    rising = searchable_from_sorted total (λ (d : Definition). d) xs key sorted

    module _ (k : ℕ) (parted : IsPartitionPoint (λ (d : Definition). by_name_and_place d key ≡ Less) (λ (d : Definition). by_name_and_place d key ≡ Greater) xs k) where
      -- what stands before it
      before : (j : ℕ) (d : Definition) → j < k → is_within x low high (get_or xs j d) ≡ false
      before j d l = not_within (get_or xs j d) (λ s n o. go (less (get_or xs j d) key (parted.0 j d (omega arith) l)) s n)
        where
          go : IsBefore (get_or xs j d) key → (get_or xs j d).name ≡ x → low ≤ (get_or xs j d).place → ⊥
          go (inl m) s n = let i : (get_or xs j d).name < x = m in omega arith
          go (inr m) s n = let i : (get_or xs j d).place < low = m.1 in omega arith

      -- the first one that doesn't
      pub next_within : (next : Definition) → slice_get xs k ≡ Some next → ((next.name == x) && nat_lt next.place high) ≡ has_within x low high xs
      next_within next e = go (next.name == x) (nat_lt next.place high) refl refl
        where
          below : k < length xs
          below = slice_get_within xs k next e

          is : (d : Definition) → get_or xs k d ≡ next
          is d = get_or_from_slice_get xs k next d e

          after : IsBefore key next
          after = greater next key (subst (λ d. by_name_and_place d key ≡ Greater) (is key) (parted.1 k key (omega arith) below))

          far : (j : ℕ) (d : Definition) → k ≤ j → j < length xs → IsBefore (get_or xs j d) next → ⊥
          far j d l m = not_less (get_or xs j d) next (subst (λ c. is_lt (by_name_and_place (get_or xs j d) c) ≡ false) (is d) (sorted_far (λ c d. is_lt (by_name_and_place c d)) (ranks_by total (λ (d : Definition). d)) xs sorted k j d l m))

          none : (next.name ≡ x → next.place < high → ⊥) → has_within x low high xs ≡ false
          none f = list_any_none (is_within x low high) xs (λ j d i. cases j d i (cases_lt j k))
            where
              reaches : (next.place < high → ⊥) → (next.place < high) ⊎ (high ≤ next.place) → high ≤ next.place
              reaches g (inl l) = absurd (g l)
              reaches g (inr l) = l

              behind : (j : ℕ) (d : Definition) → k ≤ j → j < length xs → IsBefore key next → (get_or xs j d).name ≡ x → low ≤ (get_or xs j d).place → (get_or xs j d).place < high → ⊥
              behind j d l m (inl p) s n o = far j d l m (inl (let i : x < next.name = p in omega arith))
              behind j d l m (inr p) s n o =
                  let i : x ≡ next.name = p.0 in
                  let i : high ≤ next.place = reaches (f (sym p.0)) (cases_lt next.place high) in
                  far j d l m (inr (s ∙ p.0, omega arith))

              cases : (j : ℕ) (d : Definition) → j < length xs → (j < k) ⊎ (k ≤ j) → is_within x low high (get_or xs j d) ≡ false
              cases j d i (inl l) = before j d l
              cases j d i (inr l) = not_within (get_or xs j d) (behind j d l i after)

          go : (a b : Bool) → (next.name == x) ≡ a → nat_lt next.place high ≡ b → (a && b) ≡ has_within x low high xs
          go true true s m = sym (list_any_at (is_within x low high) xs k next below (ap (is_within x low high) (is next) ∙ within next (eqb-true next.name x s) (starts after) (ltb-true next.place high m)))
            where
              starts : IsBefore key next → low ≤ next.place
              starts (inl p) = let i : x < next.name = p in let j : next.name ≡ x = eqb-true next.name x s in omega arith
              starts (inr p) = let i : low < next.place = p.1 in omega arith
          go true false s m = sym (none (λ i l. let j : high ≤ next.place = ltb-false next.place high m in omega arith))
          go false b s m = sym (none (λ i l. absurd (let j = sym (eq-eqb next.name x i) ∙ s in cc)))

      -- there is no further one
      pub none_within : length xs ≤ k → has_within x low high xs ≡ false
      none_within l = list_any_none (is_within x low high) xs (λ j d i. before j d (omega arith))

-- what stands at a place of a list, where it is asked for

pub item_there : (xs : List Definition) (k : ℕ) (r : Option (Bor Definition)) (x : Bor Definition) → r ≡ Some x → IsItemAt xs k r → slice_get xs k ≡ Some x.now
item_there xs k None x e h = absurd (cc)
item_there xs k (Some y) x e h = slice_get_read xs (length xs) k y.now refl h.3.0 h.1 ∙ ap option_copied e

pub item_past : (xs : List Definition) (k : ℕ) (r : Option (Bor Definition)) → r ≡ None → IsItemAt xs k r → length xs ≤ k
item_past xs k None e h = h.3
item_past xs k (Some y) e h = absurd (cc)
