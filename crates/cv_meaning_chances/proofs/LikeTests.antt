-- Tests that are equal on tapes within both of two lists, and ignore each cell outside their own.
use Rattle.std.proofs.Common.{◌≡◌, ℕ, ◌<◌, Bool, true, false, cond, not, ◌||◌, ◌⊎◌, inl, inr, List, [], ◌∷◌, ◌++◌, filter, Contains, refl, sym, ap, ap₂, subst, ◌∙◌, le_of_eq, le_antisymm}
use Rattle.std.proofs.lemmas.Bool.{both_ways}
use Rattle.std.proofs.lemmas.List.Elements.{Contains-append_left, Contains-append_right}
use Rattle.std.specs.List.{AllByRecursion}
use Rattle.cv_meaning.specs.Tapes.{Cell, Tape, same_cell, is_in, blank, total}
use Rattle.cv_meaning.specs.Cells.{without_repeats}
use Rattle.cv_meaning.specs.Chances.{Chance, chance, Same}
use Rattle.cv_meaning_laws.proofs.Counts.{same_cell_exact}
use Rattle.cv_meaning_laws.proofs.Listed.{distinct_without_repeats}
use Rattle.cv_meaning_chances.specs.Tests.{HasDistinctCells, HasValues, HasSizes, IsWithin, Ignores, IgnoresOthers}
use Rattle.cv_meaning_chances.proofs.CellLists.{contains_here, contains_later, contains_cases, not_in_empty}
use Rattle.cv_meaning_chances.proofs.Within.{count_same_off, total_above}
use Rattle.cv_meaning_chances.proofs.Covers.{same_chance}
use Rattle.cv_meaning_chances.proofs.FractionLaws.{at_most_trans}
use Rattle.cv_meaning_chances.proofs.Totals.{once_values}
use Rattle.cv_syntax_trees.proofs.lists.Each.{AllByRecursion_append}

abbrev Sized : Type 0
Sized = Cell × ℕ

-- what holds of each element

of_each : (P : Sized → Type 0) (cs : List Sized) → AllByRecursion P cs → (c : Sized) → Contains cs c → P c
of_each P [] h c k = absurd (not_in_empty c k)
of_each P (d ∷ cs) h c k = go (of_each P cs h.1 c) (contains_cases d c cs k)
  where
    go : (Contains cs c → P c) → (d ≡ c) ⊎ Contains cs c → P c
    go later (inl e) = subst P e h.0
    go later (inr m) = later m

each_of : (P : Sized → Type 0) (cs : List Sized) → ((c : Sized) → Contains cs c → P c) → AllByRecursion P cs
each_of P [] h = tt
each_of P (d ∷ cs) h = (h d (contains_here d cs), each_of P cs (λ c k. h c (contains_later d c cs k)))

-- the list without repeats has the same cells, where each has one size

kept_where : (p : Sized → Bool) (cs : List Sized) (c : Sized) → p c ≡ true → Contains cs c → Contains (filter p cs) c
kept_where p [] c e k = k
kept_where p (d ∷ cs) c e k = go (p d) refl (kept_where p cs c e) (contains_cases d c cs k)
  where
    go : (b : Bool) → p d ≡ b → (Contains cs c → Contains (filter p cs) c) → (d ≡ c) ⊎ Contains cs c → Contains (cond b (d ∷ filter p cs) (filter p cs)) c
    go true f later (inl m) = subst (Contains (d ∷ filter p cs)) m (contains_here d (filter p cs))
    go true f later (inr m) = contains_later d c (filter p cs) (later m)
    go false f later (inl m) = absurd (both_ways _ f (ap p m ∙ e))
    go false f later (inr m) = later m

filtered_from : (p : Sized → Bool) (cs : List Sized) (c : Sized) → Contains (filter p cs) c → Contains cs c
filtered_from p [] c k = k
filtered_from p (d ∷ cs) c k = go (filtered_from p cs c) (p d) k
  where
    one : (Contains (filter p cs) c → Contains cs c) → (d ≡ c) ⊎ Contains (filter p cs) c → Contains (d ∷ cs) c
    one later (inl e) = subst (Contains (d ∷ cs)) e (contains_here d cs)
    one later (inr m) = contains_later d c cs (later m)

    go : (Contains (filter p cs) c → Contains cs c) → (b : Bool) → Contains (cond b (d ∷ filter p cs) (filter p cs)) c → Contains (d ∷ cs) c
    go later true m = one later (contains_cases d c (filter p cs) m)
    go later false m = contains_later d c cs (later m)

abbrev is_other : Sized → Sized → Bool
is_other d c = not (same_cell c.0 d.0)

once_from : (cs : List Sized) (c : Sized) → Contains (without_repeats cs) c → Contains cs c
once_from [] c k = k
once_from (d ∷ cs) c k = go (once_from cs c) (contains_cases d c (filter (is_other d) (without_repeats cs)) k)
  where
    go : (Contains (without_repeats cs) c → Contains cs c) → (d ≡ c) ⊎ Contains (filter (is_other d) (without_repeats cs)) c → Contains (d ∷ cs) c
    go later (inl e) = subst (Contains (d ∷ cs)) e (contains_here d cs)
    go later (inr m) = contains_later d c cs (later (filtered_from (is_other d) (without_repeats cs) c m))

one_size : (size : Cell → ℕ) (c d : Sized) → c.1 ≡ size c.0 → d.1 ≡ size d.0 → c.0 ≡ d.0 → c ≡ d
one_size size c d x y e = λ i. (e i, (x ∙ ap size e ∙ sym y) i)

once_has : (size : Cell → ℕ) (cs : List Sized) → HasSizes size cs → (c : Sized) → Contains cs c → Contains (without_repeats cs) c
once_has size [] s c k = k
once_has size (d ∷ cs) s c k = go (once_has size cs s.1 c) (contains_cases d c cs k)
  where
    there : (b : Bool) → same_cell c.0 d.0 ≡ b → Contains cs c → Contains (without_repeats cs) c → Contains (d ∷ filter (is_other d) (without_repeats cs)) c
    there true e m n =
        subst (Contains (d ∷ filter (is_other d) (without_repeats cs))) (sym (one_size size c d (of_each (λ (x : Sized). x.1 ≡ size x.0) cs s.1 c m) s.0 (same_cell_exact c.0 d.0 e))) (contains_here d (filter (is_other d) (without_repeats cs)))
    there false e m n = contains_later d c (filter (is_other d) (without_repeats cs)) (kept_where (is_other d) (without_repeats cs) c (ap not e) n)

    go : (Contains cs c → Contains (without_repeats cs) c) → (d ≡ c) ⊎ Contains cs c → Contains (d ∷ filter (is_other d) (without_repeats cs)) c
    go later (inl e) = subst (Contains (d ∷ filter (is_other d) (without_repeats cs))) e (contains_here d (filter (is_other d) (without_repeats cs)))
    go later (inr m) = there (same_cell c.0 d.0) refl m (later m)

-- a cell of one size is listed with it, or not at all
listed_or_not : (size : Cell → ℕ) (cs : List Sized) → HasSizes size cs → (c : Sized) → c.1 ≡ size c.0 → Contains cs c ⊎ (is_in cs c.0 ≡ false)
listed_or_not size [] s c e = inr refl
listed_or_not size (d ∷ cs) s c e = go (same_cell d.0 c.0) refl (listed_or_not size cs s.1 c e)
  where
    go : (b : Bool) → same_cell d.0 c.0 ≡ b → Contains cs c ⊎ (is_in cs c.0 ≡ false) → Contains (d ∷ cs) c ⊎ (is_in (d ∷ cs) c.0 ≡ false)
    go true k r = inl (subst (Contains (d ∷ cs)) (one_size size d c s.0 e (same_cell_exact d.0 c.0 k)) (contains_here d cs))
    go false k (inl m) = inl (contains_later d c cs m)
    go false k (inr f) = inr (ap₂ ◌||◌ k f)

pub same_trans : (p q r : Chance) → 0 < q.all → Same p q → Same q r → Same p r
same_trans p q r v e f =
    le_antisymm (at_most_trans p q r v (le_of_eq e) (le_of_eq f)) (at_most_trans r q p v (le_of_eq (sym f)) (le_of_eq (sym e)))

module _ (size : Cell → ℕ) (cs ds : List Sized) (cs_sizes : HasSizes size cs) (ds_sizes : HasSizes size ds) where
  abbrev joint : List Sized
  joint = without_repeats (cs ++ ds)

  sizes : HasSizes size (cs ++ ds)
  sizes = AllByRecursion_append (λ (x : Sized). x.1 ≡ size x.0) cs ds cs_sizes ds_sizes

  in_left : (c : Sized) → Contains cs c → Contains joint c
  in_left c k = once_has size (cs ++ ds) sizes c (Contains-append_left cs ds c k)

  in_right : (c : Sized) → Contains ds c → Contains joint c
  in_right c k = once_has size (cs ++ ds) sizes c (Contains-append_right cs ds c k)

  size_in : (c : Sized) → Contains joint c → c.1 ≡ size c.0
  size_in c k = of_each (λ (x : Sized). x.1 ≡ size x.0) (cs ++ ds) sizes c (once_from (cs ++ ds) c k)

  within : (xs : List Sized) → ((c : Sized) → Contains xs c → Contains joint c) → (t : Tape) → IsWithin joint t → IsWithin xs t
  within xs h t w = each_of (λ (c : Sized). t c.0 < c.1) xs (λ c k. of_each (λ (c : Sized). t c.0 < c.1) joint w c (h c k))

  over_all : (p : Tape → Bool) (xs : List Sized) → HasSizes size xs → HasDistinctCells xs → ((c : Sized) → Contains xs c → Contains joint c) → IgnoresOthers p xs → Same (chance xs p) (chance joint p)
  over_all p xs s d h i =
      same_chance p xs joint d (distinct_without_repeats (cs ++ ds)) (λ c k. inl (h c k)) (λ c k. covered c (listed_or_not size xs s c (size_in c k))) blank
    where
      covered : (c : Sized) → Contains xs c ⊎ (is_in xs c.0 ≡ false) → Contains xs c ⊎ Ignores p c.0
      covered c (inl m) = inl m
      covered c (inr f) = inr (i c.0 f)

  same_over_all : (p q : Tape → Bool) → ((t : Tape) → IsWithin cs t → IsWithin ds t → p t ≡ q t) → chance joint p ≡ chance joint q
  same_over_all p q e =
      λ i. record { good = count_same_off joint p q blank (distinct_without_repeats (cs ++ ds)) (λ u w off. e u (within cs in_left u w) (within ds in_right u w)) i; all = total joint }

  pub like_tests : (p q : Tape → Bool) → HasDistinctCells cs → HasDistinctCells ds → HasValues cs → HasValues ds → IgnoresOthers p cs → IgnoresOthers q ds → ((t : Tape) → IsWithin cs t → IsWithin ds t → p t ≡ q t) → Same (chance cs p) (chance ds q)
  like_tests p q x y v w i j e =
      let some : 0 < total joint = total_above joint (once_values (cs ++ ds) (AllByRecursion_append (λ (c : Sized). 0 < c.1) cs ds v w)) in
      same_trans (chance cs p) (chance joint p) (chance ds q) some
      (over_all p cs cs_sizes x in_left i)
      (subst (λ r. Same r (chance ds q)) (sym (same_over_all p q e)) (sym (over_all q ds ds_sizes y in_right j)))
