-- Pairs that are needed, by the routes for events that are marked `inj`.
use Rattle.std.proofs.Common.{◌≡◌, ℕ, ◌+◌, ◌<◌, ◌≤◌, Bool, true, false, ◌&&◌, List, [], ◌∷◌, ◌++◌, drop, get_or, length, map, refl, sym, ap, ap₂, ◌∙◌, Option, Some, None, append_assoc, append-nil}
use Rattle.std.specs.Prelude.{◌==◌, if◌then◌else◌, flat_map, option_map}
use Rattle.std.proofs.lemmas.List.{drop_all, drop_more, map-append}
use Rattle.std.proofs.lemmas.List.Concat.{flat_map-append}
use Rattle.cv_pool.specs.KindTree.{KindTree}
use Rattle.cv_syntax_trees.specs.declared.head.Head.{Head}
use Rattle.cv_syntax_trees.specs.declared.head.Head.TheVariants.{AboveRoute, AtEntry, CellRoute, HoldsRoute, NeverEntry, WithEntry}
use Rattle.cv_syntax_trees.specs.Tree.{Tree, Empty, Node}
use Rattle.cv_syntax.specs.PoolTrees.{tree_at}
use Rattle.cv_meaning.specs.Correspondences.{Atom, Correspondence, atom_of}
use Rattle.cv_scene.specs.Scenes.{Scene}
use Rattle.cv_query_certificates.specs.Alternatives.{atoms_of_chosen, chosen_by, number_in, routes_of}
use Rattle.cv_query_certificates.specs.EventNodes.{place_in}
use Rattle.cv_query_certificates.specs.Pairs.{End, Needed, end_of, ends_in, ends_of_choice, injective_ends, is_injective, needed_among, needed_at, needed_for, needed_from, needed_pairs, numbered_end}
use Rattle.cv_query_parts.specs.Alternatives.{atoms_seen}
use Rattle.cv_query_parts.specs.Said.{Above, ByCell, Holds, NoWay, Saying, Way, With, saying_of, way_of, way_seen}
use Rattle.cv_query_parts.specs.declared.alternatives.NumberedAtom.{NumberedAtom}
use Rattle.cv_query_parts.specs.declared.pairs.marked.MarkedEntry.{MarkedEntry}
use Rattle.cv_query_parts.specs.declared.pairs.marked.MarkedRoute.{MarkedRoute}
use Rattle.cv_query_parts.specs.pairs.Marked.{ends_of_saying, ends_seen, entries_seen, entry_seen, marked_end}
use Rattle.cv_query_parts.specs.pairs.Routes.{end_by, meet, needed_by}
use Rattle.cv_query_parts.specs.pairs.Walks.{needed_of_all, needed_of_entries, needed_of_entry, needed_of_route, needed_of_routes}

-- where a route ends

end_way : (s : Scene) (route : Tree) → end_of s route ≡ end_by s (way_of route)
end_way s (Node AboveRoute q by) = refl
end_way s (Node CellRoute c Empty) = refl
end_way s (Node CellRoute c (Node h q by)) = refl
end_way s (Node HoldsRoute by e) = refl
end_way s route = refl

-- the routes of a choice, atom by atom

module _ (trees : List KindTree) (xs : List NumberedAtom) (k : ℕ) (t : Tree) where
  abbrev ends_from : ℕ → Tree → Scene → List (ℕ × End)
  ends_from k t s = injective_ends s (atoms_seen trees (drop k xs)) t

  module _ (found : List MarkedRoute) (total : Scene → List (ℕ × End)) (i : (s : Scene) → ends_seen s trees found ++ ends_from k t s ≡ total s) where
    pub no_more_atoms : length xs ≤ k → (s : Scene) → ends_seen s trees found ≡ total s
    no_more_atoms l s =
        sym (append-nil (ends_seen s trees found)) ∙ (ap (λ ys. ends_seen s trees found ++ injective_ends s (atoms_seen trees ys) t) (sym (drop_all k xs l)) ∙ i s)

    pub no_more_routes : k < length xs → (d : NumberedAtom) → t ≡ Empty → (s : Scene) → ends_seen s trees found ≡ total s
    no_more_routes l d e s =
        sym (append-nil (ends_seen s trees found))
        ∙ (ap₂ (λ ys u. ends_seen s trees found ++ injective_ends s (atoms_seen trees ys) u) (sym (drop_more xs k d l)) (sym e) ∙ i s)

    module _ (d : NumberedAtom) (l : k < length xs) (h : Head) (r rs : Tree) (e : t ≡ Node h r rs) (b : Bool) (f : b ≡ is_injective (atom_of (tree_at trees (get_or xs k d).atom))) where
      opened : (s : Scene) → ends_from k t s ≡ (if b then numbered_end (get_or xs k d).number (end_by s (way_of r)) else []) ++ ends_from (k + 1) rs s
      opened s =
          ap₂ (λ ys u. injective_ends s (atoms_seen trees ys) u) (drop_more xs k d l) e
          ∙ ap₂ (λ c o. (if c then numbered_end (get_or xs k d).number o else []) ++ ends_from (k + 1) rs s) (sym f) (end_way s r)

      pub unmarked : b ≡ false → (s : Scene) → ends_seen s trees found ++ ends_from (k + 1) rs s ≡ total s
      unmarked g s =
          ap (λ c. ends_seen s trees found ++ ((if c then numbered_end (get_or xs k d).number (end_by s (way_of r)) else []) ++ ends_from (k + 1) rs s)) (sym g)
          ∙ (ap (λ ys. ends_seen s trees found ++ ys) (sym (opened s)) ∙ i s)

      pub marked : b ≡ true → (x : MarkedRoute) (new : List MarkedRoute) → x.atom ≡ (get_or xs k d).number → way_seen trees x.route ≡ way_of r → new ≡ found ++ x ∷ [] → (s : Scene) → ends_seen s trees new ++ ends_from (k + 1) rs s ≡ total s
      marked g x new m w n s =
          ap (λ ys. ends_seen s trees ys ++ ends_from (k + 1) rs s) n
          ∙ (ap (λ ys. ys ++ ends_from (k + 1) rs s) (flat_map-append (marked_end s trees) found (x ∷ []))
          ∙ (append_assoc (ends_seen s trees found) (marked_end s trees x ++ []) (ends_from (k + 1) rs s)
          ∙ (ap (λ ys. ends_seen s trees found ++ (ys ++ ends_from (k + 1) rs s)) (append-nil (marked_end s trees x) ∙ ap₂ (λ c v. numbered_end c (end_by s v)) m w)
          ∙ (ap (λ c. ends_seen s trees found ++ ((if c then numbered_end (get_or xs k d).number (end_by s (way_of r)) else []) ++ ends_from (k + 1) rs s)) (sym g)
          ∙ (ap (λ ys. ends_seen s trees found ++ ys) (sym (opened s)) ∙ i s)))))

-- entries, one by one

abbrev listed : {A : Type 0} → Option A → List A
listed None = []
listed (Some x) = x ∷ []

module _ (s : Scene) (q : Correspondence) where
  one_entry : (h : Head) (part more : Tree) → ends_in s q (Node h part more) ≡ listed (ends_of_saying s q (saying_of part)) ++ ends_in s q more
  one_entry h (Node AtEntry n (Node NeverEntry by x)) more = refl
  one_entry h (Node AtEntry n (Node WithEntry ws choice)) more = refl
  one_entry h (Node AtEntry n t) more = refl
  one_entry h part more = refl

  pub choice_ends : (part n ws choice : Tree) (e : ℕ × List (ℕ × End)) (x : Saying) → x ≡ saying_of part → x ≡ With n ws choice → e.0 ≡ place_in n → e.1 ≡ ends_of_choice s q choice → Some e ≡ ends_of_saying s q (saying_of part)
  choice_ends part n ws choice e x f g h i = ap₂ (λ p l. Some (p, l)) h i ∙ ap (ends_of_saying s q) (sym g ∙ f)

  pub no_ends : (part : Tree) (x y : Saying) → x ≡ saying_of part → x ≡ y → None ≡ ends_of_saying s q y → None ≡ ends_of_saying s q (saying_of part)
  no_ends part x y f g h = h ∙ ap (ends_of_saying s q) (sym g ∙ f)

  pub chosen_ends : (trees : List KindTree) (choice t : Tree) (n : Option ℕ) (atoms : List (ℕ × Atom)) (rs : List MarkedRoute) → n ≡ number_in choice → atoms ≡ atoms_of_chosen (chosen_by q.alternatives n) → t ≡ routes_of choice → ends_seen s trees rs ≡ injective_ends s atoms t → ends_seen s trees rs ≡ ends_of_choice s q choice
  chosen_ends trees choice t n atoms rs e f g h = h ∙ ap₂ (injective_ends s) (f ∙ ap (λ m. atoms_of_chosen (chosen_by q.alternatives m)) e) g

  module _ (trees : List KindTree) (found : List MarkedEntry) (t : Tree) (total : List (ℕ × List (ℕ × End))) (i : entries_seen s trees found ++ ends_in s q t ≡ total) where
    pub entries_end : t ≡ Empty → entries_seen s trees found ≡ total
    entries_end e = sym (append-nil (entries_seen s trees found)) ∙ (ap (λ u. entries_seen s trees found ++ ends_in s q u) (sym e) ∙ i)

    module _ (h : Head) (part more : Tree) (e : t ≡ Node h part more) (o : Option MarkedEntry) (f : option_map (entry_seen s trees) o ≡ ends_of_saying s q (saying_of part)) where
      opened_entry : entries_seen s trees found ++ (listed (option_map (entry_seen s trees) o) ++ ends_in s q more) ≡ total
      opened_entry = ap (λ p. entries_seen s trees found ++ (listed p ++ ends_in s q more)) f ∙ (ap (λ l. entries_seen s trees found ++ l) (sym (ap (ends_in s q) e ∙ one_entry h part more)) ∙ i)

      pub no_entry : o ≡ None → entries_seen s trees found ++ ends_in s q more ≡ total
      no_entry g = ap (λ p. entries_seen s trees found ++ (listed (option_map (entry_seen s trees) p) ++ ends_in s q more)) (sym g) ∙ opened_entry

      pub entry_found : (x : MarkedEntry) (new : List MarkedEntry) → o ≡ Some x → new ≡ found ++ x ∷ [] → entries_seen s trees new ++ ends_in s q more ≡ total
      entry_found x new g n =
          ap (λ l. entries_seen s trees l ++ ends_in s q more) n
          ∙ (ap (λ l. l ++ ends_in s q more) (map-append (entry_seen s trees) found (x ∷ []))
          ∙ (append_assoc (entries_seen s trees found) (entry_seen s trees x ∷ []) (ends_in s q more)
          ∙ (ap (λ p. entries_seen s trees found ++ (listed (option_map (entry_seen s trees) p) ++ ends_in s q more)) (sym g) ∙ opened_entry)))

-- two routes

module _ (s : Scene) (k p q m n : ℕ) where
  abbrev of_ends : Option End → Option End → List Needed
  of_ends d e = flat_map (λ (x : ℕ × End). flat_map (needed_at s k p q x) (numbered_end n e)) (numbered_end m d)

  abbrev of_ways : Way → Way → List Needed
  of_ways v w = if m == n && meet v w then needed_by s k p q m v w ∷ [] else []

  unmet : (b : Bool) (x : List Needed) → [] ≡ (if b && false then x else [])
  unmet true x = refl
  unmet false x = refl

  alone : (b : Bool) (x : Needed) → ((if b then x ∷ [] else []) ++ []) ++ [] ≡ (if b then x ∷ [] else [])
  alone true x = refl
  alone false x = refl

  by_ways : (v w : Way) → of_ends (end_by s v) (end_by s w) ≡ of_ways v w
  by_ways (Above a by) (Above b on) = alone (m == n && a == b) _
  by_ways (Above a by) (ByCell x b on) = alone (m == n && a == b) _
  by_ways (Above a by) (Holds on) = unmet (m == n) _
  by_ways (Above a by) NoWay = unmet (m == n) _
  by_ways (ByCell y a by) (Above b on) = alone (m == n && a == b) _
  by_ways (ByCell y a by) (ByCell x b on) = alone (m == n && a == b) _
  by_ways (ByCell y a by) (Holds on) = unmet (m == n) _
  by_ways (ByCell y a by) NoWay = unmet (m == n) _
  by_ways (Holds by) w = unmet (m == n) _
  by_ways NoWay w = unmet (m == n) _

-- routes, one by one

within : {A B C : Type 0} (f : B → List C) (g : A → List B) (xs : List A) → flat_map f (flat_map g xs) ≡ flat_map (λ x. flat_map f (g x)) xs
within f g [] = refl
within f g (x ∷ xs) = flat_map-append f (g x) (flat_map g xs) ∙ ap (λ l. flat_map f (g x) ++ l) (within f g xs)

same_items : {A B : Type 0} (f g : A → List B) → ((x : A) → f x ≡ g x) → (xs : List A) → flat_map f xs ≡ flat_map g xs
same_items f g e [] = refl
same_items f g e (x ∷ xs) = ap₂ ◌++◌ (e x) (same_items f g e xs)

over_map : {A B C : Type 0} (f : B → List C) (g : A → B) (xs : List A) → flat_map f (map g xs) ≡ flat_map (λ x. f (g x)) xs
over_map f g [] = refl
over_map f g (x ∷ xs) = ap (λ l. f (g x) ++ l) (over_map f g xs)

module _ (s : Scene) (k : ℕ) (trees : List KindTree) where
  module _ (p q : ℕ) where
    one_end : (m : ℕ) (o : Option End) (ts : List MarkedRoute) → flat_map (λ (x : ℕ × End). flat_map (needed_at s k p q x) (ends_seen s trees ts)) (numbered_end m o)
        ≡ flat_map (λ (t : MarkedRoute). flat_map (λ (x : ℕ × End). flat_map (needed_at s k p q x) (marked_end s trees t)) (numbered_end m o)) ts
    one_end m None [] = refl
    one_end m None (t ∷ ts) = one_end m None ts
    one_end m (Some e) ts =
        append-nil (flat_map (needed_at s k p q (m, e)) (ends_seen s trees ts))
        ∙ (within (needed_at s k p q (m, e)) (marked_end s trees) ts
        ∙ same_items (λ t. flat_map (needed_at s k p q (m, e)) (marked_end s trees t)) (λ t. flat_map (needed_at s k p q (m, e)) (marked_end s trees t) ++ []) (λ t. sym (append-nil (flat_map (needed_at s k p q (m, e)) (marked_end s trees t)))) ts)

    one_route : (r : MarkedRoute) (ts : List MarkedRoute) → flat_map (λ (x : ℕ × End). flat_map (needed_at s k p q x) (ends_seen s trees ts)) (marked_end s trees r) ≡ needed_of_route s k trees p q r ts
    one_route r ts =
        one_end r.atom (end_by s (way_seen trees r.route)) ts
        ∙ same_items (λ t. of_ends s k p q r.atom t.atom (end_by s (way_seen trees r.route)) (end_by s (way_seen trees t.route))) (needed_of_routes s k trees p q r)
        (λ t. by_ways s k p q r.atom t.atom (way_seen trees r.route) (way_seen trees t.route)) ts

    both : (rs ts : List MarkedRoute) → needed_for s k p q (ends_seen s trees rs) (ends_seen s trees ts) ≡ flat_map (λ (r : MarkedRoute). needed_of_route s k trees p q r ts) rs
    both rs ts =
        within (λ (x : ℕ × End). flat_map (needed_at s k p q x) (ends_seen s trees ts)) (marked_end s trees) rs
        ∙ same_items (λ (r : MarkedRoute). flat_map (λ (x : ℕ × End). flat_map (needed_at s k p q x) (ends_seen s trees ts)) (marked_end s trees r)) (λ (r : MarkedRoute). needed_of_route s k trees p q r ts) (λ r. one_route r ts) rs

  -- entries, one by one

  from_entry : (e : MarkedEntry) (es : List MarkedEntry) → needed_from s k (entry_seen s trees e) (entries_seen s trees es) ≡ needed_of_entry s k trees e es
  from_entry e es =
      over_map (λ (y : ℕ × List (ℕ × End)). needed_for s k e.place y.0 (ends_seen s trees e.routes.items) y.1) (entry_seen s trees) es
      ∙ same_items (λ (f : MarkedEntry). needed_for s k e.place f.place (ends_seen s trees e.routes.items) (ends_seen s trees f.routes.items)) (needed_of_entries s k trees e) (λ f. both e.place f.place e.routes.items f.routes.items) es

  among : (es : List MarkedEntry) → needed_among s k (entries_seen s trees es) ≡ needed_of_all s k trees es
  among [] = refl
  among (e ∷ es) = ap₂ ◌++◌ (from_entry e (e ∷ es)) (among es)

  pub marked_pairs : (q : Correspondence) (parts : Tree) (es : List MarkedEntry) → q.inj ≡ true → entries_seen s trees es ≡ ends_in s q parts → needed_pairs s k q parts ≡ needed_of_all s k trees es
  marked_pairs q parts es e f = ap (λ b. if b then needed_among s k (ends_in s q parts) else []) e ∙ (ap (needed_among s k) (sym f) ∙ among es)
