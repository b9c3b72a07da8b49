-- Each name is that of a definition, and the next game has this definition: so none is a constant, where the next game binds no constant.
use Rattle.std.proofs.Common.{◌≡◌, ℕ, ◌+◌, ◌<◌, ◌≤◌, ◌==◌, ◌||◌, Bool, true, false, cond, not, List, [], ◌∷◌, ◌++◌, map, length, ◌⊎◌, inl, inr, Some, refl, sym, ap, subst, ◌∙◌, arith, eq-eqb, eqb-true}
use Rattle.std.proofs.lemmas.Bool.{and_parts, both_ways, not-true, or_left, or_right}
use Rattle.cv_syntax_trees.specs.declared.head.Head.{Head}
use Rattle.cv_syntax_trees.specs.declared.head.Head.TheVariants.{Binder, Branch, Call, Cons, In, Key, Let, New}
use Rattle.cv_syntax_trees.specs.Head.{weight}
use Rattle.cv_syntax_trees.specs.Tree.{Tree, Empty, Node, first_place, second, second_place, size}
use Rattle.cv_meaning.specs.Terms.{found_in, or_zero}
use Rattle.cv_scope_rules.specs.Behind.{sites_of}
use Rattle.cv_scope_rules.specs.Context.{Context, nothing_known}
use Rattle.cv_scope_rules.specs.Made.{is_bound, made_by}
use Rattle.cv_scope_rules.specs.Phrases.{binds_none, head_binds_none}
use Rattle.cv_scope_rules.specs.Sites.{Variable}
use Rattle.cv_scope_rules.specs.declared.position.Position.TheVariants as position
use Rattle.cv_edit_names.specs.Naming.{Naming, name_at, named_places, naming_of}
use Rattle.cv_rule_array_names_laws.proofs.Parts.{PartFor, again, node, nothing}
use Rattle.cv_rule_array_names.proofs.Places.{is_place, place_of, same_places, site_places}
use Rattle.cv_rule_array_names.proofs.Stores.{is_name}

-- a tree that binds none of some names defines none of them

no_binder : (c : ℕ → Bool) (y : ℕ) → c y ≡ true → (bs : Tree) → binds_none c bs ≡ true → is_bound bs y ≡ true → ⊥
unfolding binds_none is_bound
no_binder c y k (Node (Binder z T) a b) e m =
    let p = and_parts (not (c z)) _ e in
    go (y == z) refl p.0 (no_binder c y k b (and_parts (binds_none c a) _ p.1).1) m
  where
    go : (v : Bool) → (y == z) ≡ v → not (c z) ≡ true → (is_bound b y ≡ true → ⊥) → (v || is_bound b y) ≡ true → ⊥
    go true i n ih m = both_ways (c y) (ap c (eqb-true y z i) ∙ not-true _ n) k
    go false i n ih m = ih m
no_binder c y k bs e m = both_ways false refl m

second_binds : (c : ℕ → Bool) (a : Tree) → binds_none c a ≡ true → binds_none c (second a) ≡ true
unfolding binds_none
second_binds c Empty e = refl
second_binds c (Node h a b) e = (and_parts (binds_none c a) _ (and_parts (head_binds_none c h) _ e).1).1

other_name : (c : ℕ → Bool) (y z : ℕ) → c y ≡ true → not (c z) ≡ true → (y == z) ≡ true → ⊥
other_name c y z k e m = both_ways (c y) (ap c (eqb-true y z m) ∙ not-true _ e) k

no_definition : (c : ℕ → Bool) (y : ℕ) → c y ≡ true → (h : Head) (a b : Tree) → binds_none c (Node h a b) ≡ true → made_by h a (Variable y) ≡ true → ⊥
unfolding binds_none
no_definition c y k (New z T) a b e m = other_name c y z k (and_parts (not (c z)) _ e).0 m
no_definition c y k (Let z T) a b e m = other_name c y z k (and_parts (not (c z)) _ e).0 m
no_definition c y k (Key z) a b e m = other_name c y z k (and_parts (not (c z)) _ e).0 m
no_definition c y k (Call z l) a b e m = other_name c y z k (and_parts (not (c z)) _ e).0 m
no_definition c y k (In d) a b e m = no_binder c y k (second a) (second_binds c a (and_parts (binds_none c a) _ (and_parts (head_binds_none c (In d)) _ e).1).0) m
no_definition c y k Branch a b e m = no_binder c y k a (and_parts (binds_none c a) _ (and_parts (head_binds_none c Branch) _ e).1).0 m
no_definition c y k h a b e m = both_ways false refl m

-- the definition at each place

place_cases : (ps qs : List ℕ) (q : ℕ) → is_place (ps ++ qs) q ≡ true → (is_place ps q ≡ true) ⊎ (is_place qs q ≡ true)
place_cases [] qs q e = inr e
place_cases (p ∷ ps) qs q e = go (p == q) (place_cases ps qs q) e
  where
    go : (b : Bool) → (is_place (ps ++ qs) q ≡ true → (is_place ps q ≡ true) ⊎ (is_place qs q ≡ true)) → (b || is_place (ps ++ qs) q) ≡ true → ((b || is_place ps q) ≡ true) ⊎ (is_place qs q ≡ true)
    go true ih k = inl refl
    go false ih k = ih k

record IsHere (b : Bool) (p q : ℕ) : Type 0 where
  made : b ≡ true
  same : p ≡ q

is_here : (b : Bool) (p q : ℕ) → is_place (cond b (p ∷ []) []) q ≡ true → IsHere b p q
is_here true p q e = record { made = refl; same = go (p == q) refl e }
  where
    go : (c : Bool) → (p == q) ≡ c → (c || false) ≡ true → p ≡ q
    go true i k = eqb-true p q i
    go false i k = absurd (both_ways false refl k)
is_here false p q e = absurd (both_ways false refl e)

module _ (n : Naming) (c : ℕ → Bool) where
  abbrev x : ℕ
  x = n.variable

  -- no definition of the part has a name that the other part doesn't bind
  abbrev NoneNamed : (place : ℕ) → Tree → Type 0
  NoneNamed p t = (q : ℕ) → is_place (site_places x p t) q ≡ true → c (name_at n q) ≡ true → ⊥

  node_named : (p : ℕ) (h k : Head) (a b d e : Tree) → (made_by h a (Variable x) ≡ true → made_by k d (Variable (name_at n p)) ≡ true) → binds_none c (Node k d e) ≡ true
      → NoneNamed (first_place p h) a → NoneNamed (second_place p h a) b → NoneNamed p (Node h a b)
  unfolding site_places
  node_named p h k a b d e made none one two q i l = go (place_cases (cond (made_by h a (Variable x)) (p ∷ []) []) _ q i)
    where
      here : IsHere (made_by h a (Variable x)) p q → ⊥
      here r = no_definition c (name_at n p) (ap (λ z. c (name_at n z)) r.same ∙ l) k d e none (made r.made)

      below : (is_place (site_places x (first_place p h) a) q ≡ true) ⊎ (is_place (site_places x (second_place p h a) b) q ≡ true) → ⊥
      below (inl j) = one q j l
      below (inr j) = two q j l

      go : (is_place (cond (made_by h a (Variable x)) (p ∷ []) []) q ≡ true) ⊎ (is_place (site_places x (first_place p h) a ++ site_places x (second_place p h a) b) q ≡ true) → ⊥
      go (inl j) = here (is_here (made_by h a (Variable x)) p q j)
      go (inr j) = below (place_cases (site_places x (first_place p h) a) _ q j)

  pub none_named : (p : ℕ) (t u : Tree) → PartFor n p t u → binds_none c u ≡ true → NoneNamed p t
  unfolding site_places binds_none
  none_named p t u nothing e q i l = both_ways false refl i
  none_named p t u (node {h = h} {k = k} {a = a} {b = b} {c = d} {d = f} is made one two) e q i l =
      let r = and_parts (head_binds_none c k) _ e in
      let s = and_parts (binds_none c d) _ r.1 in
      node_named p h k a b d f made e (λ w. none_named (first_place p h) a d one s.0 w) (λ w. none_named (second_place p h a) b f two s.1 w) q i l
  none_named p t u (again {b = b} {c = d} {more = more} {rest = rest} one two) e q i l =
      none_named p (Node Cons b more) rest two (and_parts (binds_none c d) _ (and_parts (head_binds_none c Cons) _ e).1).1 q i l

-- places are in order

made_weight : (x : ℕ) (h : Head) (a : Tree) → made_by h a (Variable x) ≡ true → weight h ≡ 1
made_weight x (New z T) a e = refl
made_weight x (Let z T) a e = refl
made_weight x (Key z) a e = refl
made_weight x (Call z l) a e = refl
made_weight x (In c) a e = refl
made_weight x Branch a e = refl
made_weight x h a e = absurd (both_ways false refl e)

record IsBetween (p q r : ℕ) : Type 0 where
  least : p ≤ q
  most : q < r

places_between : (x p : ℕ) (t : Tree) (q : ℕ) → is_place (site_places x p t) q ≡ true → IsBetween p q (p + size t)
unfolding site_places size
places_between x p Empty q e = absurd (both_ways false refl e)
places_between x p (Node h a b) q e =
    go (place_cases (cond (made_by h a (Variable x)) (p ∷ []) []) _ q e) (places_between x (first_place p h) a q) (places_between x (second_place p h a) b q)
  where
    first : IsBetween (first_place p h) q (first_place p h + size a) → IsBetween p q (p + (weight h + size a + size b))
    first r = let l = r.least in let m = r.most in record { least = omega arith; most = omega arith }

    later : IsBetween (second_place p h a) q (second_place p h a + size b) → IsBetween p q (p + (weight h + size a + size b))
    later r = let l = r.least in let m = r.most in record { least = omega arith; most = omega arith }

    here : IsHere (made_by h a (Variable x)) p q → IsBetween p q (p + (weight h + size a + size b))
    here r = let w = made_weight x h a r.made in let s = r.same in record { least = omega arith; most = omega arith }

    below : (is_place (site_places x (first_place p h) a) q ≡ true) ⊎ (is_place (site_places x (second_place p h a) b) q ≡ true) → (is_place (site_places x (first_place p h) a) q ≡ true → IsBetween (first_place p h) q (first_place p h + size a))
        → (is_place (site_places x (second_place p h a) b) q ≡ true → IsBetween (second_place p h a) q (second_place p h a + size b)) → IsBetween p q (p + (weight h + size a + size b))
    below (inl j) one two = first (one j)
    below (inr j) one two = later (two j)

    go : (is_place (cond (made_by h a (Variable x)) (p ∷ []) []) q ≡ true) ⊎ (is_place (site_places x (first_place p h) a ++ site_places x (second_place p h a) b) q ≡ true) → (is_place (site_places x (first_place p h) a) q ≡ true → IsBetween (first_place p h) q (first_place p h + size a))
        → (is_place (site_places x (second_place p h a) b) q ≡ true → IsBetween (second_place p h a) q (second_place p h a + size b)) → IsBetween p q (p + (weight h + size a + size b))
    go (inl j) one two = here (is_here (made_by h a (Variable x)) p q j)
    go (inr j) one two = below (place_cases (site_places x (first_place p h) a) _ q j) one two

-- each place is below those behind it
abbrev AreOrdered : List ℕ → Type 0
AreOrdered [] = Unit {0}
AreOrdered (p ∷ ps) = ((q : ℕ) → is_place ps q ≡ true → p < q) × AreOrdered ps

ordered_append : (ps qs : List ℕ) → AreOrdered ps → AreOrdered qs → ((p q : ℕ) → is_place ps p ≡ true → is_place qs q ≡ true → p < q) → AreOrdered (ps ++ qs)
ordered_append [] qs a b f = b
ordered_append (p ∷ ps) qs a b f = (
  λ q e. go q (place_cases ps qs q e),
  ordered_append ps qs a.1 b (λ r q i j. f r q (or_right (p == r) (is_place ps r) i) j),
)
  where
    go : (q : ℕ) → (is_place ps q ≡ true) ⊎ (is_place qs q ≡ true) → p < q
    go q (inl e) = a.0 q e
    go q (inr e) = f p q (or_left (p == p) (is_place ps p) (eq-eqb p p refl)) e

ordered_places : (x p : ℕ) (t : Tree) → AreOrdered (site_places x p t)
unfolding site_places
ordered_places x p Empty = tt
ordered_places x p (Node h a b) =
    ordered_append (cond (made_by h a (Variable x)) (p ∷ []) []) (site_places x (first_place p h) a ++ site_places x (second_place p h a) b) (alone (made_by h a (Variable x)))
    (ordered_append (site_places x (first_place p h) a) (site_places x (second_place p h a) b) (ordered_places x (first_place p h) a) (ordered_places x (second_place p h a) b) (λ r q i j. inside r q i j)) (λ r q i j. behind_it r q (is_here (made_by h a (Variable x)) p r i) (place_cases (site_places x (first_place p h) a) _ q j))
  where
    alone : (v : Bool) → AreOrdered (cond v (p ∷ []) [])
    alone true = (λ q e. absurd (both_ways false refl e), tt)
    alone false = tt

    inside : (r q : ℕ) → is_place (site_places x (first_place p h) a) r ≡ true → is_place (site_places x (second_place p h a) b) q ≡ true → r < q
    inside r q i j = let m = (places_between x (first_place p h) a r i).most in let l = (places_between x (second_place p h a) b q j).least in omega arith

    behind_it : (r q : ℕ) → IsHere (made_by h a (Variable x)) p r → (is_place (site_places x (first_place p h) a) q ≡ true) ⊎ (is_place (site_places x (second_place p h a) b) q ≡ true) → r < q
    behind_it r q s (inl j) = let w = made_weight x h a s.made in let e = s.same in let l = (places_between x (first_place p h) a q j).least in omega arith
    behind_it r q s (inr j) = let w = made_weight x h a s.made in let e = s.same in let l = (places_between x (second_place p h a) b q j).least in omega arith

-- each name has a place
record HasPlace (places : List (ℕ × Context)) (ys : List ℕ) (y : ℕ) : Type 0 where
  place : ℕ
  is : is_place (map place_of places) place ≡ true
  named : or_zero (found_in (named_places places ys) place) ≡ y

has_place : (places : List (ℕ × Context)) (ys : List ℕ) → length places ≡ length ys → AreOrdered (map place_of places) → (y : ℕ) → is_name ys y ≡ true → HasPlace places ys y
has_place places [] l o y e = absurd (both_ways false refl e)
has_place [] (z ∷ ys) l o y e = absurd (cc)
has_place (d ∷ places) (z ∷ ys) l o y e = go (z == y) refl (has_place places ys (let i : length places ≡ length ys = cc in i) o.1 y) e
  where
    later : HasPlace places ys y → HasPlace (d ∷ places) (z ∷ ys) y
    later r = record {
      place = r.place;
      is = or_right (d.0 == r.place) (is_place (map place_of places) r.place) r.is;
      named = split (d.0 == r.place) refl;
    }
      where
        split : (v : Bool) → (d.0 == r.place) ≡ v → or_zero (cond v (Some z) (found_in (named_places places ys) r.place)) ≡ y
        split true i = absurd (let j : d.0 ≡ r.place = eqb-true d.0 r.place i in let k = o.0 r.place r.is in omega arith)
        split false i = r.named

    go : (v : Bool) → (z == y) ≡ v → (is_name ys y ≡ true → HasPlace places ys y) → (v || is_name ys y) ≡ true → HasPlace (d ∷ places) (z ∷ ys) y
    go true i ih k = record {
      place = d.0;
      is = or_left (d.0 == d.0) (is_place (map place_of places) d.0) (eq-eqb d.0 d.0 refl);
      named = ap (λ v. or_zero (cond v (Some z) (found_in (named_places places ys) d.0))) (eq-eqb d.0 d.0 refl) ∙ eqb-true z y i;
    }
    go false i ih k = later (ih k)

-- none of the names is bound by no part
pub name_bound : (game next : Tree) (x : ℕ) (ys : List ℕ) (c : ℕ → Bool) → length (sites_of game x) ≡ length ys → PartFor (naming_of game x ys) 0 game next → binds_none c next ≡ true → (y : ℕ) → is_name ys y ≡ true → c y ≡ false
name_bound game next x ys c l part none y e = go (c y) refl
  where
    places : map place_of (sites_of game x) ≡ site_places x 0 game
    places = same_places x position.Anywhere nothing_known 0 game

    at : HasPlace (sites_of game x) ys y
    at = has_place (sites_of game x) ys l (subst AreOrdered (sym places) (ordered_places x 0 game)) y e

    go : (v : Bool) → c y ≡ v → c y ≡ false
    go true i = absurd (none_named (naming_of game x ys) c 0 game next part none at.place (ap (λ ps. is_place ps at.place) (sym places) ∙ at.is) (ap c at.named ∙ i))
    go false i = i
