-- Names that are new and listed once, as a set of them is looked for.
use Rattle.std.proofs.Common.{◌≡◌, ℕ, zero, suc, ◌≤◌, ◌==◌, nat_lt, Bool, true, false, cond, nat_eq, ◌&&◌, ◌||◌, not, List, [], ◌∷◌, ◌++◌, drop, refl, sym, ap, ap₂, ◌∙◌, arith, append_assoc, append-nil}
use Rattle.std.proofs.lemmas.Bool.Decides.{nat_tests}
use Rattle.std.proofs.lemmas.Bool.{and_parts}
use Rattle.std.specs.HashSet.{Updates}
use Rattle.std.specs.List.{list_all, list_any}
use Rattle.cv_syntax_trees.specs.declared.head.Head.{Head}
use Rattle.cv_syntax_trees.specs.declared.head.Head.TheVariants.{Binder, Call, Key, Leaf, Let, Name, New, Read, Repl}
use Rattle.cv_syntax_trees.specs.Tree.{Tree, Empty, Node}
use Rattle.cv_syntax.specs.NameSets.{NameSet, is_in, is_one_of}
use Rattle.cv_scene.specs.Scenes.{Scene, head_names, is_new, names}
use Rattle.cv_rule_array_names.specs.Sites.{are_apart, are_unknown, has_some, head_has, listed_names, name_item}

equal_turned : (a b : ℕ) → (a == b) ≡ (b == a)
equal_turned a b = grind (arith, nat_tests)

-- what fails from a place on fails of the whole list

pub all_dropped : (p : ℕ → Bool) (k : ℕ) (ys : List ℕ) → list_all p (drop k ys) ≡ false → list_all p ys ≡ false
all_dropped p zero ys e = e
all_dropped p (suc k) [] e = e
all_dropped p (suc k) (y ∷ ys) e = go (p y) (list_all p ys) (all_dropped p k ys e) where
  go : (v w : Bool) → w ≡ false → (v && w) ≡ false
  go true w f = f
  go false w f = refl

pub apart_dropped : (k : ℕ) (ys : List ℕ) → are_apart (drop k ys) ≡ false → are_apart ys ≡ false
apart_dropped zero ys e = e
apart_dropped (suc k) [] e = e
apart_dropped (suc k) (y ∷ ys) e = go (not (list_any (λ z. z == y) ys)) (are_apart ys) (apart_dropped k ys e) where
  go : (v w : Bool) → w ≡ false → (v && w) ≡ false
  go true w f = f
  go false w f = refl

-- tests of several names at once

any_or : (f g : ℕ → Bool) (ys : List ℕ) → list_any (λ y. f y || g y) ys ≡ (list_any f ys || list_any g ys)
any_or f g [] = refl
any_or f g (y ∷ ys) = go (f y) (g y) (list_any f ys) (list_any g ys) (any_or f g ys) where
  go : (a b c d : Bool) {e : Bool} → e ≡ (c || d) → ((a || b) || e) ≡ ((a || c) || (b || d))
  go true b c d h = refl
  go false true true d h = refl
  go false true false d h = refl
  go false false true d h = h
  go false false false d h = h

any_none : (ys : List ℕ) → list_any (λ y. false) ys ≡ false
any_none [] = refl
any_none (y ∷ ys) = any_none ys

any_turned : (i : ℕ) (ys : List ℕ) → is_one_of ys i ≡ list_any (λ y. i == y) ys
any_turned i [] = refl
any_turned i (y ∷ ys) = ap₂ ◌||◌ (equal_turned y i) (any_turned i ys)

head_named : (ys : List ℕ) (h : Head) → head_has (is_one_of ys) h ≡ list_any (λ y. head_names y h) ys
head_named ys (Repl i n) = any_turned i ys
head_named ys (Name i) = any_turned i ys
head_named ys (New z T) = any_turned z ys
head_named ys (Let z T) = any_turned z ys
head_named ys (Binder z T) = any_turned z ys
head_named ys (Leaf z) = any_turned z ys
head_named ys (Read z) = any_turned z ys
head_named ys (Key z) = any_turned z ys
head_named ys (Call z l) = any_turned z ys
head_named ys h = sym (any_none ys)

pub some_named : (ys : List ℕ) (t : Tree) → has_some (is_one_of ys) t ≡ list_any (λ y. names y t) ys
unfolding has_some names
some_named ys Empty = sym (any_none ys)
some_named ys (Node h a b) =
    ap₂ ◌||◌ (head_named ys h) (ap₂ ◌||◌ (some_named ys a) (some_named ys b) ∙ sym (any_or (λ y. names y a) (λ y. names y b) ys))
    ∙ sym (any_or (λ y. head_names y h) (λ y. names y a || names y b) ys)

all_both : (f g : ℕ → Bool) (ys : List ℕ) → list_all (λ y. not (f y) && not (g y)) ys ≡ (list_all (λ y. not (f y)) ys && not (list_any g ys))
all_both f g [] = refl
all_both f g (y ∷ ys) = go (f y) (g y) (list_all (λ z. not (f z)) ys) (list_any g ys) (all_both f g ys) where
  go : (a b c d : Bool) {e : Bool} → e ≡ (c && not d) → ((not a && not b) && e) ≡ ((not a && c) && not (b || d))
  go true b c d h = refl
  go false true true d h = refl
  go false true false d h = refl
  go false false c d h = h

-- where the file has no such name, and none is listed twice
pub new_by : (s : Scene) (ys : List ℕ) (u a : Bool) → u ≡ are_unknown s ys → a ≡ are_apart ys → (list_all (is_new s) ys && are_apart ys) ≡ ((u && not (has_some (is_one_of ys) s.game)) && a)
new_by s ys u a e f =
    ap₂ (λ v w. v && w) (all_both s.known (λ y. names y s.game) ys ∙ ap₂ (λ v w. v && not w) (sym e) (sym (some_named ys s.game))) (sym f)

-- node by node

pub has_node : (q : ℕ → Bool) (t : Tree) (h : Head) (a b : Tree) → t ≡ Node h a b → has_some q t ≡ (head_has q h || (has_some q a || has_some q b))
unfolding has_some
has_node q t h a b e = ap (has_some q) e

pub has_end : (q : ℕ → Bool) (t : Tree) → t ≡ Empty → has_some q t ≡ false
unfolding has_some
has_end q t e = ap (has_some q) e

pub some_here : (v p q r a : Bool) → v ≡ (p || (q || r)) → a ≡ p → a ≡ true → v ≡ true
some_here v true q r a e f g = e
some_here v false q r a e f g = absurd (cc)

pub some_first : (v p q r a : Bool) → v ≡ (p || (q || r)) → a ≡ q → a ≡ true → v ≡ true
some_first v true q r a e f g = e
some_first v false true r a e f g = e
some_first v false false r a e f g = absurd (cc)

pub some_rest : (v p q r a b : Bool) → v ≡ (p || (q || r)) → a ≡ p → a ≡ false → b ≡ q → b ≡ false → v ≡ r
some_rest v true q r a b e f g h i = absurd (cc)
some_rest v false true r a b e f g h i = absurd (cc)
some_rest v false false r a b e f g h i = e

-- names listed from a place on, one by one

pub names_link : (P Q goal : List ℕ) (t : Tree) (h : Head) (item more : Tree) → t ≡ Node h item more → Q ≡ P ++ name_item item → P ++ listed_names t ≡ goal → Q ++ listed_names more ≡ goal
unfolding listed_names
names_link P Q goal t h item more e f g =
    ap (λ q. q ++ listed_names more) f ∙ (append_assoc P (name_item item) (listed_names more) ∙ (ap (λ u. P ++ listed_names u) (sym e) ∙ g))

pub names_end : (P goal : List ℕ) (t : Tree) → t ≡ Empty → P ++ listed_names t ≡ goal → P ≡ goal
unfolding listed_names
names_end P goal t e g = sym (append-nil P) ∙ (ap (λ u. P ++ listed_names u) (sym e) ∙ g)

pub name_of_other : (t : Tree) (h : Head) (a b : Tree) → t ≡ Node h a b → ((y : ℕ) → h ≡ Name y → ⊥) → name_item t ≡ []
name_of_other t h a b e f = ap name_item e ∙ go h f where
  go : (k : Head) → ((y : ℕ) → k ≡ Name y → ⊥) → name_item (Node k a b) ≡ []
  go (Name y) f = absurd (f y refl)
  go k f = refl

pub name_of_nothing : (t : Tree) → t ≡ Empty → name_item t ≡ []
name_of_nothing t e = ap name_item e

-- a set with one more name, before those that it has
pub one_before : (m n : NameSet) (y : ℕ) (ys : List ℕ) → Updates nat_eq m n y true → ((x : ℕ) → is_in m x ≡ is_one_of ys x) → (x : ℕ) → is_in n x ≡ is_one_of (y ∷ ys) x
one_before m n y ys u e x = u.0 x ∙ (ap (λ b. cond (y == x) true b) (e x) ∙ cases (y == x) (is_one_of ys x)) where
  cases : (b c : Bool) → cond b true c ≡ (b || c)
  cases true c = refl
  cases false c = refl

-- whether a name from a place on is new
module _ (s : Scene) (ys : List ℕ) (k : ℕ) (y : ℕ) (more : List ℕ) (e : drop k ys ≡ y ∷ more) where
  pub good_more : (are_unknown s more && are_apart more) ≡ true → s.known y ≡ false → is_one_of more y ≡ false → (are_unknown s (drop k ys) && are_apart (drop k ys)) ≡ true
  good_more g u a =
      let p = and_parts (are_unknown s more) (are_apart more) g in
      ap (λ l. are_unknown s l && are_apart l) e
      ∙ ap₂ (λ v w. v && w) (ap₂ (λ v w. not v && w) u p.0) (ap₂ (λ v w. not v && w) a p.1)

  both_false : (v w : Bool) → w ≡ false → (v && w) ≡ false
  both_false true w f = f
  both_false false w f = refl

  pub known_fails : s.known y ≡ true → (are_unknown s ys && are_apart ys) ≡ false
  known_fails u = ap (λ v. v && are_apart ys) (all_dropped (λ z. not (s.known z)) k ys (ap (are_unknown s) e ∙ ap (λ v. not v && are_unknown s more) u))

  pub twice_fails : is_one_of more y ≡ true → (are_unknown s ys && are_apart ys) ≡ false
  twice_fails a = both_false (are_unknown s ys) (are_apart ys) (apart_dropped k ys (ap are_apart e ∙ ap (λ v. not v && are_apart more) a))

pub unknown_from : (y own : ℕ) → own ≤ y → nat_lt y own ≡ false
unknown_from y own l = grind (arith, nat_tests)

pub not_outside : (b : Bool) → not b ≡ false → b ≡ true
not_outside true e = refl
not_outside false e = absurd (cc)

pub not_inside : (b : Bool) → not b ≡ true → b ≡ false
not_inside true e = absurd (cc)
not_inside false e = refl

-- both tests of names, and that of the game between them

pub new_fails : (u a w : Bool) → (u && a) ≡ false → ((u && w) && a) ≡ false
new_fails true a true e = e
new_fails true a false e = refl
new_fails false a w e = refl

pub new_holds : (u a w : Bool) → (u && a) ≡ true → ((u && w) && a) ≡ w
new_holds true true true e = refl
new_holds true true false e = refl
new_holds true false w e = absurd (cc)
new_holds false a w e = absurd (cc)
