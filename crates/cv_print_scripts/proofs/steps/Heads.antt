-- The head of the next tree tells how trees are printed.
use Rattle.std.proofs.Common.{◌≡◌, Bool, true, false, ◌&&◌, ◌||◌, not, if◌then◌else◌, List, [], ◌∷◌, ◌++◌, refl, sym, subst}
use Rattle.std.proofs.lemmas.Bool.{false_from_ne_true, or_from}
use Rattle.cv_syntax_trees.proofs.lists.Tests.{and_first, and_second}
use Rattle.cv_syntax_trees.specs.declared.head.Head.{Head}
use Rattle.cv_syntax_trees.specs.declared.head.Head.TheVariants as head
use Rattle.cv_syntax_trees.specs.Head.{same_head}
use Rattle.cv_syntax_trees.proofs.Equality.{same_head_exact}
use Rattle.cv_syntax_trees.specs.Tree.{Tree, Empty, Node}
use Rattle.cv_print_tables.specs.Layout.{Layout}
use Rattle.cv_print_tables.specs.Layout as lay
use Rattle.cv_print_tables.specs.Prints.{belongs, is_name, is_number, is_term, is_text, next_belongs}
use Rattle.cv_print_scripts.specs.steps.Apart.{First, AName, ANumber, ATerm, Any, AHead, all_avoid, all_avoid_each, avoids, avoids_head, is_first, one_is_first}

-- a head that is told apart

no_both : (x y : Bool) → (not x || y) ≡ true → (x && not y) ≡ true → ⊥
no_both true true i j = cc
no_both true false i j = cc
no_both false y i j = cc

no_not : (x : Bool) → not x ≡ true → x ≡ true → ⊥
no_not true i j = cc
no_not false i j = cc

kind_avoids : (p : Head → Bool) (k h : Head) → not (p k) ≡ true → p h ≡ true → k ≡ h → ⊥
kind_avoids p k h a b e = no_not (p h) (subst (λ x. not (p x) ≡ true) e a) b

head_avoids : (p : First) (k h : Head) → avoids_head p k ≡ true → is_first p h ≡ true → k ≡ h → ⊥
head_avoids AName k h a b e = no_both (is_name h) (same_head (head.Name 0) h) (subst (λ x. (not (is_name x) || same_head (head.Name 0) x) ≡ true) e a) b
head_avoids ANumber k h a b e = kind_avoids is_number k h a b e
head_avoids ATerm k h a b e = kind_avoids is_term k h a b e
head_avoids Any k h a b e = cc
head_avoids (AHead j) k h a b e =
    let i = same_head_exact j h b in
    let own : same_head j j ≡ true = subst (λ x. same_head j x ≡ true) (sym i) b in
    kind_avoids (λ x. same_head x j) k h a (subst (λ x. same_head x j ≡ true) i own) e

choose : (c a b : Bool) (x y : Bool) → (if c then a else b) ≡ true → (a ≡ true → x ≡ false) → (b ≡ true → y ≡ false) → (if c then x else y) ≡ false
choose true a b x y e f g = f e
choose false a b x y e f g = g e

first_avoids : (p : First) (l : Layout) (h : Head) → avoids p l ≡ true → is_first p h ≡ true → belongs l h ≡ false
first_avoids p (lay.text s) h a i = refl
first_avoids p lay.never h a i = refl
first_avoids p (lay.both f g) h a i = choose (is_text f) (avoids p g) (avoids p f) (belongs g h) (belongs f h) a (λ e. first_avoids p g h e i) (λ e. first_avoids p f h e i)
first_avoids p (lay.either f g) h a i = or_from (belongs f h) (belongs g h) (first_avoids p f h (and_first (avoids p f) (avoids p g) a) i) (first_avoids p g h (and_second (avoids p f) (avoids p g) a) i)
first_avoids p (lay.may f) h a i = first_avoids p f h a i
first_avoids p (lay.many f) h a i = first_avoids p f h a i
first_avoids p (lay.level f) h a i = first_avoids p f h a i
first_avoids p (lay.over k f) h a i = false_from_ne_true (same_head k h) (λ e. head_avoids p k h a i (same_head_exact k h e))
first_avoids p lay.name h a i = absurd (cc)
first_avoids p lay.number h a i = absurd (cc)
first_avoids p (lay.outer q) h a i = absurd (cc)
first_avoids p (lay.deeper r) h a i = absurd (cc)
first_avoids p (lay.chained f) h a i = absurd (cc)

one_or : (a b : Bool) (c : Bool) → (a || b) ≡ true → (a ≡ true → c ≡ false) → (b ≡ true → c ≡ false) → c ≡ false
one_or true b c e f g = f refl
one_or false b c e f g = g e

pub firsts_avoid : (ps : List First) (l : Layout) (h : Head) → all_avoid ps l ≡ true → one_is_first ps h ≡ true → belongs l h ≡ false
firsts_avoid [] l h a i = absurd (cc)
firsts_avoid (p ∷ ps) l h a i = one_or (is_first p h) (one_is_first ps h) (belongs l h) i (first_avoids p l h (and_first (avoids p l) (all_avoid ps l) a)) (firsts_avoid ps l h (and_second (avoids p l) (all_avoid ps l) a))

-- the first tree is one of these, where it is a node
abbrev pub HeadIn : List First → Tree → Type 0
HeadIn ps Empty = Unit {0}
HeadIn ps (Node h a b) = one_is_first ps h ≡ true

pub head_in_avoids : (ps : List First) (l : Layout) (t : Tree) (ts : List Tree) → all_avoid ps l ≡ true → HeadIn ps t → next_belongs l (t ∷ ts) ≡ false
head_in_avoids ps l Empty ts a i = refl
head_in_avoids ps l (Node h b c) ts a i = firsts_avoid ps l h a i

-- no such layout goes on with the next tree
abbrev pub Stops : List Layout → List Tree → Type 0
Stops [] ts = Unit {0}
Stops (l ∷ ls) ts = (next_belongs l ts ≡ false) × Stops ls ts

pub stops_before : (ps : List First) (ls : List Layout) (t : Tree) (ts : List Tree) → all_avoid_each ps ls ≡ true → HeadIn ps t → Stops ls (t ∷ ts)
stops_before ps [] t ts a i = tt
stops_before ps (l ∷ ls) t ts a i = (head_in_avoids ps l t ts (and_first (all_avoid ps l) (all_avoid_each ps ls) a) i, stops_before ps ls t ts (and_second (all_avoid ps l) (all_avoid_each ps ls) a) i)

pub stops_at_end : (ls : List Layout) → Stops ls []
stops_at_end [] = tt
stops_at_end (l ∷ ls) = (refl, stops_at_end ls)

pub stops_parts : (ls ks : List Layout) (ts : List Tree) → Stops (ls ++ ks) ts → Stops ls ts × Stops ks ts
stops_parts [] ks ts s = (tt, s)
stops_parts (l ∷ ls) ks ts s = let p = stops_parts ls ks ts s.1 in ((s.0, p.0), p.1)

pub firsts_left : (ps qs : List First) (h : Head) → one_is_first ps h ≡ true → one_is_first (ps ++ qs) h ≡ true
firsts_left [] qs h i = absurd (cc)
firsts_left (p ∷ ps) qs h i = weaker (is_first p h) (one_is_first ps h) (one_is_first (ps ++ qs) h) (firsts_left ps qs h) i
  where
    weaker : (a x y : Bool) → (x ≡ true → y ≡ true) → (a || x) ≡ true → (a || y) ≡ true
    weaker true x y f e = refl
    weaker false x y f e = f e

pub firsts_right : (ps qs : List First) (h : Head) → one_is_first qs h ≡ true → one_is_first (ps ++ qs) h ≡ true
firsts_right [] qs h i = i
firsts_right (p ∷ ps) qs h i = or_true (is_first p h) (one_is_first (ps ++ qs) h) (firsts_right ps qs h i)
  where
    or_true : (a b : Bool) → b ≡ true → (a || b) ≡ true
    or_true true b e = refl
    or_true false b e = e

pub head_left : (ps qs : List First) (t : Tree) → HeadIn ps t → HeadIn (ps ++ qs) t
head_left ps qs Empty i = tt
head_left ps qs (Node h a b) i = firsts_left ps qs h i

pub head_right : (ps qs : List First) (t : Tree) → HeadIn qs t → HeadIn (ps ++ qs) t
head_right ps qs Empty i = tt
head_right ps qs (Node h a b) i = firsts_right ps qs h i
