-- In a run of a game whose sites of one name are in different branches nothing is made twice.
use Rattle.std.proofs.Common.{◌≡◌, ℕ, ◌+◌, Bool, true, false, ◌||◌, ◌==◌, List, [], ◌∷◌, ◌++◌, ◌⊎◌, inl, inr, Option, refl, sym, ap, ◌∙◌, append-nil, eqb-true}
use Rattle.std.proofs.lemmas.Bool.{both_ways}
use Rattle.std.specs.List.{AllByRecursion}
use Rattle.cv_syntax_trees.specs.declared.head.Head.{Head}
use Rattle.cv_syntax_trees.specs.declared.head.Head.TheVariants.{Par, In, New, Let, Find, Branch, Cons, Binder, Key, Call}
use Rattle.cv_syntax_trees.specs.Tree.{Tree, Empty, Node, second, first_place, second_place}
use Rattle.cv_meaning.specs.Tapes.{Tape}
use Rattle.cv_meaning.specs.Interpretation.{Setting}
use Rattle.cv_meaning.specs.Runs.{Mode, Answer, Move, run_visits, start}
use Rattle.cv_scope_rules.specs.declared.position.Position.{Position}
use Rattle.cv_scope_rules.specs.Context.{first_position, second_position, replications_below}
use Rattle.cv_scope_rules.specs.Sites.{Site, SiteName, Variable, Channel, Label, sites_here, sites_from, channel_here, variable_sites}
use Rattle.cv_scope_rules.specs.Branches.{Pairs, Each, HasOtherName, AreInDifferentBranches, IsApartByBranches}
use Rattle.cv_scope_rules.proofs.Pairs.{pairs_weaker}
use Rattle.cv_scope_rules.specs.Made.{is_bound, made_by, made_at, MakeApart}
use Rattle.cv_scope_runs.proofs.OnceRuns.{Has, Single, first_apart, makes_at, made_has, VisitsApart, nothing_twice}

-- names of sites

abbrev pub MakesName : ℕ → Head → Tree → SiteName → Type 0
MakesName p h a y = made_by h a y ≡ true

abbrev IsNameIn : SiteName → List Site → Type 0
IsNameIn y [] = ⊥
IsNameIn y (s ∷ ss) = (s.name ≡ y) ⊎ IsNameIn y ss

name_left : (y : SiteName) (xs ys : List Site) → IsNameIn y xs → IsNameIn y (xs ++ ys)
name_left y [] ys h = absurd h
name_left y (x ∷ xs) ys (inl e) = inl e
name_left y (x ∷ xs) ys (inr h) = inr (name_left y xs ys h)

name_right : (y : SiteName) (xs ys : List Site) → IsNameIn y ys → IsNameIn y (xs ++ ys)
name_right y [] ys h = h
name_right y (x ∷ xs) ys h = inr (name_right y xs ys h)

other_name : (y : SiteName) (s : Site) (ys : List Site) → AllByRecursion (HasOtherName s) ys → s.name ≡ y → IsNameIn y ys → ⊥
other_name y s [] a e k = k
other_name y s (x ∷ ys) a e (inl i) = a.0 (e ∙ sym i)
other_name y s (x ∷ ys) a e (inr k) = other_name y s ys a.1 e k

other_names : (y : SiteName) (xs ys : List Site) → Each HasOtherName xs ys → IsNameIn y xs → IsNameIn y ys → ⊥
other_names y [] ys a h k = h
other_names y (x ∷ xs) ys a (inl e) k = other_name y x ys a.0 e k
other_names y (x ∷ xs) ys a (inr h) k = other_names y xs ys a.1 h k

same_variable : (x y : ℕ) → (y == x) ≡ true → Variable x ≡ Variable y
same_variable x y e = ap Variable (sym (eqb-true y x e))

bound_named : (rs : List (ℕ × ℕ)) (p : ℕ) (bs : Tree) (y : ℕ) → is_bound bs y ≡ true → IsNameIn (Variable y) (variable_sites rs p bs)
unfolding is_bound
bound_named rs p (Node (Binder x T) a b) y e = go (y == x) refl e (bound_named rs p b y)
  where
    go : (c : Bool) → (y == x) ≡ c → (c || is_bound b y) ≡ true → (is_bound b y ≡ true → IsNameIn (Variable y) (variable_sites rs p b)) → (Variable x ≡ Variable y) ⊎ IsNameIn (Variable y) (variable_sites rs p b)
    go true k e f = inl (same_variable x y k)
    go false k e f = inr (f e)
bound_named rs p bs y e = absurd (both_ways _ refl e)

made_named : (rs : List (ℕ × ℕ)) (p : ℕ) (h : Head) (a : Tree) (y : SiteName) → made_by h a y ≡ true → IsNameIn y (sites_here rs p h a)
made_named rs p (New x T) a (Variable y) e = inl (same_variable x y e)
made_named rs p (New x T) a y e = absurd (both_ways _ refl e)
made_named rs p (Let x T) a (Variable y) e = inl (same_variable x y e)
made_named rs p (Let x T) a y e = absurd (both_ways _ refl e)
made_named rs p (Key x) a (Variable y) e = inl (same_variable x y e)
made_named rs p (Key x) a y e = absurd (both_ways _ refl e)
made_named rs p (Call x l) a (Variable y) e = inl (same_variable x y e)
made_named rs p (Call x l) a y e = absurd (both_ways _ refl e)
made_named rs p (In c) a (Variable y) e = name_left (Variable y) (variable_sites rs p (second a)) (channel_here rs p (In c) a) (bound_named rs p (second a) y e)
made_named rs p (In c) a (Channel d) e = name_right (Channel d) (variable_sites rs p (second a)) (channel_here rs p (In c) a) (inl (ap Channel (sym (eqb-true d c e))))
made_named rs p (In c) a (Label y) e = absurd (both_ways _ refl e)
made_named rs p Branch a (Variable y) e = name_left (Variable y) (variable_sites rs p a) [] (bound_named rs p a y e)
made_named rs p Branch a y e = absurd (both_ways _ refl e)
made_named rs p (Find l) a (Label m) e = inl (ap Label (sym (eqb-true m l e)))
made_named rs p (Find l) a y e = absurd (both_ways _ refl e)
made_named rs p h a y e = absurd (both_ways _ refl e)

has_name : (rs : List (ℕ × ℕ)) (p : ℕ) (b : Tree) (y : SiteName) → Has SiteName MakesName p b y → IsNameIn y (sites_from rs p b)
unfolding sites_from
has_name rs p Empty y h = absurd h
has_name rs p (Node h a b) y (inl e) = name_left y (sites_here rs p h a) _ (made_named rs p h a y e)
has_name rs p (Node h a b) y (inr (inl e)) = name_right y (sites_here rs p h a) _ (name_left y (sites_from rs (first_place p h) a) _ (has_name rs (first_place p h) a y e))
has_name rs p (Node h a b) y (inr (inr e)) = name_right y (sites_here rs p h a) _ (name_right y (sites_from rs (first_place p h) a) _ (has_name (replications_below h rs) (second_place p h a) b y e))

pub names_single : (w : Position) (rs : List (ℕ × ℕ)) (p : ℕ) (b : Tree) → AreInDifferentBranches w rs p b → Single SiteName MakesName p b
unfolding AreInDifferentBranches
names_single w rs p Empty s = tt
names_single w rs p (Node h a b) s = (
  λ y e k. apart h s y (made_named rs p h a y e) (name_right y (sites_from rs (first_place p h) a) _ (has_name (replications_below h rs) (second_place p h a) b y k)),
  go h s,
  names_single (first_position w h) rs (first_place p h) a s.2,
  names_single (second_position w h) (replications_below h rs) (second_place p h a) b s.3,
)
  where
    below : Head → List Site
    below h = sites_from rs (first_place p h) a ++ sites_from (replications_below h rs) (second_place p h a) b

    apart : (h : Head) → AreInDifferentBranches w rs p (Node h a b) → (y : SiteName) → IsNameIn y (sites_here rs p h a) → IsNameIn y (below h) → ⊥
    apart h s y i j = other_names y (sites_here rs p h a) (below h) s.0 i j

    go : (h : Head) → AreInDifferentBranches w rs p (Node h a b) → first_apart SiteName MakesName p h a b
    go (Find l) s = λ y e k. apart (Find l) s y (made_named rs p (Find l) a y e) (name_left y (sites_from rs (p + 1) a) _ (has_name rs (p + 1) a y k))
    go Cons s = λ y e k. absurd (both_ways _ refl e)
    go Par s = λ y e k. other_names y (sites_from rs (first_place p Par) a) (sites_from rs (second_place p Par a) b) (s.1 refl) (has_name rs (first_place p Par) a y e) (has_name rs (second_place p Par a) b y k)
    go h s = tt

pub names_at : (p : ℕ) (t : Tree) (y : SiteName) → made_at t y ≡ true → makes_at SiteName MakesName p t y
names_at p Empty y e = absurd (both_ways _ refl e)
names_at p (Node h a b) y e = e

-- in a run no cell is assigned twice, no copy of a channel's input is served twice, no cell of a find consulted twice
pub made_once : (g : Setting) (m : Mode) (next : List Answer → Option Move) (t : Tape) (n : ℕ) (game : Tree) → IsApartByBranches game → Pairs MakeApart (run_visits g m next t n (start g game))
made_once g m next t n game s =
    pairs_weaker (VisitsApart SiteName MakesName) MakeApart _ (λ v w h y d e q. h y (names_at v.place v.tree y d) (made_has SiteName MakesName w.place w.tree y (names_at w.place w.tree y e)) [] (q ∙ sym (append-nil _))) (nothing_twice SiteName MakesName g m next t n game (names_single _ [] 0 game s))
