-- How deep the facts and cells are that stand above a place of a game that is no deeper and no larger than a game may be, and how many
-- facts there are.
use Rattle.std.proofs.Common.{◌≡◌, ℕ, ◌+◌, ◌-◌, ◌≤◌, Bool, true, false, cond, nat_lt, List, [], ◌∷◌, ◌++◌, length, length-append, map, Option, Some, subst, arith}
use Rattle.std.specs.List.{AllByRecursion}
use Rattle.cv_syntax_trees.specs.declared.head.Head.{Head}
use Rattle.cv_syntax_trees.specs.declared.head.Head.TheVariants.{Repl, In, Event, New, Let, If, Find, Branch, Eq, Not, Cons, Key, Call}
use Rattle.cv_syntax_trees.specs.Head.{weight}
use Rattle.cv_syntax_trees.specs.Tree.{Tree, Empty, Node, depth, first_place, second, second_place, size}
use Rattle.cv_syntax_trees.proofs.lists.Each.{AllByRecursion_append, AllByRecursion_push}
use Rattle.cv_syntax_trees.proofs.lists.Options.{none_some, some_injective}
use Rattle.cv_meaning.specs.Binders.{bound_names}
use Rattle.cv_scope_rules.specs.Above.{first_standing, item_standing, rest_standing, second_standing, standing_at, stands_at, with_failed, with_held}
use Rattle.cv_scope_rules.specs.Behind.{behind_site, sites_in, sites_of}
use Rattle.cv_scope_rules.specs.Context.{Context, cell_of, cells_of, first_position, index_terms, items, nothing_known, second_position}
use Rattle.cv_scope_rules.specs.Made.{made_by}
use Rattle.cv_scope_rules.specs.Sites.{Variable}
use Rattle.cv_scope_rules.specs.declared.position.Position.{Position}
use Rattle.cv_scope_rules.specs.declared.position.Position.TheVariants as position
use Rattle.cv_scene.specs.Sights.{only_site}

-- above a tree that is no deeper than this
pub record IsShallow (Γ : Context) (room : ℕ) : Type 0 where
  pub facts : AllByRecursion (λ f. depth f ≤ 203) Γ.facts
  pub cells : AllByRecursion (λ c. depth c ≤ 202) Γ.cells
  pub own : AllByRecursion (λ c. depth c ≤ 202) Γ.own
  pub tested : depth Γ.tested ≤ 200
  pub replications : length Γ.replications + room ≤ 200

shallower : (Γ : Context) (m n : ℕ) → n ≤ m → IsShallow Γ m → IsShallow Γ n
shallower Γ m n l k = record { facts = k.facts; cells = k.cells; own = k.own; tested = k.tested; replications = let r = k.replications in omega arith }

room_deep : (Γ : Context) (n : ℕ) → IsShallow Γ n → n ≤ 200
room_deep Γ n k = let r = k.replications in omega arith

first_deep : (h : Head) (a b : Tree) → depth a ≤ depth (Node h a b)
unfolding depth
first_deep h a b = omega arith

second_deep : (h : Head) (a b : Tree) → depth b ≤ depth (Node h a b)
unfolding depth
second_deep h a b = omega arith

-- facts

held_shallow : (Γ : Context) (c : Tree) (n : ℕ) → depth c ≤ 200 → IsShallow Γ n → IsShallow (with_held Γ c) n
held_shallow Γ Empty n l k = k
held_shallow Γ (Node h a b) n l k = record { facts = AllByRecursion_push (λ f. depth f ≤ 203) Γ.facts (Node h a b) k.facts (omega arith); cells = k.cells; own = k.own; tested = k.tested; replications = k.replications }

not_deep : (c : Tree) → depth c ≤ 200 → depth (Node Not c Empty) ≤ 203
unfolding depth
not_deep c l = omega arith

failed_shallow : (Γ : Context) (c : Tree) (n : ℕ) → depth c ≤ 200 → IsShallow Γ n → IsShallow (with_failed Γ c) n
failed_shallow Γ Empty n l k = k
failed_shallow Γ (Node h a b) n l k = record { facts = AllByRecursion_push (λ f. depth f ≤ 203) Γ.facts (Node Not (Node h a b) Empty) k.facts (not_deep (Node h a b) l); cells = k.cells; own = k.own; tested = k.tested; replications = k.replications }

equal_deep : (m n : Tree) → depth m ≤ 2 → depth n ≤ 200 → depth (Node Eq m n) ≤ 203
unfolding depth
equal_deep m n k l = omega arith

-- cells

terms_deep : (rs : List (ℕ × ℕ)) → depth (index_terms rs) ≤ 1
unfolding depth
terms_deep [] = omega arith
terms_deep (r ∷ rs) = let l = terms_deep rs in omega arith

cell_deep : (rs : List (ℕ × ℕ)) (x : ℕ) → depth (cell_of rs x) ≤ 2
unfolding depth
cell_deep [] x = omega arith
cell_deep (r ∷ rs) x = let l = terms_deep (r ∷ rs) in omega arith

one_deep : (rs : List (ℕ × ℕ)) (x : ℕ) → depth (cell_of rs x) ≤ 202
one_deep rs x = let l = cell_deep rs x in omega arith

cells_deep : (rs : List (ℕ × ℕ)) (xs : List ℕ) → AllByRecursion (λ c. depth c ≤ 202) (map (cell_of rs) xs)
cells_deep rs [] = tt
cells_deep rs (x ∷ xs) = (one_deep rs x, cells_deep rs xs)

items_deep : (t : Tree) → depth t ≤ 200 → AllByRecursion (λ c. depth c ≤ 202) (items t)
items_deep Empty l = tt
items_deep (Node h c more) l = let i = first_deep h c more in let j = second_deep h c more in (omega arith, items_deep more (omega arith))

cells_shallow : (Γ : Context) (cs : List Tree) (n : ℕ) → AllByRecursion (λ c. depth c ≤ 202) cs → IsShallow Γ n → IsShallow (record Γ { cells = Γ.cells ++ cs }) n
cells_shallow Γ cs n l k = record { facts = k.facts; cells = AllByRecursion_append (λ c. depth c ≤ 202) Γ.cells cs k.cells l; own = k.own; tested = k.tested; replications = k.replications }

-- the children of a node

item_shallow : (w : Position) (Γ : Context) (n : ℕ) → IsShallow Γ n → IsShallow (item_standing w Γ) n
item_shallow position.Bodies Γ n k = held_shallow Γ Γ.tested n k.tested k
item_shallow position.ElseBody Γ n k = failed_shallow Γ Γ.tested n k.tested k
item_shallow w Γ n k = k

first_shallow : (w : Position) (h : Head) (Γ : Context) (n : ℕ) → IsShallow Γ n → IsShallow (first_standing w h Γ) n
first_shallow w Cons Γ n k = item_shallow w Γ n k
first_shallow w h Γ n k = k

rest_shallow : (w : Position) (a : Tree) (Γ : Context) (n : ℕ) → depth a ≤ 200 → IsShallow Γ n → IsShallow (rest_standing w a Γ) n
rest_shallow position.Guards a Γ n l k = cells_shallow Γ (items a) n (items_deep a l) k
rest_shallow position.Guarded a Γ n l k =
    held_shallow (record Γ { cells = Γ.cells ++ Γ.own; own = [] }) a n l
    (record { facts = k.facts; cells = AllByRecursion_append (λ c. depth c ≤ 202) Γ.cells Γ.own k.cells k.own; own = tt; tested = k.tested; replications = k.replications })
rest_shallow w a Γ n l k = k

below : (i n : ℕ) (a b : Tree) (Γ : Context) → IsShallow Γ (depth (Node (Repl i n) a b)) → length (Γ.replications ++ (i, n) ∷ []) + depth b ≤ 200
unfolding depth
below i n a b Γ k = let r = k.replications in let e = length-append Γ.replications ((i, n) ∷ []) in omega arith

behind : (h : Head) (a b : Tree) (Γ : Context) → IsShallow Γ (depth (Node h a b)) → IsShallow Γ (depth b)
behind h a b Γ k = shallower Γ (depth (Node h a b)) (depth b) (second_deep h a b) k

child_deep : (h : Head) (a b : Tree) (Γ : Context) → IsShallow Γ (depth (Node h a b)) → depth a ≤ 200
child_deep h a b Γ k = let l = room_deep Γ (depth (Node h a b)) k in let i = first_deep h a b in omega arith

one_shallow : (Γ : Context) (x n : ℕ) → IsShallow Γ n → IsShallow (record Γ { cells = Γ.cells ++ cell_of Γ.replications x ∷ [] }) n
one_shallow Γ x n k = cells_shallow Γ (cell_of Γ.replications x ∷ []) n (one_deep Γ.replications x, tt) k

pub second_shallow : (w : Position) (h : Head) (a b : Tree) (Γ : Context) → IsShallow Γ (depth (Node h a b)) → IsShallow (second_standing w h a Γ) (depth b)
second_shallow w Cons a b Γ k = rest_shallow w a Γ (depth b) (child_deep Cons a b Γ k) (behind Cons a b Γ k)
second_shallow w (Repl i n) a b Γ k = record { facts = k.facts; cells = k.cells; own = tt; tested = k.tested; replications = below i n a b Γ k }
second_shallow w (In c) a b Γ k = cells_shallow Γ (cells_of Γ.replications (second a)) (depth b) (cells_deep Γ.replications (bound_names (second a))) (behind (In c) a b Γ k)
second_shallow w (New x T) a b Γ k = one_shallow Γ x (depth b) (behind (New x T) a b Γ k)
second_shallow w (Key x) a b Γ k = one_shallow Γ x (depth b) (behind (Key x) a b Γ k)
second_shallow w (Call x l) a b Γ k = one_shallow Γ x (depth b) (behind (Call x l) a b Γ k)
second_shallow w (Let x T) a b Γ k =
    let c = one_shallow Γ x (depth b) (behind (Let x T) a b Γ k) in
    record {
      facts = AllByRecursion_push (λ f. depth f ≤ 203) Γ.facts (Node Eq (cell_of Γ.replications x) a) c.facts (equal_deep (cell_of Γ.replications x) a (cell_deep Γ.replications x) (child_deep (Let x T) a b Γ k));
      cells = c.cells;
      own = c.own;
      tested = c.tested;
      replications = c.replications;
    }
second_shallow w (Event e) a b Γ k = let c = behind (Event e) a b Γ k in record { facts = c.facts; cells = c.cells; own = c.own; tested = c.tested; replications = c.replications }
second_shallow w If a b Γ k = let c = behind If a b Γ k in record { facts = c.facts; cells = c.cells; own = c.own; tested = child_deep If a b Γ k; replications = c.replications }
second_shallow w Branch a b Γ k = let c = behind Branch a b Γ k in record { facts = c.facts; cells = c.cells; own = cells_deep Γ.replications (bound_names a); tested = c.tested; replications = c.replications }
second_shallow w h a b Γ k = behind h a b Γ k

-- how many facts

abbrev slack : Position → ℕ
slack position.Bodies = 1
slack position.ElseBody = 1
slack position.Guards = 1
slack position.Guarded = 1
slack w = 0

held_count : (Γ : Context) (c : Tree) → length (with_held Γ c).facts ≤ length Γ.facts + 1
held_count Γ Empty = omega arith
held_count Γ (Node h a b) = let e = length-append Γ.facts (Node h a b ∷ []) in omega arith

failed_count : (Γ : Context) (c : Tree) → length (with_failed Γ c).facts ≤ length Γ.facts + 1
failed_count Γ Empty = omega arith
failed_count Γ (Node h a b) = let e = length-append Γ.facts (Node Not (Node h a b) Empty ∷ []) in omega arith

first_count : (w : Position) (h : Head) (Γ : Context) → length (first_standing w h Γ).facts + slack (first_position w h) ≤ length Γ.facts + slack w + weight h
first_count position.Bodies Cons Γ = let l = held_count Γ Γ.tested in omega arith
first_count position.ElseBody Cons Γ = let l = failed_count Γ Γ.tested in omega arith
first_count position.Guards Cons Γ = omega arith
first_count position.Cells Cons Γ = omega arith
first_count w Cons Γ = omega arith
first_count w (Find l) Γ = omega arith
first_count w h Γ = omega arith

second_count : (w : Position) (h : Head) (a : Tree) (Γ : Context) → length (second_standing w h a Γ).facts + slack (second_position w h) ≤ length Γ.facts + slack w + weight h
second_count position.Bodies Cons a Γ = omega arith
second_count position.Branches Cons a Γ = omega arith
second_count position.Guards Cons a Γ = omega arith
second_count position.Guarded Cons a Γ = let l = held_count (record Γ { cells = Γ.cells ++ Γ.own; own = [] }) a in omega arith
second_count position.Cells Cons a Γ = omega arith
second_count w Cons a Γ = omega arith
second_count w If a Γ = omega arith
second_count w Branch a Γ = omega arith
second_count w (Let x T) a Γ = let e = length-append Γ.facts (Node Eq (cell_of Γ.replications x) a ∷ []) in omega arith
second_count w h a Γ = omega arith

-- both, along a walk

record IsSmall (w : Position) (Γ : Context) (t : Tree) : Type 0 where
  shallow : IsShallow Γ (depth t)
  count : length Γ.facts + slack w + size t ≤ 50000

first_small : (w : Position) (Γ : Context) (h : Head) (a b : Tree) → IsSmall w Γ (Node h a b) → IsSmall (first_position w h) (first_standing w h Γ) a
unfolding size
first_small w Γ h a b k = record {
  shallow = first_shallow w h Γ (depth a) (shallower Γ (depth (Node h a b)) (depth a) (first_deep h a b) k.shallow);
  count = let l = k.count in let n = first_count w h Γ in omega arith;
}

second_small : (w : Position) (Γ : Context) (h : Head) (a b : Tree) → IsSmall w Γ (Node h a b) → IsSmall (second_position w h) (second_standing w h a Γ) b
unfolding size
second_small w Γ h a b k = record {
  shallow = second_shallow w h a b Γ k.shallow;
  count = let l = k.count in let n = second_count w h a Γ in omega arith;
}

-- a context without what stands below it
pub record IsBounded (Γ : Context) : Type 0 where
  pub shallow : IsShallow Γ 0
  pub count : length Γ.facts ≤ 50000

small_is_bounded : (w : Position) (Γ : Context) (t : Tree) → IsSmall w Γ t → IsBounded Γ
small_is_bounded w Γ t k = record { shallow = shallower Γ (depth t) 0 (omega arith) k.shallow; count = let l = k.count in omega arith }

stands_in : (w : Position) (Γ : Context) (t : Tree) (p : ℕ) (Δ : Context) → IsSmall w Γ t → standing_at w Γ t p ≡ Some Δ → IsBounded Δ
unfolding standing_at
stands_in w Γ Empty p Δ k e = absurd (none_some Δ e)
stands_in w Γ (Node h a b) p Δ k e =
    go (nat_lt p (weight h)) (nat_lt p (weight h + size a)) e (stands_in (first_position w h) (first_standing w h Γ) a (p - weight h) Δ (first_small w Γ h a b k)) (stands_in (second_position w h) (second_standing w h a Γ) b (p - (weight h + size a)) Δ (second_small w Γ h a b k))
  where
    x : Option Context
    x = standing_at (first_position w h) (first_standing w h Γ) a (p - weight h)

    y : Option Context
    y = standing_at (second_position w h) (second_standing w h a Γ) b (p - (weight h + size a))

    go : (c d : Bool) → cond c (Some Γ) (cond d x y) ≡ Some Δ → (x ≡ Some Δ → IsBounded Δ) → (y ≡ Some Δ → IsBounded Δ) → IsBounded Δ
    go true d i f g = subst IsBounded (some_injective i) (small_is_bounded w Γ (Node h a b) k)
    go false true i f g = f i
    go false false i f g = g i

-- behind definitions

any_small : (w : Position) (Γ : Context) (t : Tree) → IsSmall w Γ t → IsSmall position.Anywhere Γ t
any_small w Γ t k = record { shallow = k.shallow; count = let l = k.count in omega arith }

as_list : (w : Position) (Γ : Context) (h : Head) (a b : Tree) → IsSmall w Γ (Node h a b) → IsSmall w Γ (Node Cons a b)
unfolding depth size
as_list w Γ h a b k = record {
  shallow = shallower Γ (depth (Node h a b)) (depth (Node Cons a b)) (omega arith) k.shallow;
  count = let l = k.count in omega arith;
}

behind_bounded : (w : Position) (Γ : Context) (h : Head) (a b : Tree) → IsSmall w Γ (Node h a b) → IsBounded (behind_site h a b Γ)
behind_bounded w Γ Branch us (Node g cells (Node k c body)) z =
    let one = second_small position.Anywhere Γ Branch us (Node g cells (Node k c body)) (any_small w Γ (Node Branch us (Node g cells (Node k c body))) z) in
    let list : Context = second_standing position.Anywhere Branch us Γ in
    let two = second_small position.Guards list Cons cells (Node k c body) (as_list position.Guards list g cells (Node k c body) one) in
    let tested : Context = second_standing position.Guards Cons cells list in
    let three = second_small position.Guarded tested Cons c body (as_list position.Guarded tested k c body two) in
    small_is_bounded position.Anywhere (second_standing position.Guarded Cons c tested) body three
behind_bounded w Γ h a b z = small_is_bounded (second_position position.Anywhere h) (second_standing position.Anywhere h a Γ) b (second_small position.Anywhere Γ h a b (any_small w Γ (Node h a b) z))

sites_bounded : (x : ℕ) (w : Position) (Γ : Context) (p : ℕ) (t : Tree) → IsSmall w Γ t → AllByRecursion (λ (d : ℕ × Context). IsBounded d.1) (sites_in x w Γ p t)
unfolding sites_in
sites_bounded x w Γ p Empty k = tt
sites_bounded x w Γ p (Node h a b) k =
    AllByRecursion_append (λ (d : ℕ × Context). IsBounded d.1) (cond (made_by h a (Variable x)) ((p, behind_site h a b Γ) ∷ []) []) _ (here (made_by h a (Variable x)))
    (AllByRecursion_append (λ (d : ℕ × Context). IsBounded d.1) (sites_in x (first_position w h) (first_standing w h Γ) (first_place p h) a) _
    (sites_bounded x (first_position w h) (first_standing w h Γ) (first_place p h) a (first_small w Γ h a b k))
    (sites_bounded x (second_position w h) (second_standing w h a Γ) (second_place p h a) b (second_small w Γ h a b k)))
  where
    here : (c : Bool) → AllByRecursion (λ (d : ℕ × Context). IsBounded d.1) (cond c ((p, behind_site h a b Γ) ∷ []) [])
    here true = (behind_bounded w Γ h a b k, tt)
    here false = tt

-- games

game_small : (game : Tree) → size game ≤ 50000 → depth game ≤ 200 → IsSmall position.Anywhere nothing_known game
unfolding depth
game_small game l d = record { shallow = record { facts = tt; cells = tt; own = tt; tested = omega arith; replications = omega arith }; count = omega arith }

pub place_bounded : (game : Tree) → size game ≤ 50000 → depth game ≤ 200 → (p : ℕ) (Γ : Context) → stands_at game p ≡ Some Γ → IsBounded Γ
place_bounded game l d p Γ e = stands_in position.Anywhere nothing_known game p Γ (game_small game l d) e

pub site_bounded : (game : Tree) → size game ≤ 50000 → depth game ≤ 200 → (x : ℕ) (Γ : Context) → only_site (sites_of game x) ≡ Some Γ → IsBounded Γ
site_bounded game l d x Γ e = go (sites_of game x) (sites_bounded x position.Anywhere nothing_known 0 game (game_small game l d)) e
  where
    go : (ds : List (ℕ × Context)) → AllByRecursion (λ (d : ℕ × Context). IsBounded d.1) ds → only_site ds ≡ Some Γ → IsBounded Γ
    go [] A f = absurd (none_some Γ f)
    go (d ∷ []) A f = subst IsBounded (some_injective f) A.0
    go (d ∷ (b ∷ ds)) A f = absurd (none_some Γ f)
