-- Trees where what is applied is a function, and the cells of `defined` lists are of variables.
use Rattle.std.proofs.Common.{◌≡◌, ℕ, Bool, true, false, ◌==◌, if◌then◌else◌, List, [], ◌∷◌, map, take, Option, Some, None, is_some, refl}
use Rattle.std.proofs.lemmas.Bool.{and_from}
use Rattle.std.specs.List.{list_any}
use Rattle.cv_syntax_trees.specs.declared.head.Head.{Head}
use Rattle.cv_syntax_trees.specs.declared.head.Head.TheVariants.{Apply, Branch, Cons, Find, If, In, Leaf, Out, Read}
use Rattle.cv_syntax_trees.specs.Declarations.{Declaration}
use Rattle.cv_syntax_trees.specs.Tree.{Tree, Empty, Node, chain, lone, names}
use Rattle.cv_parse_grammar.specs.Filled.{filled_at, now_below, on_channel, read_at, read_plainly}
use Rattle.cv_scope_rules.specs.Context.{first_position, second_position}
use Rattle.cv_scope_rules.specs.declared.position.Position.{Position}
use Rattle.cv_scope_rules.specs.declared.position.Position.TheVariants.{Anywhere, Bodies, Branches, Cells, Guards}
use Rattle.cv_scope_rules.specs.typing.Signature.{function_in}
use Rattle.cv_typing_runs.specs.Games.{are_named, are_variable_cells, is_named, is_variable_cell}

module _ (F V : ℕ → Type 0) where
  abbrev pub IsCell : Tree → Type 0
  IsCell (Node (Leaf x) a b) = V x
  IsCell (Node (Read x) a b) = V x
  IsCell t = Unit {0}

  abbrev pub AreCells : Tree → Type 0
  AreCells Empty = Unit {0}
  AreCells (Node h item more) = IsCell item × AreCells more

  -- of a node: a function, or the list of a branch with its condition and its body
  abbrev pub NamesHere : Head → Tree → Type 0
  NamesHere (Apply f) b = F f
  NamesHere Branch (Node Cons cells more) = AreCells cells
  NamesHere h b = Unit {0}

  unfoldable pub HasNamed : Tree → Type 0
  HasNamed Empty = Unit {0}
  HasNamed (Node h a b) = NamesHere h b × HasNamed a × HasNamed b

  -- Filling keeps them.

  leaves : (l : List ℕ) → HasNamed (chain (map (λ i. lone (Leaf i)) l))
  unfolding HasNamed
  leaves [] = tt
  leaves (i ∷ l) = (tt, (tt, tt, tt), leaves l)

  read_is : (x : ℕ) (l : List ℕ) → HasNamed (read_at x l)
  unfolding HasNamed
  read_is x [] = (tt, tt, tt)
  read_is x (i ∷ l) = (tt, leaves (i ∷ l), tt)

  bare_is : (b : Bool) (o : Option ℕ) (now : List ℕ) (x : ℕ) → HasNamed (if b then lone (Leaf x) else read_plainly o now x)
  bare_is true o now x = read_is x []
  bare_is false None now x = read_is x []
  bare_is false (Some k) now x = read_is x (take k now)

  -- a bare name as a cell, as a list of cells, and as what stands behind the indices of a branch

  read_cell : (x : ℕ) (l : List ℕ) → V x → IsCell (read_at x l)
  read_cell x [] v = v
  read_cell x (i ∷ l) v = v

  bare_cell : (b : Bool) (o : Option ℕ) (now : List ℕ) (x : ℕ) → V x → IsCell (if b then lone (Leaf x) else read_plainly o now x)
  bare_cell true o now x v = v
  bare_cell false None now x v = v
  bare_cell false (Some k) now x v = read_cell x (take k now) v

  read_cells : (x : ℕ) (l : List ℕ) → AreCells (read_at x l)
  read_cells x [] = (tt, tt)
  read_cells x (i ∷ l) = (tt, tt)

  bare_cells : (b : Bool) (o : Option ℕ) (now : List ℕ) (x : ℕ) → AreCells (if b then lone (Leaf x) else read_plainly o now x)
  bare_cells true o now x = read_cells x []
  bare_cells false None now x = read_cells x []
  bare_cells false (Some k) now x = read_cells x (take k now)

  read_guards : (x : ℕ) (l : List ℕ) → NamesHere Branch (read_at x l)
  read_guards x [] = tt
  read_guards x (i ∷ l) = tt

  bare_guards : (b : Bool) (o : Option ℕ) (now : List ℕ) (x : ℕ) → NamesHere Branch (if b then lone (Leaf x) else read_plainly o now x)
  bare_guards true o now x = tt
  bare_guards false None now x = tt
  bare_guards false (Some k) now x = read_guards x (take k now)

  channel_cell : (h : Head) (now : List ℕ) (t : Tree) → IsCell t → IsCell (on_channel h now t)
  channel_cell (In c) now (Node Cons Empty b) w = tt
  channel_cell (Out c) now (Node Cons Empty b) w = tt
  channel_cell h now t w = w

  cell_filled : (sites : ℕ → Option ℕ) (now : List ℕ) (t : Tree) → IsCell t → IsCell (filled_at sites now t)
  unfolding filled_at
  cell_filled sites now Empty w = tt
  cell_filled sites now (Node (Leaf x) a b) w = bare_cell (list_any (λ i. i == x) now) (sites x) now x w
  cell_filled sites now (Node (Read x) a b) w = w
  cell_filled sites now (Node h a b) w = tt

  cells_filled : (sites : ℕ → Option ℕ) (now : List ℕ) (t : Tree) → AreCells t → AreCells (filled_at sites now t)
  unfolding filled_at
  cells_filled sites now Empty w = tt
  cells_filled sites now (Node (Leaf x) a b) w = bare_cells (list_any (λ i. i == x) now) (sites x) now x
  cells_filled sites now (Node h a b) w = (channel_cell h now (filled_at sites now a) (cell_filled sites now a w.0), cells_filled sites (now_below h now) b w.1)

  guards_filled : (sites : ℕ → Option ℕ) (now : List ℕ) (b : Tree) → NamesHere Branch b → NamesHere Branch (filled_at sites now b)
  unfolding filled_at
  guards_filled sites now Empty w = tt
  guards_filled sites now (Node (Leaf x) a b) w = bare_guards (list_any (λ i. i == x) now) (sites x) now x
  guards_filled sites now (Node Cons a b) w = cells_filled sites now a w
  guards_filled sites now (Node h a b) w = tt

  names_filled : (sites : ℕ → Option ℕ) (now : List ℕ) (h : Head) (b : Tree) → NamesHere h b → NamesHere h (filled_at sites (now_below h now) b)
  names_filled sites now (Apply f) b w = w
  names_filled sites now Branch b w = guards_filled sites now b w
  names_filled sites now h b w = tt

  names_are : (l : List ℕ) → HasNamed (names l)
  unfolding HasNamed
  names_are [] = tt
  names_are (x ∷ l) = (tt, tt, names_are l)

  channel_is : (h : Head) (now : List ℕ) (t : Tree) → HasNamed t → HasNamed (on_channel h now t)
  unfolding HasNamed
  channel_is (In c) now (Node Cons Empty b) w = (tt, names_are now, w.2)
  channel_is (Out c) now (Node Cons Empty b) w = (tt, names_are now, w.2)
  channel_is h now t w = w

  pub filled_named : (sites : ℕ → Option ℕ) (now : List ℕ) (t : Tree) → HasNamed t → HasNamed (filled_at sites now t)
  unfolding filled_at HasNamed
  filled_named sites now Empty w = tt
  filled_named sites now (Node (Leaf x) a b) w = bare_is (list_any (λ i. i == x) now) (sites x) now x
  filled_named sites now (Node h a b) w = (names_filled sites now h b w.0, channel_is h now (filled_at sites now a) (filled_named sites now a w.1), filled_named sites (now_below h now) b w.2)

-- where a function is one of the declarations, and a variable one of these
module _ (ds : List Declaration) (variable : ℕ → Bool) where
  abbrev pub IsFunction : ℕ → Type 0
  IsFunction f = is_some (function_in ds f) ≡ true

  abbrev pub IsVariable : ℕ → Type 0
  IsVariable x = variable x ≡ true

  cell_variable : (t : Tree) → IsCell IsFunction IsVariable t → is_variable_cell variable t ≡ true
  cell_variable Empty w = refl
  cell_variable (Node (Leaf x) a b) w = w
  cell_variable (Node (Read x) a b) w = w
  cell_variable (Node h a b) w = refl

  cells_variable : (t : Tree) → AreCells IsFunction IsVariable t → are_variable_cells variable t ≡ true
  cells_variable Empty w = refl
  cells_variable (Node h item more) w = and_from (is_variable_cell variable item) (are_variable_cells variable more) (cell_variable item w.0) (cells_variable more w.1)

  -- what is asked of a tree where it stands behind the indices of a branch
  abbrev Here : Position → Tree → Type 0
  Here Guards (Node Cons cells more) = AreCells IsFunction IsVariable cells
  Here w t = Unit {0}

  head_named : (w : Position) (h : Head) (a b : Tree) → Here w (Node h a b) → NamesHere IsFunction IsVariable h b → is_named ds variable w h a ≡ true
  head_named Guards Cons a b k n = cells_variable a k
  head_named Guards (Apply f) a b k n = n
  head_named w (Apply f) a b k n = n
  head_named Guards h a b k n = refl
  head_named w h a b k n = refl

  here_first : (w : Position) (h : Head) (a : Tree) → Here (first_position w h) a
  here_first Guards Cons a = tt
  here_first Cells Cons a = tt
  here_first w Cons a = tt
  here_first w (Find l) a = tt
  here_first w h a = tt

  here_guards : (b : Tree) → NamesHere IsFunction IsVariable Branch b → Here Guards b
  here_guards Empty n = tt
  here_guards (Node Cons cells more) n = n
  here_guards (Node h a b) n = tt

  here_second : (w : Position) (h : Head) (b : Tree) → NamesHere IsFunction IsVariable h b → Here (second_position w h) b
  here_second Bodies Cons b n = tt
  here_second Branches Cons b n = tt
  here_second Guards Cons b n = tt
  here_second Cells Cons b n = tt
  here_second w Cons b n = tt
  here_second w If b n = tt
  here_second w Branch b n = here_guards b n
  here_second w h b n = tt

  all_named : (w : Position) (t : Tree) → Here w t → HasNamed IsFunction IsVariable t → are_named ds variable w t ≡ true
  unfolding HasNamed are_named
  all_named w Empty k n = refl
  all_named w (Node h a b) k n =
      and_from (is_named ds variable w h a) _ (head_named w h a b k n.0)
      (and_from (are_named ds variable (first_position w h) a) (are_named ds variable (second_position w h) b)
      (all_named (first_position w h) a (here_first w h a) n.1)
      (all_named (second_position w h) b (here_second w h b n.0) n.2))

  pub game_named : (game : Tree) → HasNamed IsFunction IsVariable game → are_named ds variable Anywhere game ≡ true
  game_named game n = all_named Anywhere game tt n
