-- Filling keeps the types and parameters that a tree names.
use Rattle.std.proofs.Common.{◌≡◌, ℕ, Bool, true, false, ◌==◌, if◌then◌else◌, List, [], ◌∷◌, map, take, Option, Some, None, refl, sym, subst}
use Rattle.std.specs.List.{list_any}
use Rattle.cv_syntax_trees.specs.declared.head.Head.{Head}
use Rattle.cv_syntax_trees.specs.declared.head.Head.TheVariants.{Binder, Branch, Cons, In, Leaf, Let, New, Out, Repl}
use Rattle.cv_syntax_trees.specs.Declarations.{Declaration}
use Rattle.cv_syntax_trees.specs.Tree.{Tree, Empty, Node, chain, lone, names, second}
use Rattle.cv_syntax_trees.specs.declared.sites.sort.Sort.{Sort}
use Rattle.cv_syntax_trees.specs.declared.sites.sort.Sort.TheVariants.{BelowParameter, OfType}
use Rattle.cv_parse_grammar.specs.Filled.{filled_at, now_below, on_channel, read_at, read_plainly}
use Rattle.cv_typing_runs.specs.Games.{AreDeclared, HasDeclaredSorts, NamesDeclared}

module _ (ds : List Declaration) where
  -- bare names

  leaves : (l : List ℕ) → HasDeclaredSorts ds (chain (map (λ i. lone (Leaf i)) l))
  unfolding HasDeclaredSorts
  leaves [] = tt
  leaves (i ∷ l) = (tt, (tt, tt, tt), leaves l)

  read_is : (x : ℕ) (l : List ℕ) → HasDeclaredSorts ds (read_at x l)
  unfolding HasDeclaredSorts
  read_is x [] = (tt, tt, tt)
  read_is x (i ∷ l) = (tt, leaves (i ∷ l), tt)

  plain_is : (o : Option ℕ) (now : List ℕ) (x : ℕ) → HasDeclaredSorts ds (read_plainly o now x)
  plain_is None now x = read_is x []
  plain_is (Some k) now x = read_is x (take k now)

  bare_is : (b : Bool) (o : Option ℕ) (now : List ℕ) (x : ℕ) → HasDeclaredSorts ds (if b then lone (Leaf x) else read_plainly o now x)
  bare_is true o now x = read_is x []
  bare_is false o now x = plain_is o now x

  module _ (sort : ℕ → Sort) where
    read_binds : (x : ℕ) (l : List ℕ) → AreDeclared ds sort (read_at x l)
    unfolding AreDeclared
    read_binds x [] = tt
    read_binds x (i ∷ l) = tt

    bare_binds : (b : Bool) (o : Option ℕ) (now : List ℕ) (x : ℕ) → AreDeclared ds sort (if b then lone (Leaf x) else read_plainly o now x)
    bare_binds true o now x = read_binds x []
    bare_binds false None now x = read_binds x []
    bare_binds false (Some k) now x = read_binds x (take k now)

    bare_second : (b : Bool) (o : Option ℕ) (now : List ℕ) (x : ℕ) → AreDeclared ds sort (second (if b then lone (Leaf x) else read_plainly o now x))
    unfolding AreDeclared
    bare_second true o now x = tt
    bare_second false None now x = tt
    bare_second false (Some k) now x = go (take k now)
      where
        go : (l : List ℕ) → AreDeclared ds sort (second (read_at x l))
        go [] = tt
        go (i ∷ l) = tt

    -- binders
    binders_filled : (sites : ℕ → Option ℕ) (now : List ℕ) (t : Tree) → AreDeclared ds sort t → AreDeclared ds sort (filled_at sites now t)
    unfolding AreDeclared filled_at
    binders_filled sites now Empty w = tt
    binders_filled sites now (Node (Binder x T) a b) w = (w.0, binders_filled sites now b w.1)
    binders_filled sites now (Node (Leaf x) a b) w = bare_binds (list_any (λ i. i == x) now) (sites x) now x
    binders_filled sites now (Node h a b) w = binders_filled sites (now_below h now) b w

    second_filled : (sites : ℕ → Option ℕ) (now : List ℕ) (t : Tree) → AreDeclared ds sort (second t) → AreDeclared ds sort (second (filled_at sites now t))
    unfolding AreDeclared filled_at
    second_filled sites now Empty w = tt
    second_filled sites now (Node (Leaf x) a b) w = bare_second (list_any (λ i. i == x) now) (sites x) now x
    second_filled sites now (Node h a b) w = binders_filled sites (now_below h now) b w

  -- channels

  same_second : (c : ℕ) (now : List ℕ) (t : Tree) → second (on_channel (In c) now t) ≡ second t
  same_second c now (Node Cons Empty b) = refl
  same_second c now t = refl

  names_are : (l : List ℕ) → HasDeclaredSorts ds (names l)
  unfolding HasDeclaredSorts
  names_are [] = tt
  names_are (x ∷ l) = (tt, tt, names_are l)

  channel_is : (h : Head) (now : List ℕ) (t : Tree) → HasDeclaredSorts ds t → HasDeclaredSorts ds (on_channel h now t)
  unfolding HasDeclaredSorts
  channel_is (In c) now (Node Cons Empty b) w = (tt, names_are now, w.2)
  channel_is (Out c) now (Node Cons Empty b) w = (tt, names_are now, w.2)
  channel_is h now t w = w

  names_filled : (sites : ℕ → Option ℕ) (now : List ℕ) (h : Head) (a : Tree) → NamesDeclared ds h a → NamesDeclared ds h (on_channel h now (filled_at sites now a))
  names_filled sites now (Repl i n) a w = w
  names_filled sites now (New x T) a w = w
  names_filled sites now (Let x T) a w = w
  names_filled sites now (In c) a w = subst (AreDeclared ds OfType) (sym (same_second c now (filled_at sites now a))) (second_filled OfType sites now a w)
  names_filled sites now Branch a w = binders_filled BelowParameter sites now a w
  names_filled sites now h a w = tt

  pub filled_is : (sites : ℕ → Option ℕ) (now : List ℕ) (t : Tree) → HasDeclaredSorts ds t → HasDeclaredSorts ds (filled_at sites now t)
  unfolding filled_at HasDeclaredSorts
  filled_is sites now Empty w = tt
  filled_is sites now (Node (Leaf x) a b) w = bare_is (list_any (λ i. i == x) now) (sites x) now x
  filled_is sites now (Node h a b) w = (names_filled sites now h a w.0, channel_is h now (filled_at sites now a) (filled_is sites now a w.1), filled_is sites (now_below h now) b w.2)
