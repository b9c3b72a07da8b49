-- Filling changes nothing in what it has filled.
use Rattle.std.proofs.Common.{◌≡◌, ℕ, zero, suc, Bool, true, false, ◌==◌, ◌||◌, if◌then◌else◌, List, [], ◌∷◌, ◌++◌, map, take, Option, Some, None, refl, ap, sym, ◌∙◌, subst, append_assoc}
use Rattle.std.proofs.lemmas.Bool.{eq-eqb}
use Rattle.std.specs.List.{list_any}
use Rattle.cv_syntax_trees.specs.declared.head.Head.{Head}
use Rattle.cv_syntax_trees.specs.declared.head.Head.TheVariants.{In, Out, Leaf, Read, Cons, Name}
use Rattle.cv_syntax_trees.specs.Tree.{Tree, Empty, Node, second, lone, chain, names}
use Rattle.cv_parse_grammar.specs.Filled.{read_at, read_plainly, bare, now_below, on_channel, filled_at}

-- current indices

abbrev AreCurrent : List ℕ → List ℕ → Type 0
AreCurrent now [] = Unit {0}
AreCurrent now (i ∷ l) = (list_any (λ j. j == i) now ≡ true) × AreCurrent now l

found_there : (i : ℕ) (front back : List ℕ) → list_any (λ j. j == i) (front ++ i ∷ back) ≡ true
found_there i [] back = ap (λ b. b || list_any (λ j. j == i) back) (eq-eqb i i refl)
found_there i (x ∷ front) back = either_true (x == i) (list_any (λ j. j == i) (front ++ i ∷ back)) (found_there i front back)
  where
    either_true : (a b : Bool) → b ≡ true → (a || b) ≡ true
    either_true true b e = refl
    either_true false b e = e

first_are_current : (k : ℕ) (front l : List ℕ) → AreCurrent (front ++ l) (take k l)
first_are_current zero front l = tt
first_are_current (suc k) front [] = tt
first_are_current (suc k) front (i ∷ l) = (found_there i front l, subst (λ z. AreCurrent z (take k l)) (append_assoc front (i ∷ []) l) (first_are_current k (front ++ i ∷ []) l))

module _ (sites : ℕ → Option ℕ) where
  names_refilled : (now l : List ℕ) → filled_at sites now (names l) ≡ names l
  unfolding filled_at
  names_refilled now [] = refl
  names_refilled now (x ∷ l) = ap (λ z. Node (Name x) Empty z) (names_refilled now l)

  leaves_refilled : (now l : List ℕ) → AreCurrent now l → filled_at sites now (chain (map (λ i. lone (Leaf i)) l)) ≡ chain (map (λ i. lone (Leaf i)) l)
  unfolding filled_at
  leaves_refilled now [] w = refl
  leaves_refilled now (i ∷ l) w =
      ap (λ b. Node Cons (if b then lone (Leaf i) else read_plainly (sites i) now i) (filled_at sites now (chain (map (λ j. lone (Leaf j)) l)))) w.0
      ∙ ap (λ z. Node Cons (lone (Leaf i)) z) (leaves_refilled now l w.1)

  read_refilled : (now : List ℕ) (x : ℕ) (l : List ℕ) → AreCurrent now l → bare sites now x ≡ read_at x l → filled_at sites now (read_at x l) ≡ read_at x l
  unfolding filled_at
  read_refilled now x [] w e = e
  read_refilled now x (i ∷ l) w e = ap (λ z. Node (Read x) z Empty) (leaves_refilled now (i ∷ l) w)

  plain_refilled : (now : List ℕ) (x : ℕ) (o : Option ℕ) → bare sites now x ≡ read_plainly o now x → filled_at sites now (read_plainly o now x) ≡ read_plainly o now x
  plain_refilled now x None e = read_refilled now x [] tt e
  plain_refilled now x (Some k) e = read_refilled now x (take k now) (first_are_current k [] now) e

  bare_refilled : (now : List ℕ) (x : ℕ) (b : Bool) → bare sites now x ≡ (if b then lone (Leaf x) else read_plainly (sites x) now x) → filled_at sites now (bare sites now x) ≡ bare sites now x
  bare_refilled now x true e = ap (filled_at sites now) e ∙ (read_refilled now x [] tt e ∙ sym e)
  bare_refilled now x false e = ap (filled_at sites now) e ∙ (plain_refilled now x (sites x) e ∙ sym e)

  -- the channel of an input or an output

  given_stays : (h : Head) (now : List ℕ) (a : Tree) → on_channel h now a ≡ a → filled_at sites now a ≡ a → on_channel h now (filled_at sites now (on_channel h now a)) ≡ on_channel h now a
  given_stays h now a e w = ap (λ z. on_channel h now (filled_at sites now z)) e ∙ ap (on_channel h now) w

  current_stays : (now : List ℕ) (b : Tree) → filled_at sites now (Node Cons Empty b) ≡ Node Cons Empty b → filled_at sites now (Node Cons (names now) b) ≡ Node Cons (names now) b
  unfolding filled_at
  current_stays now b w = ap (λ z. Node Cons z (filled_at sites now b)) (names_refilled now now) ∙ ap (λ z. Node Cons (names now) (second z)) w

  in_stays : (c : ℕ) (now : List ℕ) (b : Tree) → on_channel (In c) now (Node Cons (names now) b) ≡ Node Cons (names now) b
  in_stays c [] b = refl
  in_stays c (i ∷ now) b = refl

  out_stays : (c : ℕ) (now : List ℕ) (b : Tree) → on_channel (Out c) now (Node Cons (names now) b) ≡ Node Cons (names now) b
  out_stays c [] b = refl
  out_stays c (i ∷ now) b = refl

  channel_refilled : (h : Head) (now : List ℕ) (a : Tree) → filled_at sites now a ≡ a → on_channel h now (filled_at sites now (on_channel h now a)) ≡ on_channel h now a
  channel_refilled (In c) now (Node Cons Empty b) w = ap (on_channel (In c) now) (current_stays now b w) ∙ in_stays c now b
  channel_refilled (Out c) now (Node Cons Empty b) w = ap (on_channel (Out c) now) (current_stays now b w) ∙ out_stays c now b
  channel_refilled h now a w = given_stays h now a refl w

  -- the second filling changes nothing
  pub refilled : (now : List ℕ) (t : Tree) → filled_at sites now (filled_at sites now t) ≡ filled_at sites now t
  unfolding filled_at
  refilled now Empty = refl
  refilled now (Node (Leaf x) a b) = bare_refilled now x (list_any (λ i. i == x) now) refl
  refilled now (Node h a b) =
      ap (λ z. Node h z (filled_at sites (now_below h now) (filled_at sites (now_below h now) b))) (channel_refilled h now (filled_at sites now a) (refilled now a))
      ∙ ap (λ z. Node h (on_channel h now (filled_at sites now a)) z) (refilled (now_below h now) b)
