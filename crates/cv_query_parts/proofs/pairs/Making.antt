-- What is made to test a pair, part by part.
use Rattle.std.proofs.Common.{◌≡◌, ℕ, zero, suc, ◌+◌, ◌<◌, ◌≤◌, min, Bool, true, false, ◌||◌, List, [], ◌∷◌, ◌++◌, length, map, drop, get_or, refl, sym, ap, ap₂, ◌∙◌, arith, append_assoc, append-nil, Option, Some, None, eqb-true}
use Rattle.std.specs.Prelude.{flat_map, replicate, ◌==◌, if◌then◌else◌, option_map}
use Rattle.std.proofs.lemmas.List.{drop_all, length-map}
use Rattle.cv_syntax.specs.declared.make.Make.{Make}
use Rattle.cv_syntax.specs.declared.make.Make.TheVariants.{Nothing, Over}
use Rattle.cv_syntax.specs.parts.Closing.{closing}
use Rattle.cv_syntax.specs.Postorder.{postorder}
use Rattle.cv_syntax.proofs.parts.Making.{chain_ends, chain_goes, list_made, postorder_node}
use Rattle.cv_syntax_trees.specs.declared.head.Head.{Head}
use Rattle.cv_syntax_trees.specs.declared.head.Head.TheVariants.{Cons, Eq, Leaf}
use Rattle.cv_syntax_trees.specs.Tree.{Tree, Empty, Node, chain, lone}
use Rattle.cv_scene.specs.Late.{index_term}
use Rattle.cv_scene.specs.lines.Given.{given_for, or_node, term_for, with_given}
use Rattle.cv_scene.specs.Pairs.{of_second, second_indices}
use Rattle.cv_query_certificates.specs.Pairs.{equations_between}
use Rattle.cv_query_parts.specs.pairs.Lists.{is_row, second_head, second_name}

-- terms over the names of the second copy

abbrev leaf : ℕ → Tree
leaf y = lone (Leaf y)

module _ (k : ℕ) where
  abbrev leaves : List (ℕ × ℕ) → Tree
  leaves rs = chain (map index_term (second_indices k rs))

  one_term : (r : ℕ × ℕ) (rs : List (ℕ × ℕ)) (x : ℕ) (b : Bool) → (r.0 == x) ≡ b → term_for (map (λ (r : ℕ × ℕ). r.0) rs) (leaves rs) x ≡ option_map leaf (second_name k rs x)
      → (if b then Some (leaf (r.0 + k)) else term_for (map (λ (r : ℕ × ℕ). r.0) rs) (leaves rs) x) ≡ option_map leaf (if b || is_row rs x then Some (x + k) else None)
  one_term r rs x true e f = ap (λ n. Some (leaf (n + k))) (eqb-true r.0 x e)
  one_term r rs x false e f = f

  second_term : (rs : List (ℕ × ℕ)) (x : ℕ) → term_for (map (λ (r : ℕ × ℕ). r.0) rs) (leaves rs) x ≡ option_map leaf (second_name k rs x)
  second_term [] x = refl
  second_term (r ∷ rs) x = one_term r rs x (r.0 == x) refl (second_term rs x)

  module _ (rs : List (ℕ × ℕ)) where
    second_given : (h : Head) → given_for (map (λ (r : ℕ × ℕ). r.0) rs) (chain (map index_term (second_indices k rs))) h ≡ option_map leaf (second_head k rs h)
    second_given (Leaf x) = second_term rs x
    second_given h = refl

    second_node : (h : Head) (a b : Tree) → of_second k rs (Node h a b) ≡ or_node (option_map leaf (second_head k rs h)) h (of_second k rs a) (of_second k rs b)
    unfolding with_given
    second_node h a b = ap (λ o. or_node o h (of_second k rs a) (of_second k rs b)) (second_given h)

    second_none : (t : Tree) → t ≡ Empty → of_second k rs t ≡ Empty
    unfolding with_given
    second_none t e = ap (of_second k rs) e

    module _ (t : Tree) (h : Head) (a b : Tree) (o : Option ℕ) (e : t ≡ Node h a b) (f : o ≡ second_head k rs h) where
      second_open : of_second k rs t ≡ or_node (option_map leaf o) h (of_second k rs a) (of_second k rs b)
      second_open = ap (of_second k rs) e ∙ (second_node h a b ∙ ap (λ p. or_node (option_map leaf p) h (of_second k rs a) (of_second k rs b)) (sym f))

      pub second_here : (x : ℕ) (out new total : List Make) (hs : List Head) → o ≡ Some x → new ≡ out ++ postorder (leaf x) → out ++ (postorder (of_second k rs t) ++ closing hs) ≡ total → new ++ closing hs ≡ total
      second_here x out new total hs g n i =
          ap (λ l. l ++ closing hs) n
          ∙ (append_assoc out (postorder (leaf x)) (closing hs)
          ∙ (ap (λ u. out ++ (postorder u ++ closing hs)) (sym (second_open ∙ ap (λ p. or_node (option_map leaf p) h (of_second k rs a) (of_second k rs b)) g)) ∙ i))

      pub second_goes : (out new total : List Make) (hs ks : List Head) → o ≡ None → out ++ (postorder (of_second k rs t) ++ closing hs) ≡ total → new ≡ out ++ postorder (of_second k rs a) → ks ≡ hs ++ h ∷ [] → new ++ (postorder (of_second k rs b) ++ closing ks) ≡ total
      second_goes out new total hs ks g i n j =
          chain_goes (of_second k rs t) h (of_second k rs a) (of_second k rs b) out new total hs ks (second_open ∙ ap (λ p. or_node (option_map leaf p) h (of_second k rs a) (of_second k rs b)) g) i n j

    pub second_ends : (t : Tree) (out new total : List Make) (hs : List Head) → t ≡ Empty → out ++ (postorder (of_second k rs t) ++ closing hs) ≡ total → new ≡ out ++ Nothing ∷ [] → new ++ closing hs ≡ total
    second_ends t out new total hs e i n = chain_ends (of_second k rs t) out new total hs (second_none t e) i n

    module _ (i : ℕ) (o : Option ℕ) (f : o ≡ second_name k rs i) where
      pub second_leaf : (x : ℕ) → o ≡ Some x → leaf x ≡ of_second k rs (leaf i)
      second_leaf x g = sym (second_open (leaf i) (Leaf i) Empty Empty o refl f ∙ ap (λ p. or_node (option_map leaf p) (Leaf i) (of_second k rs Empty) (of_second k rs Empty)) g)

      pub first_leaf : o ≡ None → leaf i ≡ of_second k rs (leaf i)
      unfolding with_given
      first_leaf g = sym (second_open (leaf i) (Leaf i) Empty Empty o refl f ∙ ap (λ p. or_node (option_map leaf p) (Leaf i) (of_second k rs Empty) (of_second k rs Empty)) g)

pub made_same : (t u : Tree) (out new : List Make) → t ≡ u → new ≡ out ++ postorder t → new ≡ out ++ postorder u
made_same t u out new e f = f ∙ ap (λ v. out ++ postorder v) e

-- a node over two trees that were made
pub node_made : (h : Head) (a b : Tree) (out one two new : List Make) → one ≡ out ++ postorder a → two ≡ one ++ postorder b → new ≡ two ++ Over h ∷ [] → new ≡ out ++ postorder (Node h a b)
node_made h a b out one two new e f g =
    g
    ∙ (ap (λ l. l ++ Over h ∷ []) (f ∙ ap (λ l. l ++ postorder b) e)
    ∙ (append_assoc (out ++ postorder a) (postorder b) (Over h ∷ [])
    ∙ (append_assoc out (postorder a) (postorder b ++ Over h ∷ []) ∙ ap (λ l. out ++ l) (sym (postorder_node h a b)))))

-- lists of trees, one by one

module _ (ts : List Tree) (k : ℕ) (out start : List Make) (i : out ++ flat_map postorder (drop k ts) ≡ start ++ flat_map postorder ts) where
  pub item_made : (t : Tree) (new : List Make) → drop k ts ≡ t ∷ drop (k + 1) ts → new ≡ out ++ postorder t → new ++ flat_map postorder (drop (k + 1) ts) ≡ start ++ flat_map postorder ts
  item_made t new e n =
      let rest = flat_map postorder (drop (k + 1) ts) in
      ap (λ l. l ++ rest) n ∙ (append_assoc out (postorder t) rest ∙ (ap (λ us. out ++ flat_map postorder us) (sym e) ∙ i))

  pub items_made : (n : ℕ) (new : List Make) → length ts ≤ k → n ≡ length ts → new ≡ out ++ (Nothing ∷ replicate n (Over Cons)) → new ≡ start ++ postorder (chain ts)
  items_made n new l m e =
      e
      ∙ (ap₂ (λ o j. o ++ (Nothing ∷ replicate j (Over Cons))) (sym (append-nil out) ∙ (ap (λ us. out ++ flat_map postorder us) (sym (drop_all k ts l)) ∙ i)) m
      ∙ (append_assoc start (flat_map postorder ts) (Nothing ∷ replicate (length ts) (Over Cons)) ∙ ap (λ l. start ++ l) (list_made ts)))

-- what is done with each item

pub mapped_more : {A : Type 0} (f : A → Tree) (xs : List A) (k : ℕ) (d : A) → k < length xs → drop k (map f xs) ≡ f (get_or xs k d) ∷ drop (k + 1) (map f xs)
mapped_more f [] k d l = absurd (omega (arith, l))
mapped_more f (x ∷ xs) zero d l = refl
mapped_more f (x ∷ xs) (suc k) d l =
    let n : suc (k + 1) ≡ suc k + 1 = omega arith in
    mapped_more f xs k d (omega (arith, l)) ∙ ap (λ m. f (get_or xs k d) ∷ drop m (map f (x ∷ xs))) n

pub got : {A : Type 0} (f : A → Tree) (xs : List A) (k : ℕ) (d : A) → get_or (map f xs) k (f d) ≡ f (get_or xs k d)
got f [] k d = refl
got f (x ∷ xs) zero d = refl
got f (x ∷ xs) (suc k) d = got f xs k d

pub equation_more : (ms ns : List Tree) (k : ℕ) (d e : Tree) → k < length ms → k < length ns → drop k (equations_between ms ns) ≡ Node Eq (get_or ms k d) (get_or ns k e) ∷ drop (k + 1) (equations_between ms ns)
equation_more [] ns k d e l m = absurd (omega (arith, l))
equation_more (x ∷ ms) [] k d e l m = absurd (omega (arith, m))
equation_more (x ∷ ms) (y ∷ ns) zero d e l m = refl
equation_more (x ∷ ms) (y ∷ ns) (suc k) d e l m =
    let n : suc (k + 1) ≡ suc k + 1 = omega arith in
    equation_more ms ns k d e (omega (arith, l)) (omega (arith, m)) ∙ ap (λ j. Node Eq (get_or ms k d) (get_or ns k e) ∷ drop j (equations_between (x ∷ ms) (y ∷ ns))) n

pub equations_length : (ms ns : List Tree) → length (equations_between ms ns) ≡ min (length ms) (length ns)
equations_length [] [] = omega arith
equations_length [] (y ∷ ns) = omega arith
equations_length (x ∷ ms) [] = omega arith
equations_length (x ∷ ms) (y ∷ ns) = omega (arith, equations_length ms ns)

module _ {A : Type 0} (f g : A → Tree) (xs ys : List A) where
  abbrev pub equations : List Tree
  equations = equations_between (map f xs) (map g ys)

  pub both_more : (k : ℕ) (x y : A) → k < length xs → k < length ys → drop k equations ≡ Node Eq (f (get_or xs k x)) (g (get_or ys k y)) ∷ drop (k + 1) equations
  both_more k x y l m =
      equation_more (map f xs) (map g ys) k (f x) (g y) (omega (arith, l, length-map xs f)) (omega (arith, m, length-map ys g))
      ∙ ap₂ (λ u v. Node Eq u v ∷ drop (k + 1) equations) (got f xs k x) (got g ys k y)

  pub both_length : length equations ≡ min (length xs) (length ys)
  both_length = equations_length (map f xs) (map g ys) ∙ ap₂ min (length-map xs f) (length-map ys g)

pub twice_mapped : {A : Type 0} (f : A → Tree) (g : Tree → Tree) (xs : List A) → map g (map f xs) ≡ map (λ x. g (f x)) xs
twice_mapped f g [] = refl
twice_mapped f g (x ∷ xs) = ap (λ us. g (f x) ∷ us) (twice_mapped f g xs)

-- lists of the same rows
pub rows_made : (rs qs : List (ℕ × ℕ)) (out new : List Make) → rs ≡ qs → new ≡ out ++ postorder (chain (map index_term rs)) → new ≡ out ++ postorder (chain (map index_term qs))
rows_made rs qs out new e f = f ∙ ap (λ l. out ++ postorder (chain (map index_term l))) e

-- three lists, one behind the other
pub three_made : (a b c start one two new : List Make) → one ≡ start ++ a → two ≡ one ++ b → new ≡ two ++ c → new ≡ start ++ (a ++ (b ++ c))
three_made a b c start one two new e f g =
    g ∙ (ap (λ l. l ++ c) (f ∙ ap (λ l. l ++ b) e) ∙ (append_assoc (start ++ a) b c ∙ append_assoc start a (b ++ c)))

-- all of them
pub all_made : (a b c d e : Tree) (empty one two three new : List Make) → empty ≡ [] → one ≡ empty ++ postorder a → two ≡ one ++ (postorder b ++ (postorder c ++ postorder d)) → three ≡ two ++ postorder e → new ≡ three ++ (Nothing ∷ replicate 5 (Over Cons)) → new ≡ postorder (chain (a ∷ b ∷ c ∷ d ∷ e ∷ []))
all_made a b c d e empty one two three new f g i j k =
    let rest = Nothing ∷ replicate 5 (Over Cons) in
    k
    ∙ (ap (λ l. l ++ rest) (j ∙ ap (λ l. l ++ postorder e) (i ∙ ap (λ l. l ++ (postorder b ++ (postorder c ++ postorder d))) (g ∙ ap (λ l. l ++ postorder a) f)))
    ∙ (ap (λ l. l ++ rest) in_order ∙ list_made (a ∷ b ∷ c ∷ d ∷ e ∷ [])))
  where
    in_order : (postorder a ++ (postorder b ++ (postorder c ++ postorder d))) ++ postorder e ≡ flat_map postorder (a ∷ b ∷ c ∷ d ∷ e ∷ [])
    in_order =
        append_assoc (postorder a) (postorder b ++ (postorder c ++ postorder d)) (postorder e)
        ∙ ap (λ l. postorder a ++ l) (append_assoc (postorder b) (postorder c ++ postorder d) (postorder e)
        ∙ ap (λ l. postorder b ++ l) (append_assoc (postorder c) (postorder d) (postorder e)
        ∙ ap (λ l. postorder c ++ (postorder d ++ l)) (sym (append-nil (postorder e)))))
