-- What is made at the end of a list of parts.
use Rattle.std.proofs.Common.{◌≡◌, ℕ, Bool, true, false, nat_lt, Ok, suc, ◌+◌, ◌≤◌, ◌<◌, List, [], ◌∷◌, ◌++◌, length, drop, refl, ap, sym, ◌∙◌, arith, append_assoc, append-nil, map, Option, Some}
use Rattle.std.proofs.lemmas.List.{drop_all, replicate_more}
use Rattle.std.specs.Prelude.{replicate, flat_map}
use Rattle.cv_syntax_trees.specs.declared.head.Head.{Head}
use Rattle.cv_syntax_trees.specs.declared.head.Head.TheVariants.{Cons}
use Rattle.cv_syntax.specs.declared.make.Make.{Make}
use Rattle.cv_syntax.specs.declared.make.Make.TheVariants.{Nothing, Over}
use Rattle.cv_syntax_trees.specs.Tree.{Tree, Empty, Node, chain}
use Rattle.cv_syntax.specs.Postorder.{postorder}
use Rattle.cv_syntax.proofs.Trees.{tree_of_NoTree}
use Rattle.cv_syntax.specs.parts.Closing.{closing}

pub closing_last : (hs : List Head) (h : Head) → closing (hs ++ h ∷ []) ≡ Over h ∷ closing hs
closing_last [] h = refl
closing_last (g ∷ hs) h = ap (λ l. l ++ Over g ∷ []) (closing_last hs h)

pub postorder_empty : postorder Empty ≡ Nothing ∷ []
unfolding postorder
postorder_empty = refl

pub postorder_node : (h : Head) (a b : Tree) → postorder (Node h a b) ≡ postorder a ++ (postorder b ++ Over h ∷ [])
unfolding postorder
postorder_node h a b = refl

-- one node of a chain, and its end
pub chain_goes : (t : Tree) (h : Head) (a b : Tree) (out new total : List Make) (hs ks : List Head) → t ≡ Node h a b → out ++ (postorder t ++ closing hs) ≡ total → new ≡ out ++ postorder a → ks ≡ hs ++ h ∷ [] → new ++ (postorder b ++ closing ks) ≡ total
chain_goes t h a b out new total hs ks e i n k =
    ap (λ l. l ++ (postorder b ++ closing ks)) n
    ∙ (ap (λ l. (out ++ postorder a) ++ (postorder b ++ l)) (ap closing k ∙ closing_last hs h)
    ∙ (append_assoc out (postorder a) (postorder b ++ (Over h ∷ closing hs))
    ∙ (ap (λ l. out ++ l) (sym (append_assoc (postorder a) (postorder b ++ Over h ∷ []) (closing hs) ∙ ap (λ l. postorder a ++ l) (append_assoc (postorder b) (Over h ∷ []) (closing hs))) ∙ ap (λ l. l ++ closing hs) (sym (ap postorder e ∙ postorder_node h a b)))
    ∙ i)))

pub chain_ends : (t : Tree) (out new total : List Make) (hs : List Head) → t ≡ Empty → out ++ (postorder t ++ closing hs) ≡ total → new ≡ out ++ Nothing ∷ [] → new ++ closing hs ≡ total
chain_ends t out new total hs e i n = ap (λ l. l ++ closing hs) n ∙ (append_assoc out (Nothing ∷ []) (closing hs) ∙ (ap (λ l. out ++ (l ++ closing hs)) (sym (ap postorder e ∙ postorder_empty)) ∙ i))

-- a list of trees
pub list_made : (ts : List Tree) → flat_map postorder ts ++ (Nothing ∷ replicate (length ts) (Over Cons)) ≡ postorder (chain ts)
unfolding postorder
list_made [] = refl
list_made (t ∷ ts) =
    append_assoc (postorder t) (flat_map postorder ts) (Nothing ∷ replicate (suc (length ts)) (Over Cons))
    ∙ ap (λ l. postorder t ++ l) (ap (λ l. flat_map postorder ts ++ Nothing ∷ l) (ap (λ k. replicate k (Over Cons)) (let e : suc (length ts) ≡ length ts + 1 = omega arith in e) ∙ sym (replicate_more (length ts) (Over Cons)))
    ∙ (sym (append_assoc (flat_map postorder ts) (Nothing ∷ replicate (length ts) (Over Cons)) (Over Cons ∷ [])) ∙ ap (λ l. l ++ Over Cons ∷ []) (list_made ts)))

-- what the items of a list make
abbrev pub made : {A : Type 0} → (A → Tree) → List A → List Make
made f xs = flat_map (λ x. postorder (f x)) xs

made_map : {A : Type 0} (f : A → Tree) (xs : List A) → made f xs ≡ flat_map postorder (map f xs)
made_map f [] = refl
made_map f (x ∷ xs) = ap (λ l. postorder (f x) ++ l) (made_map f xs)

pub items_end : {A : Type 0} (f : A → Tree) (xs : List A) (n : ℕ) (out new start : List Make) → out ≡ start ++ made f xs → n ≡ length xs → new ≡ out ++ (Nothing ∷ replicate n (Over Cons)) → new ≡ start ++ postorder (chain (map f xs))
items_end f xs n out new start i l e =
    e ∙ (ap (λ o. o ++ (Nothing ∷ replicate n (Over Cons))) i
    ∙ (append_assoc start (made f xs) (Nothing ∷ replicate n (Over Cons))
    ∙ ap (λ o. start ++ o) (ap (λ k. made f xs ++ (Nothing ∷ replicate k (Over Cons))) (l ∙ sym (length_of xs)) ∙ (ap (λ o. o ++ (Nothing ∷ replicate (length (map f xs)) (Over Cons))) (made_map f xs) ∙ list_made (map f xs)))))
  where
    length_of : (ys : List _) → length (map f ys) ≡ length ys
    length_of [] = refl
    length_of (y ∷ ys) = ap suc (length_of ys)

-- one head is made, the last one
pub closing_goes : (hs ks : List Head) (h : Head) (out new total : List Make) → hs ≡ ks ++ h ∷ [] → out ++ closing hs ≡ total → new ≡ out ++ Over h ∷ [] → new ++ closing ks ≡ total
closing_goes hs ks h out new total e i n = ap (λ l. l ++ closing ks) n ∙ (append_assoc out (Over h ∷ []) (closing ks) ∙ (ap (λ l. out ++ l) (sym (ap closing e ∙ closing_last ks h)) ∙ i))

-- the trees of all items
pub items_done : {A : Type 0} (f : A → Tree) (xs : List A) (k : ℕ) (out new start : List Make) → length xs ≤ k → out ++ made f (drop k xs) ≡ start ++ made f xs → new ≡ out ++ (Nothing ∷ replicate (length xs) (Over Cons)) → new ≡ start ++ postorder (chain (map f xs))
items_done f xs k out new start h i e = items_end f xs (length xs) out new start (sym (append-nil out) ∙ (ap (λ ys. out ++ made f ys) (sym (drop_all k xs h)) ∙ i)) refl e

pub ruleset making = (tree_of_NoTree, replicate_more, append_assoc, append-nil)
