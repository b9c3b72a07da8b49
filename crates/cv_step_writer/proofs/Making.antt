-- What is made at the end of a list of parts.
use Rattle.std.proofs.Common.{◌≡◌, ℕ, suc, ◌+◌, ◌≤◌, List, [], ◌∷◌, ◌++◌, length, drop, refl, ap, sym, ◌∙◌, arith, append_assoc, append-nil, map}
use Rattle.std.proofs.lemmas.List.{drop_all, replicate_more}
use Rattle.std.specs.Prelude.{replicate, flat_map}
use Rattle.cv_syntax_trees.specs.declared.head.Head.{Head}
use Rattle.cv_syntax_trees.specs.declared.head.Head.TheVariants.{Cons}
use Rattle.cv_syntax.specs.declared.make.Make.{Make}
use Rattle.cv_syntax.specs.declared.make.Make.TheVariants.{Over}
use Rattle.cv_syntax_trees.specs.Tree.{Tree, chain}
use Rattle.cv_syntax.specs.Postorder.{postorder}
use Rattle.cv_syntax.proofs.Trees.{tree_of_NoTree}
use Rattle.cv_syntax.proofs.parts.Making.{made}
use Rattle.cv_step_writer.specs.Items.{over}

-- lists that are made one behind another
appended_twice : (s0 s1 s2 : List Make) (a b : List Make) → s1 ≡ s0 ++ a → s2 ≡ s1 ++ b → s2 ≡ s0 ++ (a ++ b)
appended_twice s0 s1 s2 a b e f = f ∙ (ap (λ s. s ++ b) e ∙ append_assoc s0 a b)

-- A node over its items, behind them.

pub over_three : (h : Head) (t u v : Tree) (s0 s1 s2 s3 s4 s5 : List Make) → s1 ≡ s0 ++ postorder t → s2 ≡ s1 ++ postorder u → s3 ≡ s2 ++ postorder v → s4 ≡ s3 ++ Over Cons ∷ [] → s5 ≡ s4 ++ Over h ∷ [] → s5 ≡ s0 ++ postorder (over h (t ∷ (u ∷ (v ∷ []))))
unfolding postorder
over_three h t u v s0 s1 s2 s3 s4 s5 a b c d e =
    appended_twice s0 s1 s5 (postorder t) ((postorder u ++ (postorder v ++ Over Cons ∷ [])) ++ Over h ∷ []) a
    (appended_twice s1 s4 s5 (postorder u ++ (postorder v ++ Over Cons ∷ [])) (Over h ∷ []) (appended_twice s1 s2 s4 (postorder u) (postorder v ++ Over Cons ∷ []) b (appended_twice s2 s3 s4 (postorder v) (Over Cons ∷ []) c d)) e)

pub over_four : (h : Head) (t u v w : Tree) (s0 s1 s2 s3 s4 s5 s6 s7 : List Make) → s1 ≡ s0 ++ postorder t → s2 ≡ s1 ++ postorder u → s3 ≡ s2 ++ postorder v → s4 ≡ s3 ++ postorder w → s5 ≡ s4 ++ Over Cons ∷ [] → s6 ≡ s5 ++ Over Cons ∷ [] → s7 ≡ s6 ++ Over h ∷ [] → s7 ≡ s0 ++ postorder (over h (t ∷ (u ∷ (v ∷ (w ∷ [])))))
unfolding postorder
over_four h t u v w s0 s1 s2 s3 s4 s5 s6 s7 a b c d e f g =
    appended_twice s0 s1 s7 (postorder t) ((postorder u ++ ((postorder v ++ (postorder w ++ Over Cons ∷ [])) ++ Over Cons ∷ [])) ++ Over h ∷ []) a
    (appended_twice s1 s6 s7 (postorder u ++ ((postorder v ++ (postorder w ++ Over Cons ∷ [])) ++ Over Cons ∷ [])) (Over h ∷ [])
    (appended_twice s1 s2 s6 (postorder u) ((postorder v ++ (postorder w ++ Over Cons ∷ [])) ++ Over Cons ∷ []) b
    (appended_twice s2 s5 s6 (postorder v ++ (postorder w ++ Over Cons ∷ [])) (Over Cons ∷ [])
    (appended_twice s2 s3 s5 (postorder v) (postorder w ++ Over Cons ∷ []) c (appended_twice s3 s4 s5 (postorder w) (Over Cons ∷ []) d e)) f))
    g)

made_map : {A : Type 0} (f : A → Tree) (xs : List A) → made f xs ≡ flat_map postorder (map f xs)
made_map f [] = refl
made_map f (x ∷ xs) = ap (λ l. postorder (f x) ++ l) (made_map f xs)

-- all items were made
pub items_all : {A : Type 0} (f : A → Tree) (xs : List A) (k : ℕ) (out start : List Make) → length xs ≤ k → out ++ made f (drop k xs) ≡ start ++ made f xs → out ≡ start ++ flat_map postorder (map f xs)
items_all f xs k out start h i = sym (append-nil out) ∙ (ap (λ ys. out ++ made f ys) (sym (drop_all k xs h)) ∙ (i ∙ ap (λ l. start ++ l) (made_map f xs)))

-- the items in front of a list that was made
pub cells_made : (ts us : List Tree) → flat_map postorder ts ++ (postorder (chain us) ++ replicate (length ts) (Over Cons)) ≡ postorder (chain (ts ++ us))
unfolding postorder
cells_made [] us = append-nil (postorder (chain us))
cells_made (t ∷ ts) us =
    let last : List Make = Over Cons ∷ [] in
    let more : replicate (length ts) (Over Cons) ++ last ≡ replicate (suc (length ts)) (Over Cons) =
    replicate_more (length ts) (Over Cons) ∙ ap (λ k. replicate k (Over Cons)) (let e : length ts + 1 ≡ suc (length ts) = omega arith in e) in
    append_assoc (postorder t) (flat_map postorder ts) (postorder (chain us) ++ replicate (suc (length ts)) (Over Cons))
    ∙ ap (λ l. postorder t ++ l)
    (ap (λ l. flat_map postorder ts ++ (postorder (chain us) ++ l)) (sym more)
    ∙ (ap (λ l. flat_map postorder ts ++ l) (sym (append_assoc (postorder (chain us)) (replicate (length ts) (Over Cons)) last))
    ∙ (sym (append_assoc (flat_map postorder ts) (postorder (chain us) ++ replicate (length ts) (Over Cons)) last)
    ∙ ap (λ l. l ++ last) (cells_made ts us))))

length_map : {A : Type 0} (f : A → Tree) (xs : List A) → length (map f xs) ≡ length xs
length_map f [] = refl
length_map f (x ∷ xs) = ap suc (length_map f xs)

pub events_made : {A : Type 0} (f : A → Tree) (xs : List A) (us : List Tree) (s0 s1 s2 s3 : List Make) → s1 ≡ s0 ++ flat_map postorder (map f xs) → s2 ≡ s1 ++ postorder (chain us) → s3 ≡ s2 ++ replicate (length xs) (Over Cons) → s3 ≡ s0 ++ postorder (chain (map f xs ++ us))
events_made f xs us s0 s1 s2 s3 a b c =
    appended_twice s0 s1 s3 (flat_map postorder (map f xs)) (postorder (chain us) ++ replicate (length xs) (Over Cons)) a (appended_twice s1 s2 s3 (postorder (chain us)) (replicate (length xs) (Over Cons)) b c)
    ∙ ap (λ l. s0 ++ l) (ap (λ n. flat_map postorder (map f xs) ++ (postorder (chain us) ++ replicate n (Over Cons))) (sym (length_map f xs)) ∙ cells_made (map f xs) us)

pub ruleset making = (tree_of_NoTree, replicate_more, append_assoc, append-nil)
