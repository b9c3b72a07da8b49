-- The children of a tree that is laid out.
use Rattle.std.proofs.Common.{◌≡◌, ℕ, zero, suc, ◌+◌, ◌-◌, ◌<◌, List, [], ◌∷◌, ◌++◌, length, take, refl, ap, sym, ◌∙◌, arith, subst, append-nil, append_assoc, Bool, true, false, cond}
use Rattle.std.specs.Prelude.{All, ◌==◌}
use Rattle.std.proofs.lemmas.Bool.{eqb-true}
use Rattle.std.proofs.lemmas.List.{take_more, take_all, length-take, get_or-take}
use Rattle.cv_syntax_trees.specs.declared.head.Head.{Head}
use Rattle.cv_syntax_trees.specs.declared.head.Head.TheVariants.{Cons}
use Rattle.cv_syntax.specs.declared.layout.Layout.{Layout}
use Rattle.cv_syntax.specs.declared.layout.Layout.TheVariants.{Lone, One, Two, Three, Listed, Rest, Taking, Giving, Chosen}
use Rattle.cv_syntax.specs.Layouts.{shape_of, fits, IsLaidOut, layout_of, item, all_but, first_part, second_part, arranged, IsSyntax}
use Rattle.cv_syntax_trees.specs.Tree.{Tree, Empty, Node, chain, tops, children}

fits_laid : (l : Layout) (n : ℕ) → fits l n ≡ true → IsLaidOut l n
fits_laid Lone n e = eqb-true n 0 e
fits_laid One n e = eqb-true n 1 e
fits_laid Two n e = eqb-true n 2 e
fits_laid Three n e = eqb-true n 3 e
fits_laid Listed n e = tt
fits_laid Rest n e = grind arith
fits_laid Taking n e = grind arith
fits_laid Giving n e = grind arith
fits_laid Chosen n e = grind arith

chosen : (l : Layout) (n : ℕ) (b : Bool) → fits l n ≡ b → 0 < n → IsLaidOut (cond b l Rest) n
chosen l n true e h = fits_laid l n e
chosen l n false e h = h

laid_by : (h : Head) (n : ℕ) (b : Bool) → (n == 0) ≡ b → IsLaidOut (cond b Lone (cond (fits (shape_of h) n) (shape_of h) Rest)) n
laid_by h n true e = eqb-true n 0 e
laid_by h zero false e = absurd (cc)
laid_by h (suc n) false e = chosen (shape_of h) (suc n) (fits (shape_of h) (suc n)) refl (omega arith)

pub laid_out : (h : Head) (n : ℕ) → IsLaidOut (layout_of h n) n
laid_out h n = laid_by h n (n == 0) refl

tops_one : (t : Tree) → IsSyntax t → tops t ≡ t ∷ []
unfolding tops
tops_one Empty h = absurd h
tops_one (Node h a b) e = ap (λ n. cond (n == 1) (Node h a b ∷ []) (tops a ++ tops b)) e

tops_empty : tops Empty ≡ []
unfolding tops
tops_empty = refl

tops_cons : (a b : Tree) → tops (Node Cons a b) ≡ tops a ++ tops b
unfolding tops
tops_cons a b = refl

tops_chain : (ts : List Tree) → All IsSyntax ts → tops (chain ts) ≡ ts
tops_chain [] a = tops_empty
tops_chain (t ∷ ts) a =
    tops_cons t (chain ts) ∙ (ap (λ l. l ++ tops (chain ts)) (tops_one t (a zero t (omega arith))) ∙ ap (λ l. t ∷ l) (tops_chain ts (λ k d l. a (suc k) d (omega arith))))

item_syntax : (ts : List Tree) (k : ℕ) → All IsSyntax ts → k < length ts → tops (item ts k) ≡ item ts k ∷ []
item_syntax ts k a h = tops_one (item ts k) (a k Empty h)

All_take : (n : ℕ) (ts : List Tree) → All IsSyntax ts → All IsSyntax (take n ts)
All_take n ts a = λ k d l.
    let in_front : k < n = omega (arith, length-take n ts) in
    let within : k < length ts = omega (arith, length-take n ts) in
    subst IsSyntax (sym (get_or-take n ts k d in_front)) (a k d within)

-- a list is all but its last item, and this
split_last : (ts : List Tree) → 0 < length ts → all_but 1 ts ++ item ts (length ts - 1) ∷ [] ≡ ts
split_last ts h =
    let less : length ts - 1 < length ts = omega arith in
    let whole : length ts - 1 + 1 ≡ length ts = omega arith in
    sym (take_more ts (length ts - 1) Empty less) ∙ (ap (λ n. take n ts) whole ∙ take_all (length ts) ts (omega arith))

split_two : (ts : List Tree) → 1 < length ts → all_but 2 ts ++ (item ts (length ts - 2) ∷ (item ts (length ts - 1) ∷ [])) ≡ ts
split_two ts h =
    let less : length ts - 2 < length ts = omega arith in
    let whole : length ts - 2 + 1 ≡ length ts - 1 = omega arith in
    sym (append_assoc (all_but 2 ts) (item ts (length ts - 2) ∷ []) (item ts (length ts - 1) ∷ []))
    ∙ (ap (λ l. l ++ item ts (length ts - 1) ∷ []) (sym (take_more ts (length ts - 2) Empty less) ∙ ap (λ n. take n ts) whole) ∙ split_last ts (omega arith))

-- a list and the last item
list_and_last : (ts : List Tree) (a : Tree) → 0 < length ts → All IsSyntax ts → tops a ≡ tops (chain (all_but 1 ts)) → tops a ++ tops (item ts (length ts - 1)) ≡ ts
list_and_last ts a h s e =
    let less : length ts - 1 < length ts = omega arith in
    ap (λ l. l ++ tops (item ts (length ts - 1))) (e ∙ tops_chain (all_but 1 ts) (All_take (length ts - 1) ts s))
    ∙ (ap (λ l. all_but 1 ts ++ l) (item_syntax ts (length ts - 1) s less) ∙ split_last ts h)

laid_children : (l : Layout) (ts : List Tree) → IsLaidOut l (length ts) → All IsSyntax ts → tops (first_part l ts) ++ tops (second_part l ts) ≡ ts
laid_children Lone [] h s = ap (λ l. l ++ l) tops_empty
laid_children Lone (t ∷ ts) h s = absurd (omega arith)
laid_children One [] h s = absurd (omega arith)
laid_children One (t ∷ []) h s = ap (λ l. tops t ++ l) tops_empty ∙ (append-nil (tops t) ∙ item_syntax (t ∷ []) 0 s (omega arith))
laid_children One (t ∷ (u ∷ ts)) h s = absurd (omega arith)
laid_children Two [] h s = absurd (omega arith)
laid_children Two (t ∷ []) h s = absurd (omega arith)
laid_children Two (t ∷ (u ∷ [])) h s = ap (λ l. l ++ tops u) (item_syntax (t ∷ (u ∷ [])) 0 s (omega arith)) ∙ ap (λ l. t ∷ l) (item_syntax (t ∷ (u ∷ [])) 1 s (omega arith))
laid_children Two (t ∷ (u ∷ (v ∷ ts))) h s = absurd (omega arith)
laid_children Three [] h s = absurd (omega arith)
laid_children Three (t ∷ []) h s = absurd (omega arith)
laid_children Three (t ∷ (u ∷ [])) h s = absurd (omega arith)
laid_children Three (t ∷ (u ∷ (v ∷ []))) h s =
    ap (λ l. l ++ tops (Node Cons u (Node Cons v Empty))) (item_syntax (t ∷ (u ∷ (v ∷ []))) 0 s (omega arith))
    ∙ ap (λ l. t ∷ l) (tops_chain (u ∷ (v ∷ [])) (λ k d l. s (suc k) d (omega arith)))
laid_children Three (t ∷ (u ∷ (v ∷ (w ∷ ts)))) h s = absurd (omega arith)
laid_children Listed ts h s = ap (λ l. tops (chain ts) ++ l) tops_empty ∙ (append-nil (tops (chain ts)) ∙ tops_chain ts s)
laid_children Rest ts h s = list_and_last ts (chain (all_but 1 ts)) h s refl
laid_children Taking ts h s = list_and_last ts (Node Cons (chain (all_but 1 ts)) Empty) h s (tops_cons (chain (all_but 1 ts)) Empty ∙ (ap (λ l. tops (chain (all_but 1 ts)) ++ l) tops_empty ∙ append-nil (tops (chain (all_but 1 ts)))))
laid_children Giving ts h s = list_and_last ts (Node Cons Empty (chain (all_but 1 ts))) h s (tops_cons Empty (chain (all_but 1 ts)) ∙ ap (λ l. l ++ tops (chain (all_but 1 ts))) tops_empty)
laid_children Chosen ts h s =
    let one : length ts - 2 < length ts = omega arith in
    let two : length ts - 1 < length ts = omega arith in
    let body = Node Cons (item ts (length ts - 2)) (item ts (length ts - 1)) in
    ap (λ l. l ++ tops (Node Cons (chain (all_but 2 ts)) body)) tops_empty
    ∙ (tops_cons (chain (all_but 2 ts)) body
    ∙ (ap (λ l. l ++ tops body) (tops_chain (all_but 2 ts) (All_take (length ts - 2) ts s))
    ∙ (ap (λ l. all_but 2 ts ++ l) (tops_cons (item ts (length ts - 2)) (item ts (length ts - 1)) ∙ (ap (λ l. l ++ tops (item ts (length ts - 1))) (item_syntax ts (length ts - 2) s one) ∙ ap (λ l. item ts (length ts - 2) ∷ l) (item_syntax ts (length ts - 1) s two)))
    ∙ split_two ts h)))

pub children_arranged : (h : Head) (ts : List Tree) → All IsSyntax ts → children (arranged h ts) ≡ ts
children_arranged h ts s = laid_children (layout_of h (length ts)) ts (laid_out h (length ts)) s
