-- What the code finds at branches, bodies, binders and nodes.
use Rattle.std.proofs.Common.{◌≡◌, ℕ, ◌+◌, ◌≤◌, Bool, true, false, cond, List, [], ◌∷◌, ◌++◌, Option, Some, None, refl, sym, ap, ◌∙◌, arith}
use Rattle.cv_syntax_trees.specs.declared.head.Head.{Head}
use Rattle.cv_syntax_trees.specs.declared.head.Head.TheVariants.{Branch, Cons, Find}
use Rattle.cv_syntax_trees.specs.Head.{weight}
use Rattle.cv_syntax_trees.specs.Tree.{Tree, Empty, Node, first, first_place, same_tree, second, second_place, size}
use Rattle.cv_rule_move.specs.merge.Looks.{arm_in, first_in}
use Rattle.cv_rule_move.specs.merge.Merging.{Body, bodies, branch_bodies, branch_body, first_other}

-- branches

pub some_branch : (p : ℕ) (t : Tree) (h : Head) (a b : Tree) (o : Tree × Tree) → t ≡ Node h a b → Some o ≡ arm_in h a → branch_bodies p t ≡ branch_body p o.0 o.1 ∷ branch_bodies (second_place p h a) b
some_branch p t h a b o e f = ap (branch_bodies p) e ∙ step h a f
  where
    step : (h : Head) (a : Tree) → Some o ≡ arm_in h a → branch_bodies p (Node h a b) ≡ branch_body p o.0 o.1 ∷ branch_bodies (second_place p h a) b
    step Cons (Node Branch us rest) f =
        let k : o ≡ (us, rest) = cc in
        ap (λ (q : Tree × Tree). branch_body p q.0 q.1 ∷ branch_bodies (second_place p Cons (Node Branch us rest)) b) (sym k)
    step h a f = absurd (cc)

pub no_branch : (p : ℕ) (t : Tree) (h : Head) (a b : Tree) → t ≡ Node h a b → None ≡ arm_in h a → branch_bodies p t ≡ []
no_branch p t h a b e f = ap (branch_bodies p) e ∙ step h a f
  where
    step : (h : Head) (a : Tree) → None ≡ arm_in h a → branch_bodies p (Node h a b) ≡ []
    step Cons (Node Branch us rest) f = absurd (cc)
    step h a f = refl

pub end_branch : (p : ℕ) (t : Tree) → t ≡ Empty → branch_bodies p t ≡ []
end_branch p t e = ap (branch_bodies p) e

pub branch_size : (h : Head) (a : Tree) (o : Tree × Tree) → Some o ≡ arm_in h a → size a ≡ 1 + size o.0 + size o.1
unfolding size
branch_size Cons (Node Branch us rest) o f = let k : o ≡ (us, rest) = cc in ap (λ (q : Tree × Tree). 1 + size q.0 + size q.1) (sym k)
branch_size h a o f = absurd (cc)

pub some_link : (h : Head) (a : Tree) (o : Tree × Tree) → Some o ≡ arm_in h a → weight h ≡ 0
some_link Cons a o f = refl
some_link h a o f = absurd (cc)

pub guards_small : (t : Tree) → size (first t) + size (first (second t)) ≤ size t
unfolding size
guards_small Empty = omega arith
guards_small (Node h a Empty) = omega arith
guards_small (Node h a (Node k b c)) = omega arith

pub first_small : (t : Tree) → size (first t) ≤ size t
unfolding size
first_small Empty = omega arith
first_small (Node h a b) = omega arith

-- the first body of a `find`

pub find_branch : (p l : ℕ) (t e : Tree) (b : Body) (bs : List Body) → branch_bodies (first_place p (Find l)) t ≡ b ∷ bs → Some b ≡ first_in (bodies p (Node (Find l) t e))
find_branch p l t e b bs f = sym (ap (λ cs. first_in (cs ++ (record { place = second_place p (Find l) t; process = e }) ∷ [])) f)

pub find_else : (p l : ℕ) (t e : Tree) → branch_bodies (first_place p (Find l)) t ≡ [] → ◌≡◌ {A = Option Body} (Some (record { place = second_place p (Find l) t; process = e })) (first_in (bodies p (Node (Find l) t e)))
find_else p l t e f = sym (ap (λ cs. first_in (cs ++ (record { place = second_place p (Find l) t; process = e }) ∷ [])) f)

-- the first other body

pub other_here : (x : Tree) (bs cs : List Body) (b : Body) (v : Bool) → bs ≡ b ∷ cs → v ≡ same_tree x b.process → v ≡ false → Some b.place ≡ first_other x bs
other_here x bs cs b v e f g = sym (ap (first_other x) e ∙ ap (λ w. cond w (first_other x cs) (Some b.place)) (sym f ∙ g))

pub other_later : (x : Tree) (bs cs : List Body) (b : Body) (v : Bool) → bs ≡ b ∷ cs → v ≡ same_tree x b.process → v ≡ true → first_other x bs ≡ first_other x cs
other_later x bs cs b v e f g = ap (first_other x) e ∙ ap (λ w. cond w (first_other x cs) (Some b.place)) (sym f ∙ g)

pub other_first : (x : Tree) (bs cs : List Body) (q : ℕ) → Some q ≡ first_other x bs → Some q ≡ first_other x (bs ++ cs)
other_first x [] cs q e = absurd (cc)
other_first x (b ∷ bs) cs q e = go (same_tree x b.process) e (other_first x bs cs q)
  where
    go : (v : Bool) → Some q ≡ cond v (first_other x bs) (Some b.place) → (Some q ≡ first_other x bs → Some q ≡ first_other x (bs ++ cs)) → Some q ≡ cond v (first_other x (bs ++ cs)) (Some b.place)
    go true e k = k e
    go false e k = e

pub other_second : (x : Tree) (bs cs : List Body) → None ≡ first_other x bs → first_other x cs ≡ first_other x (bs ++ cs)
other_second x [] cs e = refl
other_second x (b ∷ bs) cs e = go (same_tree x b.process) e (other_second x bs cs)
  where
    go : (v : Bool) → None ≡ cond v (first_other x bs) (Some b.place) → (None ≡ first_other x bs → first_other x cs ≡ first_other x (bs ++ cs)) → first_other x cs ≡ cond v (first_other x (bs ++ cs)) (Some b.place)
    go true e k = k e
    go false e k = absurd (cc)
