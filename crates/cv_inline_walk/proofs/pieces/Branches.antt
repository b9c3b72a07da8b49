-- The branches of a find of the next game, for each site those of the text that go over its calls.
use Rattle.std.proofs.Common.{◌≡◌, ℕ, zero, suc, ◌+◌, Bool, true, false, cond, ◌==◌, List, [], ◌∷◌, ◌++◌, length, map, Option, Some, refl, ap, sym, ◌∙◌, arith, add-zero, zero-add}
use Rattle.std.proofs.lemmas.List.{map-append}
use Rattle.cv_syntax_trees.specs.declared.head.Head.TheVariants as head
use Rattle.cv_syntax.specs.Postorder.{joined}
use Rattle.cv_syntax_trees.specs.Tree.{Tree, Empty, Node, second_place}
use Rattle.cv_meaning.specs.contexts.Bodies.{body_place}
use Rattle.cv_meaning.specs.contexts.Inlined.{Caller, Drawn, Scope, branch_for, cells_then, expanded, expanded_at, index_terms, inlined_body, inlined_branch, with_call_of}
use Rattle.cv_inline_sites.specs.pairs.Pairs.{Pair, branch_of_pair, pairs_with}
use Rattle.cv_inline_walk.specs.pieces.Choices.{branch_by, choices_over, onto}
use Rattle.cv_inline_walk.specs.pieces.Pieces.{listed}

-- lists of branches

then_append : (xs ys : List Tree) (t : Tree) → cells_then (xs ++ ys) t ≡ cells_then xs (cells_then ys t)
then_append [] ys t = refl
then_append (x ∷ xs) ys t = ap (λ l. Node head.Cons x l) (then_append xs ys t)

pub onto_append : (xs ys ts : List Tree) → onto (xs ++ ys) ts ≡ onto ys (onto xs ts)
onto_append [] ys ts = refl
onto_append (x ∷ xs) ys ts = onto_append xs ys (x ∷ ts)

pub listed_onto : (bs ts : List Tree) (t : Tree) → listed (length bs) (t ∷ onto bs ts) ≡ cells_then bs t ∷ ts
listed_onto [] ts t = refl
listed_onto (b ∷ bs) ts t = ap (joined head.Cons) (listed_onto bs (b ∷ ts) t)

module _ (d : Drawn) (ss : List Caller) (c : Caller) (Σ : Scope) (name : ℕ → ℕ → ℕ → ℕ) (k : Tree → Tree) where
  abbrev inner : ℕ → Scope → Tree → Tree
  inner p Τ b = inlined_body d ss c Τ p b k

  abbrev branch_of : Caller → Pair → Tree
  branch_of s q = branch_of_pair d c Σ (name s.number) (λ j p Τ b. inner p Τ b) s q

  either : (w : Bool) (s : Caller) (q : Pair) (qs : List Pair) (rest : Tree) → cells_then (map (branch_of s) (cond w (q ∷ qs) qs)) rest ≡ cond w (Node head.Cons (branch_of s q) (cells_then (map (branch_of s) qs) rest)) (cells_then (map (branch_of s) qs) rest)
  either true s q qs rest = refl
  either false s q qs rest = refl

  -- the branches for one site, where those from number j on are the branches of the list
  for_site : (s : Caller) (at : ℕ → Scope → Tree) (j p : ℕ) (t rest : Tree) → ((i : ℕ) (Τ : Scope) → at (j + i) Τ ≡ inlined_branch d ss c Τ p t k i) → expanded_at d c Σ (name s.number) at s j t rest ≡ cells_then (map (branch_of s) (pairs_with s.bound j p t)) rest
  unfolding expanded_at pairs_with inlined_branch inlined_body
  for_site s at j p (Node head.Cons (Node head.Branch (Node (head.Binder u n) x y) (Node head.Cons cells (Node head.Cons m body))) more) rest h =
      let branch : Tree = Node head.Branch (Node (head.Binder u n) x y) (Node head.Cons cells (Node head.Cons m body)) in
      let q : ℕ = body_place p head.Cons head.Branch (Node (head.Binder u n) x y) head.Cons cells head.Cons m in
      let Τ : Scope = with_call_of Σ u (index_terms c.replications) (name s.number j) s in
      let first : at j Τ ≡ inlined_body d ss c Τ q body k = ap (λ i. at i Τ) (sym (add-zero j)) ∙ h zero Τ in
      let behind : expanded_at d c Σ (name s.number) at s (suc j) more rest ≡ cells_then (map (branch_of s) (pairs_with s.bound (suc j) (second_place p head.Cons branch) more)) rest =
      for_site s at (suc j) (second_place p head.Cons branch) more rest (λ i T. ap (λ a. at a T) (omega arith) ∙ h (suc i) T) in
      (λ i. cond (s.bound == n) (Node head.Cons (branch_for d c Τ (name s.number j) s cells m (first i)) (behind i)) (behind i))
      ∙ sym (either (s.bound == n) s (record { number = j; index = u; cells = cells; condition = m; body = body; place = q }) (pairs_with s.bound (suc j) (second_place p head.Cons branch) more) rest)
  for_site s at j p t rest h = refl

  abbrev branch_to : Option Caller × Pair → Tree
  branch_to q = branch_by d c Σ name inner q.0 q.1

  mapped : (s : Caller) (qs : List Pair) → map branch_to (map (λ (q : Pair). (Some s, q)) qs) ≡ map (branch_of s) qs
  mapped s [] = refl
  mapped s (q ∷ qs) = ap (λ l. branch_of s q ∷ l) (mapped s qs)

  -- the branches for all sites
  pub for_sites : (rs : List Caller) (p : ℕ) (t : Tree) → expanded d c Σ name (λ j Τ. inlined_branch d ss c Τ p t k j) rs t ≡ cells_then (map branch_to (choices_over rs p t)) Empty
  unfolding expanded
  for_sites [] p t = refl
  for_sites (s ∷ rs) p t =
      ap (λ l. expanded_at d c Σ (name s.number) (λ j Τ. inlined_branch d ss c Τ p t k j) s 0 t l) (for_sites rs p t)
      ∙ (for_site s (λ j Τ. inlined_branch d ss c Τ p t k j) 0 p t (cells_then (map branch_to (choices_over rs p t)) Empty) (λ i Τ. ap (inlined_branch d ss c Τ p t k) (zero-add i))
      ∙ (ap (λ l. cells_then l (cells_then (map branch_to (choices_over rs p t)) Empty)) (sym (mapped s (pairs_with s.bound 0 p t)))
      ∙ (sym (then_append (map branch_to (map (λ (q : Pair). (Some s, q)) (pairs_with s.bound 0 p t))) (map branch_to (choices_over rs p t)) Empty)
      ∙ ap (λ l. cells_then l Empty) (sym (map-append branch_to (map (λ (q : Pair). (Some s, q)) (pairs_with s.bound 0 p t)) (choices_over rs p t))))))
