-- A list of branches, by its first branch.
use Rattle.std.proofs.Common.{◌≡◌, ℕ, suc, ◌+◌, Bool, true, false, cond, ◌==◌, List, [], ◌∷◌, ◌++◌, All, map, Some, None, refl, ap, sym, subst, ◌∙◌, arith, append_assoc, append-nil}
use Rattle.std.proofs.lemmas.List.{map-append}
use Rattle.std.proofs.lemmas.List.Elements.{All-push}
use Rattle.cv_pool.specs.KindTree.{KindTree}
use Rattle.cv_syntax_trees.specs.declared.head.Head.TheVariants as head
use Rattle.cv_syntax_trees.specs.Tree.{Tree, Node, size}
use Rattle.cv_syntax.specs.PoolTrees.{tree_at}
use Rattle.cv_inline_sites.specs.declared.pairs.branches.Branch as code
use Rattle.cv_inline_sites.specs.declared.pairs.pairs.Pair as pair
use Rattle.cv_inline_sites.specs.pairs.Branches.{Branch, branch_in, first_branch}
use Rattle.cv_inline_sites.specs.pairs.Pairs.{Pair, pair_at, pair_in, pairs_with}

abbrev pub pair_of : (number place : ℕ) → Branch → Pair
pair_of k p b = record { number = k; index = b.index; cells = b.cells; condition = b.condition; body = b.body; place = p }

abbrev pub inner_place : ℕ → Branch → ℕ
inner_place p b = p + 1 + size b.binders + size b.cells + size b.condition

pub no_pairs : (n k p : ℕ) (t : Tree) → None ≡ first_branch t → pairs_with n k p t ≡ []
unfolding pairs_with
no_pairs n k p (Node head.Cons (Node head.Branch (Node (head.Binder u m) x y) (Node head.Cons cells (Node head.Cons c body))) more) e = absurd (cc)
no_pairs n k p t e = refl

pub pairs_end : (n k p : ℕ) (t : Tree) (found whole : List Pair) → None ≡ first_branch t → found ++ pairs_with n k p t ≡ whole → found ≡ whole
pairs_end n k p t found whole e i = sym (append-nil found) ∙ (ap (λ l. found ++ l) (sym (no_pairs n k p t e)) ∙ i)

at_branch : (P : Tree → Branch → Type 0) → ((u m : ℕ) (x y cells c body more : Tree) → P (Node head.Cons (Node head.Branch (Node (head.Binder u m) x y) (Node head.Cons cells (Node head.Cons c body))) more) (record { index = u; bound = m; binders = Node (head.Binder u m) x y; cells = cells; condition = c; body = body; more = more })) → (t : Tree) (b : Branch) → Some b ≡ first_branch t → P t b
at_branch P h (Node head.Cons (Node head.Branch (Node (head.Binder u m) x y) (Node head.Cons cells (Node head.Cons c body))) more) b e =
    let B : Branch = record { index = u; bound = m; binders = Node (head.Binder u m) x y; cells = cells; condition = c; body = body; more = more } in
    let g : B ≡ b = cc in
    subst (P (Node head.Cons (Node head.Branch (Node (head.Binder u m) x y) (Node head.Cons cells (Node head.Cons c body))) more)) g (h u m x y cells c body more)
at_branch P h t b e = absurd (cc)

abbrev SizeBy : Tree → Branch → Type 0
SizeBy t b = size t ≡ 1 + size b.binders + size b.cells + size b.condition + size b.body + size b.more

pub size_by : (t : Tree) (b : Branch) → Some b ≡ first_branch t → size t ≡ 1 + size b.binders + size b.cells + size b.condition + size b.body + size b.more
unfolding size
size_by t b e = at_branch SizeBy sizes t b e where
  sizes : (u m : ℕ) (x y cells c body more : Tree) → SizeBy (Node head.Cons (Node head.Branch (Node (head.Binder u m) x y) (Node head.Cons cells (Node head.Cons c body))) more) (record { index = u; bound = m; binders = Node (head.Binder u m) x y; cells = cells; condition = c; body = body; more = more })
  sizes u m x y cells c body more = omega arith

either : {A : Type 0} (w : Bool) (x : A) (xs : List A) → cond w (x ∷ xs) xs ≡ cond w (x ∷ []) [] ++ xs
either true x xs = refl
either false x xs = refl

abbrev StepBy : (n k p q r : ℕ) → Tree → Branch → Type 0
StepBy n k p q r t b = q ≡ inner_place p b → r ≡ q + size b.body → pairs_with n k p t ≡ cond (n == b.bound) (pair_of k q b ∷ []) [] ++ pairs_with n (suc k) r b.more

pub pairs_step : (n k p q r : ℕ) (t : Tree) (b : Branch) → Some b ≡ first_branch t → q ≡ inner_place p b → r ≡ q + size b.body → pairs_with n k p t ≡ cond (n == b.bound) (pair_of k q b ∷ []) [] ++ pairs_with n (suc k) r b.more
unfolding pairs_with size
pairs_step n k p q r t b e = at_branch (StepBy n k p q r) steps t b e where
  steps : (u m : ℕ) (x y cells c body more : Tree) → StepBy n k p q r (Node head.Cons (Node head.Branch (Node (head.Binder u m) x y) (Node head.Cons cells (Node head.Cons c body))) more) (record { index = u; bound = m; binders = Node (head.Binder u m) x y; cells = cells; condition = c; body = body; more = more })
  steps u m x y cells c body more i j =
      let here : p + 0 + 1 + (0 + size x + size y) + 0 + size cells + 0 + size c ≡ q = omega arith in
      let next : p + 0 + (1 + (0 + size x + size y) + (0 + size cells + (0 + size c + size body))) ≡ r = omega arith in
      either (n == m) (record { number = k; index = u; cells = cells; condition = c; body = body; place = p + 0 + 1 + (0 + size x + size y) + 0 + size cells + 0 + size c }) (pairs_with n (suc k) (p + 0 + (1 + (0 + size x + size y) + (0 + size cells + (0 + size c + size body)))) more) ∙ (λ i. cond (n == m) (record { number = k; index = u; cells = cells; condition = c; body = body; place = here i } ∷ []) [] ++ pairs_with n (suc k) (next i) more)

pub pairs_go : (trees : List KindTree) (n k j p q r : ℕ) (t : Tree) (b : code.Branch) (olds news : List pair.Pair) (whole : List Pair) → Some (branch_in trees b) ≡ first_branch t → q ≡ inner_place p (branch_in trees b) → r ≡ q + size (tree_at trees b.body) → j ≡ k + 1 →
    news ≡ olds ++ cond (n == b.bound) (pair_at k q b ∷ []) [] → map (pair_in trees) olds ++ pairs_with n k p t ≡ whole → map (pair_in trees) news ++ pairs_with n j r (tree_at trees b.more) ≡ whole
pairs_go trees n k j p q r t b olds news whole e i l s new w =
    let B : Branch = branch_in trees b in
    let j' : j ≡ suc k = omega arith in
    ap (λ xs. map (pair_in trees) xs ++ pairs_with n j r B.more) new
    ∙ (ap (λ xs. xs ++ pairs_with n j r B.more) (map-append (pair_in trees) olds (cond (n == b.bound) (pair_at k q b ∷ []) []) ∙ ap (λ xs. map (pair_in trees) olds ++ xs) (mapped (n == b.bound)))
    ∙ (append_assoc (map (pair_in trees) olds) (cond (n == b.bound) (pair_of k q B ∷ []) []) (pairs_with n j r B.more)
    ∙ (ap (λ xs. map (pair_in trees) olds ++ xs) (ap (λ m. cond (n == b.bound) (pair_of k q B ∷ []) [] ++ pairs_with n m r B.more) j' ∙ sym (pairs_step n k p q r t B e i l)) ∙ w)))
  where
    mapped : (w : Bool) → map (pair_in trees) (cond w (pair_at k q b ∷ []) []) ≡ cond w (pair_of k q (branch_in trees b) ∷ []) []
    mapped true = refl
    mapped false = refl

pub all_pairs : (P : pair.Pair → Type 0) (w : Bool) (olds news : List pair.Pair) (q : pair.Pair) → news ≡ olds ++ cond w (q ∷ []) [] → All P olds → P q → All P news
all_pairs P true olds news q e a h = subst (All P) (sym e) (All-push P olds q a h)
all_pairs P false olds news q e a h = subst (All P) (sym (e ∙ append-nil olds)) a
