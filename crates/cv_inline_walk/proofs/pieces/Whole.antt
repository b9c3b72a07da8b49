-- Bodies, branches and calls, of their parts.
use Rattle.std.proofs.Common.{◌≡◌, ℕ, ◌+◌, ◌<◌, ◌≤◌, List, [], ◌∷◌, length, map, take, get_or, slice_get, Option, Some, option_map, refl, ap, sym, ◌∙◌, arith}
use Rattle.std.proofs.lemmas.List.{length-map, map-append, take_all, take_more}
use Rattle.cv_pool.specs.KindTree.{KindTree}
use Rattle.cv_pool.specs.Nodes.{ChildBelow}
use Rattle.cv_syntax_trees.specs.declared.head.Head.{Head}
use Rattle.cv_syntax_trees.specs.declared.head.Head.TheVariants as head
use Rattle.cv_syntax.specs.Postorder.{joined}
use Rattle.cv_syntax_trees.specs.Tree.{Tree, Empty, Node}
use Rattle.cv_syntax.specs.PoolTrees.{tree_at}
use Rattle.cv_meaning.specs.contexts.Inlined as bodies
use Rattle.cv_meaning.specs.contexts.Inlined.{Drawn, Own, Scope, cells_then, find_or_else, in_game, index_terms, inlined_body, with_call_of}
use Rattle.cv_inline.specs.declared.terms.caller.Caller.{Caller}
use Rattle.cv_inline.specs.declared.terms.calling.Calling.{Calling}
use Rattle.cv_inline.specs.declared.terms.scope.Entry.{Entry}
use Rattle.cv_inline.specs.terms.Callers.{caller_in}
use Rattle.cv_inline_sites.specs.listing.Callings.{callers_in}
use Rattle.cv_inline_sites.specs.listing.Subtrees.{IsNodeAt}
use Rattle.cv_inline_sites.specs.declared.listing.subtree.Subtree.{Subtree}
use Rattle.cv_inline_sites.specs.declared.listing.subtree.Parent.{Parent}
use Rattle.cv_inline_sites.specs.branches.Moves.{closed_branch, front}
use Rattle.cv_inline_sites.specs.pairs.Pairs.{Pair, pair_in}
use Rattle.cv_inline_walk.specs.declared.pieces.choices.Choice.{Choice}
use Rattle.cv_inline_walk.specs.declared.pieces.piece.Piece.{Piece}
use Rattle.cv_inline_walk.specs.pieces.Calls.{body_in, branch_in, find_in}
use Rattle.cv_inline_walk.specs.pieces.Choices.{branch_by, caller_of, choice_in, choices_over, onto}
use Rattle.cv_inline_sites.specs.pairs.Scopes.{scope_at}
use Rattle.cv_inline_walk.specs.pieces.Pieces.{Adds, AddsNodes, AddsResult, closed_if, listed}
use Rattle.cv_inline_walk.proofs.pieces.Adding.{both, same}
use Rattle.cv_inline_walk.proofs.pieces.Branches.{for_sites, listed_onto, onto_append}
use Rattle.cv_inline_walk.proofs.pieces.ByHead.{if_is, let_is, new_is}

module _ (trees : List KindTree) (d : Drawn) (callings : List Calling) (c : Caller) where
  -- what does to trees is a tree more
  abbrev AddsTree : List Piece → List Piece → ((Tree → Tree) → Tree) → Type 0
  AddsTree old new t = Adds trees d callings c old new (λ k ts. t k ∷ ts)

  pub same_tree : (old new : List Piece) (t u : (Tree → Tree) → Tree) → ((k : Tree → Tree) → t k ≡ u k) → AddsTree old new t → AddsTree old new u
  same_tree old new t u e a = same trees d callings c old new (λ k ts. t k ∷ ts) (λ k ts. u k ∷ ts) (λ k ts. ap (λ x. x ∷ ts) (e k)) a

  pub as_result : (scope : List Entry) (s : Subtree) (old new : List Piece) → ChildBelow (length trees) s.root → ((k : Tree → Tree) → k (in_game d (caller_in trees c) (scope_at c scope) (tree_at trees s.root)) ≡ body_in trees d callings c (scope_at c scope) s k) → AddsResult scope s.root old new →
      AddsTree old new (body_in trees d callings c (scope_at c scope) s)
  as_result scope s old new l e a = same_tree old new (λ k. k (in_game d (caller_in trees c) (scope_at c scope) (tree_at trees s.root))) (body_in trees d callings c (scope_at c scope) s) e (a trees d callings c l)

  pub bound : (old mid new : List Piece) (Σ Τ : Scope) (x : ℕ) (root : Subtree) (h : Head) → Τ ≡ (x, Own) ∷ Σ → AddsTree old mid (body_in trees d callings c Τ root) → AddsNodes mid new (joined h) →
      Adds trees d callings c old new (λ k ts. joined h (body_in trees d callings c ((x, Own) ∷ Σ) root k ∷ ts))
  bound old mid new Σ Τ x root h e a n =
      both trees d callings c old mid new (λ k ts. body_in trees d callings c ((x, Own) ∷ Σ) root k ∷ ts) (λ k ts. joined h ts)
      (same_tree old mid (body_in trees d callings c Τ root) (body_in trees d callings c ((x, Own) ∷ Σ) root) (λ k. ap (λ Υ. body_in trees d callings c Υ root k) e) a) (n trees d callings c)

  module _ (Σ : Scope) (s : Subtree) (n : Parent) (i : IsNodeAt trees s n) where
    abbrev whole : (Tree → Tree) → Tree
    whole k = body_in trees d callings c Σ s k

    pub new_body : (old mid new : List Piece) (z T v : ℕ) → n.head ≡ head.New z T → v ≡ d.variable c.number z → AddsNodes old mid (λ ts. Empty ∷ ts) →
        Adds trees d callings c mid new (λ k ts. joined (head.New v T) (body_in trees d callings c ((z, Own) ∷ Σ) n.second k ∷ ts)) → AddsTree old new whole
    new_body old mid new z T v e w a b =
        same_tree old new (λ k. Node (head.New v T) Empty (body_in trees d callings c ((z, Own) ∷ Σ) n.second k)) whole
        (λ k. ap (λ x. Node (head.New x T) Empty (body_in trees d callings c ((z, Own) ∷ Σ) n.second k)) w ∙ new_is d (callers_in trees callings) (caller_in trees c) Σ k trees s n z T i e)
        (both trees d callings c old mid new (λ k ts. Empty ∷ ts) (λ k ts. joined (head.New v T) (body_in trees d callings c ((z, Own) ∷ Σ) n.second k ∷ ts)) (a trees d callings c) b)

    pub let_body : (old mid new : List Piece) (z T v : ℕ) → n.head ≡ head.Let z T → v ≡ d.variable c.number z → AddsTree old mid (λ k. in_game d (caller_in trees c) Σ (tree_at trees n.first.root)) →
        Adds trees d callings c mid new (λ k ts. joined (head.Let v T) (body_in trees d callings c ((z, Own) ∷ Σ) n.second k ∷ ts)) → AddsTree old new whole
    let_body old mid new z T v e w a b =
        let m : Tree = in_game d (caller_in trees c) Σ (tree_at trees n.first.root) in
        same_tree old new (λ k. Node (head.Let v T) m (body_in trees d callings c ((z, Own) ∷ Σ) n.second k)) whole
        (λ k. ap (λ x. Node (head.Let x T) m (body_in trees d callings c ((z, Own) ∷ Σ) n.second k)) w ∙ let_is d (callers_in trees callings) (caller_in trees c) Σ k trees s n z T i e)
        (both trees d callings c old mid new (λ k ts. m ∷ ts) (λ k ts. joined (head.Let v T) (body_in trees d callings c ((z, Own) ∷ Σ) n.second k ∷ ts)) a b)

    pub two_bodies : (old one two three new : List Piece) (then other : Parent) → n.head ≡ head.If → IsNodeAt trees n.second then → IsNodeAt trees then.second other → AddsTree old one (λ k. in_game d (caller_in trees c) Σ (tree_at trees n.first.root)) →
        AddsTree one two (body_in trees d callings c Σ then.first) → AddsTree two three (body_in trees d callings c Σ other.first) → AddsNodes three new closed_if → AddsTree old new whole
    two_bodies old one two three new then other e t o a b f g =
        let m : Tree = in_game d (caller_in trees c) Σ (tree_at trees n.first.root) in
        same_tree old new (λ k. Node head.If m (Node head.Cons (body_in trees d callings c Σ then.first k) (Node head.Cons (body_in trees d callings c Σ other.first k) Empty))) whole
        (λ k. if_is d (callers_in trees callings) (caller_in trees c) Σ k trees s n then other i e t o)
        (both trees d callings c old three new (λ k ts. body_in trees d callings c Σ other.first k ∷ (body_in trees d callings c Σ then.first k ∷ (m ∷ ts))) (λ k ts. closed_if ts)
        (both trees d callings c old two three (λ k ts. body_in trees d callings c Σ then.first k ∷ (m ∷ ts)) (λ k ts. body_in trees d callings c Σ other.first k ∷ ts)
        (both trees d callings c old one two (λ k ts. m ∷ ts) (λ k ts. body_in trees d callings c Σ then.first k ∷ ts) a b) f) (g trees d callings c))

  pub one_branch : (Σ Τ : Scope) (p : ℕ) (q : Choice) (s : Calling) (root : Subtree) (old one two new : List Piece) → slice_get callings q.other ≡ Some s → root ≡ record { place = q.pair.place; root = q.pair.body } →
      Τ ≡ with_call_of Σ q.pair.index (index_terms c.replications.items) (d.index c.number p s.caller.number q.pair.number) (caller_in trees s.caller) →
      Adds trees d callings c old one (λ k ts. front d (caller_in trees c) Τ (d.index c.number p s.caller.number q.pair.number) (caller_in trees s.caller) (tree_at trees q.pair.cells) (tree_at trees q.pair.condition) ts) →
      AddsTree one two (body_in trees d callings c Τ root) → AddsNodes two new closed_branch → AddsTree old new (λ k. branch_in trees d callings c Σ p k q)
  one_branch Σ Τ p q s root old one two new g r τ a b e =
      let C = caller_in trees c in
      let S = caller_in trees s.caller in
      let name : ℕ → ℕ = d.index c.number p s.caller.number q.pair.number in
      let over : Scope → Subtree → (Tree → Tree) → List Tree → List Tree = λ Υ b k ts. closed_branch (body_in trees d callings c Υ b k ∷ front d C Υ name S (tree_at trees q.pair.cells) (tree_at trees q.pair.condition) ts) in
      same trees d callings c old new (over Τ root) (λ k ts. branch_in trees d callings c Σ p k q ∷ ts)
      (λ k ts. (λ i. over (τ i) (r i) k ts) ∙ ap (λ o. branch_by d C Σ (d.index c.number p) (λ l Υ b. inlined_body d (callers_in trees callings) C Υ l b k) (option_map (caller_of trees) o) (pair_in trees q.pair) ∷ ts) (sym g))
      (both trees d callings c old two new (λ k ts. body_in trees d callings c Τ root k ∷ front d C Τ name S (tree_at trees q.pair.cells) (tree_at trees q.pair.condition) ts) (λ k ts. closed_branch ts)
      (both trees d callings c old one two (λ k ts. front d C Τ name S (tree_at trees q.pair.cells) (tree_at trees q.pair.condition) ts) (λ k ts. body_in trees d callings c Τ root k ∷ ts) a b) (e trees d callings c))

  pub branch_of_parts : (Σ : Scope) (p : ℕ) (q : Choice) (s : Calling) (root : Subtree) (inner first second : List Entry) (x : Calling) (old one two new : List Piece) → first ≡ inner → second ≡ inner → slice_get callings q.other ≡ Some s → s ≡ x → root ≡ record { place = q.pair.place; root = q.pair.body } →
      scope_at c inner ≡ with_call_of Σ q.pair.index (index_terms c.replications.items) (d.index c.number p x.caller.number q.pair.number) (caller_in trees x.caller) →
      Adds trees d callings c old one (λ k ts. front d (caller_in trees c) (scope_at c first) (d.index c.number p s.caller.number q.pair.number) (caller_in trees s.caller) (tree_at trees q.pair.cells) (tree_at trees q.pair.condition) ts) →
      AddsTree one two (body_in trees d callings c (scope_at c second) root) → AddsNodes two new closed_branch → AddsTree old new (λ k. branch_in trees d callings c Σ p k q)
  branch_of_parts Σ p q s root inner first second x old one two new e f g i r τ a b w =
      one_branch Σ (scope_at c inner) p q s root old one two new g r (τ ∙ ap (λ (y : Calling). with_call_of Σ q.pair.index (index_terms c.replications.items) (d.index c.number p y.caller.number q.pair.number) (caller_in trees y.caller)) (sym i))
      (same trees d callings c old one (λ k ts. front d (caller_in trees c) (scope_at c first) (d.index c.number p s.caller.number q.pair.number) (caller_in trees s.caller) (tree_at trees q.pair.cells) (tree_at trees q.pair.condition) ts)
      (λ k ts. front d (caller_in trees c) (scope_at c inner) (d.index c.number p s.caller.number q.pair.number) (caller_in trees s.caller) (tree_at trees q.pair.cells) (tree_at trees q.pair.condition) ts)
      (λ k ts. ap (λ xs. front d (caller_in trees c) (scope_at c xs) (d.index c.number p s.caller.number q.pair.number) (caller_in trees s.caller) (tree_at trees q.pair.cells) (tree_at trees q.pair.condition) ts) e) a)
      (same_tree one two (body_in trees d callings c (scope_at c second) root) (body_in trees d callings c (scope_at c inner) root) (λ k. ap (λ xs. body_in trees d callings c (scope_at c xs) root k) f) b) w

  pub branches_more : (f : (Tree → Tree) → Choice → Tree) (xs : List Choice) (i : ℕ) (x : Choice) (old mid new : List Piece) → i < length xs → Adds trees d callings c old mid (λ k ts. onto (map (f k) (take i xs)) ts) → AddsTree mid new (λ k. f k (get_or xs i x)) →
      Adds trees d callings c old new (λ k ts. onto (map (f k) (take (i + 1) xs)) ts)
  branches_more f xs i x old mid new h a b =
      same trees d callings c old new (λ k ts. f k (get_or xs i x) ∷ onto (map (f k) (take i xs)) ts) (λ k ts. onto (map (f k) (take (i + 1) xs)) ts)
      (λ k ts. sym (ap (λ l. onto l ts) (ap (map (f k)) (take_more xs i x h) ∙ map-append (f k) (take i xs) (get_or xs i x ∷ [])) ∙ onto_append (map (f k) (take i xs)) (f k (get_or xs i x) ∷ []) ts))
      (both trees d callings c old mid new (λ k ts. onto (map (f k) (take i xs)) ts) (λ k ts. f k (get_or xs i x) ∷ ts) a b)

  pub branches_all : (f : (Tree → Tree) → Choice → Tree) (xs : List Choice) (i : ℕ) (old new : List Piece) → length xs ≤ i → Adds trees d callings c old new (λ k ts. onto (map (f k) (take i xs)) ts) → Adds trees d callings c old new (λ k ts. onto (map (f k) xs) ts)
  branches_all f xs i old new h a = same trees d callings c old new (λ k ts. onto (map (f k) (take i xs)) ts) (λ k ts. onto (map (f k) xs) ts) (λ k ts. ap (λ l. onto (map (f k) l) ts) (take_all i xs h)) a

  module _ (Σ : Scope) (p : ℕ) (list otherwise : Subtree) (found : List Choice) (e : map (choice_in trees callings) found ≡ choices_over (callers_in trees callings) list.place (tree_at trees list.root)) where
    abbrev branch : (Tree → Tree) → Choice → Tree
    branch k q = branch_in trees d callings c Σ p k q

    mapped : (k : Tree → Tree) (qs : List Choice) → map (λ (q : Option bodies.Caller × Pair). branch_by d (caller_in trees c) Σ (d.index c.number p) (λ l Υ b. inlined_body d (callers_in trees callings) (caller_in trees c) Υ l b k) q.0 q.1) (map (choice_in trees callings) qs) ≡ map (branch k) qs
    mapped k [] = refl
    mapped k (q ∷ qs) = ap (λ l. branch k q ∷ l) (mapped k qs)

    find_parts : (k : Tree → Tree) → find_or_else (d.label c.number p) (cells_then (map (branch k) found) Empty) (body_in trees d callings c Σ otherwise k) ≡ find_in trees d callings c Σ p list otherwise k
    find_parts k =
        let inner : ℕ → Scope → Tree → Tree = λ l Υ b. inlined_body d (callers_in trees callings) (caller_in trees c) Υ l b k in
        ap (λ t. find_or_else (d.label c.number p) t (body_in trees d callings c Σ otherwise k))
        (sym (for_sites d (callers_in trees callings) (caller_in trees c) Σ (d.index c.number p) k (callers_in trees callings) list.place (tree_at trees list.root)
        ∙ ap (λ l. cells_then l Empty) (ap (map (λ (q : Option bodies.Caller × Pair). branch_by d (caller_in trees c) Σ (d.index c.number p) inner q.0 q.1)) (sym e) ∙ mapped k found)))

    pub no_branches : (old new : List Piece) → found ≡ [] → AddsTree old new (body_in trees d callings c Σ otherwise) → AddsTree old new (find_in trees d callings c Σ p list otherwise)
    no_branches old new n a = same_tree old new (body_in trees d callings c Σ otherwise) (find_in trees d callings c Σ p list otherwise)
        (λ k. ap (λ l. find_or_else (d.label c.number p) (cells_then (map (branch k) l) Empty) (body_in trees d callings c Σ otherwise k)) (sym n) ∙ find_parts k) a

    with_node : (k : Tree → Tree) (qs : List Choice) (t : Tree) → 0 < length qs → Node (head.Find (d.label c.number p)) (cells_then (map (branch k) qs) Empty) t ≡ find_or_else (d.label c.number p) (cells_then (map (branch k) qs) Empty) t
    with_node k [] t h = absurd (omega arith)
    with_node k (q ∷ qs) t h = refl

    pub some_branches : (old one two three new : List Piece) (m l : ℕ) → 0 < length found → m ≡ length found → l ≡ d.label c.number p → Adds trees d callings c old one (λ k ts. onto (map (branch k) found) ts) → AddsNodes one two (λ ts. listed m (Empty ∷ ts)) →
        AddsTree two three (body_in trees d callings c Σ otherwise) → AddsNodes three new (joined (head.Find l)) → AddsTree old new (find_in trees d callings c Σ p list otherwise)
    some_branches old one two three new m l h many label a b o f =
        let other : (Tree → Tree) → Tree = body_in trees d callings c Σ otherwise in
        same trees d callings c old new (λ k ts. joined (head.Find l) (other k ∷ listed m (Empty ∷ onto (map (branch k) found) ts))) (λ k ts. find_in trees d callings c Σ p list otherwise k ∷ ts)
        (λ k ts.
        (λ i. joined (head.Find (label i)) (other k ∷ listed ((many ∙ sym (length-map found (branch k))) i) (Empty ∷ onto (map (branch k) found) ts)))
        ∙ (ap (λ l. joined (head.Find (d.label c.number p)) (other k ∷ l)) (listed_onto (map (branch k) found) ts Empty) ∙ ap (λ t. t ∷ ts) (with_node k found (other k) h ∙ find_parts k)))
        (both trees d callings c old three new (λ k ts. other k ∷ listed m (Empty ∷ onto (map (branch k) found) ts)) (λ k ts. joined (head.Find l) ts)
        (both trees d callings c old two three (λ k ts. listed m (Empty ∷ onto (map (branch k) found) ts)) (λ k ts. other k ∷ ts)
        (both trees d callings c old one two (λ k ts. onto (map (branch k) found) ts) (λ k ts. listed m (Empty ∷ ts)) a (b trees d callings c)) o) (f trees d callings c))

pub nothing_there : {A : Type 0} (xs : List A) → length xs ≡ 0 → xs ≡ []
nothing_there [] h = refl
nothing_there (x ∷ xs) h = absurd (omega arith)
