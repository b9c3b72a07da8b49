-- How large the next game of a context is, before it is made. Where bodies of calls have several results, the next game has a
-- copy of what follows for each; all copies of a place are measured together. This profile's own.
use Rattle.std.specs.Prelude.{ℕ, suc, ◌+◌, ◌*◌, max, ◌==◌, if◌then◌else◌, List, [], ◌∷◌, map, flat_map, Option, Some, None}
use Rattle.cv_syntax_trees.specs.declared.head.Head.TheVariants.{In, Out, Event, New, Let, If, Find, Branch, Leaf, Read, No, Cons, Binder, Key, Call}
use Rattle.cv_syntax_trees.specs.Head.{weight}
use Rattle.cv_syntax_trees.specs.Tree.{Tree, Empty, Node, lone, binders, chain, second, first_place, second_place}
use Rattle.cv_meaning.specs.contexts.Bodies.{body_place}
use Rattle.cv_meaning.specs.contexts.Inlined.{Drawn, Caller, Scope, TheKey, Own, all_equal, branch_indices, cells_in_game, cells_then, each_once, in_game, index_moves, index_terms, is_index_of, moved, needed, with_call_of}
use Rattle.cv_inline.specs.NextGame.{Calling, InlinedCalls, callers_of, numbered}

-- what trees are measured by
pub record Measure : Type 0 where
  -- of parts side by side
  pub join : ℕ → ℕ → ℕ
  -- of a part that stands in each copy, over the copies
  pub along : (part copies : ℕ) → ℕ
  pub one_copy : ℕ
  -- of one copy below a node, by the weight of the node
  pub below : ℕ → ℕ

-- all syntax nodes: there are as many copies as places for them
abbrev pub all_nodes : Measure
all_nodes = record { join = ◌+◌; along = ◌*◌; one_copy = 1; below = λ w. 1 }

-- the syntax nodes of the longest path: of the copies the deepest counts
abbrev pub longest_path : Measure
longest_path = record { join = max; along = ◌+◌; one_copy = 0; below = λ w. w }

-- what a body adds to a game: nodes of its own, places of results, and these results; each behind a number of nodes
pub record Extent : Type 0 where
  pub own : ℕ
  pub places : ℕ
  pub results : ℕ

-- an answer, with what its results have over all copies
abbrev pub Answers : Type 0
Answers = List (ℕ × ℕ)

-- the newest first
abbrev pub answer_or : ℕ → Answers → ℕ → ℕ
answer_or n [] x = n
answer_or n (r ∷ rs) x = if r.0 == x then r.1 else answer_or n rs x

module _ (μ : Measure) where
  -- of a node, by what its children have
  abbrev pub over_node : (copies weight first second : ℕ) → ℕ
  over_node c w m n = μ.join (μ.along w c) (μ.along (μ.below w) (μ.join m n))

  unfoldable pub extent : Tree → ℕ
  extent Empty = 0
  extent (Node h a b) = over_node μ.one_copy (weight h) (extent a) (extent b)

  -- bodies

  abbrev pub of_result : Tree → Extent
  of_result m = record { own = 0; places = μ.one_copy; results = extent m }

  abbrev pub beside : Extent → Extent → Extent
  beside e f = record { own = μ.join e.own f.own; places = μ.join e.places f.places; results = μ.join e.results f.results }

  -- below a node of this weight, beside parts of its own
  abbrev pub under : (weight parts : ℕ) → Extent → Extent
  under w n e =
      record {
        own = over_node μ.one_copy w n e.own;
        places = μ.along (μ.below w) e.places;
        results = μ.along (μ.below w) e.results;
      }

  abbrev pub all_beside : List Extent → Extent → Extent
  all_beside [] e = e
  all_beside (f ∷ fs) e = all_beside fs (beside f e)

  -- a find without branches is its else
  abbrev pub of_find : List Extent → Extent → Extent
  of_find [] e = e
  of_find (f ∷ fs) e = under 1 0 (all_beside (f ∷ fs) e)

  -- what stands before the body in the branch for calls of a site
  abbrev pub front : Drawn → Caller → Scope → (ℕ → ℕ) → Caller → (cells condition : Tree) → ℕ
  front d c Σ name s cells condition =
      let ms : List (ℕ × Tree) = index_moves (index_terms c.replications) name 0 s.replications in
      extent (chain
      (binders (branch_indices name 0 s.replications)
      ∷ cells_then (map (moved ms) (each_once (needed (is_index_of s.replications) s.key))) (cells_in_game d c Σ cells)
      ∷ all_equal (moved ms s.key) c.key (in_game d c Σ condition) ∷ []))

  unfoldable mutual
    pub of_body : Drawn → List Caller → Caller → Scope → (place : ℕ) → Tree → Extent
    of_body d ss c Σ p (Node (New z T) a b) = under 1 0 (of_body d ss c ((z, Own) ∷ Σ) (second_place p (New z T) a) b)
    of_body d ss c Σ p (Node (Let z T) a b) = under 1 (extent (in_game d c Σ a)) (of_body d ss c ((z, Own) ∷ Σ) (second_place p (Let z T) a) b)
    of_body d ss c Σ p (Node If a (Node h b (Node j e f))) =
        under 1 (extent (in_game d c Σ a)) (beside (of_body d ss c Σ (first_place (second_place p If a) h) b) (of_body d ss c Σ (first_place (second_place (second_place p If a) h b) j) e))
    of_body d ss c Σ p (Node (Find l) a b) =
        of_find (flat_map (λ s. of_branches d ss c Σ p s 0 (first_place p (Find l)) a) ss) (of_body d ss c Σ (second_place p (Find l) a) b)
    of_body d ss c Σ p m = of_result (in_game d c Σ m)

    -- the branches of the find at p for calls of a site, from number k and place r on
    pub of_branches : Drawn → List Caller → Caller → Scope → (p : ℕ) → Caller → (k r : ℕ) → Tree → List Extent
    of_branches d ss c Σ p s k r (Node Cons (Node Branch (Node (Binder u n) x y) (Node Cons cells (Node Cons m body))) more) =
        let Τ : Scope = with_call_of Σ u (index_terms c.replications) (d.index c.number p s.number k) s in
        let rest : List Extent = of_branches d ss c Σ p s (suc k) (second_place r Cons (Node Branch (Node (Binder u n) x y) (Node Cons cells (Node Cons m body)))) more in
        if s.bound == n
        then under 1 (front d c Τ (d.index c.number p s.number k) s cells m) (of_body d ss c Τ (body_place r Cons Branch (Node (Binder u n) x y) Cons cells Cons m) body) ∷ rest
        else rest
    of_branches d ss c Σ p s k r _ = []

  -- a call: its arguments are assigned, and then comes the body
  unfoldable pub of_call : Drawn → List Caller → Caller → Scope → List (ℕ × ℕ) → (arguments body : Tree) → Extent
  of_call d ss c Σ (x ∷ xs) (Node h m more) body = under 1 (extent m) (of_call d ss c ((x.0, Own) ∷ Σ) xs more body)
  of_call d ss c Σ _ _ body = of_body d ss c Σ 0 body

  abbrev pub of_call_at : InlinedCalls → Option Calling → (arguments : Tree) → Extent
  of_call_at i None ms = of_result (lone No)
  of_call_at i (Some c) ms = of_call i.drawn (callers_of i.callings) c.caller ((i.group.key.0, TheKey) ∷ []) c.function.arguments ms c.function.body

  -- games, over all copies of a place

  abbrev pub copies_of : (copies : ℕ) → Tree → ℕ
  copies_of c t = μ.along (extent t) c

  abbrev pub all_along : ℕ → Answers → Answers
  all_along n rs = map (λ (r : ℕ × ℕ). (r.0, μ.along n r.1)) rs

  -- a term with results for answers
  unfoldable pub with_answers : (copies : ℕ) → Answers → Tree → ℕ
  with_answers c rs Empty = μ.along 0 c
  with_answers c rs (Node (Leaf x) a b) = answer_or (copies_of c (Node (Leaf x) a b)) rs x
  with_answers c rs (Node (Read x) a b) = answer_or (copies_of c (Node (Read x) a b)) rs x
  with_answers c rs (Node h a b) = over_node c (weight h) (with_answers c rs a) (with_answers c rs b)

  -- the tree of the next game, where these are the answers of the calls of the statement
  unfoldable pub of_game : InlinedCalls → (copies : ℕ) → Answers → Tree → ℕ
  of_game i c rs Empty = μ.along 0 c
  of_game i c rs (Node (Key x) a b) = over_node c 1 (μ.along 0 c) (of_game i c [] b)
  of_game i c rs (Node (Call x l) a b) =
      let e : Extent = of_call_at i (numbered l i.callings) (second a) in
      μ.join (μ.along e.own c) (of_game i (μ.along e.places c) ((x, μ.along e.results c) ∷ all_along e.places rs) b)
  of_game i c rs (Node (Let x T) a b) = over_node c 1 (with_answers c rs a) (of_game i c [] b)
  of_game i c rs (Node If a b) = over_node c 1 (with_answers c rs a) (of_game i c [] b)
  of_game i c rs (Node (Event e) a b) = over_node c 1 (with_answers c rs a) (of_game i c [] b)
  of_game i c rs (Node (Out o) a b) = over_node c 1 (with_answers c rs a) (of_game i c [] b)
  of_game i c rs (Node (In o) a b) = over_node c 1 (copies_of c a) (of_game i c [] b)
  of_game i c rs (Node Branch a b) = over_node c 1 (copies_of c a) (of_game i c [] b)
  of_game i c rs (Node (Leaf x) a b) = over_node c 1 (copies_of c a) (copies_of c b)
  of_game i c rs (Node (Read x) a b) = over_node c 1 (copies_of c a) (copies_of c b)
  of_game i c rs (Node h a b) = over_node c (weight h) (of_game i c [] a) (of_game i c [] b)
