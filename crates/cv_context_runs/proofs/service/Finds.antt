-- Processes in the context, node by node, and branches of a `find`, which have the same candidates.
use Rattle.std.proofs.Common.{◌≡◌, ℕ, suc, ◌+◌, Bool, true, false, cond, ◌||◌, ◌==◌, max, List, [], ◌∷◌, ◌++◌, flat_map, length, Option, Some, None, is_some, refl, sym, ap, ap₂, subst, ◌∙◌, eqb-true}
use Rattle.std.proofs.lemmas.Bool.{both_ways, and_parts}
use Rattle.std.proofs.Math.Path.{fun_ext}
use Rattle.cv_syntax_trees.specs.declared.head.Head.{Head}
use Rattle.cv_syntax_trees.specs.declared.head.Head.TheVariants.{Leaf, Read, Cons, Branch, Name, Binder}
use Rattle.cv_syntax_trees.specs.Tree.{Tree, Empty, Node, reads_only}
use Rattle.cv_meaning.specs.Interpretation.{Setting}
use Rattle.cv_meaning.specs.Memory.{Indices, Store, tuple}
use Rattle.cv_meaning.specs.Terms.{is_one, values}
use Rattle.cv_meaning.specs.Binders.{binder_count, bound_to, fits, widest_binder}
use Rattle.cv_meaning.specs.Candidates.{Candidate, are_assigned, candidate, candidates, candidates_at, is_assigned, most_indices, tuples_up_to, widest}
use Rattle.cv_meaning.specs.Tapes.{Key_at, Tape}
use Rattle.cv_meaning_laws.specs.Agreement.{AgreeOn}
use Rattle.cv_meaning_laws.proofs.Agreeing.{value_agree, values_agree}
use Rattle.cv_scope_rules.specs.Context.{cell_of, first_position, replications_below, second_position}
use Rattle.cv_scope_rules.specs.Phrases.{Arm, Binders, Branches, Cells, Guarded, Guards, Indices as Names, Nil, Pattern, is_phrase}
use Rattle.cv_scope_rules.specs.declared.position.Position.{Position}
use Rattle.cv_scope_rules.specs.declared.position.Position.TheVariants as position
use Rattle.cv_scene.specs.Instances.{Call}
use Rattle.cv_scene.specs.Sites.{is_guard}
use Rattle.cv_scene.specs.Contexts.{after_calls, context_in, in_context, is_statement}
use Rattle.cv_scene.specs.Reductions.{Reduction, is_coin, is_plain, matching}
use Rattle.cv_scene.specs.Apt.{AreBindersPlain, IsApt, IsAptGame, are_cells_apt, has_value, inside, is_cell_apt}
use Rattle.cv_match_laws.proofs.values.Numbers.{context}
use Rattle.cv_context_runs.proofs.service.Kept.{KeptStores, put_bound, where_there}

-- the parts of a branch

pub arm_of : (a more : Tree) → is_phrase Branches (Node Cons a more) ≡ true → is_phrase Arm a ≡ true
unfolding is_phrase
arm_of a more e = (and_parts (is_phrase Arm a) (is_phrase Branches more) e).0

pub guards_of : (us rest more : Tree) → is_phrase Branches (Node Cons (Node Branch us rest) more) ≡ true → is_phrase Guards rest ≡ true
unfolding is_phrase
guards_of us rest more e = (and_parts (is_phrase Binders us) (is_phrase Guards rest) (arm_of (Node Branch us rest) more e)).1

pub guarded_of : (us cells rest more : Tree) → is_phrase Branches (Node Cons (Node Branch us (Node Cons cells rest)) more) ≡ true → is_phrase Guarded rest ≡ true
unfolding is_phrase
guarded_of us cells rest more e = (and_parts (is_phrase Cells cells) (is_phrase Guarded rest) (guards_of us (Node Cons cells rest) more e)).1

module _ (r : Reduction) (fine : IsAptGame r) where
  -- a node that is no term
  pub node_in : (w : Position) (rs : List (ℕ × ℕ)) (j : ℕ) (h : Head) (a b : Tree) → has_value (Node h a b) ≡ false
      → context r w rs j (Node h a b) ≡ after_calls r.answer j (cond (is_statement h) (inside r w rs h a) [])
      (in_context (matching r) (is_coin r) h (cond (is_guard w) a (context r (first_position w h) rs j a)) (context r (second_position w h) (replications_below h rs) (j + length (inside r w rs h a)) b))
  unfolding context_in
  node_in w rs j h a b e =
      ap (λ (o : Option Call). elim o as (λ _. Tree) [
        | Some c ↦ cell_of rs (r.answer j)
        | None ↦ after_calls r.answer j (cond (is_statement h) (inside r w rs h a) [])
            (in_context (matching r) (is_coin r) h (cond (is_guard w) a (context r (first_position w h) rs j a)) (context r (second_position w h) (replications_below h rs) (j + length (inside r w rs h a)) b))
      ]) (fine.terms (Node h a b) e)

  -- phrases that have no terms

  pub empty_in : (w : Position) (rs : List (ℕ × ℕ)) (j : ℕ) → context r w rs j Empty ≡ Empty
  unfolding context_in
  empty_in w rs j = refl

  pub nil_in : (rs : List (ℕ × ℕ)) (j : ℕ) (a : Tree) → is_phrase Nil a ≡ true → context r position.Anywhere rs j a ≡ a
  unfolding is_phrase
  nil_in rs j Empty e = empty_in position.Anywhere rs j
  nil_in rs j (Node h a b) e = absurd (both_ways false refl e)

  pub names_in : (rs : List (ℕ × ℕ)) (j : ℕ) (a : Tree) → is_phrase Names a ≡ true → context r position.Anywhere rs j a ≡ a
  unfolding is_phrase
  names_in rs j Empty e = empty_in position.Anywhere rs j
  names_in rs j (Node (Name i) a b) e =
      let p = and_parts (is_phrase Nil a) _ e in
      node_in position.Anywhere rs j (Name i) a b refl ∙ ap₂ (Node (Name i)) (nil_in rs j a p.0) (names_in rs (j + length (inside r position.Anywhere rs (Name i) a)) b p.1)
  names_in rs j (Node h a b) e = absurd (both_ways false refl e)

  pub binders_in : (rs : List (ℕ × ℕ)) (j : ℕ) (a : Tree) → is_phrase Binders a ≡ true → context r position.Anywhere rs j a ≡ a
  unfolding is_phrase
  binders_in rs j Empty e = empty_in position.Anywhere rs j
  binders_in rs j (Node (Binder x T) a b) e =
      let p = and_parts (is_phrase Nil a) _ e in
      node_in position.Anywhere rs j (Binder x T) a b refl ∙ ap₂ (Node (Binder x T)) (nil_in rs j a p.0) (binders_in rs (j + length (inside r position.Anywhere rs (Binder x T) a)) b p.1)
  binders_in rs j (Node h a b) e = absurd (both_ways false refl e)

  pub pattern_in : (rs : List (ℕ × ℕ)) (j : ℕ) (a : Tree) → is_phrase Pattern a ≡ true → context r position.Anywhere rs j a ≡ a
  unfolding is_phrase
  pattern_in rs j Empty e = absurd (both_ways false refl e)
  pattern_in rs j (Node Cons a b) e =
      let p = and_parts (is_phrase Names a) _ e in
      node_in position.Anywhere rs j Cons a b refl ∙ ap₂ (Node Cons) (names_in rs j a p.0) (binders_in rs (j + length (inside r position.Anywhere rs Cons a)) b p.1)
  pattern_in rs j (Node h a b) e = absurd (both_ways false refl e)

  -- a branch, and those behind it

  abbrev pub arm : (us cells c b : Tree) → Tree
  arm us cells c b = Node Branch us (Node Cons cells (Node Cons c b))

  abbrev pub body_number : List (ℕ × ℕ) → ℕ → Tree → ℕ
  body_number rs j us = j + length (inside r position.Anywhere rs Branch us) + 0 + 0

  pub branch_in : (rs : List (ℕ × ℕ)) (j : ℕ) (us cells c b more : Tree) → is_phrase Binders us ≡ true
      → context r position.Branches rs j (Node Cons (arm us cells c b) more)
      ≡ Node Cons (arm us cells c (context r position.Anywhere rs (body_number rs j us) b)) (context r position.Branches rs (j + length (inside r position.Branches rs Cons (arm us cells c b))) more)
  branch_in rs j us cells c b more e =
      node_in position.Branches rs j Cons (arm us cells c b) more refl
      ∙ ap (λ z. Node Cons z (context r position.Branches rs (j + length (inside r position.Branches rs Cons (arm us cells c b))) more))
      (node_in position.Anywhere rs j Branch us (Node Cons cells (Node Cons c b)) refl
      ∙ ap₂ (Node Branch) (binders_in rs j us e)
      (node_in position.Guards rs (j + length (inside r position.Anywhere rs Branch us)) Cons cells (Node Cons c b) refl
      ∙ ap (Node Cons cells) (node_in position.Guarded rs (j + length (inside r position.Anywhere rs Branch us) + 0) Cons c b refl)))

  module _ (g : Setting) (at : Indices) (t : Tape) where
    some_same : (m n : Store) → KeptStores r t m n → (x : ℕ) (u : List ℕ) → is_plain r x || (x == r.key) ≡ true → is_some (m x u) ≡ is_some (n x u)
    some_same m n k x u e = go (is_plain r x) refl e
      where
        same : (o : Option ℕ) (v : ℕ) → is_some (where_there o v) ≡ is_some o
        same None v = refl
        same (Some w) v = refl

        go : (b : Bool) → is_plain r x ≡ b → b || (x == r.key) ≡ true → is_some (m x u) ≡ is_some (n x u)
        go true p z = ap is_some (k.plain x u p)
        go false p z =
            let is : x ≡ r.key = eqb-true x r.key z in
            ap (λ y. is_some (m y u)) is ∙ ap is_some (k.key u) ∙ same (n r.key u) (t (Key_at u)) ∙ ap (λ y. is_some (n y u)) (sym is)

    cell_same : (m n o p : Store) → KeptStores r t m n → AgreeOn (is_plain r) o p → (c : Tree) → is_cell_apt r c ≡ true → is_assigned g at m o c ≡ is_assigned g at n p c
    cell_same m n o p k s Empty e = refl
    cell_same m n o p k s (Node (Leaf x) a b) e = some_same m n k x [] e
    cell_same m n o p k s (Node (Read x) a b) e =
        let q = and_parts (is_plain r x || (x == r.key)) _ e in
        some_same m n k x (values g at o a) q.0 ∙ ap (λ u. is_some (n x u)) (values_agree g at (is_plain r) o p s a q.1)
    cell_same m n o p k s (Node h a b) e = refl

    cells_same : (m n o p : Store) → KeptStores r t m n → AgreeOn (is_plain r) o p → (cells : Tree) → are_cells_apt r cells ≡ true → are_assigned g at m o cells ≡ are_assigned g at n p cells
    unfolding are_cells_apt
    cells_same m n o p k s Empty e = refl
    cells_same m n o p k s (Node h c more) e =
        let q = and_parts (is_cell_apt r c) _ e in
        ap₂ (λ (x y : Bool). elim x [ true ↦ y | false ↦ false ]) (cell_same m n o p k s c q.0) (cells_same m n o p k s more q.1)

    candidate_same : (m n : Store) → KeptStores r t m n → (us cells c b d : Tree) → AreBindersPlain r us → are_cells_apt r cells ≡ true → reads_only (is_plain r) c ≡ true → (u : List ℕ) (l : ℕ)
        → candidate g at m u l (arm us cells c b) ≡ candidate g at n u l (arm us cells c d)
    candidate_same m n k us cells c b d p e f u l =
        let o : Store = bound_to m (tuple at) us u in
        let q : Store = bound_to n (tuple at) us u in
        let kept : KeptStores r t o q = put_bound r t m n (tuple at) us u p k in
        let one : List Candidate = record { branch = l; tuple = u } ∷ [] in
        ap₂ (λ (x y : Bool). elim (fits g.interpretation.parameter_value us u) as (λ _. List Candidate) [
          | true ↦ cond (elim x [ true ↦ y | false ↦ false ]) one []
          | false ↦ []
        ])
        (cells_same m n o q k kept.plain cells e) (ap is_one (value_agree g at (is_plain r) o q kept.plain c f))

    record SameBranches (m n : Store) (a c : Tree) : Type 0 where
      offers : (u : List ℕ) (l : ℕ) → candidates_at g at m u l a ≡ candidates_at g at n u l c
      most : most_indices a ≡ most_indices c
      wide : widest g.interpretation.parameter_value a ≡ widest g.interpretation.parameter_value c

    no_branches : (m n : Store) → SameBranches m n Empty Empty
    unfolding candidates_at
    no_branches m n = record { offers = λ u l. refl; most = refl; wide = refl }

    more_branches : (m n : Store) → KeptStores r t m n → (us cells c b d more rest : Tree) → AreBindersPlain r us → are_cells_apt r cells ≡ true → reads_only (is_plain r) c ≡ true → SameBranches m n more rest
        → SameBranches m n (Node Cons (arm us cells c b) more) (Node Cons (arm us cells c d) rest)
    unfolding candidates_at
    more_branches m n k us cells c b d more rest p e f s = record {
      offers = λ u l. ap₂ ◌++◌ (candidate_same m n k us cells c b d p e f u l) (s.offers u (suc l));
      most = ap (max (binder_count us)) s.most;
      wide = ap (max (widest_binder g.interpretation.parameter_value us)) s.wide;
    }

    branches_same : (m n : Store) → KeptStores r t m n → (a : Tree) (rs : List (ℕ × ℕ)) (j : ℕ) → is_phrase Branches a ≡ true → IsApt r Branches rs j a → SameBranches m n a (context r position.Branches rs j a)
    unfolding is_phrase IsApt
    branches_same m n k Empty rs j e s = subst (SameBranches m n Empty) (sym (empty_in position.Branches rs j)) (no_branches m n)
    branches_same m n k (Node Cons (Node Branch us (Node Cons cells (Node Cons c b))) more) rs j e s =
        let p = and_parts (is_phrase Arm (arm us cells c b)) _ e in
        let q = and_parts (is_phrase Binders us) _ p.0 in
        subst (SameBranches m n (Node Cons (arm us cells c b) more)) (sym (branch_in rs j us cells c b more q.0))
        (more_branches m n k us cells c b _ more _ s.1.0.0 s.1.0.1.1.0 s.1.0.1.1.1.1.0 (branches_same m n k more rs (j + length (inside r position.Branches rs Cons (arm us cells c b))) p.1 s.1.1))
    branches_same m n k (Node Cons (Node Branch us (Node Cons cells rest)) more) rs j e s = absurd (both_ways false refl (guarded_of us cells rest more e))
    branches_same m n k (Node Cons (Node Branch us rest) more) rs j e s = absurd (both_ways false refl (guards_of us rest more e))
    branches_same m n k (Node Cons a more) rs j e s = absurd (both_ways false refl (arm_of a more e))
    branches_same m n k (Node h a b) rs j e s = absurd (both_ways false refl e)

    pub candidates_in : (m n : Store) → KeptStores r t m n → (a : Tree) (rs : List (ℕ × ℕ)) (j : ℕ) → is_phrase Branches a ≡ true → IsApt r Branches rs j a → candidates g at m a ≡ candidates g at n (context r position.Branches rs j a)
    unfolding candidates
    candidates_in m n k a rs j e s =
        let b = branches_same m n k a rs j e s in
        ap₂ (λ d l. flat_map (λ u. candidates_at g at m u 0 a) (tuples_up_to d l)) b.most b.wide
        ∙ ap (λ f. flat_map f (tuples_up_to (most_indices (context r position.Branches rs j a)) (widest g.interpretation.parameter_value (context r position.Branches rs j a)))) (fun_ext (λ u. b.offers u 0))
