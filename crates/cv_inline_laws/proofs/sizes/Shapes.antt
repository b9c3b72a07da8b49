-- Trees that differ in names and labels alone, and terms of right bodies with different drawn names.
use Rattle.std.proofs.Common.{◌≡◌, ℕ, suc, Bool, true, false, cond, ◌==◌, List, [], ◌∷◌, map, Option, Some, None, refl, sym, subst}
use Rattle.cv_syntax_trees.specs.declared.head.Head.TheVariants.{Leaf, Read, Eq, No}
use Rattle.cv_syntax_trees.specs.Head.{weight}
use Rattle.cv_syntax_trees.specs.Tree.{Tree, Empty, Node, binders, chain, first, lone}
use Rattle.cv_meaning.specs.contexts.Inlined.{Drawn, Caller, CallOf, Own, Scope, Standing, TheKey, all_equal, and_equal, array_in_game, branch_indices, call_in, called, cell_in_game, cells_in_game, cells_then, each_once, in_game, index_moves, index_reads, index_terms, indices_equal, is_index_of, is_own, leaf_in_game, moved, moved_leaf, needed, own_variable, read_at, standing_of, tuples_equal, with_call_of}
use Rattle.cv_inline_laws.specs.extents.Extents.{Measure, extent, front, over_node}

-- the same tree but for names that weigh nothing

abbrev pub AreAlike : Tree → Tree → Type 0
AreAlike Empty Empty = Unit {0}
AreAlike (Node h a b) (Node k c d) = (weight h ≡ weight k) × AreAlike a c × AreAlike b d
AreAlike _ _ = ⊥

pub same : (t : Tree) → AreAlike t t
same Empty = tt
same (Node h a b) = (refl, same a, same b)

pub extents_same : (μ : Measure) (t u : Tree) → AreAlike t u → extent μ t ≡ extent μ u
unfolding extent
extents_same μ Empty Empty h = refl
extents_same μ (Node h a b) (Node k c d) e = λ i. over_node μ μ.one_copy (e.0 i) (extents_same μ a c e.1 i) (extents_same μ b d e.2 i)
extents_same μ Empty (Node k c d) e = absurd e
extents_same μ (Node h a b) Empty e = absurd e

-- lists of trees
abbrev pub AllAlike : List Tree → List Tree → Type 0
AllAlike [] [] = Unit {0}
AllAlike (t ∷ ts) (u ∷ us) = AreAlike t u × AllAlike ts us
AllAlike _ _ = ⊥

pub reads_alike : (x y : ℕ) (t u : Tree) → AreAlike t u → AreAlike (read_at x t) (read_at y u)
reads_alike x y Empty Empty h = (refl, tt, tt)
reads_alike x y (Node h a b) (Node k c d) e = (refl, e, tt)
reads_alike x y Empty (Node k c d) e = absurd e
reads_alike x y (Node h a b) Empty e = absurd e

-- what names stand for

abbrev pub StandAlike : Standing → Standing → Type 0
StandAlike TheKey TheKey = Unit {0}
StandAlike Own Own = Unit {0}
StandAlike (CallOf r t) (CallOf s u) = (r ≡ s) × AreAlike t u
StandAlike _ _ = ⊥

abbrev pub MayStandAlike : Option Standing → Option Standing → Type 0
MayStandAlike None None = Unit {0}
MayStandAlike (Some p) (Some q) = StandAlike p q
MayStandAlike _ _ = ⊥

abbrev pub ScopesAlike : Scope → Scope → Type 0
ScopesAlike [] [] = Unit {0}
ScopesAlike (p ∷ ps) (q ∷ qs) = (p.0 ≡ q.0) × StandAlike p.1 q.1 × ScopesAlike ps qs
ScopesAlike _ _ = ⊥

pub scope_same : (Σ : Scope) → ScopesAlike Σ Σ
scope_same [] = tt
scope_same (p ∷ ps) = (refl, standing_same p.1, scope_same ps)
  where
    standing_same : (s : Standing) → StandAlike s s
    standing_same TheKey = tt
    standing_same Own = tt
    standing_same (CallOf r t) = (refl, same t)

standing_alike : (Σ Τ : Scope) (x : ℕ) → ScopesAlike Σ Τ → MayStandAlike (standing_of Σ x) (standing_of Τ x)
standing_alike [] [] x h = tt
standing_alike (p ∷ ps) (q ∷ qs) x h =
    subst (λ n. MayStandAlike (cond (n == x) (Some p.1) (standing_of ps x)) (cond (q.0 == x) (Some q.1) (standing_of qs x))) (sym h.0) (go (q.0 == x) (standing_alike ps qs x h.2))
  where
    go : (b : Bool) → MayStandAlike (standing_of ps x) (standing_of qs x) → MayStandAlike (cond b (Some p.1) (standing_of ps x)) (cond b (Some q.1) (standing_of qs x))
    go true i = h.1
    go false i = i
standing_alike _ _ x h = absurd h

abbrev pub CallsAlike : Option (ℕ × Tree) → Option (ℕ × Tree) → Type 0
CallsAlike None None = Unit {0}
CallsAlike (Some j) (Some k) = (j.0 ≡ k.0) × AreAlike j.1 k.1
CallsAlike _ _ = ⊥

called_alike : (o p : Option Standing) → MayStandAlike o p → CallsAlike (called o) (called p)
called_alike None None h = tt
called_alike (Some TheKey) (Some TheKey) h = tt
called_alike (Some Own) (Some Own) h = tt
called_alike (Some (CallOf r t)) (Some (CallOf s u)) h = h
called_alike _ _ h = absurd h

call_alike : (Σ Τ : Scope) (t : Tree) → ScopesAlike Σ Τ → CallsAlike (call_in Σ t) (call_in Τ t)
call_alike Σ Τ (Node (Leaf u) a b) h = called_alike (standing_of Σ u) (standing_of Τ u) (standing_alike Σ Τ u h)
call_alike Σ Τ t h = tt

-- equations

and_alike : (m n t u v w : Tree) → AreAlike m n → AreAlike t u → AreAlike v w → AreAlike (and_equal m t v) (and_equal n u w)
unfolding and_equal
and_alike m n (Node h a more) (Node k b rest) (Node i c left) (Node j d last) e f g = (refl, e, and_alike (Node Eq a c) (Node Eq b d) more rest left last (refl, f.1, g.1) f.2 g.2)
and_alike m n Empty Empty v w e f g = e
and_alike m n (Node h a more) (Node k b rest) Empty Empty e f g = e
and_alike m n (Node h a more) (Node k b rest) Empty (Node j d last) e f g = absurd g
and_alike m n (Node h a more) (Node k b rest) (Node i c left) Empty e f g = absurd g
and_alike m n Empty (Node k b rest) v w e f g = absurd f
and_alike m n (Node h a more) Empty v w e f g = absurd f

all_alike : (t u v w m n : Tree) → AreAlike t u → AreAlike v w → AreAlike m n → AreAlike (all_equal t v m) (all_equal u w n)
unfolding all_equal
all_alike (Node h a more) (Node k b rest) (Node i c left) (Node j d last) m n f g e = (refl, (refl, f.1, g.1), all_alike more rest left last m n f.2 g.2 e)
all_alike Empty Empty v w m n f g e = e
all_alike (Node h a more) (Node k b rest) Empty Empty m n f g e = e
all_alike (Node h a more) (Node k b rest) Empty (Node j d last) m n f g e = absurd g
all_alike (Node h a more) (Node k b rest) (Node i c left) Empty m n f g e = absurd g
all_alike Empty (Node k b rest) v w m n f g e = absurd f
all_alike (Node h a more) Empty v w m n f g e = absurd f

tuples_alike : (t u v w : Tree) → AreAlike t u → AreAlike v w → AreAlike (tuples_equal t v) (tuples_equal u w)
tuples_alike (Node h a more) (Node k b rest) (Node i c left) (Node j d last) f g = and_alike (Node Eq a c) (Node Eq b d) more rest left last (refl, f.1, g.1) f.2 g.2
tuples_alike Empty Empty v w f g = (refl, tt, tt)
tuples_alike (Node h a more) (Node k b rest) Empty Empty f g = (refl, tt, tt)
tuples_alike (Node h a more) (Node k b rest) Empty (Node j d last) f g = absurd g
tuples_alike (Node h a more) (Node k b rest) (Node i c left) Empty f g = absurd g
tuples_alike Empty (Node k b rest) v w f g = absurd f
tuples_alike (Node h a more) Empty v w f g = absurd f

indices_alike : (j k o p : Option (ℕ × Tree)) (m n : Tree) → CallsAlike j k → CallsAlike o p → AreAlike m n → AreAlike (indices_equal j o m) (indices_equal k p n)
indices_alike (Some j) (Some k) (Some o) (Some p) m n f g e =
    subst (λ x. AreAlike (cond (x == o.0) (tuples_equal j.1 o.1) (lone No)) (cond (k.0 == p.0) (tuples_equal k.1 p.1) (lone No))) (sym f.0)
    (subst (λ x. AreAlike (cond (k.0 == x) (tuples_equal j.1 o.1) (lone No)) (cond (k.0 == p.0) (tuples_equal k.1 p.1) (lone No))) (sym g.0) (go (k.0 == p.0)))
  where
    go : (b : Bool) → AreAlike (cond b (tuples_equal j.1 o.1) (lone No)) (cond b (tuples_equal k.1 p.1) (lone No))
    go true = tuples_alike j.1 k.1 o.1 p.1 f.1 g.1
    go false = (refl, tt, tt)
indices_alike None None None None m n f g e = e
indices_alike None None (Some o) (Some p) m n f g e = e
indices_alike (Some j) (Some k) None None m n f g e = e
indices_alike None None None (Some p) m n f g e = absurd g
indices_alike None None (Some o) None m n f g e = absurd g
indices_alike (Some j) (Some k) None (Some p) m n f g e = absurd g
indices_alike (Some j) (Some k) (Some o) None m n f g e = absurd g
indices_alike None (Some k) o p m n f g e = absurd f
indices_alike (Some j) None o p m n f g e = absurd f

-- what a site's own indices stand for

abbrev pub MovesAlike : List (ℕ × Tree) → List (ℕ × Tree) → Type 0
MovesAlike [] [] = Unit {0}
MovesAlike (p ∷ ps) (q ∷ qs) = (p.0 ≡ q.0) × AreAlike p.1 q.1 × MovesAlike ps qs
MovesAlike _ _ = ⊥

moves_alike : (here : Tree) (f g : ℕ → ℕ) (k : ℕ) (rs : List (ℕ × ℕ)) → MovesAlike (index_moves here f k rs) (index_moves here g k rs)
moves_alike here f g k [] = tt
moves_alike here f g k (r ∷ rs) = (refl, reads_alike (f k) (g k) here here (same here), moves_alike here f g (suc k) rs)

pub tuple_alike : (here : Tree) (f g : ℕ → ℕ) (k : ℕ) (rs : List (ℕ × ℕ)) → AreAlike (index_reads here f k rs) (index_reads here g k rs)
tuple_alike here f g k [] = tt
tuple_alike here f g k (r ∷ rs) = (refl, reads_alike (f k) (g k) here here (same here), tuple_alike here f g (suc k) rs)

leaf_moved : (ms ns : List (ℕ × Tree)) (x : ℕ) → MovesAlike ms ns → AreAlike (moved_leaf ms x) (moved_leaf ns x)
leaf_moved [] [] x h = (refl, tt, tt)
leaf_moved (p ∷ ps) (q ∷ qs) x h =
    subst (λ n. AreAlike (cond (n == x) p.1 (moved_leaf ps x)) (cond (q.0 == x) q.1 (moved_leaf qs x))) (sym h.0) (go (q.0 == x) (leaf_moved ps qs x h.2))
  where
    go : (b : Bool) → AreAlike (moved_leaf ps x) (moved_leaf qs x) → AreAlike (cond b p.1 (moved_leaf ps x)) (cond b q.1 (moved_leaf qs x))
    go true i = h.1
    go false i = i
leaf_moved _ _ x h = absurd h

moved_alike : (ms ns : List (ℕ × Tree)) (t : Tree) → MovesAlike ms ns → AreAlike (moved ms t) (moved ns t)
unfolding moved
moved_alike ms ns Empty h = tt
moved_alike ms ns (Node (Leaf x) a b) h = leaf_moved ms ns x h
moved_alike ms ns (Node k a b) h = (refl, moved_alike ms ns a h, moved_alike ms ns b h)

all_moved : (ms ns : List (ℕ × Tree)) (ts : List Tree) → MovesAlike ms ns → AllAlike (map (moved ms) ts) (map (moved ns) ts)
all_moved ms ns [] h = tt
all_moved ms ns (t ∷ ts) h = (moved_alike ms ns t h, all_moved ms ns ts h)

then_alike : (ts us : List Tree) (t u : Tree) → AllAlike ts us → AreAlike t u → AreAlike (cells_then ts t) (cells_then us u)
then_alike [] [] t u h e = e
then_alike (x ∷ ts) (y ∷ us) t u h e = (refl, h.0, then_alike ts us t u h.1 e)
then_alike [] (y ∷ us) t u h e = absurd h
then_alike (x ∷ ts) [] t u h e = absurd h

binders_alike : (f g : ℕ → ℕ) (k : ℕ) (rs : List (ℕ × ℕ)) → AreAlike (binders (branch_indices f k rs)) (binders (branch_indices g k rs))
binders_alike f g k [] = tt
binders_alike f g k (r ∷ rs) = (refl, tt, binders_alike f g (suc k) rs)

-- terms, with two tables of drawn names

module _ (d e : Drawn) (c : Caller) where
  own_alike : (x : ℕ) → AreAlike (own_variable d c x) (own_variable e c x)
  own_alike x = reads_alike (d.variable c.number x) (e.variable c.number x) (index_terms c.replications) (index_terms c.replications) (same (index_terms c.replications))

  leaf_alike : (x : ℕ) (o p : Option Standing) → MayStandAlike o p → AreAlike (leaf_in_game d c x o) (leaf_in_game e c x p)
  leaf_alike x None None h = go (is_own c x)
    where
      go : (b : Bool) → AreAlike (cond b (own_variable d c x) (lone (Leaf x))) (cond b (own_variable e c x) (lone (Leaf x)))
      go true = own_alike x
      go false = (refl, tt, tt)
  leaf_alike x (Some TheKey) (Some TheKey) h = reads_alike d.key e.key c.key c.key (same c.key)
  leaf_alike x (Some Own) (Some Own) h = own_alike x
  leaf_alike x (Some (CallOf r t)) (Some (CallOf s u)) h = (refl, tt, tt)
  leaf_alike x _ _ h = absurd h

  array_alike : (v : ℕ) (j k : Option (ℕ × Tree)) → CallsAlike j k → AreAlike (array_in_game d v j) (array_in_game e v k)
  array_alike v None None h = (refl, tt, tt)
  array_alike v (Some j) (Some k) h = reads_alike (d.variable j.0 v) (e.variable k.0 v) j.1 k.1 h.1
  array_alike v _ _ h = absurd h

  pub terms_alike : (Σ Τ : Scope) (m : Tree) → ScopesAlike Σ Τ → AreAlike (in_game d c Σ m) (in_game e c Τ m)
  unfolding in_game
  terms_alike Σ Τ Empty h = tt
  terms_alike Σ Τ (Node (Leaf x) a b) h = leaf_alike x (standing_of Σ x) (standing_of Τ x) (standing_alike Σ Τ x h)
  terms_alike Σ Τ (Node (Read v) a b) h = array_alike v (call_in Σ (first a)) (call_in Τ (first a)) (call_alike Σ Τ (first a) h)
  terms_alike Σ Τ (Node Eq a b) h =
      indices_alike (call_in Σ a) (call_in Τ a) (call_in Σ b) (call_in Τ b) (Node Eq (in_game d c Σ a) (in_game d c Σ b)) (Node Eq (in_game e c Τ a) (in_game e c Τ b)) (call_alike Σ Τ a h) (call_alike Σ Τ b h) (refl, terms_alike Σ Τ a h, terms_alike Σ Τ b h)
  terms_alike Σ Τ (Node k a b) h = (refl, terms_alike Σ Τ a h, terms_alike Σ Τ b h)

  cell_alike : (Σ Τ : Scope) (m : Tree) → ScopesAlike Σ Τ → AreAlike (cell_in_game d c Σ m) (cell_in_game e c Τ m)
  cell_alike Σ Τ (Node (Leaf x) a b) h = own_alike x
  cell_alike Σ Τ m h = terms_alike Σ Τ m h

  cells_alike : (Σ Τ : Scope) (m : Tree) → ScopesAlike Σ Τ → AreAlike (cells_in_game d c Σ m) (cells_in_game e c Τ m)
  unfolding cells_in_game
  cells_alike Σ Τ Empty h = tt
  cells_alike Σ Τ (Node k a more) h = (refl, cell_alike Σ Τ a h, cells_alike Σ Τ more h)

  -- what stands before the body in a branch
  pub fronts_same : (μ : Measure) (Σ Τ : Scope) (f g : ℕ → ℕ) (s : Caller) (cells condition : Tree) → ScopesAlike Σ Τ → front μ d c Σ f s cells condition ≡ front μ e c Τ g s cells condition
  fronts_same μ Σ Τ f g s cells condition h =
      let ms : List (ℕ × Tree) = index_moves (index_terms c.replications) f 0 s.replications in
      let ns : List (ℕ × Tree) = index_moves (index_terms c.replications) g 0 s.replications in
      let moves = moves_alike (index_terms c.replications) f g 0 s.replications in
      let reads : List Tree = each_once (needed (is_index_of s.replications) s.key) in
      let bs = binders_alike f g 0 s.replications in
      let cs = then_alike (map (moved ms) reads) (map (moved ns) reads) (cells_in_game d c Σ cells) (cells_in_game e c Τ cells) (all_moved ms ns reads moves) (cells_alike Σ Τ cells h) in
      let qs = all_alike (moved ms s.key) (moved ns s.key) c.key c.key (in_game d c Σ condition) (in_game e c Τ condition) (moved_alike ms ns s.key moves) (same c.key) (terms_alike Σ Τ condition h) in
      extents_same μ (chain (binders (branch_indices f 0 s.replications) ∷ cells_then (map (moved ms) reads) (cells_in_game d c Σ cells) ∷ all_equal (moved ms s.key) c.key (in_game d c Σ condition) ∷ []))
      (chain (binders (branch_indices g 0 s.replications) ∷ cells_then (map (moved ns) reads) (cells_in_game e c Τ cells) ∷ all_equal (moved ns s.key) c.key (in_game e c Τ condition) ∷ []))
      (refl, bs, (refl, cs, (refl, qs, tt)))

  -- a find's variable stands for a call of a site
  pub call_scopes : (Σ Τ : Scope) (u : ℕ) (f g : ℕ → ℕ) (s : Caller) → ScopesAlike Σ Τ → ScopesAlike (with_call_of Σ u (index_terms c.replications) f s) (with_call_of Τ u (index_terms c.replications) g s)
  call_scopes Σ Τ u f g s h = (refl, (refl, tuple_alike (index_terms c.replications) f g 0 s.replications), h)
