-- Sites of a context are alike and stand in different branches, as those of the game do, and each answer has one.
use Rattle.std.proofs.Common.{◌≡◌, ℕ, suc, ◌≤◌, ◌<◌, true, List, [], ◌∷◌, ◌++◌, inl, inr, length, refl, sym, ap, subst, ◌∙◌, arith}
use Rattle.std.proofs.lemmas.Bool.{both_ways}
use Rattle.std.specs.List.{AllByRecursion}
use Rattle.cv_syntax_trees.specs.declared.head.Head.{Head}
use Rattle.cv_syntax_trees.specs.declared.head.Head.TheVariants.{New, Key, Call}
use Rattle.cv_syntax_trees.specs.Tree.{Tree, Empty, Node, first_place, second_place}
use Rattle.cv_scope_rules.specs.Branches.{AreInDifferentBranches, Each, HasOtherName, IsLike, Pairs}
use Rattle.cv_scope_rules.specs.Context.{first_position, replications_below, second_position}
use Rattle.cv_scope_rules.specs.Sites.{Site, Variable, sites_from, sites_here}
use Rattle.cv_scope_rules.specs.declared.position.Position.{Position}
use Rattle.cv_scope_rules.specs.declared.position.Position.TheVariants.{Anywhere}
use Rattle.cv_scope_rules.proofs.Pairs.{all_weaker, each_append, pairs_append}
use Rattle.cv_scene.specs.Reductions.{Reduction, sites}
use Rattle.cv_context_runs.proofs.service.Kept.{answers_are}
use Rattle.cv_context_laws.proofs.well_formed.Becoming.{AreCalls, none, call, Becomes, still, node, coin, key, statement, IsNoAnswer, is_answer_name, is_still}
use Rattle.cv_context_laws.proofs.well_formed.Sites.{IsAnswerFrom, IsFrom, IsMoved, IsOne, calls_ordered, like_here, moved_here, no_answers, no_sites, one_left, one_right, ordered, still_apart}
use Rattle.cv_scope_runs.proofs.FreshRuns.{pairwise_left, pairwise_right}
use Rattle.cv_context_laws.proofs.shape.Scoped.{pairs_each, each_left, each_right}
use Rattle.cv_syntax_trees.proofs.lists.Each.{AllByRecursion_append, AllByRecursion_left, AllByRecursion_right}

-- parts of relations of lists

like_moved : (c d e f : Site) → IsMoved c e → IsMoved d f → IsLike e f → IsLike c d
like_moved c d e f m n l q = let a = l (sym m.0 ∙ q ∙ n.0) in (m.1.0 ∙ a.0 ∙ sym n.1.0, m.1.1 ∙ a.1 ∙ sym n.1.1)

like_other : (c d : Site) → HasOtherName c d → IsLike c d
like_other c d o q = absurd (o q)

other_moved : (c d e f : Site) → IsMoved c e → IsMoved d f → HasOtherName e f → HasOtherName c d
other_moved c d e f m n o q = o (sym m.0 ∙ q ∙ n.0)

same_variable : (x y : ℕ) → Variable x ≡ Variable y → x ≡ y
same_variable x y e = cc

module _ (r : Reduction) (apart : (j k : ℕ) → j < length (sites r) → k < length (sites r) → r.answer j ≡ r.answer k → j ≡ k) where
  no_answer : (c : Site) (G : List Site) → IsOne (IsMoved c) G → AllByRecursion (IsNoAnswer r) G → IsNoAnswer r c
  no_answer c (g ∷ G) (inl m) a = ap (is_answer_name r) m.0 ∙ a.0
  no_answer c (g ∷ G) (inr o) a = no_answer c G o a.1
  no_answer c [] o a = absurd o

  answered : (j k : ℕ) (c : Site) → IsAnswerFrom r j k c → k ≤ length (sites r) → is_answer_name r c.name ≡ true
  answered j k c m l = let i : m.number < length (sites r) = let b = m.below in omega (arith, b, l) in ap (is_answer_name r) m.is ∙ answers_are r m.number i

  from_left : (G H : List Site) (i j k l : ℕ) (c : Site) → i ≤ j → k ≤ l → IsFrom r G j k c → IsFrom r (G ++ H) i l c
  from_left G H i j k l c p q (inl o) = inl (one_left (IsMoved c) G H o)
  from_left G H i j k l c p q (inr m) = let f = m.from in let b = m.below in inr (record { number = m.number; from = omega (arith, f, p); below = omega (arith, b, q); is = m.is })

  from_right : (G H : List Site) (i j k l : ℕ) (c : Site) → i ≤ j → k ≤ l → IsFrom r H j k c → IsFrom r (G ++ H) i l c
  from_right G H i j k l c p q (inl o) = inl (one_right (IsMoved c) G H o)
  from_right G H i j k l c p q (inr m) = let f = m.from in let b = m.below in inr (record { number = m.number; from = omega (arith, f, p); below = omega (arith, b, q); is = m.is })

  all_left_from : (G H : List Site) (i j k l : ℕ) (xs : List Site) → i ≤ j → k ≤ l → AllByRecursion (IsFrom r G j k) xs → AllByRecursion (IsFrom r (G ++ H) i l) xs
  all_left_from G H i j k l xs p q h = all_weaker (IsFrom r G j k) (IsFrom r (G ++ H) i l) xs (λ c m. from_left G H i j k l c p q m) h

  all_right_from : (G H : List Site) (i j k l : ℕ) (xs : List Site) → i ≤ j → k ≤ l → AllByRecursion (IsFrom r H j k) xs → AllByRecursion (IsFrom r (G ++ H) i l) xs
  all_right_from G H i j k l xs p q h = all_weaker (IsFrom r H j k) (IsFrom r (G ++ H) i l) xs (λ c m. from_right G H i j k l c p q m) h

  -- a relation of names, replications and types that sites of different names have
  module _ (R : Site → Site → Type 0) (moved : (c d e f : Site) → IsMoved c e → IsMoved d f → R e f → R c d) (other : (c d : Site) → HasOtherName c d → R c d) where
    one_each : (c d : Site) (G H : List Site) → IsOne (IsMoved c) G → IsOne (IsMoved d) H → Each R G H → R c d
    one_each c d [] H o p e = absurd o
    one_each c d (g ∷ G) H (inr o) p e = one_each c d G H o p e.1
    one_each c d (g ∷ G) H (inl m) p e = row H p e.0
      where
        row : (H : List Site) → IsOne (IsMoved d) H → AllByRecursion (R g) H → R c d
        row [] n e = absurd n
        row (f ∷ H) (inl n) e = moved c d g f m n e.0
        row (f ∷ H) (inr n) e = row H n e.1

    from_each : (c d : Site) (G H : List Site) (j k i l : ℕ) → k ≤ i → k ≤ length (sites r) → l ≤ length (sites r) → AllByRecursion (IsNoAnswer r) G → AllByRecursion (IsNoAnswer r) H → Each R G H → IsFrom r G j k c → IsFrom r H i l d → R c d
    from_each c d G H j k i l u v w a b e (inl o) (inl p) = one_each c d G H o p e
    from_each c d G H j k i l u v w a b e (inl o) (inr n) = other c d (λ q. both_ways _ (no_answer c G o a) (ap (is_answer_name r) q ∙ answered i l d n w))
    from_each c d G H j k i l u v w a b e (inr m) (inl p) = other c d (λ q. both_ways _ (no_answer d H p b) (ap (is_answer_name r) (sym q) ∙ answered j k c m v))
    from_each c d G H j k i l u v w a b e (inr m) (inr n) =
        other c d (λ q.
        let x = m.below in
        let y = n.from in
        let z = n.below in
        let s : m.number ≡ n.number = apart m.number n.number (omega (arith, x, v)) (omega (arith, z, w)) (same_variable (r.answer m.number) (r.answer n.number) (sym m.is ∙ q ∙ n.is)) in
        omega (arith, s, x, y, u))

    all_each : (G H : List Site) (j k i l : ℕ) (xs ys : List Site) → k ≤ i → k ≤ length (sites r) → l ≤ length (sites r) → AllByRecursion (IsNoAnswer r) G → AllByRecursion (IsNoAnswer r) H → Each R G H → AllByRecursion (IsFrom r G j k) xs → AllByRecursion (IsFrom r H i l) ys → Each R xs ys
    all_each G H j k i l xs ys u v w a b e f g = all_weaker (IsFrom r G j k) (λ c. AllByRecursion (R c) ys) xs (λ c m. all_weaker (IsFrom r H i l) (R c) ys (λ d n. from_each c d G H j k i l u v w a b e m n) g) f

  -- the sites of a tree of the context, numbered from j to k, where those of the game are G
  record AreFrom (G : List Site) (w : Position) (rs : List (ℕ × ℕ)) (j k : ℕ) (t : Tree) : Type 0 where
    from : (p : ℕ) → AllByRecursion (IsFrom r G j k) (sites_from rs p t)
    like : (p : ℕ) → Pairs IsLike (sites_from rs p t)
    branches : (p : ℕ) → AreInDifferentBranches w rs p t

  still_from : (G : List Site) (w : Position) (rs : List (ℕ × ℕ)) (j k : ℕ) (t : Tree) → is_still t ≡ true → AreFrom G w rs j k t
  still_from G w rs j k t e = record {
    from = λ p. subst (AllByRecursion (IsFrom r G j k)) (sym (no_sites rs p t e)) tt;
    like = λ p. subst (Pairs IsLike) (sym (no_sites rs p t e)) tt;
    branches = λ p. still_apart w rs p t e;
  }

  node_from : (w : Position) (rs : List (ℕ × ℕ)) (i j k : ℕ) (h : Head) (a b c d : Tree) (p : ℕ) → ((q : ℕ) → sites_here rs q h c ≡ sites_here rs q h a) → i ≤ j → j ≤ k → k ≤ length (sites r) → AllByRecursion (IsNoAnswer r) (sites_from rs p (Node h a b))
      → Pairs IsLike (sites_from rs p (Node h a b)) → AreInDifferentBranches w rs p (Node h a b) → AreFrom (sites_from rs (first_place p h) a) (first_position w h) rs i j c → AreFrom (sites_from (replications_below h rs) (second_place p h a) b) (second_position w h) (replications_below h rs) j k d
      → AreFrom (sites_from rs p (Node h a b)) w rs i k (Node h c d)
  unfolding sites_from AreInDifferentBranches
  node_from w rs i j k h a b c d p same ij jk kK free l D f g =
      let H : List Site = sites_here rs p h a in
      let A : List Site = sites_from rs (first_place p h) a in
      let B : List Site = sites_from (replications_below h rs) (second_place p h a) b in
      let nH = AllByRecursion_left (IsNoAnswer r) H (A ++ B) free in
      let nA = AllByRecursion_left (IsNoAnswer r) A B (AllByRecursion_right (IsNoAnswer r) H (A ++ B) free) in
      let nB = AllByRecursion_right (IsNoAnswer r) A B (AllByRecursion_right (IsNoAnswer r) H (A ++ B) free) in
      let lH = pairs_each IsLike H (A ++ B) l in
      let lAB = pairs_each IsLike A B (pairwise_right IsLike H (A ++ B) l) in
      let here : (q : ℕ) → AllByRecursion (IsFrom r H i i) (sites_here rs q h c) = λ q. subst (AllByRecursion (IsFrom r H i i)) (sym (same q)) (all_weaker (λ e. IsOne (IsMoved e) H) (IsFrom r H i i) (sites_here rs q h a) (λ e o. inl o) (moved_here rs p q h a)) in
      let iK : i ≤ length (sites r) = omega (arith, ij, jk, kK) in
      let jK : j ≤ length (sites r) = omega (arith, jk, kK) in
      record {
        from = λ q. let C : List Site = sites_from rs (first_place q h) c in
            let E : List Site = sites_from (replications_below h rs) (second_place q h c) d in
            AllByRecursion_append (IsFrom r (H ++ (A ++ B)) i k) (sites_here rs q h c) (C ++ E) (all_left_from H (A ++ B) i i i k (sites_here rs q h c) (omega arith) (omega (arith, ij, jk)) (here q))
            (AllByRecursion_append (IsFrom r (H ++ (A ++ B)) i k) C E
            (all_right_from H (A ++ B) i i k k C (omega arith) (omega arith) (all_left_from A B i i j k C (omega arith) jk (f.from (first_place q h))))
            (all_right_from H (A ++ B) i i k k E (omega arith) (omega arith) (all_right_from A B i j k k E ij (omega arith) (g.from (second_place q h c)))));
        like = λ q. let C : List Site = sites_from rs (first_place q h) c in
            let E : List Site = sites_from (replications_below h rs) (second_place q h c) d in
            pairs_append IsLike (sites_here rs q h c) (C ++ E) (subst (Pairs IsLike) (sym (same q)) (like_here rs q h a))
            (pairs_append IsLike C E (f.like (first_place q h)) (g.like (second_place q h c)) (all_each IsLike like_moved like_other A B i j j k C E (omega arith) jK kK nA nB lAB (f.from (first_place q h)) (g.from (second_place q h c))))
            (each_append IsLike (sites_here rs q h c) C E
            (all_each IsLike like_moved like_other H A i i i j (sites_here rs q h c) C (omega arith) iK jK nH nA (each_left IsLike H A B lH) (here q) (f.from (first_place q h)))
            (all_each IsLike like_moved like_other H B i i j k (sites_here rs q h c) E ij iK kK nH nB (each_right IsLike H A B lH) (here q) (g.from (second_place q h c))));
        branches = λ q. let C : List Site = sites_from rs (first_place q h) c in
            let E : List Site = sites_from (replications_below h rs) (second_place q h c) d in (
              each_append HasOtherName (sites_here rs q h c) C E
                  (all_each HasOtherName other_moved (λ x y o. o) H A i i i j (sites_here rs q h c) C (omega arith) iK jK nH nA (each_left HasOtherName H A B D.0) (here q) (f.from (first_place q h)))
                  (all_each HasOtherName other_moved (λ x y o. o) H B i i j k (sites_here rs q h c) E ij iK kK nH nB (each_right HasOtherName H A B D.0) (here q) (g.from (second_place q h c))),
              (λ e. all_each HasOtherName other_moved (λ x y o. o) A B i j j k C E (omega arith) jK kK nA nB (D.1 e) (f.from (first_place q h)) (g.from (second_place q h c))),
              f.branches (first_place q h),
              g.branches (second_place q h c),
            );
      }

  calls_from : (t u : Tree) (G : List Site) (rs : List (ℕ × ℕ)) (j i k : ℕ) → AreCalls r j i t u → i ≤ k → k ≤ length (sites r) → AllByRecursion (IsNoAnswer r) G → AreFrom G Anywhere rs i k t → AreFrom G Anywhere rs j k u
  unfolding sites_from AreInDifferentBranches
  calls_from t u G rs j i k none ik kK n f = f
  calls_from t u G rs j i k (call {m = m} {u = v} e c) ik kK n f =
      let g = calls_from t v G rs (suc j) i k c ik kK n f in
      let ji = calls_ordered r t v (suc j) i c in
      let H : Head = Call (r.answer j) j in
      let here : (q : ℕ) → AllByRecursion (IsFrom r [] j (suc j)) (sites_here rs q H m) = λ q. (inr (record { number = j; from = omega arith; below = omega arith; is = refl }), tt) in
      let jK : suc j ≤ length (sites r) = omega (arith, ji, ik, kK) in
      record {
        from = λ q. (
          inr (record { number = j; from = omega arith; below = omega (arith, ji, ik); is = refl }),
          subst (λ xs. AllByRecursion (IsFrom r G j k) (xs ++ sites_from rs (second_place q H m) v)) (sym (no_sites rs (first_place q H) m e)) (all_right_from [] G j (suc j) k k (sites_from rs (second_place q H m) v) (omega arith) (omega arith) (g.from (second_place q H m))),
        );
        like = λ q. subst (λ xs. Pairs IsLike (sites_here rs q H m ++ (xs ++ sites_from rs (second_place q H m) v))) (sym (no_sites rs (first_place q H) m e))
            ((all_each IsLike like_moved like_other [] G j (suc j) (suc j) k (sites_here rs q H m) (sites_from rs (second_place q H m) v) (omega arith) jK kK tt n tt (here q) (g.from (second_place q H m))).0, g.like (second_place q H m));
        branches = λ q. (
          subst (λ xs. Each HasOtherName (sites_here rs q H m) (xs ++ sites_from rs (second_place q H m) v)) (sym (no_sites rs (first_place q H) m e))
              (all_each HasOtherName other_moved (λ x y o. o) [] G j (suc j) (suc j) k (sites_here rs q H m) (sites_from rs (second_place q H m) v) (omega arith) jK kK tt n tt (here q) (g.from (second_place q H m))),
          (λ d. subst (λ xs. Each HasOtherName xs (sites_from rs (second_place q H m) v)) (sym (no_sites rs (first_place q H) m e)) tt),
          still_apart Anywhere rs (first_place q H) m e,
          g.branches (second_place q H m),
        );
      }

  -- a key in place of its definition
  chosen_from : (G : List Site) (rs : List (ℕ × ℕ)) (j k x T : ℕ) (d : Tree) → AreFrom G Anywhere rs j k (Node (New x T) Empty d) → AreFrom G Anywhere rs j k (Node (Key x) Empty d)
  unfolding sites_from AreInDifferentBranches
  chosen_from G rs j k x T d f = record { from = λ p. f.from p; like = λ p. f.like p; branches = λ p. f.branches p }

  sites_become : (w : Position) (rs : List (ℕ × ℕ)) (j k : ℕ) (t u : Tree) (p : ℕ) → Becomes r w rs j k t u → k ≤ length (sites r) → Pairs IsLike (sites_from rs p t) → AreInDifferentBranches w rs p t → AreFrom (sites_from rs p t) w rs j k u
  unfolding sites_from AreInDifferentBranches is_still
  sites_become w rs j k t u p (still le e) kK l D = still_from (sites_from rs p t) w rs j k u e
  sites_become w rs j k t u p (node {k = i} {h = h} {a = a} {b = b} {c = c} {d = d} s f g) kK l D =
      let ji = ordered r _ rs j i a c f in
      let ik = ordered r _ _ i k b d g in
      let H : List Site = sites_here rs p h a in
      let A : List Site = sites_from rs (first_place p h) a in
      let B : List Site = sites_from (replications_below h rs) (second_place p h a) b in
      let rest = pairwise_right IsLike H (A ++ B) l in
      node_from w rs j i k h a b c d p (λ q. s.sites rs q) ji ik kK (no_answers r w rs j k t u p (node s f g)) l D
      (sites_become (first_position w h) rs j i a c (first_place p h) f (omega (arith, ik, kK)) (pairwise_left IsLike A B rest) D.2)
      (sites_become (second_position w h) (replications_below h rs) i k b d (second_place p h a) g kK (pairwise_right IsLike A B rest) D.3)
  sites_become w rs j k t u p (coin {i = i} {x = x} {T = T} {a = a} {b = b} e n le g) kK l D =
      let h : Head = New x T in
      let A : List Site = sites_from rs (first_place p h) a in
      let B : List Site = sites_from rs (second_place p h a) b in
      let m = sites_become Anywhere rs i k b u (second_place p h a) g kK (pairwise_right IsLike A B l.1) D.3 in
      record {
        from = λ q. all_right_from (sites_here rs p h a) (A ++ B) j i k k (sites_from rs q u) le (omega arith) (all_right_from A B i i k k (sites_from rs q u) (omega arith) (omega arith) (m.from q));
        like = λ q. m.like q;
        branches = λ q. m.branches q;
      }
  sites_become w rs j k t u p (key {i = i} {x = x} {T = T} {a = a} {b = b} {d = d} e n le g) kK l D =
      let h : Head = New x T in
      let A : List Site = sites_from rs (first_place p h) a in
      let B : List Site = sites_from rs (second_place p h a) b in
      let ik = ordered r Anywhere rs i k b d g in
      chosen_from (sites_from rs p t) rs j k x T d
      (node_from Anywhere rs j i k h a b Empty d p (λ q. refl) le ik kK (no_answers r w rs j k t u p (key e n le g)) l D (still_from A Anywhere rs j i Empty refl)
      (sites_become Anywhere rs i k b d (second_place p h a) g kK (pairwise_right IsLike A B l.1) D.3))
  sites_become w rs j k t u p (statement {k = i} {h = h} {a = a} {b = b} {c = c} {d = d} s v m g z) kK l D =
      let ik = ordered r _ _ i k b d g in
      let H : List Site = sites_here rs p h a in
      let A : List Site = sites_from rs (first_place p h) a in
      let B : List Site = sites_from (replications_below h rs) (second_place p h a) b in
      let free = no_answers r w rs j k t u p (statement s v m g z) in
      calls_from (Node h c d) u (sites_from rs p t) rs j i k z ik kK free
      (node_from Anywhere rs i i k h a b c d p (λ q. s.sites rs q) (omega arith) ik kK free l D (still_from A (first_position Anywhere h) rs i i c m)
      (sites_become (second_position Anywhere h) (replications_below h rs) i k b d (second_place p h a) g kK (pairwise_right IsLike A B (pairwise_right IsLike H (A ++ B) l)) D.3))

  pub like_becomes : (t u : Tree) → Becomes r Anywhere [] 0 (length (sites r)) t u → Pairs IsLike (sites_from [] 0 t) → AreInDifferentBranches Anywhere [] 0 t → Pairs IsLike (sites_from [] 0 u)
  like_becomes t u b l D = (sites_become Anywhere [] 0 (length (sites r)) t u 0 b (omega arith) l D).like 0

  pub branches_become : (t u : Tree) → Becomes r Anywhere [] 0 (length (sites r)) t u → Pairs IsLike (sites_from [] 0 t) → AreInDifferentBranches Anywhere [] 0 t → AreInDifferentBranches Anywhere [] 0 u
  branches_become t u b l D = (sites_become Anywhere [] 0 (length (sites r)) t u 0 b (omega arith) l D).branches 0
