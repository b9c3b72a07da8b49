-- What a next game has, over the copies of a place.
use Rattle.std.proofs.Common.{◌≡◌, ℕ, Bool, true, false, cond, ◌==◌, [], ◌∷◌, Option, Some, None, refl, sym, ap, ap₂, ◌∙◌}
use Rattle.cv_syntax_trees.specs.declared.head.Head.TheVariants.{In, Out, Event, Let, If, Branch, Leaf, Read, No, Key, Call}
use Rattle.cv_syntax_trees.specs.Head.{weight}
use Rattle.cv_syntax_trees.specs.Tree.{Tree, Empty, Node, lone, second}
use Rattle.cv_meaning.specs.contexts.Inlined.{TheKey}
use Rattle.cv_inline.specs.NextGame.{Calling, InlinedCalls, Results, call_in_game, callers_of, next_in, numbered, result_for, with_results}
use Rattle.cv_inline_laws.specs.extents.Extents.{Measure, Extent, Answers, all_along, answer_or, copies_of, extent, of_call_at, of_game, over_node, with_answers}
use Rattle.cv_inline_laws.proofs.extents.Bodies.{IsLinear, has_call, has_result}
use Rattle.cv_inline_laws.proofs.extents.Measures.{IsMeasure, along_left, join_along, join_swap, one_along, over_along, over_joined}

-- counts that are alike for f stay so
pub record Keeps (μ : Measure) (f : ℕ → ℕ) : Type 0 where
  pub joined : (a b c d : ℕ) → f a ≡ f b → f c ≡ f d → f (μ.join a c) ≡ f (μ.join b d)
  pub scaled : (a b c d : ℕ) → f a ≡ f b → f c ≡ f d → f (μ.along a c) ≡ f (μ.along b d)

module _ (μ : Measure) (ok : IsMeasure μ) where
  -- answers over two parts of the copies

  abbrev pub AreJoined : Answers → Answers → Answers → Type 0
  AreJoined [] [] [] = Unit {0}
  AreJoined (r ∷ rs) (s ∷ ss) (t ∷ ts) = (r.0 ≡ t.0) × (s.0 ≡ t.0) × (t.1 ≡ μ.join r.1 s.1) × AreJoined rs ss ts
  AreJoined _ _ _ = ⊥

  joined_along : (k : ℕ) (rs ss ts : Answers) → AreJoined rs ss ts → AreJoined (all_along μ k rs) (all_along μ k ss) (all_along μ k ts)
  joined_along k [] [] [] h = tt
  joined_along k (r ∷ rs) (s ∷ ss) (t ∷ ts) h =
      (h.0, h.1, ap (μ.along k) h.2 ∙ ok.along_join k r.1 s.1, joined_along k rs ss ts h.3)
  joined_along k _ _ _ h = absurd h

  joined_counts : (m n : ℕ) (rs : Answers) → AreJoined (all_along μ m rs) (all_along μ n rs) (all_along μ (μ.join m n) rs)
  joined_counts m n [] = tt
  joined_counts m n (r ∷ rs) = (refl, refl, join_along μ ok m n r.1, joined_counts m n rs)

  answer_joined : (x a b c : ℕ) (rs ss ts : Answers) → c ≡ μ.join a b → AreJoined rs ss ts → answer_or c ts x ≡ μ.join (answer_or a rs x) (answer_or b ss x)
  answer_joined x a b c [] [] [] e h = e
  answer_joined x a b c (r ∷ rs) (s ∷ ss) (t ∷ ts) e h =
      go (t.0 == x) (answer_joined x a b c rs ss ts e h.3)
      ∙ ap₂ μ.join (ap (λ y. cond (y == x) r.1 (answer_or a rs x)) (sym h.0)) (ap (λ y. cond (y == x) s.1 (answer_or b ss x)) (sym h.1))
    where
      go : (q : Bool) → answer_or c ts x ≡ μ.join (answer_or a rs x) (answer_or b ss x) → cond q t.1 (answer_or c ts x) ≡ μ.join (cond q r.1 (answer_or a rs x)) (cond q s.1 (answer_or b ss x))
      go true i = h.2
      go false i = i
  answer_joined x a b c _ _ _ e h = absurd h

  with_joined : (a b : ℕ) (rs ss ts : Answers) → AreJoined rs ss ts → (t : Tree) → with_answers μ (μ.join a b) ts t ≡ μ.join (with_answers μ a rs t) (with_answers μ b ss t)
  unfolding with_answers
  with_joined a b rs ss ts h Empty = ok.along_join 0 a b
  with_joined a b rs ss ts h (Node (Leaf x) m n) = answer_joined x _ _ _ rs ss ts (ok.along_join (extent μ (Node (Leaf x) m n)) a b) h
  with_joined a b rs ss ts h (Node (Read x) m n) = answer_joined x _ _ _ rs ss ts (ok.along_join (extent μ (Node (Read x) m n)) a b) h
  with_joined a b rs ss ts h (Node k m n) =
      ap₂ (over_node μ (μ.join a b) (weight k)) (with_joined a b rs ss ts h m) (with_joined a b rs ss ts h n) ∙ over_joined μ ok a b (weight k) _ _ _ _

  copies_joined : (a b : ℕ) (t : Tree) → copies_of μ (μ.join a b) t ≡ μ.join (copies_of μ a t) (copies_of μ b t)
  copies_joined a b t = ok.along_join (extent μ t) a b

  node_joined : (a b w : ℕ) {l m n p q r : ℕ} → l ≡ μ.join m n → p ≡ μ.join q r → over_node μ (μ.join a b) w l p ≡ μ.join (over_node μ a w m q) (over_node μ b w n r)
  node_joined a b w {l} {m} {n} {p} {q} {r} e f = ap₂ (over_node μ (μ.join a b) w) e f ∙ over_joined μ ok a b w m n q r

  game_joined : (i : InlinedCalls) (a b : ℕ) (rs ss ts : Answers) → AreJoined rs ss ts → (t : Tree) → of_game μ i (μ.join a b) ts t ≡ μ.join (of_game μ i a rs t) (of_game μ i b ss t)
  unfolding of_game
  game_joined i a b rs ss ts h Empty = ok.along_join 0 a b
  game_joined i a b rs ss ts h (Node (Key x) m n) = node_joined a b 1 (ok.along_join 0 a b) (game_joined i a b [] [] [] tt n)
  game_joined i a b rs ss ts h (Node (Call x l) m n) =
      let e : Extent = of_call_at μ i (numbered l i.callings) (second m) in
      ap₂ μ.join (ok.along_join e.own a b)
      (ap (λ c. of_game μ i c ((x, μ.along e.results (μ.join a b)) ∷ all_along μ e.places ts) n) (ok.along_join e.places a b)
      ∙ game_joined i (μ.along e.places a) (μ.along e.places b) ((x, μ.along e.results a) ∷ all_along μ e.places rs) ((x, μ.along e.results b) ∷ all_along μ e.places ss) ((x, μ.along e.results (μ.join a b)) ∷ all_along μ e.places ts)
      (refl, refl, ok.along_join e.results a b, joined_along e.places rs ss ts h) n)
      ∙ join_swap μ ok (μ.along e.own a) (μ.along e.own b) _ _
  game_joined i a b rs ss ts h (Node (Let x T) m n) = node_joined a b 1 (with_joined a b rs ss ts h m) (game_joined i a b [] [] [] tt n)
  game_joined i a b rs ss ts h (Node If m n) = node_joined a b 1 (with_joined a b rs ss ts h m) (game_joined i a b [] [] [] tt n)
  game_joined i a b rs ss ts h (Node (Event e) m n) = node_joined a b 1 (with_joined a b rs ss ts h m) (game_joined i a b [] [] [] tt n)
  game_joined i a b rs ss ts h (Node (Out o) m n) = node_joined a b 1 (with_joined a b rs ss ts h m) (game_joined i a b [] [] [] tt n)
  game_joined i a b rs ss ts h (Node (In o) m n) = node_joined a b 1 (copies_joined a b m) (game_joined i a b [] [] [] tt n)
  game_joined i a b rs ss ts h (Node Branch m n) = node_joined a b 1 (copies_joined a b m) (game_joined i a b [] [] [] tt n)
  game_joined i a b rs ss ts h (Node (Leaf x) m n) = node_joined a b 1 (copies_joined a b m) (copies_joined a b n)
  game_joined i a b rs ss ts h (Node (Read x) m n) = node_joined a b 1 (copies_joined a b m) (copies_joined a b n)
  game_joined i a b rs ss ts h (Node k m n) = node_joined a b (weight k) (game_joined i a b [] [] [] tt m) (game_joined i a b [] [] [] tt n)

  -- each copy as often

  along_twice : (k l : ℕ) (rs : Answers) → all_along μ k (all_along μ l rs) ≡ all_along μ l (all_along μ k rs)
  along_twice k l [] = refl
  along_twice k l (r ∷ rs) = λ i. (r.0, along_left μ ok k l r.1 i) ∷ along_twice k l rs i

  along_product : (k l : ℕ) (rs : Answers) → all_along μ (μ.along k l) rs ≡ all_along μ k (all_along μ l rs)
  along_product k l [] = refl
  along_product k l (r ∷ rs) = λ i. (r.0, ok.along_assoc k l r.1 i) ∷ along_product k l rs i

  along_once : (rs : Answers) → all_along μ μ.one_copy rs ≡ rs
  along_once [] = refl
  along_once (r ∷ rs) = λ i. (r.0, one_along μ ok r.1 i) ∷ along_once rs i

  answer_scaled : (k x m n : ℕ) (rs : Answers) → m ≡ μ.along k n → answer_or m (all_along μ k rs) x ≡ μ.along k (answer_or n rs x)
  answer_scaled k x m n [] e = e
  answer_scaled k x m n (r ∷ rs) e = go (r.0 == x) (answer_scaled k x m n rs e)
    where
      go : (q : Bool) → answer_or m (all_along μ k rs) x ≡ μ.along k (answer_or n rs x) → cond q (μ.along k r.1) (answer_or m (all_along μ k rs) x) ≡ μ.along k (cond q r.1 (answer_or n rs x))
      go true i = refl
      go false i = i

  node_scaled : (k c w : ℕ) {l m n p : ℕ} → l ≡ μ.along k m → n ≡ μ.along k p → over_node μ (μ.along k c) w l n ≡ μ.along k (over_node μ c w m p)
  node_scaled k c w {l} {m} {n} {p} e f = ap₂ (over_node μ (μ.along k c) w) e f ∙ over_along μ ok k c w m p

  copies_scaled : (k c : ℕ) (t : Tree) → copies_of μ (μ.along k c) t ≡ μ.along k (copies_of μ c t)
  copies_scaled k c t = along_left μ ok (extent μ t) k c

  with_scaled : (k c : ℕ) (rs : Answers) (t : Tree) → with_answers μ (μ.along k c) (all_along μ k rs) t ≡ μ.along k (with_answers μ c rs t)
  unfolding with_answers
  with_scaled k c rs Empty = along_left μ ok 0 k c
  with_scaled k c rs (Node (Leaf x) m n) = answer_scaled k x _ _ rs (copies_scaled k c (Node (Leaf x) m n))
  with_scaled k c rs (Node (Read x) m n) = answer_scaled k x _ _ rs (copies_scaled k c (Node (Read x) m n))
  with_scaled k c rs (Node h m n) = node_scaled k c (weight h) (with_scaled k c rs m) (with_scaled k c rs n)

  game_scaled : (i : InlinedCalls) (k c : ℕ) (rs : Answers) (t : Tree) → of_game μ i (μ.along k c) (all_along μ k rs) t ≡ μ.along k (of_game μ i c rs t)
  unfolding of_game
  game_scaled i k c rs Empty = along_left μ ok 0 k c
  game_scaled i k c rs (Node (Key x) m n) = node_scaled k c 1 (along_left μ ok 0 k c) (game_scaled i k c [] n)
  game_scaled i k c rs (Node (Call x l) m n) =
      let e : Extent = of_call_at μ i (numbered l i.callings) (second m) in
      ap₂ μ.join (along_left μ ok e.own k c)
      ((λ j. of_game μ i (along_left μ ok e.places k c j) ((x, along_left μ ok e.results k c j) ∷ along_twice e.places k rs j) n)
      ∙ game_scaled i k (μ.along e.places c) ((x, μ.along e.results c) ∷ all_along μ e.places rs) n)
      ∙ sym (ok.along_join k (μ.along e.own c) _)
  game_scaled i k c rs (Node (Let x T) m n) = node_scaled k c 1 (with_scaled k c rs m) (game_scaled i k c [] n)
  game_scaled i k c rs (Node If m n) = node_scaled k c 1 (with_scaled k c rs m) (game_scaled i k c [] n)
  game_scaled i k c rs (Node (Event e) m n) = node_scaled k c 1 (with_scaled k c rs m) (game_scaled i k c [] n)
  game_scaled i k c rs (Node (Out o) m n) = node_scaled k c 1 (with_scaled k c rs m) (game_scaled i k c [] n)
  game_scaled i k c rs (Node (In o) m n) = node_scaled k c 1 (copies_scaled k c m) (game_scaled i k c [] n)
  game_scaled i k c rs (Node Branch m n) = node_scaled k c 1 (copies_scaled k c m) (game_scaled i k c [] n)
  game_scaled i k c rs (Node (Leaf x) m n) = node_scaled k c 1 (copies_scaled k c m) (copies_scaled k c n)
  game_scaled i k c rs (Node (Read x) m n) = node_scaled k c 1 (copies_scaled k c m) (copies_scaled k c n)
  game_scaled i k c rs (Node h m n) = node_scaled k c (weight h) (game_scaled i k c [] m) (game_scaled i k c [] n)

  -- one copy

  abbrev pub measured : Results → Answers
  measured [] = []
  measured (r ∷ rs) = (r.0, extent μ r.1) ∷ measured rs

  result_measured : (rs : Results) (x n : ℕ) (t : Tree) → extent μ t ≡ n → extent μ (result_for rs x t) ≡ answer_or n (measured rs) x
  result_measured [] x n t e = e
  result_measured (r ∷ rs) x n t e = go (r.0 == x) (result_measured rs x n t e)
    where
      go : (q : Bool) → extent μ (result_for rs x t) ≡ answer_or n (measured rs) x → extent μ (cond q r.1 (result_for rs x t)) ≡ cond q (extent μ r.1) (answer_or n (measured rs) x)
      go true i = refl
      go false i = i

  one_of : (t : Tree) → extent μ t ≡ copies_of μ μ.one_copy t
  one_of t = sym (ok.along_one (extent μ t))

  with_measured : (rs : Results) (t : Tree) → extent μ (with_results rs t) ≡ with_answers μ μ.one_copy (measured rs) t
  unfolding extent with_answers with_results
  with_measured rs Empty = sym (ok.along_one 0)
  with_measured rs (Node (Leaf x) m n) = result_measured rs x _ (Node (Leaf x) m n) (one_of (Node (Leaf x) m n))
  with_measured rs (Node (Read x) m n) = result_measured rs x _ (Node (Read x) m n) (one_of (Node (Read x) m n))
  with_measured rs (Node h m n) = ap₂ (over_node μ μ.one_copy (weight h)) (with_measured rs m) (with_measured rs n)

  module _ (i : InlinedCalls) where
    -- what follows a call, by the places of results and the results
    abbrev behind : ℕ → Results → Tree → ℕ → ℕ → ℕ
    behind x rs n places results = of_game μ i places ((x, results) ∷ all_along μ places (measured rs)) n

    behind_linear : (x : ℕ) (rs : Results) (n : Tree) → IsLinear μ (behind x rs n)
    unfolding of_game
    behind_linear x rs n = record {
      joined = λ a b c d. game_joined i a b ((x, c) ∷ all_along μ a (measured rs)) ((x, d) ∷ all_along μ b (measured rs)) ((x, μ.join c d) ∷ all_along μ (μ.join a b) (measured rs)) (refl, refl, refl, joined_counts a b (measured rs)) n;
      scaled = λ k a c. ap (λ (l : Answers). of_game μ i (μ.along k a) ((x, μ.along k c) ∷ l) n) (along_product k a (measured rs)) ∙ game_scaled i k a ((x, c) ∷ all_along μ a (measured rs)) n;
    }

    call_has : (x : ℕ) (rs : Results) (n : Tree) → ((m : Tree) → extent μ (next_in i ((x, m) ∷ rs) n) ≡ behind x rs n μ.one_copy (extent μ m)) → (k : Option Calling) (ms : Tree) →
        let e : Extent = of_call_at μ i k ms in
        extent μ (call_in_game i k ms (λ m. next_in i ((x, m) ∷ rs) n)) ≡ μ.join e.own (behind x rs n e.places e.results)
    call_has x rs n each None ms = has_result μ ok (λ m. next_in i ((x, m) ∷ rs) n) (behind x rs n) (behind_linear x rs n) each (lone No)
    call_has x rs n each (Some k) ms =
        has_call μ ok (λ m. next_in i ((x, m) ∷ rs) n) (behind x rs n) (behind_linear x rs n) each i.drawn (callers_of i.callings) k.caller ((i.group.key.0, TheKey) ∷ []) k.function.arguments ms k.function.body

    pub next_measured : (rs : Results) (t : Tree) → extent μ (next_in i rs t) ≡ of_game μ i μ.one_copy (measured rs) t
    unfolding extent next_in of_game
    next_measured rs Empty = sym (ok.along_one 0)
    next_measured rs (Node (Key x) m n) = ap₂ (over_node μ μ.one_copy 1) (sym (ok.along_one 0)) (next_measured [] n)
    next_measured rs (Node (Call x l) m n) =
        let e : Extent = of_call_at μ i (numbered l i.callings) (second m) in
        call_has x rs n (λ (r : Tree). next_measured ((x, r) ∷ rs) n ∙ ap (λ (l : Answers). of_game μ i μ.one_copy ((x, extent μ r) ∷ l) n) (sym (along_once (measured rs)))) (numbered l i.callings) (second m)
        ∙ ap₂ μ.join (sym (ok.along_one e.own)) (λ j. of_game μ i (sym (ok.along_one e.places) j) ((x, sym (ok.along_one e.results) j) ∷ all_along μ e.places (measured rs)) n)
    next_measured rs (Node (Let x T) m n) = ap₂ (over_node μ μ.one_copy 1) (with_measured rs m) (next_measured [] n)
    next_measured rs (Node If m n) = ap₂ (over_node μ μ.one_copy 1) (with_measured rs m) (next_measured [] n)
    next_measured rs (Node (Event e) m n) = ap₂ (over_node μ μ.one_copy 1) (with_measured rs m) (next_measured [] n)
    next_measured rs (Node (Out o) m n) = ap₂ (over_node μ μ.one_copy 1) (with_measured rs m) (next_measured [] n)
    next_measured rs (Node (In o) m n) = ap₂ (over_node μ μ.one_copy 1) (one_of m) (next_measured [] n)
    next_measured rs (Node Branch m n) = ap₂ (over_node μ μ.one_copy 1) (one_of m) (next_measured [] n)
    next_measured rs (Node (Leaf x) m n) = ap₂ (over_node μ μ.one_copy 1) (one_of m) (one_of n)
    next_measured rs (Node (Read x) m n) = ap₂ (over_node μ μ.one_copy 1) (one_of m) (one_of n)
    next_measured rs (Node h m n) = ap₂ (over_node μ μ.one_copy (weight h)) (next_measured [] m) (next_measured [] n)

  -- alike counts
  module _ (f : ℕ → ℕ) (keeps : Keeps μ f) where
    abbrev pub AreAlike : Answers → Answers → Type 0
    AreAlike [] [] = Unit {0}
    AreAlike (r ∷ rs) (s ∷ ss) = (r.0 ≡ s.0) × (f r.1 ≡ f s.1) × AreAlike rs ss
    AreAlike _ _ = ⊥

    alike_along : (k l : ℕ) (rs ss : Answers) → f k ≡ f l → AreAlike rs ss → AreAlike (all_along μ k rs) (all_along μ l ss)
    alike_along k l [] [] e h = tt
    alike_along k l (r ∷ rs) (s ∷ ss) e h = (h.0, keeps.scaled k l r.1 s.1 e h.1, alike_along k l rs ss e h.2)
    alike_along k l _ _ e h = absurd h

    answer_alike : (x m n : ℕ) (rs ss : Answers) → f m ≡ f n → AreAlike rs ss → f (answer_or m rs x) ≡ f (answer_or n ss x)
    answer_alike x m n [] [] e h = e
    answer_alike x m n (r ∷ rs) (s ∷ ss) e h =
        go (r.0 == x) (answer_alike x m n rs ss e h.2) ∙ ap (λ y. f (cond (y == x) s.1 (answer_or n ss x))) h.0
      where
        go : (q : Bool) → f (answer_or m rs x) ≡ f (answer_or n ss x) → f (cond q r.1 (answer_or m rs x)) ≡ f (cond q s.1 (answer_or n ss x))
        go true i = h.1
        go false i = i
    answer_alike x m n _ _ e h = absurd h

    node_alike : (c d w : ℕ) {l m n p : ℕ} → f c ≡ f d → f l ≡ f m → f n ≡ f p → f (over_node μ c w l n) ≡ f (over_node μ d w m p)
    node_alike c d w {l} {m} {n} {p} e g h =
        keeps.joined _ _ _ _ (keeps.scaled w w c d refl e) (keeps.scaled (μ.below w) (μ.below w) _ _ refl (keeps.joined l m n p g h))

    copies_alike : (c d : ℕ) (t : Tree) → f c ≡ f d → f (copies_of μ c t) ≡ f (copies_of μ d t)
    copies_alike c d t e = keeps.scaled (extent μ t) (extent μ t) c d refl e

    with_alike : (c d : ℕ) (rs ss : Answers) → f c ≡ f d → AreAlike rs ss → (t : Tree) → f (with_answers μ c rs t) ≡ f (with_answers μ d ss t)
    unfolding with_answers
    with_alike c d rs ss e h Empty = keeps.scaled 0 0 c d refl e
    with_alike c d rs ss e h (Node (Leaf x) m n) = answer_alike x _ _ rs ss (copies_alike c d (Node (Leaf x) m n) e) h
    with_alike c d rs ss e h (Node (Read x) m n) = answer_alike x _ _ rs ss (copies_alike c d (Node (Read x) m n) e) h
    with_alike c d rs ss e h (Node k m n) = node_alike c d (weight k) e (with_alike c d rs ss e h m) (with_alike c d rs ss e h n)

    pub game_alike : (i : InlinedCalls) (c d : ℕ) (rs ss : Answers) → f c ≡ f d → AreAlike rs ss → (t : Tree) → f (of_game μ i c rs t) ≡ f (of_game μ i d ss t)
    unfolding of_game
    game_alike i c d rs ss e h Empty = keeps.scaled 0 0 c d refl e
    game_alike i c d rs ss e h (Node (Key x) m n) = node_alike c d 1 e (keeps.scaled 0 0 c d refl e) (game_alike i c d [] [] e tt n)
    game_alike i c d rs ss e h (Node (Call x l) m n) =
        let g : Extent = of_call_at μ i (numbered l i.callings) (second m) in
        let p : f (μ.along g.places c) ≡ f (μ.along g.places d) = keeps.scaled g.places g.places c d refl e in
        let q : f (μ.along g.results c) ≡ f (μ.along g.results d) = keeps.scaled g.results g.results c d refl e in
        keeps.joined _ _ _ _ (keeps.scaled g.own g.own c d refl e)
        (game_alike i (μ.along g.places c) (μ.along g.places d) ((x, μ.along g.results c) ∷ all_along μ g.places rs) ((x, μ.along g.results d) ∷ all_along μ g.places ss) p (refl, q, alike_along g.places g.places rs ss refl h) n)
    game_alike i c d rs ss e h (Node (Let x T) m n) = node_alike c d 1 e (with_alike c d rs ss e h m) (game_alike i c d [] [] e tt n)
    game_alike i c d rs ss e h (Node If m n) = node_alike c d 1 e (with_alike c d rs ss e h m) (game_alike i c d [] [] e tt n)
    game_alike i c d rs ss e h (Node (Event o) m n) = node_alike c d 1 e (with_alike c d rs ss e h m) (game_alike i c d [] [] e tt n)
    game_alike i c d rs ss e h (Node (Out o) m n) = node_alike c d 1 e (with_alike c d rs ss e h m) (game_alike i c d [] [] e tt n)
    game_alike i c d rs ss e h (Node (In o) m n) = node_alike c d 1 e (copies_alike c d m e) (game_alike i c d [] [] e tt n)
    game_alike i c d rs ss e h (Node Branch m n) = node_alike c d 1 e (copies_alike c d m e) (game_alike i c d [] [] e tt n)
    game_alike i c d rs ss e h (Node (Leaf x) m n) = node_alike c d 1 e (copies_alike c d m e) (copies_alike c d n e)
    game_alike i c d rs ss e h (Node (Read x) m n) = node_alike c d 1 e (copies_alike c d m e) (copies_alike c d n e)
    game_alike i c d rs ss e h (Node k m n) = node_alike c d (weight k) e (game_alike i c d [] [] e tt m) (game_alike i c d [] [] e tt n)
