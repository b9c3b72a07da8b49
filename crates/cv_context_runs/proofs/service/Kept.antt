-- The stores of a game and of its context: names of the game agree, the key and the coins of the game have the values of the tape.
use Rattle.std.proofs.Common.{◌≡◌, ◌≢◌, ℕ, zero, suc, ◌<◌, Bool, true, false, cond, ◌||◌, ◌&&◌, not, ◌==◌, List, [], ◌∷◌, length, Option, Some, None, refl, sym, ap, ap₂, ◌∙◌, eq-eqb, eqb-true, arith}
use Rattle.std.proofs.lemmas.Bool.{both_ways, eqb-false}
use Rattle.std.proofs.lemmas.List.Folds.{list_any-append}
use Rattle.std.specs.List.{list_any}
use Rattle.cv_syntax_trees.specs.declared.head.Head.TheVariants.{Binder}
use Rattle.cv_syntax_trees.specs.Tree.{Tree, Node}
use Rattle.cv_meaning.specs.Binders.{bound_to}
use Rattle.cv_meaning.specs.Candidates.{below}
use Rattle.cv_meaning.specs.Memory.{Memory, Store, put}
use Rattle.cv_meaning.specs.Tapes.{Key_at, New_at, Tape, same_tuple}
use Rattle.cv_meaning_laws.specs.Agreement.{AgreeOn}
use Rattle.cv_meaning_laws.proofs.Counts.{same_tuple_exact}
use Rattle.cv_scope_runs.proofs.Contexts.{put_other}
use Rattle.cv_scene.specs.Reductions.{Reduction, is_answer, is_coin, is_plain, sites}
use Rattle.cv_scene.specs.Cells.{at_left, coin_from, made_by}
use Rattle.cv_scene.specs.Apt.{AreBindersPlain}

-- the value is there where another one is
abbrev pub where_there : Option ℕ → ℕ → Option ℕ
where_there None v = None
where_there (Some w) v = Some v

pub record KeptStores (r : Reduction) (t : Tape) (m n : Store) : Type 0 where
  pub plain : AgreeOn (is_plain r) m n
  pub key : (w : List ℕ) → m r.key w ≡ where_there (n r.key w) (t (Key_at w))
  pub coins : (y : ℕ) (w : List ℕ) (v : ℕ) → is_coin r y ≡ true → m y w ≡ Some v → v ≡ t (at_left r (New_at y w))

pub record Kept (r : Reduction) (t : Tape) (x y : Memory) : Type 0 where
  pub stores : KeptStores r t x.store y.store
  pub events : x.events ≡ y.events

-- names that differ

pub apart_by : (on : ℕ → Bool) (x y : ℕ) → on x ≡ true → on y ≡ false → (y == x) ≡ false
apart_by on x y e f = go (y == x) refl
  where
    go : (b : Bool) → (y == x) ≡ b → (y == x) ≡ false
    go true k = absurd (both_ways (on x) (ap on (sym (eqb-true y x k)) ∙ f) e)
    go false k = k

pub key_not_plain : (r : Reduction) → is_plain r r.key ≡ false
key_not_plain r = ap (λ b. not b && (not (is_coin r r.key) && not (is_answer r r.key))) (eq-eqb r.key r.key refl)

pub coin_not_plain : (r : Reduction) (y : ℕ) → is_coin r y ≡ true → is_plain r y ≡ false
coin_not_plain r y e = ap (λ b. not (y == r.key) && (not b && not (is_answer r y))) e ∙ and_false (not (y == r.key))
  where
    and_false : (b : Bool) → b && false ≡ false
    and_false true = refl
    and_false false = refl

pub answer_not_plain : (r : Reduction) (y : ℕ) → is_answer r y ≡ true → is_plain r y ≡ false
answer_not_plain r y e = ap (λ b. not (y == r.key) && (not (is_coin r y) && not b)) e ∙ and_false (not (y == r.key)) (not (is_coin r y))
  where
    and_false : (b c : Bool) → b && (c && false) ≡ false
    and_false true true = refl
    and_false true false = refl
    and_false false c = refl

put_elsewhere : (m : Store) (x : ℕ) (u : List ℕ) (v y : ℕ) (w : List ℕ) → (y == x) ≡ false → put m x u v y w ≡ m y w
put_elsewhere m x u v y w e = put_other m x u v y w (λ i j. both_ways (y == x) e i)

module _ (r : Reduction) (t : Tape) where
  abbrev K : Store → Store → Type 0
  K = KeptStores r t

  pub put_plain : (m n : Store) (x : ℕ) (u : List ℕ) (a b : ℕ) → is_plain r x ≡ true → a ≡ b → K m n → K (put m x u a) (put n x u b)
  unfolding put
  put_plain m n x u a b e i k = record {
    plain = λ y w f. ap₂ (λ c o. cond ((y == x) && same_tuple w u) (Some c) o) i (k.plain y w f);
    key = λ w. put_elsewhere m x u a r.key w (apart_by (is_plain r) x r.key e (key_not_plain r)) ∙ k.key w ∙ ap (λ o. where_there o (t (Key_at w))) (sym (put_elsewhere n x u b r.key w (apart_by (is_plain r) x r.key e (key_not_plain r))));
    coins = λ y w v c f. k.coins y w v c (sym (put_elsewhere m x u a y w (apart_by (is_plain r) x y e (coin_not_plain r y c))) ∙ f);
  }

  pub put_bound : (m n : Store) (u : List ℕ) (bs : Tree) (vs : List ℕ) → AreBindersPlain r bs → K m n → K (bound_to m u bs vs) (bound_to n u bs vs)
  unfolding bound_to
  put_bound m n u (Node (Binder x T) a b) (v ∷ vs) p k = put_bound (put m x u v) (put n x u v) u b vs p.1 (put_plain m n x u v v p.0 refl k)
  put_bound m n u bs vs p k = k

  -- the key is drawn, and chosen
  pub put_key : (m n : Store) (u : List ℕ) → is_coin r r.key ≡ false → K m n → K (put m r.key u (t (at_left r (New_at r.key u)))) (put n r.key u 0)
  unfolding put
  put_key m n u c k = record {
    plain = λ y w f. put_elsewhere m r.key u _ y w (other y f) ∙ k.plain y w f ∙ sym (put_elsewhere n r.key u 0 y w (other y f));
    key = λ w. go w (same_tuple w u) refl;
    coins = λ y w v d f. k.coins y w v d (sym (put_elsewhere m r.key u _ y w (coin_other y d)) ∙ f);
  }
    where
      other : (y : ℕ) → is_plain r y ≡ true → (y == r.key) ≡ false
      other y f = apart_by (λ x. not (is_plain r x)) r.key y (ap not (key_not_plain r)) (ap not f)

      coin_other : (y : ℕ) → is_coin r y ≡ true → (y == r.key) ≡ false
      coin_other y d = apart_by (λ x. not (is_coin r x)) r.key y (ap not c) (ap not d)

      cell : (w : List ℕ) → t (at_left r (New_at r.key w)) ≡ t (Key_at w)
      cell w = ap (λ b. t (cond b (Key_at w) (made_by r r.key w (coin_from 0 (sites r) r.key)))) (eq-eqb r.key r.key refl)

      go : (w : List ℕ) (b : Bool) → same_tuple w u ≡ b → cond ((r.key == r.key) && same_tuple w u) (Some (t (at_left r (New_at r.key u)))) (m r.key w) ≡ where_there (cond ((r.key == r.key) && same_tuple w u) (Some 0) (n r.key w)) (t (Key_at w))
      go w true e =
          ap₂ (λ b d. cond (b && d) (Some (t (at_left r (New_at r.key u)))) (m r.key w)) (eq-eqb r.key r.key refl) e
          ∙ ap Some (cell u ∙ ap (λ x. t (Key_at x)) (sym (same_tuple_exact w u e)))
          ∙ sym (ap₂ (λ b d. where_there (cond (b && d) (Some 0) (n r.key w)) (t (Key_at w))) (eq-eqb r.key r.key refl) e)
      go w false e =
          ap₂ (λ b d. cond (b && d) (Some (t (at_left r (New_at r.key u)))) (m r.key w)) (eq-eqb r.key r.key refl) e
          ∙ k.key w
          ∙ sym (ap₂ (λ b d. where_there (cond (b && d) (Some 0) (n r.key w)) (t (Key_at w))) (eq-eqb r.key r.key refl) e)

  -- a coin is drawn in the game alone
  pub put_coin : (m n : Store) (x : ℕ) (u : List ℕ) → is_coin r r.key ≡ false → is_coin r x ≡ true → K m n → K (put m x u (t (at_left r (New_at x u)))) n
  unfolding put
  put_coin m n x u d c k = record {
    plain = λ y w f. put_elsewhere m x u _ y w (apart_by (λ z. not (is_plain r z)) x y (ap not (coin_not_plain r x c)) (ap not f)) ∙ k.plain y w f;
    key = λ w. put_elsewhere m x u _ r.key w (apart_by (is_coin r) x r.key c d) ∙ k.key w;
    coins = λ y w v e f. go y w v e (y == x) refl (same_tuple w u) refl f;
  }
    where
      go : (y : ℕ) (w : List ℕ) (v : ℕ) → is_coin r y ≡ true → (b : Bool) → (y == x) ≡ b → (s : Bool) → same_tuple w u ≡ s → cond ((y == x) && same_tuple w u) (Some (t (at_left r (New_at x u)))) (m y w) ≡ Some v → v ≡ t (at_left r (New_at y w))
      go y w v e true i true j f =
          let found : Some (t (at_left r (New_at x u))) ≡ Some v = sym (ap₂ (λ b s. cond (b && s) (Some (t (at_left r (New_at x u)))) (m y w)) i j) ∙ f in
          let same : t (at_left r (New_at x u)) ≡ v = cc in
          sym same ∙ ap₂ (λ z s. t (at_left r (New_at z s))) (sym (eqb-true y x i)) (sym (same_tuple_exact w u j))
      go y w v e true i false j f = k.coins y w v e (sym (ap₂ (λ b s. cond (b && s) (Some (t (at_left r (New_at x u)))) (m y w)) i j) ∙ f)
      go y w v e false i s j f = k.coins y w v e (sym (ap (λ b. cond (b && same_tuple w u) (Some (t (at_left r (New_at x u)))) (m y w)) i) ∙ f)

  -- an answer is assigned in the context alone
  pub put_answer : (m n : Store) (x : ℕ) (u : List ℕ) (v : ℕ) → is_answer r r.key ≡ false → is_answer r x ≡ true → K m n → K m (put n x u v)
  put_answer m n x u v d c k = record {
    plain = λ y w f. k.plain y w f ∙ sym (put_elsewhere n x u v y w (apart_by (λ z. not (is_plain r z)) x y (ap not (answer_not_plain r x c)) (ap not f)));
    key = λ w. k.key w ∙ ap (λ o. where_there o (t (Key_at w))) (sym (put_elsewhere n x u v r.key w (apart_by (is_answer r) x r.key c d)));
    coins = k.coins;
  }

-- the answers of sites

among : (p : ℕ → Bool) (n k : ℕ) → k < n → p k ≡ true → list_any p (below n) ≡ true
among p zero k l e = absurd (omega arith)
among p (suc n) k l e = list_any-append p (below n) (n ∷ []) ∙ go (k == n) refl (λ d. among p n k d e)
  where
    go : (b : Bool) → (k == n) ≡ b → (k < n → list_any p (below n) ≡ true) → (list_any p (below n) || (p n || false)) ≡ true
    go true i ih = ap (λ c. list_any p (below n) || (c || false)) (ap p (sym (eqb-true k n i)) ∙ e) ∙ last (list_any p (below n))
      where
        last : (c : Bool) → c || true ≡ true
        last true = refl
        last false = refl
    go false i ih = ap (λ c. c || (p n || false)) (ih (let d : k ≢ n = eqb-false k n i in omega arith))

pub answers_are : (r : Reduction) (k : ℕ) → k < length (sites r) → is_answer r (r.answer k) ≡ true
answers_are r k l = among (λ j. r.answer j == r.answer k) (length (sites r)) k l (eq-eqb (r.answer k) (r.answer k) refl)
