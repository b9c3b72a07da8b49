-- For each adversary and finitely many runs there is a table that plays them as it does.
use Rattle.std.proofs.Common.{◌≡◌, ℕ, zero, suc, ◌+◌, ◌<◌, Bool, true, false, cond, ◌&&◌, List, [], ◌∷◌, ◌++◌, flat_map, map, inl, inr, Option, Some, None, is_some, refl, sym, ap, ap₂, subst, ◌∙◌, arith, eqb-true, eq-eqb}
use Rattle.std.proofs.lemmas.Bool.{both_ways, and_parts, and_from}
use Rattle.std.specs.List.{All}
use Rattle.cv_syntax_trees.specs.declared.head.Head.TheVariants.{Secret, SecretOnce}
use Rattle.cv_syntax_trees.specs.Tree.{Tree, Node}
use Rattle.cv_meaning.specs.Tapes.{Cell, Tape, written, sum_below, count, total, blank, same_tuple}
use Rattle.cv_meaning.specs.Interpretation.{Setting}
use Rattle.cv_meaning.specs.Serving.{Reply, Yielded, Sent}
use Rattle.cv_meaning.specs.Candidates.{below}
use Rattle.cv_meaning.specs.Runs.{Move, Answer, Refused, Replied, Told, Mode, Events, Real, Random, Adversary, State, moved, next_move, by_move, run_from, start}
use Rattle.cv_meaning.specs.Cells.{cells}
use Rattle.cv_meaning.specs.Experiments.{coins_on, run, Experiment, Breaks, Guesses, mode_of, holds_in, holds_on}
use Rattle.cv_meaning.specs.Chances.{chance, distance}
use Rattle.cv_meaning.specs.Advantage.{chance_of, secrecy, advantage}
use Rattle.cv_meaning_laws.proofs.Counts.{same_tuple_refl, same_tuple_exact}
use Rattle.cv_meaning_laws.proofs.Listed.{Has, has_left, has_right, has_map, has_flat_map}
use Rattle.cv_meaning_laws.specs.adequacy.Counted.{tapes_of}
use Rattle.cv_meaning_laws.specs.adequacy.Tables.{same_reply, same_answer, same_answers, Row, move_in, Table, table_adversary, Play, run_of, Target, advantage_at}
use Rattle.cv_meaning_laws.proofs.adequacy.Lists.{flat_map_has, has_below, has_all}

-- answers

same_reply_refl : (r : Reply) → same_reply r r ≡ true
same_reply_refl Yielded = refl
same_reply_refl (Sent c u vs) = and_from _ _ (eq-eqb c c refl) (and_from _ _ (same_tuple_refl u) (same_tuple_refl vs))

same_reply_exact : (r s : Reply) → same_reply r s ≡ true → r ≡ s
same_reply_exact Yielded Yielded h = refl
same_reply_exact (Sent c u vs) (Sent d w ws) h =
    let p = and_parts _ _ h in
    let q = and_parts (same_tuple u w) _ p.1 in
    λ i. Sent (eqb-true c d p.0 i) (same_tuple_exact u w q.0 i) (same_tuple_exact vs ws q.1 i)
same_reply_exact _ _ h = absurd (both_ways _ refl h)

same_answer_refl : (x : Answer) → same_answer x x ≡ true
same_answer_refl Refused = refl
same_answer_refl (Replied r) = same_reply_refl r
same_answer_refl (Told v) = eq-eqb v v refl

same_answer_exact : (x y : Answer) → same_answer x y ≡ true → x ≡ y
same_answer_exact Refused Refused h = refl
same_answer_exact (Replied r) (Replied s) h = ap Replied (same_reply_exact r s h)
same_answer_exact (Told v) (Told w) h = ap Told (eqb-true v w h)
same_answer_exact _ _ h = absurd (both_ways _ refl h)

same_answers_refl : (xs : List Answer) → same_answers xs xs ≡ true
same_answers_refl [] = refl
same_answers_refl (x ∷ xs) = and_from _ _ (same_answer_refl x) (same_answers_refl xs)

same_answers_exact : (xs ys : List Answer) → same_answers xs ys ≡ true → xs ≡ ys
same_answers_exact [] [] h = refl
same_answers_exact (x ∷ xs) (y ∷ ys) h = let p = and_parts (same_answer x y) _ h in ap₂ ◌∷◌ (same_answer_exact x y p.0) (same_answers_exact xs ys p.1)
same_answers_exact _ _ h = absurd (both_ways _ refl h)

-- rows that say what the adversary does

abbrev Choices : Type 0
Choices = List ℕ → List Answer → Option Move

abbrev IsRowOf : Choices → Row → Type 0
IsRowOf next r = next r.coins r.answers ≡ Some r.move

fitting : List ℕ → List Answer → Row → Bool
fitting cs xs r = same_tuple r.coins cs && same_answers r.answers xs

row_says : (next : Choices) (cs : List ℕ) (xs : List Answer) (r : Row) → IsRowOf next r → fitting cs xs r ≡ true → next cs xs ≡ Some r.move
unfolding fitting
row_says next cs xs r h f = let p = and_parts (same_tuple r.coins cs) _ f in sym (ap₂ next (same_tuple_exact r.coins cs p.0) (same_answers_exact r.answers xs p.1)) ∙ h

-- a move of the table is one of the adversary
move_is : (next : Choices) (rows : List Row) → ((r : Row) → Has rows r → IsRowOf next r) → (cs : List ℕ) (xs : List Answer) (a : Move) → move_in rows cs xs ≡ Some a → next cs xs ≡ Some a
unfolding fitting
move_is next [] h cs xs a e = cc
move_is next (r ∷ rows) h cs xs a e = go (fitting cs xs r) refl (move_is next rows (λ s i. h s (inr i)) cs xs a) e
  where
    go : (b : Bool) → fitting cs xs r ≡ b → (move_in rows cs xs ≡ Some a → next cs xs ≡ Some a) → cond b (Some r.move) (move_in rows cs xs) ≡ Some a → next cs xs ≡ Some a
    go true f ih e = row_says next cs xs r (h r (inl refl)) f ∙ e
    go false f ih e = ih e

-- where a row fits, the table has a move
move_found : (rows : List Row) (r : Row) → Has rows r → (a : Move) × (move_in rows r.coins r.answers ≡ Some a)
unfolding fitting
move_found [] r h = absurd h
move_found (s ∷ rows) r (inl e) = (s.move, ap (λ b. cond b (Some s.move) (move_in rows r.coins r.answers)) (subst (λ z. fitting r.coins r.answers z ≡ true) e (and_from _ _ (same_tuple_refl r.coins) (same_answers_refl r.answers))))
move_found (s ∷ rows) r (inr i) = go (fitting r.coins r.answers s) (move_found rows r i)
  where
    go : (b : Bool) → (a : Move) × (move_in rows r.coins r.answers ≡ Some a) → (a : Move) × (cond b (Some s.move) (move_in rows r.coins r.answers) ≡ Some a)
    go true m = (s.move, refl)
    go false m = m

-- the table moves as the adversary does where a row stands for each move of the adversary
moves_alike : (next : Choices) (rows : List Row) → ((r : Row) → Has rows r → IsRowOf next r) → (cs : List ℕ) (xs : List Answer) → ((a : Move) → next cs xs ≡ Some a → Has rows (record { coins = cs; answers = xs; move = a })) → move_in rows cs xs ≡ next cs xs
moves_alike next rows h cs xs has = go (next cs xs) refl (move_in rows cs xs) refl
  where
    go : (o : Option Move) → next cs xs ≡ o → (m : Option Move) → move_in rows cs xs ≡ m → m ≡ o
    go None x None y = refl
    go None x (Some a) y = let z = move_is next rows h cs xs a y in cc
    go (Some a) x m y = let f = move_found rows (record { coins = cs; answers = xs; move = a }) (has a x) in let z = move_is next rows h cs xs f.0 f.1 in cc (f.1)

-- the rows of a run

rows_from : Setting → Mode → (List Answer → Option Move) → List ℕ → Tape → ℕ → State → List Row
rows_from g m next cs t zero st = []
rows_from g m next cs t (suc n) st = by_move [] (λ a. record { coins = cs; answers = st.answers; move = a } ∷ rows_from g m next cs t n (moved g m t st a)) (next_move next st)

next_is : (next : List Answer → Option Move) (st : State) (a : Move) → next_move next st ≡ Some a → next st.answers ≡ Some a
next_is next st a e = go (is_some st.guess) e
  where
    go : (b : Bool) → cond b None (next st.answers) ≡ Some a → next st.answers ≡ Some a
    go true e = cc
    go false e = e

rows_right : (g : Setting) (m : Mode) (next : Choices) (cs : List ℕ) (t : Tape) (n : ℕ) (st : State) (r : Row) → Has (rows_from g m (next cs) cs t n st) r → IsRowOf next r
unfolding rows_from
rows_right g m next cs t zero st r h = absurd h
rows_right g m next cs t (suc n) st r h = go (next_move (next cs) st) refl h (λ a. rows_right g m next cs t n (moved g m t st a) r)
  where
    go : (o : Option Move) → next_move (next cs) st ≡ o → Has (by_move [] (λ a. record { coins = cs; answers = st.answers; move = a } ∷ rows_from g m (next cs) cs t n (moved g m t st a)) o) r
        → ((a : Move) → Has (rows_from g m (next cs) cs t n (moved g m t st a)) r → IsRowOf next r) → IsRowOf next r
    go None x h ih = absurd h
    go (Some a) x (inl e) ih = subst (IsRowOf next) (sym e) (next_is (next cs) st a x)
    go (Some a) x (inr i) ih = ih a i

runs_alike : (g : Setting) (m : Mode) (next : Choices) (rows : List Row) → ((r : Row) → Has rows r → IsRowOf next r) → (cs : List ℕ) (t : Tape) (n : ℕ) (st : State) → ((r : Row) → Has (rows_from g m (next cs) cs t n st) r → Has rows r) → run_from g m (move_in rows cs) t n st ≡ run_from g m (next cs) t n st
unfolding rows_from run_from
runs_alike g m next rows h cs t zero st has = refl
runs_alike g m next rows h cs t (suc n) st has =
    ap (by_move st (λ a. run_from g m (move_in rows cs) t n (moved g m t st a))) same_next
    ∙ go (next_move (next cs) st) has (λ a. runs_alike g m next rows h cs t n (moved g m t st a))
  where
    of : Move → Row
    of a = record { coins = cs; answers = st.answers; move = a }

    first : (a : Move) → next_move (next cs) st ≡ Some a → Has rows (of a)
    first a e = has (of a) (subst (λ o. Has (by_move [] (λ a. of a ∷ rows_from g m (next cs) cs t n (moved g m t st a)) o) (of a)) (sym e) (inl refl))

    same_next : next_move (move_in rows cs) st ≡ next_move (next cs) st
    same_next = guess (is_some st.guess) refl
      where
        guess : (b : Bool) → is_some st.guess ≡ b → cond b None (move_in rows cs st.answers) ≡ cond b None (next cs st.answers)
        guess true x = refl
        guess false x = moves_alike next rows h cs st.answers (λ a e. first a (ap (λ b. cond b None (next cs st.answers)) x ∙ e))

    go : (o : Option Move) → ((r : Row) → Has (by_move [] (λ a. of a ∷ rows_from g m (next cs) cs t n (moved g m t st a)) o) r → Has rows r)
        → ((a : Move) → ((r : Row) → Has (rows_from g m (next cs) cs t n (moved g m t st a)) r → Has rows r) → run_from g m (move_in rows cs) t n (moved g m t st a) ≡ run_from g m (next cs) t n (moved g m t st a))
        → by_move st (λ a. run_from g m (move_in rows cs) t n (moved g m t st a)) o ≡ by_move st (λ a. run_from g m (next cs) t n (moved g m t st a)) o
    go None k ih = refl
    go (Some a) k ih = ih a (λ r i. k r (inr i))

-- the table of finitely many runs

rows_of : Adversary → Play → List Row
rows_of a p = let cs = coins_on p.tape 0 a.coins in rows_from p.setting p.mode (a.next cs) cs p.tape a.moves (start p.setting p.game)

pub table_of : Adversary → List Play → Table
table_of a plays = record { coins = a.coins; coins_have_values = a.coins_have_values; moves = a.moves; rows = flat_map (rows_of a) plays }

plays_alike : (a : Adversary) (plays : List Play) (p : Play) → Has plays p → run_of p (table_adversary (table_of a plays)) ≡ run_of p a
unfolding run table_of rows_of
plays_alike a plays p i =
    runs_alike p.setting p.mode a.next (flat_map (rows_of a) plays)
    (λ r h. let s = flat_map_has (rows_of a) plays r h in rows_right s.0.setting s.0.mode a.next (coins_on s.0.tape 0 a.coins) s.0.tape a.moves (start s.0.setting s.0.game) r s.2)
    (coins_on p.tape 0 a.coins) p.tape a.moves (start p.setting p.game)
    (λ r h. has_flat_map (rows_of a) plays p r i h)

pub table_for : (a : Adversary) (plays : List Play) → (T : Table) × (T.coins ≡ a.coins) × (T.moves ≡ a.moves) × All (λ p. run_of p (table_adversary T) ≡ run_of p a) plays
unfolding table_of
table_for a plays = (table_of a plays, refl, refl, has_all _ plays (plays_alike a plays))

-- counts go over finitely many tapes

sum_alike : (n : ℕ) (f g : ℕ → ℕ) → ((v : ℕ) → v < n → f v ≡ g v) → sum_below n f ≡ sum_below n g
unfolding sum_below
sum_alike zero f g h = refl
sum_alike (suc n) f g h = ap₂ ◌+◌ (sum_alike n f g (λ v l. h v (omega arith))) (h n (omega arith))

count_alike : (cs : List (Cell × ℕ)) (p q : Tape → Bool) (t : Tape) → ((u : Tape) → Has (tapes_of cs t) u → p u ≡ q u) → count cs p t ≡ count cs q t
unfolding count tapes_of
count_alike [] p q t h = ap (λ b. cond b 1 0) (h t (inl refl))
count_alike (c ∷ cs) p q t h =
    sum_alike c.1 _ _ (λ v l. count_alike cs p q (written t c.0 v) (λ u i. h u (has_flat_map (λ w. tapes_of cs (written t c.0 w)) (below c.1) v u (has_below c.1 v l) i)))

-- the runs behind an advantage

plays_in : Adversary → Setting → Mode → Tree → List Play
plays_in a g m game = map (λ t. record { setting = g; mode = m; game = game; tape = t }) (tapes_of (cells g m a game) blank)

abbrev Covers : Adversary → List Play → Setting → Mode → Tree → Type 0
Covers a plays g m game = (p : Play) → Has (plays_in a g m game) p → Has plays p

chances_alike : (a : Adversary) (plays : List Play) (g : Setting) (m : Mode) (game : Tree) (p : State → Bool) → Covers a plays g m game
    → chance (cells g m (table_adversary (table_of a plays)) game) (λ t. p (run g m (table_adversary (table_of a plays)) game t)) ≡ chance (cells g m a game) (λ t. p (run g m a game t))
unfolding cells table_of plays_in
chances_alike a plays g m game p h =
    ap (λ k. record { good = k; all = total (cells g m a game) })
    (count_alike (cells g m a game) _ _ blank (λ t i. ap p (plays_alike a plays (record { setting = g; mode = m; game = game; tape = t }) (h _ (has_map (λ t. record { setting = g; mode = m; game = game; tape = t }) (tapes_of (cells g m a game) blank) t i)))))

experiments_alike : (a : Adversary) (plays : List Play) (g : Setting) (x : Experiment) (game : Tree) → Covers a plays g (mode_of x) game → chance_of g x (table_adversary (table_of a plays)) game ≡ chance_of g x a game
unfolding chance_of holds_on
experiments_alike a plays g x game h = chances_alike a plays g (mode_of x) game (holds_in g x) h

plays_of_secrecy : Adversary → Setting → Bool → ℕ → Tree → List Play
plays_of_secrecy a g one x game = plays_in a g (Real one x) game ++ plays_in a g (Random one x) game

secrecy_alike : (a : Adversary) (plays : List Play) (g : Setting) (one : Bool) (x : ℕ) (game : Tree) → ((p : Play) → Has (plays_of_secrecy a g one x game) p → Has plays p) → secrecy g one x (table_adversary (table_of a plays)) game ≡ secrecy g one x a game
unfolding plays_of_secrecy
secrecy_alike a plays g one x game h =
    ap₂ distance (experiments_alike a plays g (Guesses (Real one x)) game (λ p i. h p (has_left _ _ p i)))
    (experiments_alike a plays g (Guesses (Random one x)) game (λ p i. h p (has_right (plays_in a g (Real one x) game) _ p i)))

plays_against : Adversary → Setting → Tree → Tree → List Play
plays_against a g (Node (Secret x) b c) game = plays_of_secrecy a g false x game
plays_against a g (Node (SecretOnce x) b c) game = plays_of_secrecy a g true x game
plays_against a g query game = plays_in a g Events game

advantages_alike : (a : Adversary) (plays : List Play) (g : Setting) (query game : Tree) → ((p : Play) → Has (plays_against a g query game) p → Has plays p) → advantage g query (table_adversary (table_of a plays)) game ≡ advantage g query a game
unfolding plays_against
advantages_alike a plays g (Node (Secret x) b c) game h = secrecy_alike a plays g false x game h
advantages_alike a plays g (Node (SecretOnce x) b c) game h = secrecy_alike a plays g true x game h
advantages_alike a plays g query game h = experiments_alike a plays g (Breaks query) game h

plays_at : Adversary → Target → List Play
plays_at a x = plays_against a x.setting x.query x.game

pub table_against : (a : Adversary) (targets : List Target) → (T : Table) × (T.coins ≡ a.coins) × (T.moves ≡ a.moves) × All (λ x. advantage_at x (table_adversary T) ≡ advantage_at x a) targets
unfolding table_of plays_at
table_against a targets =
    let plays = flat_map (plays_at a) targets in
    (table_of a plays, refl, refl, has_all _ targets (λ x i. advantages_alike a plays x.setting x.query x.game (λ p j. has_flat_map (plays_at a) targets x p i j)))
