-- The exchange of cells is one to one on tapes: two tapes that become the same at the cells of a list were the same there.
use Rattle.std.proofs.Common.{◌≡◌, ℕ, ◌==◌, ◌||◌, Bool, true, false, cond, not, List, [], ◌∷◌, inl, inr, refl, sym, ap, ap₂, subst, ◌∙◌, eq-eqb, eqb-true}
use Rattle.std.proofs.lemmas.Bool.{both_ways, not-false, or_right}
use Rattle.std.proofs.Math.Path.{fun_ext}
use Rattle.std.specs.List.{AllByRecursion, list_any}
use Rattle.cv_syntax_trees.specs.declared.head.Head.TheVariants.{Call, Find, New}
use Rattle.cv_syntax_trees.specs.Declarations.{Declaration}
use Rattle.cv_syntax_trees.specs.Tree.{Tree, Empty, Node}
use Rattle.cv_meaning.specs.Cells.{cells, coin_cells}
use Rattle.cv_meaning.specs.Consulted.{consulted_at}
use Rattle.cv_meaning.specs.Experiments.{coins_on, visits_of_run}
use Rattle.cv_meaning.specs.Interpretation.{Setting}
use Rattle.cv_meaning.specs.Memory.{tuple}
use Rattle.cv_meaning.specs.Runs.{Adversary, Mode}
use Rattle.cv_meaning.specs.Serving.{Visit}
use Rattle.cv_meaning.specs.Tapes.{Cell, Coin, Find_at, Key_at, Made_at, New_at, Picked_at, Tape, Test_at, cells_of, is_in, same_cell}
use Rattle.cv_meaning_laws.proofs.Counts.{same_cell_exact, same_cell_refl}
use Rattle.cv_meaning_laws.proofs.Listed.{Has}
use Rattle.cv_meaning_runs.specs.Agreement.{AgreeAt, IsLocal, SameUpTo, visit_consults}
use Rattle.cv_meaning_runs.specs.Listed.{IsTestable, has_no_calls}
use Rattle.cv_meaning_runs.proofs.Listed.{listed_same, no_keys_consulted}
use Rattle.cv_meaning_runs.proofs.Together.{visits_up_to}
use Rattle.cv_scope_rules.specs.Made.{made_at}
use Rattle.cv_scope_rules.specs.Phrases.{HasConstantsOf, IsWellFormed, is_plain}
use Rattle.cv_scope_rules.specs.Scope.{is_variable}
use Rattle.cv_scope_rules.specs.Sites.{Variable}
use Rattle.cv_scope_runs.proofs.Plain.{VisitPlain, game_plain, plain_no_calls, visits_plain}
use Rattle.cv_rule_array_names.specs.Owners.{exchanged_cell, owner_in}
use Rattle.cv_edit_names.specs.Naming.{Naming}
use Rattle.cv_rule_array_names.proofs.Around.{stands_free}
use Rattle.cv_rule_array_names.proofs.Finds.{IsSplitting}
use Rattle.cv_rule_array_names.proofs.Owners.{visits_expected, fine, name_apart, owner, owner_is_named, the_end, the_visits}
use Rattle.cv_rule_array_names.proofs.Points.{IsExpected}
use Rattle.cv_rule_array_names.proofs.Stores.{Free, head_free, is_name}

-- lists

same_all : {A : Type 0} (stops : A → Bool) (xs ys : List A) → SameUpTo stops xs ys → ((z : A) → Has xs z → Has ys z → stops z ≡ false) → xs ≡ ys
same_all stops [] [] h f = refl
same_all stops (x ∷ xs) (y ∷ ys) h f = let rest : xs ≡ ys = same_all stops xs ys (h.1 (f x (inl refl) (inl h.0))) (λ z a b. f z (inr a) (inr b)) in λ i. h.0 i ∷ rest i
same_all stops [] (y ∷ ys) h f = absurd h
same_all stops (x ∷ xs) [] h f = absurd h

pub each_of : {A : Type 0} (P : A → Type 0) (xs : List A) (z : A) → AllByRecursion P xs → Has xs z → P z
each_of P [] z h k = absurd k
each_of P (x ∷ xs) z h (inl e) = subst P (sym e) h.0
each_of P (x ∷ xs) z h (inr k) = each_of P xs z h.1 k

pub of_each : {A : Type 0} (P : A → Type 0) (xs : List A) → ((z : A) → Has xs z → P z) → AllByRecursion P xs
of_each P [] f = tt
of_each P (x ∷ xs) f = (f x (inl refl), of_each P xs (λ z h. f z (inr h)))

is_listed : (E : List (Cell × ℕ)) (c : Cell) → is_in E c ≡ true → Has (cells_of E) c
is_listed [] c e = absurd (both_ways false refl e)
is_listed (d ∷ E) c e = go (same_cell d.0 c) refl (is_listed E c) e
  where
    go : (b : Bool) → same_cell d.0 c ≡ b → (is_in E c ≡ true → Has (cells_of E) c) → (b || is_in E c) ≡ true → Has (cells_of (d ∷ E)) c
    go true i ih k = inl (sym (same_cell_exact d.0 c i))
    go false i ih k = inr (ih k)

not_same : (a b : ℕ) → a ≡ b → not (a == b) ≡ false
not_same a b e = ap not (eq-eqb a b e)

same_not : (a b : ℕ) → not (a == b) ≡ false → a ≡ b
same_not a b e = eqb-true a b (not-false _ e)

-- a list that has the game's cells and coins, and with a cell of the variable those of all names
pub record IsClosed (g : Setting) (m : Mode) (a : Adversary) (game : Tree) (x : ℕ) (ys : List ℕ) (E : List (Cell × ℕ)) : Type 0 where
  pub game_cells : AllByRecursion (Has (cells_of E)) (cells_of (cells g m a game))
  pub coins : AllByRecursion (Has (cells_of E)) (cells_of (coin_cells 0 a.coins))
  pub there : (y : ℕ) (w : List ℕ) → is_name ys y ≡ true → Has (cells_of E) (New_at x w) → Has (cells_of E) (New_at y w)
  pub back : (y : ℕ) (w : List ℕ) → is_name ys y ≡ true → Has (cells_of E) (New_at y w) → Has (cells_of E) (New_at x w)

-- the exchange of one cell

module _ (x : ℕ) (ys : List ℕ) (o : List ℕ → ℕ) (owns : (w : List ℕ) → is_name ys (o w) ≡ true) (old : is_name ys x ≡ false) where
  owner_not : (w : List ℕ) → (o w == x) ≡ false
  owner_not w = go (o w == x) refl
    where
      go : (b : Bool) → (o w == x) ≡ b → (o w == x) ≡ false
      go true i = absurd (both_ways (is_name ys x) old (ap (is_name ys) (sym (eqb-true (o w) x i)) ∙ owns w))
      go false i = i

  pub to_owner : (w : List ℕ) → exchanged_cell x o (New_at x w) ≡ New_at (o w) w
  to_owner w = ap (λ b. cond b (New_at (o w) w) (cond (x == o w) (New_at x w) (New_at x w))) (eq-eqb x x refl)

  pub from_owner : (w : List ℕ) → exchanged_cell x o (New_at (o w) w) ≡ New_at x w
  from_owner w = ap₂ (λ b c. cond b (New_at (o w) w) (cond c (New_at x w) (New_at (o w) w))) (owner_not w) (eq-eqb (o w) (o w) refl)

  pub stays : (z : ℕ) (w : List ℕ) → (z == x) ≡ false → (z == o w) ≡ false → exchanged_cell x o (New_at z w) ≡ New_at z w
  stays z w e f = ap₂ (λ b c. cond b (New_at (o w) w) (cond c (New_at x w) (New_at z w))) e f

  twice_new : (z : ℕ) (w : List ℕ) (b c : Bool) → (z == x) ≡ b → (z == o w) ≡ c → exchanged_cell x o (cond b (New_at (o w) w) (cond c (New_at x w) (New_at z w))) ≡ New_at z w
  twice_new z w true c e f = from_owner w ∙ ap (λ q. New_at q w) (sym (eqb-true z x e))
  twice_new z w false true e f = to_owner w ∙ ap (λ q. New_at q w) (sym (eqb-true z (o w) f))
  twice_new z w false false e f = stays z w e f

  pub twice : (c : Cell) → exchanged_cell x o (exchanged_cell x o c) ≡ c
  twice (New_at z w) = twice_new z w (z == x) (z == o w) refl refl
  twice (Find_at z w) = refl
  twice (Test_at w) = refl
  twice (Key_at w) = refl
  twice (Made_at z w k) = refl
  twice (Picked_at z w k) = refl
  twice (Coin k) = refl

  -- a closed list has it with the cell
  module _ (g : Setting) (m : Mode) (a : Adversary) (game : Tree) (E : List (Cell × ℕ)) (closed : IsClosed g m a game x ys E) where
    pub exchanged_listed : (c : Cell) → Has (cells_of E) c → Has (cells_of E) (exchanged_cell x o c)
    exchanged_listed (New_at z w) h = go (z == x) (z == o w) refl refl
      where
        go : (b c : Bool) → (z == x) ≡ b → (z == o w) ≡ c → Has (cells_of E) (cond b (New_at (o w) w) (cond c (New_at x w) (New_at z w)))
        go true c e f = closed.there (o w) w (owns w) (subst (λ q. Has (cells_of E) (New_at q w)) (eqb-true z x e) h)
        go false true e f = closed.back (o w) w (owns w) (subst (λ q. Has (cells_of E) (New_at q w)) (eqb-true z (o w) f) h)
        go false false e f = h
    exchanged_listed (Find_at z w) h = h
    exchanged_listed (Test_at w) h = h
    exchanged_listed (Key_at w) h = h
    exchanged_listed (Made_at z w k) h = h
    exchanged_listed (Picked_at z w k) h = h
    exchanged_listed (Coin k) h = h

module _ (ds : List Declaration) (g : Setting) (game : Tree) (same : HasConstantsOf ds g) (well : IsWellFormed ds game) (n : Naming) (p : IsSplitting game n) (known : is_variable game n.variable ≡ true) (new : (y : ℕ) → is_name n.names y ≡ true → g.is_constant y ≡ false) (old : is_name n.names n.variable ≡ false)
    (m : Mode) (a : Adversary) (local : IsLocal g.side) (testable : IsTestable m game) (E : List (Cell × ℕ)) (closed : IsClosed g m a game n.variable n.names E) where
  abbrev x : ℕ
  x = n.variable

  abbrev own : Tape → List ℕ → ℕ
  own t w = owner ds g game same well n p known new old m a t w

  abbrev moved : Tape → Tape
  moved t c = t (exchanged_cell x (own t) c)

  named : (t : Tape) (w : List ℕ) → is_name n.names (own t w) ≡ true
  named t w = owner_is_named ds g game same well n p known new old m a t w

  plain : has_no_calls game ≡ true
  plain = plain_no_calls game (game_plain ds game well)

  -- what is known of a visit of a run
  record Known (t : Tape) (v : Visit) : Type 0 where
    expected : IsExpected g (is_variable game) game (fine ds g game same well n p known new old) n p (own t) (the_end ds g game same well n p known new old m a t) v
    plain_tree : VisitPlain v

  all_known : (t : Tape) (v : Visit) → Has (visits_of_run g m a game t) v → Known t v
  unfolding visits_of_run
  all_known t v h = record {
    expected = each_of _ (the_visits ds g game same well n p known new old m a t) v (visits_expected ds g game same well n p known new old m a t) h;
    plain_tree = each_of VisitPlain (the_visits ds g game same well n p known new old m a t) v (visits_plain g m (a.next (coins_on t 0 a.coins)) t a.moves game (game_plain ds game well)) h;
  }

  module _ (t u : Tape) (agree : AgreeAt (cells_of E) (moved t) (moved u)) where
    -- the second tape, with the first outside of the list
    other : Tape
    other c = cond (is_in E c) (u c) (t c)

    is_marked : Cell → Bool
    is_marked c = not (t c == other c)

    at : (c : Cell) → Has (cells_of E) c → moved t c ≡ moved u c
    at c h = each_of (λ c. moved t c ≡ moved u c) (cells_of E) c agree h

    same_other : AgreeAt (cells_of (cells g m a game)) u other
    unfolding other
    same_other = of_each (λ c. u c ≡ other c) (cells_of (cells g m a game)) (λ c h. go c (each_of (Has (cells_of E)) (cells_of (cells g m a game)) c closed.game_cells h))
      where
        in_list : (F : List (Cell × ℕ)) (c : Cell) → Has (cells_of F) c → is_in F c ≡ true
        in_list [] c h = absurd h
        in_list (d ∷ F) c (inl e) = ap (λ b. b || is_in F c) (ap (same_cell d.0) e ∙ same_cell_refl d.0)
        in_list (d ∷ F) c (inr h) = or_right (same_cell d.0 c) (is_in F c) (in_list F c h)

        go : (c : Cell) → Has (cells_of E) c → u c ≡ other c
        go c h = sym (ap (λ b. cond b (u c) (t c)) (in_list E c h))

    same_visits : visits_of_run g m a game u ≡ visits_of_run g m a game other
    same_visits = (listed_same g m a game u other local testable (no_keys_consulted g m a game u plain) same_other).visits

    -- where both tapes have the same in a cell of the list, it is not marked
    same_elsewhere : (c : Cell) → (Has (cells_of E) c → t c ≡ u c) → t c ≡ other c
    unfolding other
    same_elsewhere c f = go (is_in E c) refl
      where
        go : (b : Bool) → is_in E c ≡ b → t c ≡ cond b (u c) (t c)
        go true e = f (is_listed E c e)
        go false e = refl

    choice_same : (z : ℕ) (v : Visit) → (x == z) ≡ made_at v.tree (Variable x) → is_name n.names z ≡ false → Known t v → Known u v → t (New_at z (tuple v.before.indices)) ≡ other (New_at z (tuple v.before.indices))
    choice_same z v site free k l = same_elsewhere (New_at z (tuple v.before.indices)) (λ h. go (x == z) refl h)
      where
        w : List ℕ
        w = tuple v.before.indices

        flipped : (x == z) ≡ false → (z == x) ≡ false
        flipped e = split (z == x) refl
          where
            split : (b : Bool) → (z == x) ≡ b → (z == x) ≡ false
            split true i = absurd (both_ways (x == z) e (eq-eqb x z (sym (eqb-true z x i))))
            split false i = i

        go : (b : Bool) → (x == z) ≡ b → Has (cells_of E) (New_at z (tuple v.before.indices)) → t (New_at z (tuple v.before.indices)) ≡ u (New_at z (tuple v.before.indices))
        go true e h =
            let made : made_at v.tree (Variable x) ≡ true = sym site ∙ e in
            let owners : own t (tuple v.before.indices) ≡ own u (tuple v.before.indices) = k.expected.owned made ∙ sym (l.expected.owned made) in
            let cell : Cell = New_at (own t (tuple v.before.indices)) (tuple v.before.indices) in
            let h2 : Has (cells_of E) cell = closed.there (own t (tuple v.before.indices)) (tuple v.before.indices) (named t (tuple v.before.indices)) (subst (λ q. Has (cells_of E) (New_at q (tuple v.before.indices))) (sym (eqb-true x z e)) h) in
            let one : moved t cell ≡ t (New_at x (tuple v.before.indices)) = ap t (from_owner x n.names (own t) (named t) old (tuple v.before.indices)) in
            let two : moved u cell ≡ u (New_at x (tuple v.before.indices)) =
            ap (λ q. u (exchanged_cell x (own u) (New_at q (tuple v.before.indices)))) owners ∙ ap u (from_owner x n.names (own u) (named u) old (tuple v.before.indices)) in
            ap (λ q. t (New_at q (tuple v.before.indices))) (sym (eqb-true x z e)) ∙ sym one ∙ at cell h2 ∙ two ∙ ap (λ q. u (New_at q (tuple v.before.indices))) (eqb-true x z e)
        go false e h =
            sym (ap t (stays x n.names (own t) (named t) old z (tuple v.before.indices) (flipped e) (name_apart n.names (own t (tuple v.before.indices)) z (named t (tuple v.before.indices)) free)))
            ∙ at (New_at z (tuple v.before.indices)) h
            ∙ ap u (stays x n.names (own u) (named u) old z (tuple v.before.indices) (flipped e) (name_apart n.names (own u (tuple v.before.indices)) z (named u (tuple v.before.indices)) free))

    visit_same : (v : Visit) → Known t v → Known u v → visit_consults g is_marked v ≡ false
    unfolding is_marked
    visit_same v k l = go v.tree refl
      where
        go : (b : Tree) → v.tree ≡ b → list_any is_marked (consulted_at g b v.before) ≡ false
        go Empty e = refl
        go (Node (New z T) c d) e =
            let free : is_name n.names z ≡ false = head_free n.names (New z T) c d z (eq-eqb z z refl) (subst (Free n.names) e (stands_free n.names game p.free k.expected.holds.stands)) in
            ap (λ q. q || false) (not_same _ _ (choice_same z v (ap (λ y. made_at y (Variable x)) (sym e)) free k l))
        go (Node (Find y) c d) e = ap (λ q. q || false) (not_same _ _ (same_elsewhere (Find_at y (tuple v.before.indices)) (λ h. at (Find_at y (tuple v.before.indices)) h)))
        go (Node (Call y q) c d) e = absurd (both_ways false refl (ap (λ z. is_plain z) (sym e) ∙ k.plain_tree))
        go (Node h c d) e = refl

    alike_visits : visits_of_run g m a game t ≡ visits_of_run g m a game other
    unfolding is_marked other
    alike_visits =
        same_all (visit_consults g is_marked) (visits_of_run g m a game t) (visits_of_run g m a game other)
        (visits_up_to g m a game is_marked t other local
        (record { off = λ c e. same_not (t c) (other c) e; coins = of_each (λ c. t c ≡ other c) (cells_of (coin_cells 0 a.coins)) (λ c h. coin_same c h) })
        (λ w. not_same _ _ (same_elsewhere (Test_at w) (λ h. at (Test_at w) h))))
        (λ v h k. visit_same v (all_known t v h) (all_known u v (subst (λ vs. Has vs v) (sym same_visits) k)))
      where
        coin_cell : (k : ℕ) (ns : List ℕ) (c : Cell) → Has (cells_of (coin_cells k ns)) c → (j : ℕ) × (c ≡ Coin j)
        coin_cell k [] c h = absurd h
        coin_cell k (i ∷ ns) c (inl e) = (k, e)
        coin_cell k (i ∷ ns) c (inr h) = coin_cell _ ns c h

        coin_same : (c : Cell) → Has (cells_of (coin_cells 0 a.coins)) c → t c ≡ other c
        coin_same c h = let r = coin_cell 0 a.coins c h in subst (λ d. t d ≡ other d) (sym r.1) (same_elsewhere (Coin r.0) (λ k. at (Coin r.0) k))

    same_owners : (w : List ℕ) → own t w ≡ own u w
    unfolding visits_of_run
    same_owners w = ap (λ vs. owner_in n p.one vs w) (alike_visits ∙ sym same_visits)

    pub agree_before : AgreeAt (cells_of E) t u
    agree_before =
        of_each (λ c. t c ≡ u c) (cells_of E)
        (λ c h.
        sym (ap t (twice x n.names (own t) (named t) old c)) ∙ at (exchanged_cell x (own t) c) (exchanged_listed x n.names (own t) (named t) old g m a game E closed c h)
        ∙ ap (λ o. u (exchanged_cell x (own u) (exchanged_cell x o c))) (fun_ext same_owners) ∙ ap u (twice x n.names (own u) (named u) old c))
