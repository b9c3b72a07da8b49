-- Each copy of a choice has its cell in the list of an experiment, with the size of its type; and there are as many as the product of
-- the parameters says.
use Rattle.std.proofs.Common.{◌≡◌, ℕ, zero, suc, ◌+◌, ◌*◌, ◌==◌, ◌||◌, not, Bool, true, false, cond, List, [], ◌∷◌, ◌++◌, filter, flat_map, length, map, Contains, inl, Option, Some, None, is_some, option_map, refl, sym, ap, ap₂, subst, ◌∙◌, arith}
use Rattle.std.proofs.lemmas.Bool.{both_ways}
use Rattle.std.proofs.lemmas.List.{length-append, length-map}
use Rattle.std.specs.List.{AllByRecursion}
use Rattle.cv_syntax_trees.specs.declared.head.Head.{Head}
use Rattle.cv_syntax_trees.specs.declared.head.Head.TheVariants.{Repl, New, Let, Find, Binder, Key, Call}
use Rattle.cv_syntax_trees.specs.Declarations.{Declaration}
use Rattle.cv_syntax_trees.specs.Tree.{Tree, Empty, Node}
use Rattle.cv_meaning.specs.Tapes.{Cell, New_at, is_in, same_cell}
use Rattle.cv_meaning.specs.Interpretation.{Interpretation, Setting, setting_of}
use Rattle.cv_meaning.specs.Memory.{Indices, tuple}
use Rattle.cv_meaning.specs.Candidates.{below}
use Rattle.cv_meaning.specs.Runs.{Adversary, Mode, Events, Real, Random}
use Rattle.cv_meaning.specs.Cells.{at_each_copy, bounds_under, cells, cells_at, coin_cells, if_tested, test_cells, test_cells_at, tuples_below, without_repeats}
use Rattle.cv_meaning_laws.specs.adequacy.Typed as meaning
use Rattle.cv_meaning_laws.specs.adequacy.Typed.{HasTypedRestrictions}
use Rattle.cv_meaning_laws.proofs.Counts.{same_cell_exact}
use Rattle.cv_meaning_laws.proofs.Listed.{Has, Sized, Within, has_flat_map, has_left, has_right, is_in_without_repeats}
use Rattle.cv_meaning_laws.proofs.Lists.{each_flat_map}
use Rattle.cv_meaning_chances.proofs.CellLists.{contains_here, contains_later}
use Rattle.cv_syntax_trees.specs.sites.Sites.{Variable, first_site}
use Rattle.cv_typing_runs.specs.Games.{context_of, variable_of_meaning}
use Rattle.cv_scope_rules.specs.Context.{Context, replications_below}
use Rattle.cv_scope_rules.specs.Phrases.{Phrase, Nil, is_oracle_phrase, oracle_parts}
use Rattle.cv_scope_rules.proofs.Apart.{first_replications, second_replications}
use Rattle.cv_scope_runs.specs.Promises.{AreIndicesOf}
use Rattle.cv_scope_runs.proofs.Games.{Game, stands_phrase}
use Rattle.cv_scope_runs.proofs.Rows.{position_of}
use Rattle.cv_scope_runs.proofs.Standing.{Stands, root, in_first, in_second}
use Rattle.cv_scene.specs.Terms.{has_site}
use Rattle.cv_rule_fresh.specs.collisions.Chances.{copies}
use Rattle.cv_meaning_laws.proofs.adequacy.Lists.{has_below}
use Rattle.cv_scope_runs.proofs.KeysListed.{replicated_nil}
use Rattle.cv_syntax_trees.proofs.lists.Each.{AllByRecursion_append}

-- tuples below bounds

abbrev pub bounds : Setting → List (ℕ × ℕ) → List ℕ
bounds g rs = map (λ (r : ℕ × ℕ). g.interpretation.parameter_value r.1) rs

pub indices_within : (g : Setting) (at : Indices) (rs : List (ℕ × ℕ)) → AreIndicesOf g at rs → Within (tuple at) (bounds g rs)
indices_within g [] [] h = tt
indices_within g [] (r ∷ rs) h = absurd h
indices_within g (p ∷ at) [] h = absurd h
indices_within g (p ∷ at) (r ∷ rs) h = (has_below (g.interpretation.parameter_value r.1) p.1 h.1, indices_within g at rs h.2)

length_below : (n : ℕ) → length (below n) ≡ n
length_below zero = refl
length_below (suc n) = length-append (below n) (n ∷ []) ∙ (let e = length_below n in omega arith)

length_each : (ts : List (List ℕ)) (vs : List ℕ) → length (flat_map (λ v. map (λ u. v ∷ u) ts) vs) ≡ length vs * length ts
length_each ts [] = omega arith
length_each ts (v ∷ vs) = length-append (map (λ u. v ∷ u) ts) (flat_map (λ v. map (λ u. v ∷ u) ts) vs) ∙ (ap₂ ◌+◌ (length-map ts (λ u. v ∷ u)) (length_each ts vs) ∙ (let e : length ts + length vs * length ts ≡ suc (length vs) * length ts = omega arith in e))

pub length_tuples : (i : Interpretation) (rs : List (ℕ × ℕ)) → length (tuples_below (map (λ (r : ℕ × ℕ). i.parameter_value r.1) rs)) ≡ copies i (map (λ (r : ℕ × ℕ). r.1) rs)
unfolding tuples_below copies
length_tuples i [] = refl
length_tuples i (r ∷ rs) =
    length_each (tuples_below (map (λ (r : ℕ × ℕ). i.parameter_value r.1) rs)) (below (i.parameter_value r.1))
    ∙ ap₂ ◌*◌ (length_below (i.parameter_value r.1)) (length_tuples i rs)

-- the cells of a subtree are among those of the game

bounds_push : (g : Setting) (rs : List (ℕ × ℕ)) (i n : ℕ) → bounds g (rs ++ (i, n) ∷ []) ≡ bounds g rs ++ g.interpretation.parameter_value n ∷ []
bounds_push g [] i n = refl
bounds_push g (r ∷ rs) i n = ap (λ l. g.interpretation.parameter_value r.1 ∷ l) (bounds_push g rs i n)

bounds_below : (g : Setting) (h : Head) (rs : List (ℕ × ℕ)) → bounds g (replications_below h rs) ≡ bounds_under g (bounds g rs) h
bounds_below g (Repl i n) rs = bounds_push g rs i n
bounds_below g h rs = refl

nil_has : (g : Setting) (ns : List ℕ) (a : Tree) → is_oracle_phrase Nil a ≡ true → (d : Sized) → Has (at_each_copy g (cells_at g) ns a) d → ⊥
unfolding is_oracle_phrase at_each_copy
nil_has g ns Empty f d k = k
nil_has g ns (Node h a b) f d k = both_ways _ refl f

module _ (g : Setting) (variable : ℕ → Bool) (game : Tree) (fine : Game g variable game) where
  first_bounds : (σ τ ρ : Phrase) (h : Head) (rs : List (ℕ × ℕ)) (a : Tree) (d : Sized) → oracle_parts σ h ≡ Some (τ, ρ) → is_oracle_phrase τ a ≡ true → Has (at_each_copy g (cells_at g) (bounds g rs) a) d → Has (at_each_copy g (cells_at g) (bounds_under g (bounds g rs) h) a) d
  first_bounds σ τ ρ (Repl i n) rs a d e f k = absurd (nil_has g (bounds g rs) a (subst (λ φ. is_oracle_phrase φ a ≡ true) (replicated_nil σ τ ρ i n e) f) d k)
  first_bounds σ τ ρ h rs a d e f k = k

  covered : {p : ℕ} {σ : Phrase} {Γ : Context} {b : Tree} → Stands game p σ Γ b → (d : Sized) → Has (at_each_copy g (cells_at g) (bounds g Γ.replications) b) d → Has (at_each_copy g (cells_at g) [] game) d
  unfolding at_each_copy
  covered root d k = k
  covered (in_first {p = p} {σ = σ} {τ = τ} {ρ = ρ} {Γ = Γ} {h = h} {a = a} {b = b} e st) d k =
      let ns : List ℕ = bounds g Γ.replications in
      covered st d (has_right (flat_map (cells_at g h) (tuples_below ns)) _ d (has_left (at_each_copy g (cells_at g) (bounds_under g ns h) a) (at_each_copy g (cells_at g) (bounds_under g ns h) b) d
      (first_bounds σ τ ρ h Γ.replications a d e (stands_phrase g variable game fine (in_first e st)) (subst (λ rs. Has (at_each_copy g (cells_at g) (bounds g rs) a) d) (first_replications (position_of σ) h Γ) k))))
  covered (in_second {p = p} {σ = σ} {τ = τ} {ρ = ρ} {Γ = Γ} {h = h} {a = a} {b = b} e st) d k =
      let ns : List ℕ = bounds g Γ.replications in
      covered st d (has_right (flat_map (cells_at g h) (tuples_below ns)) _ d (has_right (at_each_copy g (cells_at g) (bounds_under g ns h) a) (at_each_copy g (cells_at g) (bounds_under g ns h) b) d
      (subst (λ l. Has (at_each_copy g (cells_at g) l b) d) (ap (bounds g) (second_replications (position_of σ) h a Γ) ∙ bounds_below g h Γ.replications) k)))

  choice_listed : {p : ℕ} {σ : Phrase} (Γ : Context) (x T : ℕ) (a b : Tree) (w : List ℕ) → Stands game p σ Γ (Node (New x T) a b) → Has (tuples_below (bounds g Γ.replications)) w → Has (at_each_copy g (cells_at g) [] game) (New_at x w, g.interpretation.type_size T)
  unfolding at_each_copy
  choice_listed Γ x T a b w st i =
      let ns : List ℕ = bounds g Γ.replications in
      covered st (New_at x w, g.interpretation.type_size T) (has_left (flat_map (cells_at g (New x T)) (tuples_below ns)) _ (New_at x w, g.interpretation.type_size T)
      (has_flat_map (cells_at g (New x T)) (tuples_below ns) w (New_at x w, g.interpretation.type_size T) i (inl refl)))

-- a listed cell that has one size wherever it is listed

contained : (cs : List Sized) (d : Cell) (n : ℕ) → is_in cs d ≡ true → AllByRecursion (λ (c : Sized). c.0 ≡ d → c.1 ≡ n) cs → Contains cs (d, n)
contained [] d n e h = absurd (both_ways false refl e)
contained (c ∷ cs) d n e h = go (same_cell c.0 d) refl e (contained cs d n)
  where
    go : (b : Bool) → same_cell c.0 d ≡ b → (b || is_in cs d) ≡ true → (is_in cs d ≡ true → AllByRecursion (λ (c : Sized). c.0 ≡ d → c.1 ≡ n) cs → Contains cs (d, n)) → Contains (c ∷ cs) (d, n)
    go true f k ih = let s : c.0 ≡ d = same_cell_exact c.0 d f in subst (Contains (c ∷ cs)) (λ j. (s j, h.0 s j)) (contains_here c cs)
    go false f k ih = contains_later c (d, n) cs (ih k h.1)

all_filter : (P : Sized → Type 0) (p : Sized → Bool) (cs : List Sized) → AllByRecursion P cs → AllByRecursion P (filter p cs)
all_filter P p [] h = tt
all_filter P p (c ∷ cs) h = go (p c) (all_filter P p cs h.1)
  where
    go : (b : Bool) → AllByRecursion P (filter p cs) → AllByRecursion P (cond b (c ∷ filter p cs) (filter p cs))
    go true k = (h.0, k)
    go false k = k

all_once : (P : Sized → Type 0) (cs : List Sized) → AllByRecursion P cs → AllByRecursion P (without_repeats cs)
all_once P [] h = tt
all_once P (c ∷ cs) h = (h.0, all_filter P (λ (d : Sized). not (same_cell d.0 c.0)) (without_repeats cs) (all_once P cs h.1))

-- the cells of one variable's choices

module _ (ds : List Declaration) (i : Interpretation) (game : Tree) (x : ℕ) (w : List ℕ) (n : ℕ) where
  abbrev g : Setting
  g = setting_of ds i

  abbrev IsSized : Sized → Type 0
  IsSized d = d.0 ≡ New_at x w → d.1 ≡ n

  each_copy : (give : Head → List ℕ → List Sized) → ((h : Head) (u : List ℕ) → AllByRecursion IsSized (give h u)) → (ns : List ℕ) (b : Tree) → AllByRecursion IsSized (at_each_copy g give ns b)
  unfolding at_each_copy
  each_copy give k ns Empty = tt
  each_copy give k ns (Node h a b) =
      AllByRecursion_append IsSized (flat_map (give h) (tuples_below ns)) _ (each_flat_map IsSized (give h) (tuples_below ns) (k h))
      (AllByRecursion_append IsSized (at_each_copy g give (bounds_under g ns h) a) _ (each_copy give k (bounds_under g ns h) a) (each_copy give k (bounds_under g ns h) b))

  tested_sized : (b : Bool) (u : List ℕ) (k : ℕ) → AllByRecursion IsSized (if_tested b u k)
  tested_sized true u k = ((λ e. absurd (cc)), tt)
  tested_sized false u k = tt

  tests_sized : (y : ℕ) (h : Head) (u : List ℕ) → AllByRecursion IsSized (test_cells_at g y h u)
  tests_sized y (New z T) u = tested_sized (z == y) u (i.type_size T)
  tests_sized y (Let z T) u = tested_sized (z == y) u (i.type_size T)
  tests_sized y (Binder z T) u = tested_sized (z == y) u (i.type_size T)
  tests_sized y h u = tt

  all_tests_sized : (m : Mode) → AllByRecursion IsSized (test_cells g m game)
  all_tests_sized Events = tt
  all_tests_sized (Real one y) = each_copy (test_cells_at g y) (tests_sized y) [] game
  all_tests_sized (Random one y) = each_copy (test_cells_at g y) (tests_sized y) [] game

  coins_sized : (k : ℕ) (ns : List ℕ) → AllByRecursion IsSized (coin_cells k ns)
  coins_sized k [] = tt
  coins_sized k (m ∷ ns) = ((λ e. absurd (cc)), coins_sized (suc k) ns)

  -- of one type
  module _ (V : meaning.Variable) (there : (context_of ds game).variables x ≡ Some V) (T : ℕ) (sort : V.sort ≡ meaning.OfType T) (size : n ≡ i.type_size T) where
    own_sized : (h : Head) (u : List ℕ) → ((y S : ℕ) → h ≡ New y S → y ≡ x → S ≡ T) → AllByRecursion IsSized (cells_at g h u)
    own_sized (New y S) u k = ((λ e. let s : y ≡ x = cc in ap i.type_size (k y S refl s) ∙ sym size), tt)
    own_sized (Find l) u k = ((λ e. absurd (cc)), tt)
    own_sized (Key y) u k = ((λ e. absurd (cc)), tt)
    own_sized (Call y l) u k = tt
    own_sized h u k = tt

    node_sized : (h : Head) (a b : Tree) (ns : List ℕ) → ((y S : ℕ) → h ≡ New y S → y ≡ x → S ≡ T) → AllByRecursion IsSized (at_each_copy g (cells_at g) (bounds_under g ns h) a) → AllByRecursion IsSized (at_each_copy g (cells_at g) (bounds_under g ns h) b) → AllByRecursion IsSized (at_each_copy g (cells_at g) ns (Node h a b))
    unfolding at_each_copy
    node_sized h a b ns k p q =
        AllByRecursion_append IsSized (flat_map (cells_at g h) (tuples_below ns)) _ (each_flat_map IsSized (cells_at g h) (tuples_below ns) (λ u. own_sized h u k))
        (AllByRecursion_append IsSized (at_each_copy g (cells_at g) (bounds_under g ns h) a) _ p q)

    one_type : (y S : ℕ) → ((W : meaning.Variable) → (context_of ds game).variables y ≡ Some W → W.sort ≡ meaning.OfType S) → y ≡ x → S ≡ T
    one_type y S k e =
        let s : V.sort ≡ meaning.OfType S = k V (ap (context_of ds game).variables e ∙ there) in
        let z : meaning.OfType S ≡ meaning.OfType T = sym s ∙ sort in cc

    games_sized : (b : Tree) (ns : List ℕ) → HasTypedRestrictions (context_of ds game) b → AllByRecursion IsSized (at_each_copy g (cells_at g) ns b)
    unfolding HasTypedRestrictions at_each_copy
    games_sized Empty ns h = tt
    games_sized (Node (New y S) a b) ns h =
        node_sized (New y S) a b ns (λ z U e. let s : z ≡ y = cc in let r : U ≡ S = cc in λ q. r ∙ one_type y S h.0 (sym s ∙ q)) (games_sized a (bounds_under g ns (New y S)) h.1) (games_sized b (bounds_under g ns (New y S)) h.2)
    games_sized (Node h a b) ns k =
        node_sized h a b ns (λ z U e. absurd (cc)) (games_sized a (bounds_under g ns h) k.0) (games_sized b (bounds_under g ns h) k.1)

    pub cells_sized : (m : Mode) (a : Adversary) → HasTypedRestrictions (context_of ds game) game → AllByRecursion IsSized (cells g m a game)
    unfolding cells
    cells_sized m a h =
        all_once IsSized (at_each_copy g (cells_at g) [] game ++ (test_cells g m game ++ coin_cells 0 a.coins))
        (AllByRecursion_append IsSized (at_each_copy g (cells_at g) [] game) _ (games_sized game [] h) (AllByRecursion_append IsSized (test_cells g m game) _ (all_tests_sized m) (coins_sized 0 a.coins)))

-- so each copy of a choice is listed with the size of its type
module _ (ds : List Declaration) (i : Interpretation) (game : Tree) (variable : ℕ → Bool) (fine : Game (setting_of ds i) variable game) (typed : HasTypedRestrictions (context_of ds game) game) where
  first_typed : (h : Head) (a b : Tree) → HasTypedRestrictions (context_of ds game) (Node h a b) → HasTypedRestrictions (context_of ds game) a
  unfolding HasTypedRestrictions
  first_typed (New y S) a b h = h.1
  first_typed h a b k = k.0

  second_typed : (h : Head) (a b : Tree) → HasTypedRestrictions (context_of ds game) (Node h a b) → HasTypedRestrictions (context_of ds game) b
  unfolding HasTypedRestrictions
  second_typed (New y S) a b h = h.2
  second_typed h a b k = k.1

  restriction : {p : ℕ} {σ : Phrase} {Γ : Context} {b : Tree} → Stands game p σ Γ b → HasTypedRestrictions (context_of ds game) b
  restriction root = typed
  restriction (in_first {h = h} {a = a} {b = b} e st) = first_typed h a b (restriction st)
  restriction (in_second {h = h} {a = a} {b = b} e st) = second_typed h a b (restriction st)

  own_type : (x T : ℕ) (a b : Tree) → HasTypedRestrictions (context_of ds game) (Node (New x T) a b) → (V : meaning.Variable) → (context_of ds game).variables x ≡ Some V → V.sort ≡ meaning.OfType T
  unfolding HasTypedRestrictions
  own_type x T a b h V e = h.0 V e

  pub choice_contained : (m : Mode) (a : Adversary) {p : ℕ} {σ : Phrase} (Γ : Context) (x T : ℕ) (c b : Tree) (w : List ℕ) → Stands game p σ Γ (Node (New x T) c b) → has_site game x ≡ true → Has (tuples_below (bounds (setting_of ds i) Γ.replications)) w
      → Contains (cells (setting_of ds i) m a game) (New_at x w, i.type_size T)
  unfolding cells
  choice_contained m a Γ x T c b w st s k = go (first_site x [] game) refl s
    where
      listed : is_in (cells (setting_of ds i) m a game) (New_at x w) ≡ true
      listed =
          is_in_without_repeats (at_each_copy (setting_of ds i) (cells_at (setting_of ds i)) [] game ++ (test_cells (setting_of ds i) m game ++ coin_cells 0 a.coins)) (New_at x w, i.type_size T)
          (has_left (at_each_copy (setting_of ds i) (cells_at (setting_of ds i)) [] game) _ (New_at x w, i.type_size T) (choice_listed (setting_of ds i) variable game fine Γ x T c b w st k))

      go : (o : Option Variable) → first_site x [] game ≡ o → is_some o ≡ true → Contains (cells (setting_of ds i) m a game) (New_at x w, i.type_size T)
      go None e f = absurd (both_ways false refl f)
      go (Some v) e f =
          let V : meaning.Variable = variable_of_meaning v in
          let there : (context_of ds game).variables x ≡ Some V = ap (option_map variable_of_meaning) e in
          let sort : V.sort ≡ meaning.OfType T = own_type x T c b (restriction st) V there in
          contained (cells (setting_of ds i) m a game) (New_at x w) (i.type_size T) listed (cells_sized ds i game x w (i.type_size T) V there T sort refl m a typed)
