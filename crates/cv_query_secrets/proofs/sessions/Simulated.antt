-- The run in which tests tell random values, and the run in which they tell a variable's own, on the tape on which the tests of the
-- copies and the draws that these took change places.
use Rattle.std.proofs.Common.{◌≡◌, ℕ, suc, ◌==◌, ◌||◌, ◌&&◌, Bool, true, false, cond, List, [], ◌∷◌, ◌⊎◌, inl, inr, Option, Some, None, is_some, refl, sym, ap, ap₂, subst, ◌∙◌, eq-eqb}
use Rattle.std.proofs.lemmas.Bool.{both_ways, or_left, or_parts, or_right}
use Rattle.std.specs.List.{AllByRecursion}
use Rattle.cv_syntax_trees.specs.declared.head.Head.TheVariants.{Leaf, Let, Read}
use Rattle.cv_syntax_trees.specs.Tree.{Node}
use Rattle.cv_meaning.specs.Tapes.{Cell, Coin, Find_at, New_at, Test_at, Tape, cells_of, is_in}
use Rattle.cv_meaning.specs.Interpretation.{Interpretation, Setting, is_constant_of, setting_of}
use Rattle.cv_meaning.specs.Memory.{tuple}
use Rattle.cv_meaning.specs.Terms.{found_in, leaf_value_from, or_zero, value, values}
use Rattle.cv_meaning.specs.Consulted.{IsListed}
use Rattle.cv_meaning.specs.Runs.{Real, Random, Adversary, State, told}
use Rattle.cv_meaning.specs.Serving.{Visit}
use Rattle.cv_meaning.specs.Cells.{cells, coin_cells}
use Rattle.cv_meaning.specs.Experiments.{Guesses, coins_on, holds_on, visits_of_run}
use Rattle.cv_meaning_laws.specs.adequacy.Typed.{Context}
use Rattle.cv_meaning_runs.specs.Agreement.{AgreeAt}
use Rattle.cv_meaning_runs.specs.Moments.{Moment, Tested, Visited, cells_of_moment, moments_of_run, visits_among}
use Rattle.cv_meaning_runs.specs.Replacement.{Process}
use Rattle.cv_meaning_runs.specs.Simulation.{AreAlike, InOrder}
use Rattle.cv_meaning_runs.proofs.Together.{visits_among_moments}
use Rattle.cv_meaning_chances.specs.unread.Sizes.{size_in}
use Rattle.cv_meaning_chances.proofs.unread.Unread.{values_same}
use Rattle.cv_scope_runs.specs.Reads.{LeafAssigned}
use Rattle.cv_typing_runs.specs.Games.{context_of}
use Rattle.cv_scene.specs.Scenes.{Scene}
use Rattle.cv_costs.specs.quiet.Quiet.{IsQuiet}
use Rattle.cv_costs.specs.quiet.Twins.{AreVisitsRelated, Link, here}
use Rattle.cv_costs.proofs.quiet.Served.{But, Copies, Draws, One, guesses, visits_related}
use Rattle.cv_costs.proofs.quiet.Shapes.{one_of}
use Rattle.cv_query_secrets.proofs.unread.Coded.{ReadsAssigned, not_found}
use Rattle.cv_query_secrets.proofs.unread.Copies.{HaveOneSort, IsFrom, copying_kind, is_from, names}
use Rattle.cv_query_secrets.proofs.unread.Swaps.{one_size}
use Rattle.cv_query_secrets.proofs.sessions.Exchange.{AreOneToOne, IsPaired, Pair, exchanged, moved_draw, moved_off}
use Rattle.cv_query_secrets.proofs.sessions.Links.{ArePairedIn, all_paired, pair_at, pair_of_leaf, pair_of_read, pairs_of}

module _ (s : Scene) (x : ℕ) (i : Interpretation) (a : Adversary) where
  abbrev pub g : Setting
  g = setting_of s.declarations i

  abbrev pub c : Context
  c = context_of s.declarations s.game

  abbrev pub cs : List (Cell × ℕ)
  cs = cells g (Random false x) a s.game

  abbrev pub copied : ℕ → Bool
  copied = is_from s x c

  abbrev pub unread : ℕ → Bool
  unread = one_of x (x ∷ names s x c)

  -- the tests and the draws of the copies, and the tape on which they change places

  abbrev pub links : Tape → List Pair
  links t = pairs_of g x (visits_of_run g (Random false x) a s.game t)

  abbrev pub traded : Tape → Tape
  traded t = exchanged cs copied (links t) t

  -- what is known of the moments of the run

  abbrev pub IsPairedAt : Tape → Moment → Type 0
  IsPairedAt t (Visited v) = ArePairedIn g x (links t) v
  IsPairedAt t (Tested w st) = Unit {0}

  pub record IsExpected (t : Tape) (m : Moment) : Type 0 where
    pub listed : AllByRecursion (IsListed cs) (cells_of_moment g (Random false x) m)
    pub reads : ReadsAssigned s x i a m
    pub paired : IsPairedAt t m

  module _ (t u : Tape) where
    -- a listed draw of a copied variable
    abbrev pub IsDraw : Cell → Type 0
    IsDraw (New_at y w) = (copied y ≡ true) × (is_in cs (New_at y w) ≡ true)
    IsDraw d = ⊥

    abbrev pub HasItsSort : Cell → Type 0
    HasItsSort (New_at y w) = HaveOneSort s x c y
    HasItsSort d = ⊥

    -- the draw of which a variable has the value at a tuple; the test of a copy is paired with it
    pub record IsOrigin (z : ℕ) (w : List ℕ) (d : Cell) : Type 0 where
      pub draw : IsDraw d
      pub itself : (z ≡ x → ⊥) → d ≡ New_at z w
      pub paired : z ≡ x → IsPaired (links t) (w, d) × HasItsSort d

    -- in both runs the value is that of one draw
    abbrev pub Drawn : Link
    Drawn z w None q = q ≡ None
    Drawn z w (Some v) q = (d : Cell) × (v ≡ t d) × (q ≡ Some (u d)) × IsOrigin z w d

    pub linked : (z : ℕ) (w : List ℕ) (o q : Option ℕ) → Drawn z w o q → is_some o ≡ is_some q
    linked z w None q e = sym (ap is_some e)
    linked z w (Some v) q e = sym (ap is_some e.2)

    pub draws : Draws (copying_kind s x c) Drawn linked g t u (IsExpected t)
    draws z T p b d at m f h e = (New_at z (tuple at), refl, refl, record { draw = (f.0 h, e.listed.0 refl); itself = λ j. refl; paired = λ j. absurd (f.1 j) })

    -- a value that is copied comes from the draw that it came from

    copy_of : (z y : ℕ) (w v : List ℕ) → z ≡ x → IsFrom s x c y → IsPaired (links t) (v, New_at y w) → (o q : Option ℕ) → Drawn y w o q → is_some o ≡ true → Drawn z v (Some (or_zero o)) (Some (or_zero q))
    copy_of z y w v e f p None q k h = absurd (both_ways false refl h)
    copy_of z y w v e f p (Some n) q k h =
        let it : k.0 ≡ New_at y w = k.3.itself f.other in
        (k.0, k.1, ap (λ r. Some (or_zero r)) k.2, record { draw = k.3.draw; itself = λ j. absurd (j e); paired = λ j. (subst (λ d. IsPaired (links t) (v, d)) (sym it) p, subst HasItsSort (sym it) f.sort) })

    is_one : (y : ℕ) → copied y ≡ true → unread y ≡ true
    is_one y e = or_right (y == x) (copied y) e

    one_assigned : (b : Bool) (P : Type 0) → b ≡ false → (b ≡ true) ⊎ P → P
    one_assigned b P e (inl f) = absurd (both_ways b e f)
    one_assigned b P e (inr f) = f

    pub copies : Copies (copying_kind s x c) Drawn linked g t u (IsExpected t)
    unfolding value
    copies z T p (Node (Leaf y) d e) b at m n f o h =
        let bare : found_in at y ≡ None = not_found at y f.1.1 in
        let from : IsFrom s x c y = f.1.0 in
        let there : is_some (m.store y []) ≡ true =
        one_assigned (is_constant_of s.declarations y) (is_some (m.store y []) ≡ true) from.constant (subst (LeafAssigned g m.store y) bare h.reads) in
        let left : value g at m.store (Node (Leaf y) d e) ≡ or_zero (m.store y []) =
        ap (leaf_value_from g m.store y) bare ∙ ap (λ k. cond k (i.table y []) (or_zero (m.store y []))) from.constant in
        let right : value g at n.store (Node (Leaf y) d e) ≡ or_zero (n.store y []) =
        ap (leaf_value_from g n.store y) bare ∙ ap (λ k. cond k (i.table y []) (or_zero (n.store y []))) from.constant in
        let pair : IsPaired (links t) (tuple at, New_at y []) =
        h.paired (tuple at, New_at y []) (subst (λ w. IsPaired (pair_at g x (Node (Let w T) (Node (Leaf y) d e) b) (here at m)) (tuple at, New_at y [])) (sym f.0) (pair_of_leaf g x T y d e b (here at m))) in (
          or_left (z == x) (copied z) (eq-eqb z x f.0),
          subst (λ (k : ℕ × ℕ). Drawn z (tuple at) (Some k.0) (Some k.1)) (λ j. (sym left j, sym right j))
              (copy_of z y [] (tuple at) f.0 from pair (m.store y []) (n.store y []) (o.store.own y (is_one y from.source) []) there),
        )
    copies z T p (Node (Read y) d e) b at m n f o h =
        let from : IsFrom s x c y = f.1.0 in
        let us : List ℕ = values g at m.store d in
        let same : values g at m.store d ≡ values g at n.store d = values_same g at unread m.store n.store o.store.others d f.1.1 in
        let pair : IsPaired (links t) (tuple at, New_at y us) =
        h.paired (tuple at, New_at y us) (subst (λ w. IsPaired (pair_at g x (Node (Let w T) (Node (Read y) d e) b) (here at m)) (tuple at, New_at y us)) (sym f.0) (pair_of_read g x T y d e b (here at m))) in (
          or_left (z == x) (copied z) (eq-eqb z x f.0),
          subst (λ w. Drawn z (tuple at) (Some (or_zero (m.store y us))) (Some (or_zero (n.store y w)))) same
              (copy_of z y us (tuple at) f.0 from pair (m.store y us) (n.store y us) (o.store.own y (is_one y from.source) us) h.reads.0),
        )
    copies z T p b d at m n f o h = absurd f.1

  -- a test that is told a random value is told it by the variable too, on the other tape

  module _ (sizes : (y : ℕ) (w v : List ℕ) → HaveOneSort s x c y → is_in cs (New_at y w) ≡ true → is_in cs (Test_at v) ≡ true → one_size (size_in cs (Test_at v)) (size_in cs (New_at y w)) ≡ true) (t : Tape) (one : AreOneToOne (links t)) where
    abbrev u : Tape
    u = traded t

    draw_told : (w : List ℕ) (d : Cell) → IsDraw t u d → HasItsSort t u d → IsPaired (links t) (w, d) → is_in cs (Test_at w) ≡ true → u d ≡ t (Test_at w)
    draw_told w (New_at y v) k h p l = ap t (moved_draw cs copied (links t) one w (New_at y v) (p, ap₂ ◌&&◌ k.0 (sizes y v w h k.1 l)))
    draw_told w d k h p l = absurd k

    tells : (r q : State) → AreAlike (But (copying_kind s x c) (Drawn t u) (linked t u)) (One (copying_kind s x c) (Drawn t u) (linked t u)) r q → (w : List ℕ) → IsExpected t (Tested w r) → told (Random false x) t r w ≡ told (Real false x) u q w
    tells r q l w e = go (r.memory.store x w) (q.memory.store x w) (l.memory.store.own x (or_left (x == x) (copied x) (eq-eqb x x refl)) w) e.listed
      where
        go : (o k : Option ℕ) → Drawn t u x w o k → AllByRecursion (IsListed cs) (cond (is_some o) (Test_at w ∷ []) []) → cond (is_some o) (Some (t (Test_at w))) None ≡ k
        go None k f h = sym f
        go (Some n) k f h = let p = f.3.paired refl in sym (f.2 ∙ ap Some (draw_told w f.0 f.3.draw p.1 p.0 (h.0 refl)))

    -- off those draws and the tests the tapes are the same

    other : (z : ℕ) → unread z ≡ false → copied z ≡ false
    other z e = (or_parts (z == x) (copied z) e).1

    others : (z : ℕ) (w : List ℕ) → unread z ≡ false → t (New_at z w) ≡ u (New_at z w)
    others z w e = ap t (sym (moved_off cs copied (links t) (New_at z w) refl (other z e)))

    coins : (k : ℕ) (ns : List ℕ) → AgreeAt (cells_of (coin_cells k ns)) t u
    coins k [] = tt
    coins k (n ∷ ns) = (refl, coins (suc k) ns)

    module _ (quiet : IsQuiet (copying_kind s x c) [] Process s.game) (each : AllByRecursion (IsExpected t) (moments_of_run g (Random false x) a s.game t)) where
      pub holds_traded : holds_on g (Guesses (Random false x)) a s.game t ≡ holds_on g (Guesses (Real false x)) a s.game (traded t)
      holds_traded =
          guesses (copying_kind s x c) (Drawn t u) (linked t u) g t u (IsExpected t) (draws t u) (copies t u) others (λ l w. refl) (Random false x) (Real false x) tells a s.game quiet (λ z w. refl) (coins 0 a.coins) each

      -- both runs visit the same, with related memories
      pub visits_traded : InOrder (AreVisitsRelated unread (Drawn t u)) (visits_of_run g (Random false x) a s.game t) (visits_of_run g (Real false x) a s.game (traded t))
      visits_traded =
          visits_related (copying_kind s x c) (Drawn t u) (linked t u) g t u (IsExpected t) (draws t u) (copies t u) others (λ l w. refl) (Random false x) (Real false x) tells a s.game quiet (λ z w. refl) (coins 0 a.coins) each

  -- each moment is as expected

  paired_among : (t : Tape) (ms : List Moment) → AllByRecursion (ArePairedIn g x (links t)) (visits_among ms) → AllByRecursion (IsPairedAt t) ms
  paired_among t [] e = tt
  paired_among t (Visited v ∷ ms) e = (e.0, paired_among t ms e.1)
  paired_among t (Tested w st ∷ ms) e = (tt, paired_among t ms e)

  moments_paired : (t : Tape) → AllByRecursion (IsPairedAt t) (moments_of_run g (Random false x) a s.game t)
  moments_paired t =
      paired_among t (moments_of_run g (Random false x) a s.game t)
      (subst (AllByRecursion (ArePairedIn g x (links t))) (sym (visits_among_moments g (Random false x) a s.game t)) (all_paired g x (visits_of_run g (Random false x) a s.game t)))

  all_are : (t : Tape) (ms : List Moment) → AllByRecursion (λ m. AllByRecursion (IsListed cs) (cells_of_moment g (Random false x) m)) ms → AllByRecursion (ReadsAssigned s x i a) ms → AllByRecursion (IsPairedAt t) ms → AllByRecursion (IsExpected t) ms
  all_are t [] k l m = tt
  all_are t (n ∷ ns) k l m = (record { listed = k.0; reads = l.0; paired = m.0 }, all_are t ns k.1 l.1 m.1)

  pub moments_expected : (t : Tape) → AllByRecursion (λ m. AllByRecursion (IsListed cs) (cells_of_moment g (Random false x) m)) (moments_of_run g (Random false x) a s.game t) → AllByRecursion (ReadsAssigned s x i a) (moments_of_run g (Random false x) a s.game t)
      → AllByRecursion (IsExpected t) (moments_of_run g (Random false x) a s.game t)
  moments_expected t k l = all_are t (moments_of_run g (Random false x) a s.game t) k l (moments_paired t)
