-- A run on a tape on which each draw of the copied variables is the place of its own cell: so a variable's value says which draw it is,
-- and a run on another tape has there what that tape has.
use Rattle.std.proofs.Common.{◌≡◌, ℕ, ◌==◌, ◌||◌, Bool, true, false, cond, List, [], ◌∷◌, ◌⊎◌, inl, inr, Option, Some, None, is_some, refl, sym, ap, subst, ◌∙◌, eq-eqb}
use Rattle.std.proofs.lemmas.Bool.{both_ways, or_left, or_right}
use Rattle.std.specs.List.{AllByRecursion, list_any}
use Rattle.cv_syntax_trees.specs.declared.head.Head.TheVariants.{Leaf, Read}
use Rattle.cv_syntax_trees.specs.Tree.{Node}
use Rattle.cv_meaning.specs.Tapes.{Cell, New_at, Test_at, Tape, is_in}
use Rattle.cv_meaning.specs.Interpretation.{Interpretation, Setting, is_constant_of, setting_of}
use Rattle.cv_meaning.specs.Memory.{Indices, tuple}
use Rattle.cv_meaning.specs.Terms.{found_in, leaf_value_from, or_zero, value, values}
use Rattle.cv_meaning.specs.Consulted.{IsListed}
use Rattle.cv_meaning.specs.Runs.{Real, Random, Adversary, State, told}
use Rattle.cv_meaning.specs.Cells.{cells}
use Rattle.cv_meaning_laws.specs.adequacy.Typed.{Context}
use Rattle.cv_meaning_runs.specs.Moments.{Moment, Visited, Tested, cells_of_moment, moments_of_run}
use Rattle.cv_meaning_runs.specs.Simulation.{AreAlike}
use Rattle.cv_meaning_chances.specs.unread.Sizes.{size_in}
use Rattle.cv_meaning_chances.proofs.unread.CellSizes.{is_drawn}
use Rattle.cv_meaning_chances.proofs.unread.Unread.{values_same}
use Rattle.cv_scope_runs.specs.Reads.{LeafAssigned, VisitReadsAssigned}
use Rattle.cv_typing_runs.specs.Games.{context_of}
use Rattle.cv_scene.specs.Scenes.{Scene}
use Rattle.cv_query_secrets.proofs.unread.Copies.{HaveOneSort, IsFrom, copying_kind, is_from, names}
use Rattle.cv_query_secrets.proofs.unread.Places.{cell_at, found_again, place_in}
use Rattle.cv_costs.specs.quiet.Twins.{Link}
use Rattle.cv_costs.proofs.quiet.Served.{But, Copies, Draws, One}
use Rattle.cv_costs.specs.quiet.Twins.{index_names}
use Rattle.cv_costs.proofs.quiet.Shapes.{one_of}
use Rattle.cv_query_secrets.proofs.unread.Swaps.{Choice, exchange, exchange_told, one_size}
use Rattle.cv_query_secrets.proofs.unread.Told.{first_told, told_at}

-- an index that is not among the current ones
pub not_found : (at : Indices) (y : ℕ) → list_any (λ i. i == y) (index_names at) ≡ false → found_in at y ≡ None
not_found [] y e = refl
not_found (p ∷ at) y e = go (p.0 == y) e (not_found at y)
  where
    go : (b : Bool) → (b || list_any (λ i. i == y) (index_names at)) ≡ false → (list_any (λ i. i == y) (index_names at) ≡ false → found_in at y ≡ None) → cond b (Some p.1) (found_in at y) ≡ None
    go true f ih = absurd (both_ways true f refl)
    go false f ih = ih f

module _ (s : Scene) (x : ℕ) (i : Interpretation) (a : Adversary) where
  abbrev pub g : Setting
  g = setting_of s.declarations i

  abbrev pub c : Context
  c = context_of s.declarations s.game

  abbrev pub cs : List (Cell × ℕ)
  cs = cells g (Random true x) a s.game

  abbrev pub copied : ℕ → Bool
  copied = is_from s x c

  abbrev unread : ℕ → Bool
  unread = one_of x (x ∷ names s x c)

  -- the tape with the place of each such draw in its cell
  abbrev pub coded : Tape → Tape
  coded t d = cond (is_drawn copied d) (place_in cs d) (t d)

  -- the tape on which the test that is told and the draw that is copied there change places
  abbrev pub choice : Tape → Option Choice
  choice t = first_told x (moments_of_run g (Random true x) a s.game (coded t))

  abbrev pub traded : Tape → Tape
  traded t = exchange cs copied (choice t) t

  -- what is known of the moments of the run on the coded tape

  abbrev pub ReadsAssigned : Moment → Type 0
  ReadsAssigned (Visited v) = VisitReadsAssigned g v
  ReadsAssigned (Tested w st) = Unit {0}

  pub record IsExpected (t : Tape) (m : Moment) : Type 0 where
    pub listed : AllByRecursion (IsListed cs) (cells_of_moment g (Random true x) m)
    pub reads : ReadsAssigned m
    pub first : (r : Choice) → told_at x m ≡ Some r → choice t ≡ Some r

  module _ (t u : Tape) where
    -- a listed draw of such a variable
    abbrev pub IsDraw : Cell → Type 0
    IsDraw (New_at y w) = (copied y ≡ true) × (is_in cs (New_at y w) ≡ true)
    IsDraw d = ⊥

    abbrev pub HasItsSort : Cell → Type 0
    HasItsSort (New_at y w) = HaveOneSort s x c y
    HasItsSort d = ⊥

    -- the draw of which a variable has the value at a tuple
    pub record IsOrigin (z : ℕ) (w : List ℕ) (d : Cell) : Type 0 where
      pub draw : IsDraw d
      pub copy : z ≡ x → HasItsSort d
      pub itself : (z ≡ x → ⊥) → d ≡ New_at z w

    abbrev pub Coded : Link
    Coded z w None q = q ≡ None
    Coded z w (Some v) q = (q ≡ Some (u (cell_at cs v))) × IsOrigin z w (cell_at cs v)

    pub linked : (z : ℕ) (w : List ℕ) (o q : Option ℕ) → Coded z w o q → is_some o ≡ is_some q
    linked z w None q e = sym (ap is_some e)
    linked z w (Some v) q e = sym (ap is_some e.0)

    pub draws : Draws (copying_kind s x c) Coded linked g (coded t) u (IsExpected t)
    draws z T p b d at m f h e =
        let it : Cell = New_at z (tuple at) in
        let drawn : copied z ≡ true = f.0 h in
        let there : is_in cs it ≡ true = e.listed.0 refl in
        let place : cell_at cs (coded t it) ≡ it = ap (λ k. cell_at cs (cond k (place_in cs it) (t it))) drawn ∙ found_again cs it there in
        subst (λ k. (Some (u it) ≡ Some (u k)) × IsOrigin z (tuple at) k) (sym place) (refl, record { draw = (drawn, there); copy = λ j. absurd (f.1 j); itself = λ j. refl })

    -- a value that is copied comes from the draw that it came from

    copy_of : (z y : ℕ) (w v : List ℕ) → z ≡ x → IsFrom s x c y → (o q : Option ℕ) → Coded y w o q → is_some o ≡ true → Coded z v (Some (or_zero o)) (Some (or_zero q))
    copy_of z y w v e f None q k h = absurd (both_ways false refl h)
    copy_of z y w v e f (Some n) q k h =
        let it : cell_at cs n ≡ New_at y w = k.1.itself f.other in
        (ap (λ r. Some (or_zero r)) k.0, record { draw = k.1.draw; copy = λ j. subst HasItsSort (sym it) f.sort; itself = λ j. absurd (j e) })

    is_one : (y : ℕ) → copied y ≡ true → unread y ≡ true
    is_one y e = or_right (y == x) (copied y) e

    one_assigned : (b : Bool) (P : Type 0) → b ≡ false → (b ≡ true) ⊎ P → P
    one_assigned b P e (inl f) = absurd (both_ways b e f)
    one_assigned b P e (inr f) = f

    pub copies : Copies (copying_kind s x c) Coded linked g (coded t) u (IsExpected t)
    unfolding value
    copies z T p (Node (Leaf y) d e) b at m n f o h =
        let bare : found_in at y ≡ None = not_found at y f.1.1 in
        let from : IsFrom s x c y = f.1.0 in
        let there : is_some (m.store y []) ≡ true =
        one_assigned (is_constant_of s.declarations y) (is_some (m.store y []) ≡ true) from.constant (subst (LeafAssigned g m.store y) bare h.reads) in
        let left : value g at m.store (Node (Leaf y) d e) ≡ or_zero (m.store y []) =
        ap (leaf_value_from g m.store y) bare ∙ ap (λ k. cond k (i.table y []) (or_zero (m.store y []))) from.constant in
        let right : value g at n.store (Node (Leaf y) d e) ≡ or_zero (n.store y []) =
        ap (leaf_value_from g n.store y) bare ∙ ap (λ k. cond k (i.table y []) (or_zero (n.store y []))) from.constant in (
          or_left (z == x) (copied z) (eq-eqb z x f.0),
          subst (λ (k : ℕ × ℕ). Coded z (tuple at) (Some k.0) (Some k.1)) (λ j. (sym left j, sym right j))
              (copy_of z y [] (tuple at) f.0 from (m.store y []) (n.store y []) (o.store.own y (is_one y from.source) []) there),
        )
    copies z T p (Node (Read y) d e) b at m n f o h =
        let from : IsFrom s x c y = f.1.0 in
        let same : values g at m.store d ≡ values g at n.store d = values_same g at unread m.store n.store o.store.others d f.1.1 in (
          or_left (z == x) (copied z) (eq-eqb z x f.0),
          subst (λ w. Coded z (tuple at) (Some (or_zero (m.store y (values g at m.store d)))) (Some (or_zero (n.store y w)))) same
              (copy_of z y (values g at m.store d) (tuple at) f.0 from (m.store y (values g at m.store d)) (n.store y (values g at m.store d)) (o.store.own y (is_one y from.source) (values g at m.store d)) h.reads.0),
        )
    copies z T p b d at m n f o h = absurd f.1

  -- the test that is told a random value is told it by the variable too, on the other tape

  module _ (sizes : (y : ℕ) (w v : List ℕ) → HaveOneSort s x c y → is_in cs (New_at y w) ≡ true → is_in cs (Test_at v) ≡ true → one_size (size_in cs (Test_at v)) (size_in cs (New_at y w)) ≡ true) (t : Tape) where
    abbrev u : Tape
    u = traded t

    draw_told : (w : List ℕ) (n : ℕ) (d : Cell) → cell_at cs n ≡ d → IsDraw t u d → HasItsSort t u d → is_in cs (Test_at w) ≡ true → choice t ≡ Some (w, n) → u d ≡ t (Test_at w)
    draw_told w n (New_at y v) e k h l f =
        let one : one_size (size_in cs (Test_at w)) (size_in cs (cell_at cs n)) ≡ true = ap (λ d. one_size (size_in cs (Test_at w)) (size_in cs d)) e ∙ sizes y v w h k.1 l in
        let drawn : is_drawn copied (cell_at cs n) ≡ true = ap (is_drawn copied) e ∙ k.0 in
        ap u (sym e) ∙ ap (λ r. exchange cs copied r t (cell_at cs n)) f ∙ exchange_told cs copied (w, n) t drawn one
    draw_told w n d e k h l f = absurd k

    pub tells : (r q : State) → AreAlike (But (copying_kind s x c) (Coded t u) (linked t u)) (One (copying_kind s x c) (Coded t u) (linked t u)) r q → (w : List ℕ) → IsExpected t (Tested w r) → told (Random true x) (coded t) r w ≡ told (Real true x) u q w
    tells r q l w e =
        go r.tested q.tested l.tested (r.memory.store x w) (q.memory.store x w) (l.memory.store.own x (or_left (x == x) (copied x) (eq-eqb x x refl)) w) e.listed e.first
      where
        go : (b d : Bool) → b ≡ d → (o k : Option ℕ) → Coded t u x w o k → AllByRecursion (IsListed cs) (cond b [] (cond (is_some o) (Test_at w ∷ []) []))
            → ((f : Choice) → cond b None (elim o as (λ _. Option Choice) [ None ↦ None | Some v ↦ Some (w, v) ]) ≡ Some f → choice t ≡ Some f)
            → cond b None (cond (is_some o) (Some (t (Test_at w))) None) ≡ cond d None k
        go true true e o k f h j = refl
        go true false e o k f h j = absurd (both_ways false refl (sym e))
        go false true e o k f h j = absurd (both_ways false refl e)
        go false false e None k f h j = sym f
        go false false e (Some n) k f h j = sym (f.0 ∙ ap Some (draw_told w n (cell_at cs n) refl f.1.draw (f.1.copy refl) (h.0 refl) (j (w, n) refl)))
