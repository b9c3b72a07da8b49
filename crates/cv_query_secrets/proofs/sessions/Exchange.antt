-- Tapes on which the tests and the draws that a list pairs change places.
use Rattle.std.proofs.Common.{◌≡◌, ℕ, ◌&&◌, Bool, true, false, cond, List, [], ◌∷◌, ◌⊎◌, inl, inr, Option, Some, None, refl, sym, ap, ap₂, subst, ◌∙◌, eqb-true}
use Rattle.std.proofs.Math.Path.{fun_ext}
use Rattle.std.proofs.lemmas.Bool.{both_ways, and_parts}
use Rattle.cv_syntax_trees.proofs.lists.Options.{none_some, some_injective}
use Rattle.cv_meaning.specs.Tapes.{Cell, New_at, Test_at, Tape, cells_of, same_cell, same_tuple}
use Rattle.cv_meaning_laws.proofs.Listed.{Has}
use Rattle.cv_meaning_laws.proofs.Counts.{same_cell_exact, same_cell_refl, same_tuple_exact, same_tuple_refl}
use Rattle.cv_meaning_chances.specs.Tests.{HasDistinctCells, IsWithin}
use Rattle.cv_meaning_chances.specs.unread.Sizes.{size_in}
use Rattle.cv_meaning_chances.proofs.unread.CellSizes.{is_drawn}
use Rattle.cv_meaning_runs.specs.Agreement.{AgreeAt}
use Rattle.cv_query_secrets.proofs.unread.Places.{agree_in, agree_of, is_in_sized, sized_is_in, within_at, within_of}
use Rattle.cv_query_secrets.proofs.unread.Swaps.{is_test, may_swap, one_size, sizes_same}

-- the tuple of a test, and a draw
abbrev pub Pair : Type 0
Pair = List ℕ × Cell

abbrev pub IsPaired : List Pair → Pair → Type 0
IsPaired rs r = Has rs r

-- no test and no draw has two partners
pub record AreOneToOne (rs : List Pair) : Type 0 where
  pub draw : (w : List ℕ) (d e : Cell) → IsPaired rs (w, d) → IsPaired rs (w, e) → d ≡ e
  pub test : (w v : List ℕ) (d : Cell) → IsPaired rs (w, d) → IsPaired rs (v, d) → w ≡ v

module _ (cs : List (Cell × ℕ)) (ys : ℕ → Bool) where
  -- both are listed, with one size
  abbrev pub may : Pair → Bool
  may r = may_swap cs ys r.0 r.1

  abbrev pub Are : List Pair → Pair → Type 0
  Are rs r = IsPaired rs r × (may r ≡ true)

  -- the draw of a test, and the test of a draw

  unfoldable pub draw_for : List Pair → List ℕ → Option Cell
  draw_for [] w = None
  draw_for (r ∷ rs) w = cond (same_tuple r.0 w && may r) (Some r.1) (draw_for rs w)

  unfoldable pub test_for : List Pair → Cell → Option (List ℕ)
  test_for [] d = None
  test_for (r ∷ rs) d = cond (same_cell r.1 d && may r) (Some r.0) (test_for rs d)

  draw_found : (rs : List Pair) (w : List ℕ) (d : Cell) → draw_for rs w ≡ Some d → Are rs (w, d)
  unfolding draw_for
  draw_found [] w d e = absurd (none_some d e)
  draw_found (r ∷ rs) w d e = go (same_tuple r.0 w) (may r) refl refl e (draw_found rs w d)
    where
      go : (b c : Bool) → same_tuple r.0 w ≡ b → may r ≡ c → cond (b && c) (Some r.1) (draw_for rs w) ≡ Some d → (draw_for rs w ≡ Some d → Are rs (w, d)) → Are (r ∷ rs) (w, d)
      go true true k l f ih =
          let name : r.0 ≡ w = same_tuple_exact r.0 w k in
          let cell : r.1 ≡ d = some_injective f in
          let same : r ≡ (w, d) = λ j. (name j, cell j) in
          (inl (sym same), ap may (sym same) ∙ l)
      go true false k l f ih = let z = ih f in (inr z.0, z.1)
      go false c k l f ih = let z = ih f in (inr z.0, z.1)

  test_found : (rs : List Pair) (d : Cell) (w : List ℕ) → test_for rs d ≡ Some w → Are rs (w, d)
  unfolding test_for
  test_found [] d w e = absurd (none_some w e)
  test_found (r ∷ rs) d w e = go (same_cell r.1 d) (may r) refl refl e (test_found rs d w)
    where
      go : (b c : Bool) → same_cell r.1 d ≡ b → may r ≡ c → cond (b && c) (Some r.0) (test_for rs d) ≡ Some w → (test_for rs d ≡ Some w → Are rs (w, d)) → Are (r ∷ rs) (w, d)
      go true true k l f ih =
          let cell : r.1 ≡ d = same_cell_exact r.1 d k in
          let name : r.0 ≡ w = some_injective f in
          let same : r ≡ (w, d) = λ j. (name j, cell j) in
          (inl (sym same), ap may (sym same) ∙ l)
      go true false k l f ih = let z = ih f in (inr z.0, z.1)
      go false c k l f ih = let z = ih f in (inr z.0, z.1)

  some_draw : (rs : List Pair) (w : List ℕ) (d : Cell) → IsPaired rs (w, d) → may (w, d) ≡ true → (e : Cell) × (draw_for rs w ≡ Some e)
  unfolding draw_for
  some_draw [] w d p m = absurd p
  some_draw (r ∷ rs) w d (inl k) m =
      (d, ap (λ (q : Pair). cond (same_tuple q.0 w && may q) (Some q.1) (draw_for rs w)) (sym k) ∙ ap₂ (λ b c. cond (b && c) (Some d) (draw_for rs w)) (same_tuple_refl w) m)
  some_draw (r ∷ rs) w d (inr k) m = go (same_tuple r.0 w && may r) (some_draw rs w d k m)
    where
      go : (b : Bool) → (e : Cell) × (draw_for rs w ≡ Some e) → (e : Cell) × (cond b (Some r.1) (draw_for rs w) ≡ Some e)
      go true z = (r.1, refl)
      go false z = z

  some_test : (rs : List Pair) (d : Cell) (w : List ℕ) → IsPaired rs (w, d) → may (w, d) ≡ true → (v : List ℕ) × (test_for rs d ≡ Some v)
  unfolding test_for
  some_test [] d w p m = absurd p
  some_test (r ∷ rs) d w (inl k) m =
      (w, ap (λ (q : Pair). cond (same_cell q.1 d && may q) (Some q.0) (test_for rs d)) (sym k) ∙ ap₂ (λ b c. cond (b && c) (Some w) (test_for rs d)) (same_cell_refl d) m)
  some_test (r ∷ rs) d w (inr k) m = go (same_cell r.1 d && may r) (some_test rs d w k m)
    where
      go : (b : Bool) → (v : List ℕ) × (test_for rs d ≡ Some v) → (v : List ℕ) × (cond b (Some r.0) (test_for rs d) ≡ Some v)
      go true z = (r.0, refl)
      go false z = z

  -- where each has one partner alone, it is that one

  module _ (rs : List Pair) (one : AreOneToOne rs) where
    draw_is : (w : List ℕ) (d : Cell) → Are rs (w, d) → draw_for rs w ≡ Some d
    draw_is w d p =
        let e = some_draw rs w d p.0 p.1 in
        e.1 ∙ ap Some (one.draw w e.0 d (draw_found rs w e.0 e.1).0 p.0)

    test_is : (w : List ℕ) (d : Cell) → Are rs (w, d) → test_for rs d ≡ Some w
    test_is w d p =
        let e = some_test rs d w p.0 p.1 in
        e.1 ∙ ap Some (one.test e.0 w d (test_found rs d e.0 e.1).0 p.0)

  -- the cell that changes places with a cell

  abbrev or_itself : Cell → Option Cell → Cell
  or_itself c None = c
  or_itself c (Some d) = d

  abbrev test_or : Cell → Option (List ℕ) → Cell
  test_or c None = c
  test_or c (Some w) = Test_at w

  abbrev pub moved : List Pair → Cell → Cell
  moved rs (Test_at w) = or_itself (Test_at w) (draw_for rs w)
  moved rs (New_at y w) = test_or (New_at y w) (test_for rs (New_at y w))
  moved rs c = c

  -- the tape on which each cell has what the other one had
  abbrev pub exchanged : List Pair → Tape → Tape
  exchanged rs t c = t (moved rs c)

  abbrev have_one_size : List ℕ → Cell → Bool
  have_one_size w d = one_size (size_in cs (Test_at w)) (size_in cs d)

  drawn_of : (w : List ℕ) (d : Cell) → may (w, d) ≡ true → is_drawn ys d ≡ true
  drawn_of w d e = (and_parts (is_drawn ys d) (have_one_size w d) e).0

  size_of_both : (w : List ℕ) (d : Cell) → may (w, d) ≡ true → size_in cs (Test_at w) ≡ size_in cs d
  size_of_both w d e = sizes_same cs ys (size_in cs (Test_at w)) (size_in cs d) (and_parts (is_drawn ys d) (have_one_size w d) e).1

  by_test : (rs : List Pair) (w : List ℕ) (d : Cell) → is_drawn ys d ≡ true → test_for rs d ≡ Some w → moved rs d ≡ Test_at w
  by_test rs w (New_at y u) e k = ap (test_or (New_at y u)) k
  by_test rs w d e k = absurd (both_ways false refl e)

  -- a paired draw has what its test had
  pub moved_draw : (rs : List Pair) → AreOneToOne rs → (w : List ℕ) (d : Cell) → Are rs (w, d) → moved rs d ≡ Test_at w
  moved_draw rs one w d p = by_test rs w d (drawn_of w d p.1) (test_is rs one w d p)

  moved_twice : (rs : List Pair) → AreOneToOne rs → (c : Cell) → moved rs (moved rs c) ≡ c
  moved_twice rs one (Test_at w) = go (draw_for rs w) refl
    where
      go : (o : Option Cell) → draw_for rs w ≡ o → moved rs (or_itself (Test_at w) o) ≡ Test_at w
      go None e = ap (or_itself (Test_at w)) e
      go (Some d) e = moved_draw rs one w d (draw_found rs w d e)
  moved_twice rs one (New_at y u) = go (test_for rs (New_at y u)) refl
    where
      go : (o : Option (List ℕ)) → test_for rs (New_at y u) ≡ o → moved rs (test_or (New_at y u) o) ≡ New_at y u
      go None e = ap (test_or (New_at y u)) e
      go (Some w) e = ap (or_itself (Test_at w)) (draw_is rs one w (New_at y u) (test_found rs (New_at y u) w e))
  moved_twice rs one c = refl

  pub exchanged_twice : (rs : List Pair) → AreOneToOne rs → (t : Tape) → exchanged rs (exchanged rs t) ≡ t
  exchanged_twice rs one t = fun_ext (λ c. ap t (moved_twice rs one c))

  -- both cells have one size

  moved_size : (rs : List Pair) (c : Cell) → size_in cs (moved rs c) ≡ size_in cs c
  moved_size rs (Test_at w) = go (draw_for rs w) refl
    where
      go : (o : Option Cell) → draw_for rs w ≡ o → size_in cs (or_itself (Test_at w) o) ≡ size_in cs (Test_at w)
      go None e = refl
      go (Some d) e = sym (size_of_both w d (draw_found rs w d e).1)
  moved_size rs (New_at y u) = go (test_for rs (New_at y u)) refl
    where
      go : (o : Option (List ℕ)) → test_for rs (New_at y u) ≡ o → size_in cs (test_or (New_at y u) o) ≡ size_in cs (New_at y u)
      go None e = refl
      go (Some w) e = size_of_both w (New_at y u) (test_found rs (New_at y u) w e).1
  moved_size rs c = refl

  pub exchanged_within : HasDistinctCells cs → (rs : List Pair) (t : Tape) → IsWithin cs t → IsWithin cs (exchanged rs t)
  exchanged_within x rs t w = within_of cs (exchanged rs t) x (λ c n f. within_at cs t w (moved rs c) n (moved_size rs c ∙ f))

  pub exchanged_agrees : (rs : List Pair) (t u : Tape) → AgreeAt (cells_of cs) t u → AgreeAt (cells_of cs) (exchanged rs t) (exchanged rs u)
  exchanged_agrees rs t u a =
      agree_of (exchanged rs t) (exchanged rs u) cs (λ c f. let n = sized_is_in cs c f in agree_in t u cs a (moved rs c) (is_in_sized cs (moved rs c) n.0 (moved_size rs c ∙ n.1)))

  -- cells that are no test and no such draw stay as they are
  pub moved_off : (rs : List Pair) (c : Cell) → is_test c ≡ false → is_drawn ys c ≡ false → moved rs c ≡ c
  moved_off rs (Test_at w) e f = absurd (both_ways true e refl)
  moved_off rs (New_at y u) e f = go (test_for rs (New_at y u)) refl
    where
      go : (o : Option (List ℕ)) → test_for rs (New_at y u) ≡ o → test_or (New_at y u) o ≡ New_at y u
      go None k = refl
      go (Some w) k = absurd (both_ways (ys y) f (drawn_of w (New_at y u) (test_found rs (New_at y u) w k).1))
  moved_off rs c e f = refl
