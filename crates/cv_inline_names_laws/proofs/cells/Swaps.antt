-- Cells are swapped, each with one other, and tapes with swapped cells are alike.
use Rattle.std.proofs.Common.{◌≡◌, ℕ, Bool, true, false, cond, ◌&&◌, ◌==◌, List, [], ◌∷◌, suc, Option, Some, None, refl, sym, ap, ◌∙◌, eq-eqb, eqb-true}
use Rattle.std.proofs.lemmas.Bool.{both_ways}
use Rattle.cv_meaning.specs.Tapes.{Cell, New_at, Find_at, Test_at, Key_at, Made_at, Picked_at, Coin, Tape, cells_of}
use Rattle.cv_meaning.specs.Cells.{coin_cells}
use Rattle.cv_meaning_chances.specs.Tests.{IsOneToOne}
use Rattle.cv_meaning_runs.specs.Agreement.{AgreeAt}
use Rattle.cv_meaning.specs.contexts.Roles.{Role, Plain, Replication, Gone, TheKeyName, Variable, Index}
use Rattle.cv_inline.specs.Draws.{same_find, same_role}
use Rattle.cv_inline.proofs.Named.{same_find_exact, same_role_exact}
use Rattle.cv_inline_laws.specs.runs.Texts.{Text}
use Rattle.cv_inline_laws.specs.runs.Contexts.{AreLikeTapes}
use Rattle.cv_inline_names_laws.specs.cells.Cells.{RightNames, at_right, find_for, is_that_find, names_in, new_for, on_tape}
use Rattle.cv_syntax_trees.proofs.lists.Tests.{equals_refl}

same_variable : (s v : ℕ) → same_role (Variable s v) (Variable s v) ≡ true
same_variable s v = ap (λ b. b && (v == v)) (equals_refl s) ∙ equals_refl v

same_find_self : (s q : ℕ) → same_find (s, q) (s, q) ≡ true
same_find_self s q = ap (λ b. b && (q == q)) (equals_refl s) ∙ equals_refl q

module _ (n : RightNames) where
  new_back : (y : ℕ) (w : List ℕ) (r : Role) → n.role y ≡ r → at_right n (new_for n y w r) ≡ New_at y w
  new_back y w TheKeyName e = go (n.drawn.key == y) refl
    where
      go : (b : Bool) → (n.drawn.key == y) ≡ b → at_right n (cond b (Key_at w) (New_at y w)) ≡ New_at y w
      go true f =
          let z : n.drawn.key ≡ y = eqb-true n.drawn.key y f in
          ap (λ b. cond b (New_at n.drawn.key w) (Key_at w)) (ap (λ r. same_role r TheKeyName) (ap n.role z ∙ e)) ∙ ap (λ x. New_at x w) z
      go false f = ap (new_for n y w) e ∙ ap (λ b. cond b (Key_at w) (New_at y w)) f
  new_back y w (Variable s v) e = go (n.drawn.variable s v == y) refl
    where
      go : (b : Bool) → (n.drawn.variable s v == y) ≡ b → at_right n (cond b (Made_at v w s) (New_at y w)) ≡ New_at y w
      go true f =
          let z : n.drawn.variable s v ≡ y = eqb-true (n.drawn.variable s v) y f in
          ap (λ b. cond b (New_at (n.drawn.variable s v) w) (Made_at v w s)) (ap (λ r. same_role r (Variable s v)) (ap n.role z ∙ e) ∙ same_variable s v) ∙ ap (λ x. New_at x w) z
      go false f = ap (new_for n y w) e ∙ ap (λ b. cond b (Made_at v w s) (New_at y w)) f
  new_back y w Plain e = ap (new_for n y w) e
  new_back y w Replication e = ap (new_for n y w) e
  new_back y w Gone e = ap (new_for n y w) e
  new_back y w (Index s q o b k) e = ap (new_for n y w) e

  find_back : (l : ℕ) (w : List ℕ) (o : Option (ℕ × ℕ)) → n.find l ≡ o → at_right n (find_for n l w o) ≡ Find_at l w
  find_back l w None e = ap (find_for n l w) e
  find_back l w (Some f) e = go (n.drawn.label f.0 f.1 == l) refl
    where
      go : (b : Bool) → (n.drawn.label f.0 f.1 == l) ≡ b → at_right n (cond b (Picked_at f.1 w f.0) (Find_at l w)) ≡ Find_at l w
      go true g =
          let z : n.drawn.label f.0 f.1 ≡ l = eqb-true (n.drawn.label f.0 f.1) l g in
          ap (λ b. cond b (Find_at (n.drawn.label f.0 f.1) w) (Picked_at f.1 w f.0)) (ap (λ o. is_that_find o (f.0, f.1)) (ap n.find z ∙ e) ∙ same_find_self f.0 f.1) ∙ ap (λ x. Find_at x w) z
      go false g = ap (find_for n l w) e ∙ ap (λ b. cond b (Picked_at f.1 w f.0) (Find_at l w)) g

  key_back : (w : List ℕ) (b : Bool) → same_role (n.role n.drawn.key) TheKeyName ≡ b → at_right n (cond b (New_at n.drawn.key w) (Key_at w)) ≡ Key_at w
  key_back w true e = ap (new_for n n.drawn.key w) (same_role_exact (n.role n.drawn.key) TheKeyName e) ∙ ap (λ b. cond b (Key_at w) (New_at n.drawn.key w)) (equals_refl n.drawn.key)
  key_back w false e = ap (λ b. cond b (New_at n.drawn.key w) (Key_at w)) e

  made_back : (v : ℕ) (w : List ℕ) (s : ℕ) (b : Bool) → same_role (n.role (n.drawn.variable s v)) (Variable s v) ≡ b → at_right n (cond b (New_at (n.drawn.variable s v) w) (Made_at v w s)) ≡ Made_at v w s
  made_back v w s true e =
      ap (new_for n (n.drawn.variable s v) w) (same_role_exact (n.role (n.drawn.variable s v)) (Variable s v) e) ∙ ap (λ b. cond b (Made_at v w s) (New_at (n.drawn.variable s v) w)) (equals_refl (n.drawn.variable s v))
  made_back v w s false e = ap (λ b. cond b (New_at (n.drawn.variable s v) w) (Made_at v w s)) e

  that_find : (o : Option (ℕ × ℕ)) (f : ℕ × ℕ) → is_that_find o f ≡ true → o ≡ Some f
  that_find None f e = absurd (both_ways false refl e)
  that_find (Some g) f e = ap Some (same_find_exact g f e)

  picked_back : (q : ℕ) (w : List ℕ) (s : ℕ) (b : Bool) → is_that_find (n.find (n.drawn.label s q)) (s, q) ≡ b → at_right n (cond b (Find_at (n.drawn.label s q) w) (Picked_at q w s)) ≡ Picked_at q w s
  picked_back q w s true e =
      ap (find_for n (n.drawn.label s q) w) (that_find (n.find (n.drawn.label s q)) (s, q) e) ∙ ap (λ b. cond b (Picked_at q w s) (Find_at (n.drawn.label s q) w)) (equals_refl (n.drawn.label s q))
  picked_back q w s false e = ap (λ b. cond b (Find_at (n.drawn.label s q) w) (Picked_at q w s)) e

  pub back : (c : Cell) → at_right n (at_right n c) ≡ c
  back (New_at y w) = new_back y w (n.role y) refl
  back (Find_at l w) = find_back l w (n.find l) refl
  back (Test_at w) = refl
  back (Key_at w) = key_back w (same_role (n.role n.drawn.key) TheKeyName) refl
  back (Made_at v w s) = made_back v w s (same_role (n.role (n.drawn.variable s v)) (Variable s v)) refl
  back (Picked_at q w s) = picked_back q w s (is_that_find (n.find (n.drawn.label s q)) (s, q)) refl
  back (Coin k) = refl

  pub one_to_one : IsOneToOne (at_right n)
  one_to_one c d e = sym (back c) ∙ ap (at_right n) e ∙ back d

  -- where names have their roles

  pub plain_stays : (x : ℕ) (w : List ℕ) → n.role x ≡ Plain → at_right n (New_at x w) ≡ New_at x w
  plain_stays x w e = ap (new_for n x w) e

  pub key_swapped : (w : List ℕ) → n.role n.drawn.key ≡ TheKeyName → at_right n (Key_at w) ≡ New_at n.drawn.key w
  key_swapped w e = ap (λ r. cond (same_role r TheKeyName) (New_at n.drawn.key w) (Key_at w)) e

  pub made_swapped : (v : ℕ) (w : List ℕ) (s : ℕ) → n.role (n.drawn.variable s v) ≡ Variable s v → at_right n (Made_at v w s) ≡ New_at (n.drawn.variable s v) w
  made_swapped v w s e = ap (λ b. cond b (New_at (n.drawn.variable s v) w) (Made_at v w s)) (ap (λ r. same_role r (Variable s v)) e ∙ same_variable s v)

  pub picked_swapped : (q : ℕ) (w : List ℕ) (s : ℕ) → n.find (n.drawn.label s q) ≡ Some (s, q) → at_right n (Picked_at q w s) ≡ Find_at (n.drawn.label s q) w
  picked_swapped q w s e = ap (λ b. cond b (Find_at (n.drawn.label s q) w) (Picked_at q w s)) (ap (λ o. is_that_find o (s, q)) e ∙ same_find_self s q)

  pub find_stays : (l : ℕ) (w : List ℕ) → n.find l ≡ None → at_right n (Find_at l w) ≡ Find_at l w
  find_stays l w e = ap (find_for n l w) e

module _ (T : Text) (find : ℕ → Option (ℕ × ℕ)) (t : Tape) where
  pub like_tapes : T.role T.calls.key ≡ Gone → AreLikeTapes (on_tape T find t)
  like_tapes e = record { chosen = λ x w p. ap t (plain_stays (names_in T find) x w p); key = λ w. ap t (key_swapped (names_in T find) w T.key_role); key_gone = e }

  pub coins_alike : (k : ℕ) (ns : List ℕ) → AgreeAt (cells_of (coin_cells k ns)) (λ c. t (at_right (names_in T find) c)) t
  coins_alike k [] = tt
  coins_alike k (n ∷ ns) = (refl, coins_alike (suc k) ns)
