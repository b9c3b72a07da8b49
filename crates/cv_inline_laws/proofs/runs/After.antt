-- Stores that stay related when both runs assign.
use Rattle.std.proofs.Common.{◌≡◌, ℕ, Bool, true, false, cond, ◌||◌, ◌&&◌, not, ◌==◌, List, [], ◌∷◌, length, is_some, Some, None, refl, sym, ap, ◌∙◌, eqb-true, eq-eqb}
use Rattle.std.proofs.lemmas.Bool.{both_ways, or_right, or_left}
use Rattle.std.specs.List.{AllByRecursion}
use Rattle.cv_syntax_trees.specs.declared.head.Head.TheVariants.{Binder}
use Rattle.cv_syntax_trees.specs.Tree.{Tree, Node, binds}
use Rattle.cv_meaning.specs.Tapes.{same_tuple, Key_at}
use Rattle.cv_meaning.specs.Side.{Arrays}
use Rattle.cv_meaning.specs.Memory.{Store, put}
use Rattle.cv_meaning.specs.Binders.{bound_to}
use Rattle.cv_meaning_laws.specs.Agreement.{AgreeOn}
use Rattle.cv_meaning_laws.proofs.Counts.{same_tuple_exact}
use Rattle.cv_meaning.specs.contexts.Inlined.{Caller}
use Rattle.cv_meaning.specs.contexts.Roles.{Role, Plain, Gone, TheKeyName, Variable, is_plain}
use Rattle.cv_inline.specs.bodies.Related.{MadeUnder, at_its_key, IsKept}
use Rattle.cv_inline.proofs.bodies.Stores.{put_agree, bound_agree}
use Rattle.cv_inline.specs.NextGame.{callers_of}
use Rattle.cv_inline_laws.specs.runs.Texts.{is_ordinary, Text, plain_in, KeyKeeps, AreRelatedIn}
use Rattle.cv_syntax_trees.proofs.lists.Tests.{differ_comm}

clash : (v : ℕ) → None ≡ Some v → ⊥
clash v e = cc

-- names of different roles
pub apart_by : (T : Text) (on : Role → Bool) (x y : ℕ) → on (T.role x) ≡ true → on (T.role y) ≡ false → (x == y) ≡ false
apart_by T on x y e f = go (x == y) refl
  where
    go : (b : Bool) → (x == y) ≡ b → b ≡ false
    go true i = absurd (both_ways _ f (ap (λ z. on (T.role z)) (sym (eqb-true x y i)) ∙ e))
    go false i = refl

pub other_put : (m : Store) (x : ℕ) (w : List ℕ) (v y : ℕ) (u : List ℕ) → (y == x) ≡ false → m y u ≡ put m x w v y u
unfolding put
other_put m x w v y u e = sym (ap (λ b. cond (b && same_tuple u w) (Some v) (m y u)) e)

grows_put : (k : Store) (x : ℕ) (w : List ℕ) (v : ℕ) (m : Store) → m x w ≡ None → IsKept m k → IsKept m (put k x w v)
unfolding put
grows_put k x w v m fresh l y u z e = go (y == x) (same_tuple u w) refl refl
  where
    go : (b c : Bool) → (y == x) ≡ b → same_tuple u w ≡ c → cond (b && c) (Some v) (k y u) ≡ Some z
    go true true i j = absurd (clash z (sym fresh ∙ sym (ap (λ y. m y w) (eqb-true y x i)) ∙ sym (ap (m y) (same_tuple_exact u w j)) ∙ e))
    go true false i j = l y u z e
    go false c i j = l y u z e

pub put_same : (on : ℕ → Bool) (m n : Store) → AgreeOn on m n → (x : ℕ) (w : List ℕ) (v : ℕ) → AgreeOn on (put m x w v) (put n x w v)
unfolding put
put_same on m n same x w v y u e = ap (λ o. cond ((y == x) && same_tuple u w) (Some v) o) (same y u e)

pub bound_same : (on : ℕ → Bool) (m n : Store) → AgreeOn on m n → (w : List ℕ) (us : Tree) (vs : List ℕ) → AgreeOn on (bound_to m w us vs) (bound_to n w us vs)
unfolding bound_to
bound_same on m n same w (Node (Binder x S) a b) (v ∷ vs) = bound_same on (put m x w v) (put n x w v) (put_same on m n same x w v) w b vs
bound_same on m n same w us vs = same

grows_bound : (m : Store) (w : List ℕ) (us : Tree) (vs : List ℕ) → ((y : ℕ) → binds us y ≡ true → m y w ≡ None) → (k : Store) → IsKept m k → IsKept m (bound_to k w us vs)
unfolding bound_to binds
grows_bound m w (Node (Binder x S) a b) (v ∷ vs) fresh k l =
    grows_bound m w b vs (λ y e. fresh y (or_right (y == x) _ (or_right (binds a y) _ e))) (put k x w v) (grows_put k x w v m (fresh x (or_left (x == x) _ (eq-eqb x x refl))) l)
grows_bound m w us vs fresh k l = l

module _ (T : Text) (key_gone : T.role T.calls.key ≡ Gone) (made : MadeUnder) (m : Store) (ar : Arrays) (n : Store) (rel : AreRelatedIn T made m ar n) where
  abbrev off_plain : ℕ → Bool
  off_plain y = not (plain_in T y)

  off : (y : ℕ) (r : Role) → T.role y ≡ r → is_plain r ≡ false → off_plain y ≡ true
  off y r e f = ap (λ x. not (is_plain x)) e ∙ ap not f

  all_grow : (m' : Store) → IsKept m m' → (ss : List Caller) → AllByRecursion (λ s. (w k : List ℕ) → made (record { tuple = w; site = s.number }) ≡ Some k → KeyKeeps T m s w k × (length k ≡ T.key_length)) ss
      → AllByRecursion (λ s. (w k : List ℕ) → made (record { tuple = w; site = s.number }) ≡ Some k → KeyKeeps T m' s w k × (length k ≡ T.key_length)) ss
  all_grow m' grows [] a = tt
  all_grow m' grows (s ∷ ss) a = (
    λ w k e. let z = a.0 w k e in
        (record { found = z.0.found; value = λ later l. z.0.value later (λ x u v e. l x u v (grows x u v e)); assigned = λ later l. z.0.assigned later (λ x u v e. l x u v (grows x u v e)) }, z.1),
    all_grow m' grows ss a.1,
  )

  -- where plain variables alone are assigned, in both stores the same
  pub related_after : (m' n' : Store) → AgreeOn (λ y. is_ordinary (T.role y)) m' n' → IsKept m m' → AgreeOn off_plain m m' → AgreeOn off_plain n n' → AreRelatedIn T made m' ar n'
  related_after m' n' both grows here there = record {
    ordinary = both;
    arrays = λ v k c h. rel.arrays v k c h ∙ ap (at_its_key (made c) k) (there (T.calls.drawn.variable c.site v) c.tuple (off _ (Variable c.site v) (T.variables c.site v h) refl));
    unmade = λ c e v h. sym (there (T.calls.drawn.variable c.site v) c.tuple (off _ (Variable c.site v) (T.variables c.site v h) refl)) ∙ rel.unmade c e v h;
    answered = λ c k e. ap is_some (sym (here (T.answer c.site) c.tuple (off _ Gone (T.answers c.site) refl))) ∙ rel.answered c k e;
    stays = all_grow m' grows (callers_of T.calls.callings) rel.stays;
    key_cells = λ w. ap is_some (sym (here T.calls.key w (off _ Gone key_gone refl))) ∙ rel.key_cells w ∙ ap is_some (there T.calls.drawn.key w (off _ TheKeyName T.key_role refl));
    key_values = λ w e. sym (there T.calls.drawn.key w (off _ TheKeyName T.key_role refl)) ∙ rel.key_values w (ap is_some (here T.calls.key w (off _ Gone key_gone refl)) ∙ e);
  }

  plain_off : (x y : ℕ) → T.role x ≡ Plain → off_plain y ≡ true → (y == x) ≡ false
  plain_off x y p e = apart_by T (λ r. not (is_plain r)) y x e (ap (λ r. not (is_plain r)) p)

  itself : IsKept m m
  itself x u v e = e

  pub put_related : (x : ℕ) (w : List ℕ) (v : ℕ) → T.role x ≡ Plain → m x w ≡ None → AreRelatedIn T made (put m x w v) ar (put n x w v)
  put_related x w v p fresh =
      related_after (put m x w v) (put n x w v) (put_same (λ y. is_ordinary (T.role y)) m n rel.ordinary x w v) (grows_put m x w v m fresh itself)
      (put_agree m x w v off_plain (λ y e. plain_off x y p e)) (put_agree n x w v off_plain (λ y e. plain_off x y p e))

  pub bound_related : (w : List ℕ) (us : Tree) (vs : List ℕ) → ((y : ℕ) → binds us y ≡ true → T.role y ≡ Plain) → ((y : ℕ) → binds us y ≡ true → m y w ≡ None) → AreRelatedIn T made (bound_to m w us vs) ar (bound_to n w us vs)
  bound_related w us vs plain fresh =
      related_after (bound_to m w us vs) (bound_to n w us vs) (bound_same (λ y. is_ordinary (T.role y)) m n rel.ordinary w us vs) (grows_bound m w us vs fresh m itself)
      (bound_agree m w us vs off_plain not_bound) (bound_agree n w us vs off_plain not_bound)
    where
      not_bound : (y : ℕ) → off_plain y ≡ true → binds us y ≡ false
      not_bound y e = go (binds us y) refl
        where
          go : (b : Bool) → binds us y ≡ b → b ≡ false
          go true i = absurd (both_ways _ (ap (λ r. not (is_plain r)) (plain y i)) e)
          go false i = refl

  -- the choice of a key
  pub key_related : (w : List ℕ) → m T.calls.key w ≡ None → AreRelatedIn T made (put m T.calls.key w 0) ar (put n T.calls.drawn.key w (T.side_tape (Key_at w)))
  unfolding put
  key_related w fresh = record {
    ordinary = λ y u e. sym (other_put m T.calls.key w 0 y u (apart_by T is_ordinary y T.calls.key e (ap is_ordinary key_gone))) ∙ rel.ordinary y u e ∙ other_put n T.calls.drawn.key w _ y u (apart_by T is_ordinary y T.calls.drawn.key e (ap is_ordinary T.key_role));
    arrays = λ v k c h. rel.arrays v k c h ∙ ap (at_its_key (made c) k) (other_put n T.calls.drawn.key w _ (T.calls.drawn.variable c.site v) c.tuple (variable_off c.site v h));
    unmade = λ c e v h. sym (other_put n T.calls.drawn.key w _ (T.calls.drawn.variable c.site v) c.tuple (variable_off c.site v h)) ∙ rel.unmade c e v h;
    answered = λ c k e. ap is_some (sym (other_put m T.calls.key w 0 (T.answer c.site) c.tuple (differ_comm T.calls.key (T.answer c.site) (T.key_apart c.site)))) ∙ rel.answered c k e;
    stays = all_grow (put m T.calls.key w 0) (grows_put m T.calls.key w 0 m fresh itself) (callers_of T.calls.callings) rel.stays;
    key_cells = cells;
    key_values = cell_values;
  }
    where
      is_variable : Role → Bool
      is_variable (Variable s v) = true
      is_variable r = false

      variable_off : (s v : ℕ) → T.has s v ≡ true → (T.calls.drawn.variable s v == T.calls.drawn.key) ≡ false
      variable_off s v h = apart_by T is_variable (T.calls.drawn.variable s v) T.calls.drawn.key (ap is_variable (T.variables s v h)) (ap is_variable T.key_role)

      cells : (u : List ℕ) → is_some (put m T.calls.key w 0 T.calls.key u) ≡ is_some (put n T.calls.drawn.key w (T.side_tape (Key_at w)) T.calls.drawn.key u)
      cells u =
          ap (λ b. is_some (cond (b && same_tuple u w) (Some 0) (m T.calls.key u))) (eq-eqb T.calls.key T.calls.key refl) ∙ go (same_tuple u w)
          ∙ sym (ap (λ b. is_some (cond (b && same_tuple u w) (Some (T.side_tape (Key_at w))) (n T.calls.drawn.key u))) (eq-eqb T.calls.drawn.key T.calls.drawn.key refl))
        where
          go : (b : Bool) → is_some (cond b (Some 0) (m T.calls.key u)) ≡ is_some (cond b (Some (T.side_tape (Key_at w))) (n T.calls.drawn.key u))
          go true = refl
          go false = rel.key_cells u

      cell_values : (u : List ℕ) → is_some (put m T.calls.key w 0 T.calls.key u) ≡ true → put n T.calls.drawn.key w (T.side_tape (Key_at w)) T.calls.drawn.key u ≡ Some (T.side_tape (Key_at u))
      cell_values u e =
          ap (λ b. cond (b && same_tuple u w) (Some (T.side_tape (Key_at w))) (n T.calls.drawn.key u)) (eq-eqb T.calls.drawn.key T.calls.drawn.key refl)
          ∙ go (same_tuple u w) refl (sym (ap (λ b. is_some (cond (b && same_tuple u w) (Some 0) (m T.calls.key u))) (eq-eqb T.calls.key T.calls.key refl)) ∙ e)
        where
          go : (b : Bool) → same_tuple u w ≡ b → is_some (cond b (Some 0) (m T.calls.key u)) ≡ true → cond b (Some (T.side_tape (Key_at w))) (n T.calls.drawn.key u) ≡ Some (T.side_tape (Key_at u))
          go true i e = ap (λ u. Some (T.side_tape (Key_at u))) (sym (same_tuple_exact u w i))
          go false i e = rel.key_values u e
