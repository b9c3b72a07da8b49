-- Reads of terms: where the context knows what the game does, they are in reach in the context too.
use Rattle.std.proofs.Common.{◌≡◌, ℕ, ◌≤◌, Bool, true, false, ◌||◌, ◌==◌, List, [], ◌∷◌, inl, inr, length, Option, Some, None, refl, sym, subst, eq-eqb}
use Rattle.std.proofs.lemmas.Bool.{and_parts, both_ways}
use Rattle.std.specs.List.{AllByRecursion}
use Rattle.cv_syntax_trees.specs.declared.head.Head.{Head}
use Rattle.cv_syntax_trees.specs.declared.head.Head.TheVariants.{Leaf, Read, Apply, Eq, And, Or, Not, Yes, No, Cons, Binder, Name}
use Rattle.cv_syntax_trees.specs.Tree.{Tree, Empty, Node, first_place, head_reads_only, reads_only, second_place}
use Rattle.cv_scope_rules.specs.Branches.{HasOtherName, Pairs}
use Rattle.cv_scope_rules.specs.Context.{Context, cell_of, first_context, first_position, index_terms, second_context, second_position}
use Rattle.cv_scope_rules.specs.Rules.{BindsNewIndex, InReach, IsAmong, IsFewIndices, Names, ReadsInReach, carries_current, is_index}
use Rattle.cv_scope_rules.specs.Sites.{named_here}
use Rattle.cv_scope_rules.specs.declared.position.Position.TheVariants.{Anywhere}
use Rattle.cv_scope_rules.proofs.Pairs.{all_weaker}
use Rattle.cv_scene.specs.Sights.{variable_of}
use Rattle.cv_scene.specs.Reductions.{Reduction, is_coin, is_plain}
use Rattle.cv_context_laws.specs.shape.Rules.{AreKept}
use Rattle.cv_context_laws.proofs.well_formed.Becoming.{is_still, is_still_head}
use Rattle.cv_inline_names_laws.proofs.accepted.Levels.{some_is}

-- each read in the tree is in reach
unfoldable pub AreRead : Names → Context → Tree → Type 0
AreRead N Γ Empty = Unit {0}
AreRead N Γ (Node h a b) = ReadsInReach N Γ h a b × AreRead N Γ a × AreRead N Γ b

pub read_inner : (N : Names) (Γ : Context) (h : Head) (a b : Tree) → AreRead N Γ (Node h a b) → AreRead N Γ a × AreRead N Γ b
unfolding AreRead
read_inner N Γ h a b e = (e.1, e.2)

-- the context knows what the game does, but for coins
pub record IsBelow (r : Reduction) (Γ Δ : Context) : Type 0 where
  pub replications : Δ.replications ≡ Γ.replications
  pub own : Δ.own ≡ Γ.own
  pub cells : (c : Tree) (x : ℕ) → variable_of c ≡ Some x → is_coin r x ≡ false → IsAmong c Γ.cells → IsAmong c Δ.cells

pub record AreNamesOf (r : Reduction) (N M : Names) : Type 0 where
  pub constant : (x : ℕ) → N.constant x ≡ true → M.constant x ≡ true
  pub variable : (x : ℕ) → is_plain r x ≡ true → N.variable x ≡ false → M.variable x ≡ false

-- what a construct of terms asks
record IsCalm (h : Head) : Type 0 where
  first : first_position Anywhere h ≡ Anywhere
  second : second_position Anywhere h ≡ Anywhere
  inner : (Γ : Context) → first_context Anywhere h Γ ≡ Γ
  outer : (a : Tree) (Γ : Context) → second_context Anywhere h a Γ ≡ Γ
  carries : (rs : List (ℕ × ℕ)) (a : Tree) → carries_current rs h a ≡ true
  few : (a : Tree) → IsFewIndices h a
  index : (N : Names) (rs : List (ℕ × ℕ)) → BindsNewIndex N rs h
  own : (rs : List (ℕ × ℕ)) (p : ℕ) (a : Tree) → Pairs HasOtherName (named_here rs p h a)

calm : (h : Head) → is_still_head h ≡ true → IsCalm h
calm (Leaf x) e = record { first = refl; second = refl; inner = λ Γ. refl; outer = λ a Γ. refl; carries = λ rs a. refl; few = λ a. tt; index = λ N rs. tt; own = λ rs p a. tt }
calm (Read x) e = record { first = refl; second = refl; inner = λ Γ. refl; outer = λ a Γ. refl; carries = λ rs a. refl; few = λ a. tt; index = λ N rs. tt; own = λ rs p a. tt }
calm (Apply f) e = record { first = refl; second = refl; inner = λ Γ. refl; outer = λ a Γ. refl; carries = λ rs a. refl; few = λ a. tt; index = λ N rs. tt; own = λ rs p a. tt }
calm Eq e = record { first = refl; second = refl; inner = λ Γ. refl; outer = λ a Γ. refl; carries = λ rs a. refl; few = λ a. tt; index = λ N rs. tt; own = λ rs p a. tt }
calm And e = record { first = refl; second = refl; inner = λ Γ. refl; outer = λ a Γ. refl; carries = λ rs a. refl; few = λ a. tt; index = λ N rs. tt; own = λ rs p a. tt }
calm Or e = record { first = refl; second = refl; inner = λ Γ. refl; outer = λ a Γ. refl; carries = λ rs a. refl; few = λ a. tt; index = λ N rs. tt; own = λ rs p a. tt }
calm Not e = record { first = refl; second = refl; inner = λ Γ. refl; outer = λ a Γ. refl; carries = λ rs a. refl; few = λ a. tt; index = λ N rs. tt; own = λ rs p a. tt }
calm Yes e = record { first = refl; second = refl; inner = λ Γ. refl; outer = λ a Γ. refl; carries = λ rs a. refl; few = λ a. tt; index = λ N rs. tt; own = λ rs p a. tt }
calm No e = record { first = refl; second = refl; inner = λ Γ. refl; outer = λ a Γ. refl; carries = λ rs a. refl; few = λ a. tt; index = λ N rs. tt; own = λ rs p a. tt }
calm Cons e = record { first = refl; second = refl; inner = λ Γ. refl; outer = λ a Γ. refl; carries = λ rs a. refl; few = λ a. tt; index = λ N rs. tt; own = λ rs p a. tt }
calm (Name i) e = record { first = refl; second = refl; inner = λ Γ. refl; outer = λ a Γ. refl; carries = λ rs a. refl; few = λ a. tt; index = λ N rs. tt; own = λ rs p a. tt }
calm (Binder x T) e = record { first = refl; second = refl; inner = λ Γ. refl; outer = λ a Γ. refl; carries = λ rs a. refl; few = λ a. tt; index = λ N rs. tt; own = λ rs p a. tt }
calm h e = absurd (both_ways false refl e)

pub read_of_kept : (N : Names) (Γ : Context) (p : ℕ) (t : Tree) → is_still t ≡ true → AreKept N Anywhere Γ p t → AreRead N Γ t
unfolding is_still AreKept AreRead
read_of_kept N Γ p Empty e k = tt
read_of_kept N Γ p (Node h a b) e k =
    let u = and_parts (is_still_head h) _ e in
    let v = and_parts (is_still a) (is_still b) u.1 in
    let c = calm h u.0 in (
      k.0.scope,
      read_of_kept N Γ (first_place p h) a v.0 (subst (λ w. AreKept N w Γ (first_place p h) a) c.first (subst (λ Δ. AreKept N (first_position Anywhere h) Δ (first_place p h) a) (c.inner Γ) k.1)),
      read_of_kept N Γ (second_place p h a) b v.1 (subst (λ w. AreKept N w Γ (second_place p h a) b) c.second (subst (λ Δ. AreKept N (second_position Anywhere h) Δ (second_place p h a) b) (c.outer a Γ) k.2)),
    )

pub kept_of_read : (N : Names) (Γ : Context) (p : ℕ) (t : Tree) → is_still t ≡ true → length Γ.replications ≤ 8 → AreRead N Γ t → AreKept N Anywhere Γ p t
unfolding is_still AreKept AreRead
kept_of_read N Γ p Empty e l k = tt
kept_of_read N Γ p (Node h a b) e l k =
    let u = and_parts (is_still_head h) _ e in
    let v = and_parts (is_still a) (is_still b) u.1 in
    let c = calm h u.0 in (
      record { scope = k.0; carries = c.carries Γ.replications a; few = l; few_indices = c.few a; index = c.index N Γ.replications; own = c.own Γ.replications p a },
      subst (λ Δ. AreKept N (first_position Anywhere h) Δ (first_place p h) a) (sym (c.inner Γ)) (subst (λ w. AreKept N w Γ (first_place p h) a) (sym c.first) (kept_of_read N Γ (first_place p h) a v.0 l k.1)),
      subst (λ Δ. AreKept N (second_position Anywhere h) Δ (second_place p h a) b) (sym (c.outer a Γ)) (subst (λ w. AreKept N w Γ (second_place p h a) b) (sym c.second) (kept_of_read N Γ (second_place p h a) b v.1 l k.2)),
    )

-- reads of what is no coin

pub none_some : {A : Type 0} (y : ℕ) → ◌≡◌ {A = Option ℕ} None (Some y) → A
none_some y e = absurd (clash e)
  where
    clash : ◌≡◌ {A = Option ℕ} None (Some y) → ⊥
    clash e = cc

-- the cell of a current index
pub cell_read : (N : Names) (Γ : Context) (rs : List (ℕ × ℕ)) (x : ℕ) → Γ.replications ≡ rs → IsAmong (cell_of rs x) Γ.cells → AreRead N Γ (cell_of rs x)
unfolding AreRead
cell_read N Γ [] x e m = (inr (inr (inl m)), tt, tt)
cell_read N Γ (q ∷ rs) x e m = (inl m, indices (q ∷ rs) (own (q ∷ rs)), tt)
  where
    here : (a b : Bool) → a ≡ true → (a || b) ≡ true
    here true b e = refl
    here false b e = absurd (both_ways false refl e)

    later : (a b : Bool) → b ≡ true → (a || b) ≡ true
    later true b e = refl
    later false b e = e

    own : (qs : List (ℕ × ℕ)) → AllByRecursion (λ (z : ℕ × ℕ). is_index qs z.0 ≡ true) qs
    own [] = tt
    own (z ∷ qs) = (here (z.0 == z.0) _ (eq-eqb z.0 z.0 refl), all_weaker (λ (y : ℕ × ℕ). is_index qs y.0 ≡ true) (λ (y : ℕ × ℕ). is_index (z ∷ qs) y.0 ≡ true) qs (λ y f. later (z.0 == y.0) (is_index qs y.0) f) (own qs))

    indices : (qs : List (ℕ × ℕ)) → AllByRecursion (λ (z : ℕ × ℕ). is_index (q ∷ rs) z.0 ≡ true) qs → AreRead N Γ (index_terms qs)
    indices [] h = tt
    indices (z ∷ qs) h = (tt, (inl (subst (λ ps. is_index ps z.0 ≡ true) (sym e) h.0), tt, tt), indices qs h.1)

module _ (r : Reduction) (N M : Names) (Γ Δ : Context) (names : AreNamesOf r N M) (below : IsBelow r Γ Δ) where
  reach : (c : Tree) (x : ℕ) → variable_of c ≡ Some x → is_coin r x ≡ false → InReach Γ c → InReach Δ c
  reach c x v n (inl m) = inl (below.cells c x v n m)
  reach c x v n (inr o) = inr (subst (IsAmong c) (sym below.own) o)

  pub head_moves : (h : Head) (a b : Tree) → ((x : ℕ) → variable_of (Node h a b) ≡ Some x → is_coin r x ≡ false) → ReadsInReach N Γ h a b → ReadsInReach M Δ h a b
  head_moves (Leaf x) a b f (inl i) = inl (subst (λ rs. is_index rs x ≡ true) (sym below.replications) i)
  head_moves (Leaf x) a b f (inr (inl c)) = inr (inl (names.constant x c))
  head_moves (Leaf x) a b f (inr (inr m)) = inr (inr (reach (Node (Leaf x) a b) x refl (f x refl) m))
  head_moves (Read x) a b f m = reach (Node (Read x) a b) x refl (f x refl) m
  head_moves h a b f m = tt

  module _ (on : ℕ → Bool) (free : (x : ℕ) → on x ≡ true → is_coin r x ≡ false) where
    pub no_coin_read : (h : Head) (a b : Tree) (x : ℕ) → head_reads_only on h ≡ true → variable_of (Node h a b) ≡ Some x → is_coin r x ≡ false
    no_coin_read (Leaf y) a b x e v = subst (λ z. is_coin r z ≡ false) (some_is y x v) (free y e)
    no_coin_read (Read y) a b x e v = subst (λ z. is_coin r z ≡ false) (some_is y x v) (free y e)
    no_coin_read h a b x e v = none_some x v

    pub reads_move : (t : Tree) → reads_only on t ≡ true → AreRead N Γ t → AreRead M Δ t
    unfolding reads_only AreRead
    reads_move Empty e k = tt
    reads_move (Node h a b) e k =
        let u = and_parts (head_reads_only on h) _ e in
        let v = and_parts (reads_only on a) (reads_only on b) u.1 in
        (head_moves h a b (λ x w. no_coin_read h a b x u.0 w) k.0, reads_move a v.0 k.1, reads_move b v.1 k.2)
